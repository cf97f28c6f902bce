-- Card 1: a ring and its chain saved as the two blocks that the divider takes. A ring and a chain are numbers, x and y in turn.
use Rattle.std.specs.Prelude.{ℕ, ◌+◌, ◌*◌, ◌/◌, ◌%◌, ◌<◌, ◌≡◌, Bool, false, ◌||◌, not, cond, List, [], ◌∷◌, ◌++◌, length, get_or, take, drop, ltb, eqb, ℤ, pos}
use Rattle.std.specs.Prelude.{Ok, Err}
use Rattle.std.specs.declared.result.Result.{Result}
use Rattle.laws.specs.Table.{tab}
use Rattle.table.specs.Refusals.{first_of, ◌when◌}
use Rattle.call.specs.Call.{counts_out, units_out}
use Rattle.call.specs.Lent.{points_in, odd}
use Rattle.blocks.specs.declared.Block.TheVariants.{Ring, Chain}
use Rattle.writer.specs.declared.Refusal.{Refusal}
use Rattle.writer.specs.declared.Refusal.TheVariants.{Counts, Units, Destination}
use Rattle.blocks.specs.Blocks.{read_block}
use Rattle.blocks.specs.Writing.{block_bytes}

-- 01's refusals 1 and 2; an odd length is a count out of limits
abbrev pub counts : List ℤ → List ℤ → Bool
counts ring chain = odd ring || odd chain || counts_out (length ring / 2) (length chain / 2)

abbrev pub units : List ℤ → List ℤ → ℕ → Bool
units ring chain size = units_out (points_in ring (length ring / 2)) (points_in chain (length chain / 2)) size

-- "12 if the destination is under 1,024 bytes or the first block number is odd or above 65,534"
unfoldable pub destination_out : ℕ → ℕ → Bool
destination_out places number = ltb places 1024 || not (eqb (number % 2) 0) || ltb 65534 number

-- "tried after 1 and 2": the first that refuses, or 0
unfoldable pub refusal : List ℤ → List ℤ → ℕ → ℕ → ℕ → ℕ
refusal ring chain size number places = first_of (1 when counts ring chain ∷ 2 when units ring chain size ∷ 12 when destination_out places number ∷ [])

-- the same as the code says it: the test that refuses, with its number
abbrev pub number_of : Refusal → ℕ
number_of Counts = 1
number_of Units = 2
number_of Destination = 12

unfoldable pub tested : List ℤ → List ℤ → ℕ → ℕ → ℕ → Result (Unit {0}) Refusal
tested ring chain size number places =
    cond (counts ring chain) (Err Counts)
    (cond (units ring chain size) (Err Units)
    (cond (destination_out places number) (Err Destination) (Ok tt)))

abbrev pub answer_of : Result (Unit {0}) Refusal → ℕ
answer_of (Ok u) = 0
answer_of (Err r) = number_of r

-- the ring's block and the chain's
unfoldable pub pair_bytes : List ℤ → List ℤ → ℕ → ℕ → List ℕ
pair_bytes ring chain size number = block_bytes ring size number ++ block_bytes chain 0 (number + 1)

-- what the destination is afterwards: "Bytes after the pair are untouched", and refused, "destination unchanged"
unfoldable pub written : List ℤ → List ℤ → ℕ → ℕ → List ℕ → List ℕ
written ring chain size number out = cond (eqb (refusal ring chain size number (length out)) 0) (pair_bytes ring chain size number ++ drop 1024 out) out

-- the 60 places of a reading that has the numbers ps, and zeros after them
abbrev pub padded : List ℤ → List ℤ
padded ps = tab (λ k. get_or ps k (pos 0)) 120

-- "Reading its output as the pair at that number returns the same points"
pub record ReadsBack (ring chain : List ℤ) (size number : ℕ) (out : List ℕ) : Type 0 where
  pub ring_read : read_block (take 512 (written ring chain size number out)) number ≡ Ok (record { block = Ring (length ring / 2) size; points = padded ring })
  pub chain_read : read_block (take 512 (drop 512 (written ring chain size number out))) (number + 1)
      ≡ Ok (record { block = Chain (length chain / 2); points = padded chain })
  pub ring_same : take (2 * (length ring / 2)) (padded ring) ≡ ring
  pub chain_same : take (2 * (length chain / 2)) (padded chain) ≡ chain
  pub rest : drop 1024 (written ring chain size number out) ≡ drop 1024 out

-- "writing what was read from a pair .. returns the same bytes": bytes whose halves read as a ring and its chain, which 1 and 2 let pass
pub record PairRead (b : List ℕ) (number : ℕ) (c s : ℕ) (ps : List ℤ) (d : ℕ) (qs : List ℤ) : Type 0 where
  pub bytes : (i : ℕ) → get_or b i 0 < 256
  pub ring_read : read_block (take 512 b) number ≡ Ok (record { block = Ring c s; points = ps })
  pub chain_read : read_block (take 512 (drop 512 b)) (number + 1) ≡ Ok (record { block = Chain d; points = qs })
  pub passes_1 : counts (take (2 * c) ps) (take (2 * d) qs) ≡ false
  pub passes_2 : units (take (2 * c) ps) (take (2 * d) qs) s ≡ false

-- the same bytes: what was read is not refused, and any 1,024 bytes lent become the bytes that it was read from
pub record WritesBack (b : List ℕ) (number : ℕ) (c s : ℕ) (ps : List ℤ) (d : ℕ) (qs : List ℤ) (out : List ℕ) : Type 0 where
  pub accepted : refusal (take (2 * c) ps) (take (2 * d) qs) s number (length out) ≡ 0
  pub same : take 1024 (written (take (2 * c) ps) (take (2 * d) qs) s number out) ≡ take 1024 b
  pub rest : drop 1024 (written (take (2 * c) ps) (take (2 * d) qs) s number out) ≡ drop 1024 out
