-- Claim: reading back what is written of a complete ring gives the points that the text says. The pair of blocks of a ring that the writer does not refuse
-- reads, at its number and the next, as the ring's points with the sheet size and the chain's points; and the points of a ring are those of its lines, one
-- after the other, each coordinate the nearest 1/8192 mm (numeral's NearestUnit).
use Prim.Native.Nat.{ℕ, ◌+◌, ◌*◌, ◌/◌, ◌≤◌, ◌<◌}
use mathlib.Core.Path.{◌≡◌, refl, sym, ap, ◌∙◌}
use mathlib.Core.List.{List, [], ◌∷◌, ◌++◌, append_assoc, append-nil}
use native.Mathlib.Omega.{arith}
use lib.ListN.{length, take, drop, replicate, length-replicate}
use lib.Seq.{drop-length}
use lib.IntN.{ℤ}
use borrow.Author.Tests.{ne_eqb}
use Rattle.laws.specs.All.{All}
use Rattle.blocks.specs.declared.Block.TheVariants.{Ring, Chain}
use Rattle.blocks.specs.Blocks.{read_block}
use Rattle.std.specs.Prelude.{Ok, Err}
use Rattle.std.specs.declared.result.Result.{Result}
use Rattle.writer.specs.declared.Refusal.{Refusal}
use Rattle.writer.specs.declared.Refusal.TheVariants.{Counts, Units, Destination}
use Rattle.writer.specs.Write.{refusal, tested, answer_of, written, pair_bytes, padded}
use Rattle.writer.proofs.Saved.{saved}
use Rattle.writer.proofs.Passed.{agrees}
use Rattle.lines.specs.declared.Line.{Line}
use Rattle.lines.specs.declared.Line.TheVariants.{Nothing, Ring as RingLine, Chain as ChainLine, Point}
use Rattle.lines.specs.declared.Fault.{Fault}
use Rattle.drawing.specs.declared.Phase.TheVariants.{Closed, Ring as RingOpen}
use Rattle.drawing.specs.declared.Draft.{Draft}
use Rattle.drawing.specs.Drawing.{Drawn, point_of, complete, closes, corner_of, points, takes}
use Rattle.drawing.proofs.Closing.{opened}

-- what the blocks of a complete ring read as
pub record ReadsAs (d : Drawn) (bytes : List ℕ) : Type 0 where
  pub ring_read : read_block (take 512 bytes) d.draft.block ≡ Ok (record { block = Ring (length d.ring / 2) d.draft.size; points = padded d.ring })
  pub chain_read : read_block (take 512 (drop 512 bytes)) (d.draft.block + 1) ≡ Ok (record { block = Chain (length d.chain / 2); points = padded d.chain })
  pub ring_same : take (2 * (length d.ring / 2)) (padded d.ring) ≡ d.ring
  pub chain_same : take (2 * (length d.chain / 2)) (padded d.chain) ≡ d.chain

module _ (d : Drawn) (k : d.draft.phase ≡ Closed → ⊥) (z : refusal d.ring d.chain d.draft.size d.draft.block 1024 ≡ 0) where
  abbrev room : List ℕ
  room = replicate 1024 0

  fits : refusal d.ring d.chain d.draft.size d.draft.block (length room) ≡ 0
  fits = ap (λ (n : ℕ). refusal d.ring d.chain d.draft.size d.draft.block n) (length-replicate {A = ℕ} 1024 0) ∙ z

  passes : tested d.ring d.chain d.draft.size d.draft.block 1024 ≡ Ok tt
  passes = go (tested d.ring d.chain d.draft.size d.draft.block 1024) (agrees d.ring d.chain d.draft.size d.draft.block 1024 _ refl ∙ z)
    where
      go : (t : Result (Unit {0}) Refusal) → answer_of t ≡ 0 → t ≡ Ok tt
      go (Ok u) e = refl
      go (Err Counts) e = absurd (omega arith)
      go (Err Units) e = absurd (omega arith)
      go (Err Destination) e = absurd (omega arith)

  pair : pair_bytes d.ring d.chain d.draft.size d.draft.block ≡ (closes d).out
  pair = sym (ap (λ (x : Drawn). x.out) (opened d k ∙ ap (λ (t : Result (Unit {0}) Refusal). complete t d) passes))

  as_written : written d.ring d.chain d.draft.size d.draft.block room ≡ (closes d).out
  unfolding written
  as_written =
      let e : drop 1024 room ≡ [] = ap (λ (n : ℕ). drop n room) (sym (length-replicate {A = ℕ} 1024 0)) ∙ drop-length room in
      rw (fits, e) (append-nil (pair_bytes d.ring d.chain d.draft.size d.draft.block) ∙ pair)

  pub reads-back : ReadsAs d (closes d).out
  reads-back =
      let s = saved d.ring d.chain d.draft.size d.draft.block room fits in
      record {
        ring_read = ap (λ (b : List ℕ). read_block (take 512 b) d.draft.block) (sym as_written) ∙ s.ring_read;
        chain_read = ap (λ (b : List ℕ). read_block (take 512 (drop 512 b)) (d.draft.block + 1)) (sym as_written) ∙ s.chain_read;
        ring_same = s.ring_same;
        chain_same = s.chain_same;
      }

-- ---- the points that the lines say
abbrev pub numbers_of : Result Line Fault → List ℤ
numbers_of (Err f) = []
numbers_of (Ok Nothing) = []
numbers_of (Ok (RingLine size)) = []
numbers_of (Ok ChainLine) = []
numbers_of (Ok (Point x y)) = point_of x y

abbrev pub said_by : List (Result Line Fault) → List ℤ
said_by [] = []
said_by (h ∷ hs) = numbers_of h ++ said_by hs

abbrev pub takes_all : ℕ → List (Result Line Fault) → Drawn → Drawn
takes_all n [] d = d
takes_all n (h ∷ hs) d = takes_all (n + 1) hs (takes n h d)

abbrev pub IsPoint : Result Line Fault → Type 0
IsPoint (Err f) = ⊥
IsPoint (Ok Nothing) = ⊥
IsPoint (Ok (RingLine size)) = ⊥
IsPoint (Ok ChainLine) = ⊥
IsPoint (Ok (Point x y)) = Unit {0}

one_more : (n : ℕ) (x y : ℤ) (d : Drawn) → d.draft.phase ≡ RingOpen → d.draft.corners < 60
    → takes n (Ok (Point x y)) d ≡ record { draft = corner_of d.draft; ring = d.ring ++ point_of x y; chain = d.chain; out = [] }
unfolding points
one_more n x y d p c = rw (p, ne_eqb d.draft.corners 60 (λ z. omega arith))

corner_phase : (o : Draft) → o.corners < 60 → ((corner_of o).phase ≡ o.phase) × ((corner_of o).corners ≡ o.corners + 1)
corner_phase o c = let l = ne_eqb o.corners 60 (λ z. omega arith) in rw l (refl, refl)

-- a ring's points are those of its lines
pub points-said : (n : ℕ) (hs : List (Result Line Fault)) (d : Drawn) → All IsPoint hs → d.draft.phase ≡ RingOpen → d.draft.corners + length hs ≤ 60
    → (takes_all n hs d).ring ≡ d.ring ++ said_by hs
points-said n [] d a p c = sym (append-nil d.ring)
points-said n (Err f ∷ hs) d a p c = absurd a.0
points-said n (Ok Nothing ∷ hs) d a p c = absurd a.0
points-said n (Ok (RingLine size) ∷ hs) d a p c = absurd a.0
points-said n (Ok ChainLine ∷ hs) d a p c = absurd a.0
points-said n (Ok (Point x y) ∷ hs) d a p c =
    let k : d.draft.corners < 60 = omega arith in
    let e = one_more n x y d p k in
    let q = corner_phase d.draft k in
    let f : (takes n (Ok (Point x y)) d).draft.phase ≡ RingOpen = ap (λ (x : Drawn). x.draft.phase) e ∙ q.0 ∙ p in
    let g : (takes n (Ok (Point x y)) d).draft.corners + length hs ≤ 60 = let w = ap (λ (x : Drawn). x.draft.corners) e ∙ q.1 in omega arith in
    points-said (n + 1) hs (takes n (Ok (Point x y)) d) a.1 f g ∙ ap (λ (x : Drawn). x.ring ++ said_by hs) e
    ∙ append_assoc d.ring (point_of x y) (said_by hs)
