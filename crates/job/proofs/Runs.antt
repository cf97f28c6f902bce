-- Laws of a run: a step ends it or takes a whole block with the next number (`outcome`); what a state that was reached is bound by; a run that has ended
-- stays as it is; and blocks that were read of an input are read of every longer one (`read_more`).
use Prim.Native.Nat.{ℕ, zero, suc, ◌+◌, ◌-◌, ◌*◌, ◌%◌, ◌≤◌, ◌<◌}
use mathlib.Core.Path.{◌≡◌, refl, sym, ap, ◌∙◌, subst}
use mathlib.Core.Bool.{Bool, true, false, ◌&&◌}
use mathlib.Core.Logic.{◌⊎◌, inl, inr}
use mathlib.Core.List.{List, [], ◌∷◌, ◌++◌}
use native.Mathlib.Omega.{arith}
use native.Mathlib.Decide.{dec_le}
use lib.ListN.{length, get_or, take, drop, length-take, length-drop, length-replicate, get_or-eq_default, get_or-append}
use lib.Seq.{take_all, take-append-le, drop-append-le, drop_at, get_or-take, get_or-drop, get_or-append-add}
use lib.Dec.{eqb}
use lib.IntN.{ℤ, pos}
use lib.Ieee.{Float}
use Rattle.std.specs.Prelude.{Result, Ok, Err}
use Rattle.blocks.proofs.Accepted.{was_allowed}
use Rattle.blocks.proofs.Counts.{points, few_points, all-places}
use Rattle.blocks.specs.declared.Block.{Block}
use Rattle.blocks.specs.declared.Block.TheVariants.{Ring, Chain}
use Rattle.blocks.specs.declared.Reading.{Reading}
use Rattle.blocks.specs.declared.Refused.{Refused}
use Rattle.blocks.specs.Fields.{pair}
use Rattle.blocks.specs.Blocks.{read_block}
use Rattle.state.specs.declared.State.{State}
use Rattle.told.specs.Text.{Tells}
use Rattle.job.specs.Step.{Step, text_of, ends, waits, divides, taken, answered, step_of}
use Rattle.job.specs.Run.{Bytes, RunSoFar, onward, ran, block_at, read_to}
use Rattle.std.proofs.lemmas.Bool.{cond_both}

-- ---- a step
-- the step e took a whole block with the number of the state, and the run goes on to the next
pub record Went (s : State) (b : List ℕ) (e : Step) : Type 0 where
  pub whole : 512 ≤ length b
  pub number : pair b 2 ≡ s.block
  pub next : e.state.block ≡ s.block + 1
  pub going : e.state.ended ≡ false

-- the ring that waits is within its places
pub record Held (s : State) (ps : List ℤ) : Type 0 where
  pub few : s.count ≤ 60
  pub long : length ps ≡ 120

module _ (s : State) (ps : List ℤ) (l : List Float) (rs : List ℕ) where
  -- an accepted block: a ring that waits, or one that is divided
  accepted : (qs : List ℤ) (a : Block) → ((taken s ps l rs qs a).state.block ≡ s.block + 1) × ((taken s ps l rs qs a).state.ended ≡ false)
  unfolding taken waits divides
  accepted qs (Ring count size) = (refl, refl)
  accepted qs (Chain count) = (refl, refl)

  ends-ended : (t : Tells) → (ends s ps l rs t).state.ended ≡ true
  unfolding ends
  ends-ended t = refl

  module _ (few : s.count ≤ 60) (long : length ps ≡ 120) where
    ends_held : (t : Tells) → Held (ends s ps l rs t).state (ends s ps l rs t).points
    unfolding ends
    ends_held t = record { few = few; long = long }

    taken-held : (qs : List ℤ) (a : Block) → points a ≤ 60 → length qs ≡ 120 → Held (taken s ps l rs qs a).state (taken s ps l rs qs a).points
    unfolding taken waits divides
    taken-held qs (Ring count size) f g = record { few = f; long = g }
    taken-held qs (Chain count) f g = record { few = few; long = long }

  module _ (b : List ℕ) where
    by_answer : (a : Result Reading Refused) → read_block b s.block ≡ a
        → ((answered s ps l rs a).state.ended ≡ true) ⊎ Went s b (answered s ps l rs a)
    unfolding answered
    by_answer (Ok r) e =
        let f = was_allowed b s.block r e in
        let a = accepted r.points r.block in
        inr (record { whole = f.whole; number = f.number; next = a.0; going = a.1 })
    by_answer (Err e) d = inl (ends-ended (Tells.Block e))

    pub outcome : ((step_of s ps l rs b).state.ended ≡ true) ⊎ Went s b (step_of s ps l rs b)
    unfolding step_of
    outcome =
        cond_both (eqb (s.block % 2) 0 && eqb (length b) 0) (ends s ps l rs Tells.Nothing) (answered s ps l rs (read_block b s.block))
        (λ (e : Step). (e.state.ended ≡ true) ⊎ Went s b e)
        (λ _. inl (ends-ended Tells.Nothing))
        (λ _. by_answer (read_block b s.block) refl)

    answered-held : s.count ≤ 60 → length ps ≡ 120 → (a : Result Reading Refused) → read_block b s.block ≡ a
        → Held (answered s ps l rs a).state (answered s ps l rs a).points
    unfolding answered
    answered-held f g (Ok r) e = taken-held f g r.points r.block (few_points b s.block r e) (all-places b s.block r e)
    answered-held f g (Err e) d = ends_held f g (Tells.Block e)

    pub step-held : s.count ≤ 60 → length ps ≡ 120 → Held (step_of s ps l rs b).state (step_of s ps l rs b).points
    unfolding step_of
    step-held f g =
        cond_both (eqb (s.block % 2) 0 && eqb (length b) 0) (ends s ps l rs Tells.Nothing) (answered s ps l rs (read_block b s.block))
        (λ (e : Step). Held e.state e.points)
        (λ _. ends_held f g Tells.Nothing)
        (λ _. answered-held f g (read_block b s.block) refl)

    -- a number of two bytes
    pub number-below : Bytes b → Went s b (step_of s ps l rs b) → s.block < 65536
    unfolding pair
    number-below f w = omega (arith, w.number, f 2, f 3)

-- ---- a run, one block on
pub known : (t : Bool) → (t ≡ true) ⊎ (t ≡ false)
known true = inl refl
known false = inr refl

pub not-both : {A : Type 0} (t : Bool) → t ≡ true → t ≡ false → A
not-both t e f = let z : ◌≡◌ {A = ℕ} 0 1 = cc in absurd (omega arith)

module _ (r : RunSoFar) (b : List ℕ) where
  -- a run that has ended stays as it is
  pub stays : r.state.ended ≡ true → onward r b ≡ r
  unfolding onward
  stays e = rw e

  pub goes : r.state.ended ≡ false
      → onward r b ≡ record {
        state = (step_of r.state r.points r.nodes r.rims b).state;
        points = (step_of r.state r.points r.nodes r.rims
            b).points;
        nodes = (step_of r.state r.points r.nodes r.rims b).nodes;
        rims = (step_of r.state r.points r.nodes r.rims b).rims;
        text = r.text ++ text_of (step_of r.state r.points r.nodes r.rims b);
      }
  unfolding onward
  goes e = rw e

  goes-state : r.state.ended ≡ false → (onward r b).state ≡ (step_of r.state r.points r.nodes r.rims b).state
  goes-state e = ap (λ (x : RunSoFar). x.state) (goes e)

  onward-held : Held r.state r.points → Held (onward r b).state (onward r b).points
  unfolding onward
  onward-held h =
      cond_both r.state.ended r _ (λ (e : RunSoFar). Held e.state e.points) (λ _. h)
      (λ _. step-held r.state r.points r.nodes r.rims b h.few h.long)

  -- a short block ends it
  pub short-ends : length b < 512 → (onward r b).state.ended ≡ true
  short-ends h = go (known r.state.ended)
    where
      by : ((step_of r.state r.points r.nodes r.rims b).state.ended ≡ true) ⊎ Went r.state b
          (step_of r.state r.points r.nodes r.rims b)
          → (step_of r.state r.points r.nodes r.rims b).state.ended ≡ true
      by (inl e) = e
      by (inr w) = absurd (omega (arith, w.whole))

      go : (r.state.ended ≡ true) ⊎ (r.state.ended ≡ false) → (onward r b).state.ended ≡ true
      go (inl e) = ap (λ (x : RunSoFar). x.state.ended) (stays e) ∙ e
      go (inr e) = ap (λ (x : State). x.ended) (goes-state e) ∙ by (outcome r.state r.points r.nodes r.rims b)

  -- one that goes on has the next number, and that is no higher than 65,536
  pub numbered : (n : ℕ) → (r.state.ended ≡ false → r.state.block ≡ n) → (onward r b).state.ended ≡ false
      → ((onward r b).state.block ≡ suc n) × (Bytes b → n < 65536)
  numbered n h f = go (known r.state.ended)
    where
      by : r.state.ended ≡ false
          → ((step_of r.state r.points r.nodes r.rims b).state.ended ≡ true) ⊎ Went r.state b
          (step_of r.state r.points r.nodes r.rims b)
          → ((onward r b).state.block ≡ suc n) × (Bytes b → n < 65536)
      by e (inl x) = not-both _ (ap (λ (z : State). z.ended) (goes-state e) ∙ x) f
      by e (inr w) = (
        omega (arith, ap (λ (z : State). z.block) (goes-state e), w.next, h e),
        λ q. omega (arith, number-below r.state r.points r.nodes r.rims b q w, h e),
      )

      go : (r.state.ended ≡ true) ⊎ (r.state.ended ≡ false) → ((onward r b).state.block ≡ suc n) × (Bytes b → n < 65536)
      go (inl e) = not-both _ e (ap (λ (x : RunSoFar). x.state.ended) (sym (stays e)) ∙ f)
      go (inr e) = by e (outcome r.state r.points r.nodes r.rims b)

-- ---- a run over blocks
pub ran-held : (bs : List (List ℕ)) → Held (ran bs).state (ran bs).points
unfolding ran
ran-held [] = record { few = omega arith; long = length-replicate 120 (pos 0) }
ran-held (b ∷ bs) = onward-held (ran bs) b (ran-held bs)

-- ---- blocks of an input
module _ (l m : List ℕ) where
  same_block : (i : ℕ) → 512 * suc i ≤ length l → block_at (l ++ m) i ≡ block_at l i
  same_block i h =
      let f : 512 * i ≤ length l = omega arith in
      let g : 512 ≤ length (drop (512 * i) l) = simp length-drop (omega arith) in
      rw (drop-append-le (512 * i) l m f, take-append-le 512 (drop (512 * i) l) m g)

  -- what was read of l is read of l with more after it
  pub read_more : (i : ℕ) → 512 * i ≤ length l → read_to (l ++ m) i ≡ read_to l i
  unfolding read_to
  read_more zero h = refl
  read_more (suc i) h = let f : 512 * i ≤ length l = omega arith in λ j. same_block i h j ∷ read_more i f j

  -- and then comes what was added
  pub read-added : (i : ℕ) → length l ≡ 512 * i → length m ≤ 512 → block_at (l ++ m) i ≡ m
  read-added i e h = rw (drop_at l m (512 * i) e, take_all 512 m h)

-- bytes, one list after another, and a block of bytes
module _ (l : List ℕ) (f : Bytes l) where
  pub taken-bytes : (n : ℕ) → Bytes (take n l)
  taken-bytes n j = go (dec_le n j)
    where
      go : Dec (n ≤ j) → get_or (take n l) j 0 < 256
      go (yes h) = rw (get_or-eq_default (take n l) 0 {n = j} (simp length-take (omega arith))) (omega arith)
      go (no h) = let k : j < n = omega arith in rw (get_or-take n l j 0 k) (f j)

  dropped-bytes : (n : ℕ) → Bytes (drop n l)
  dropped-bytes n j = rw (get_or-drop n l j 0) (f (n + j))

  pub joined_bytes : (m : List ℕ) → Bytes m → Bytes (l ++ m)
  joined_bytes m g j = go (dec_le (length l) j)
    where
      go : Dec (length l ≤ j) → get_or (l ++ m) j 0 < 256
      go (yes h) =
          let e : length l + (j - length l) ≡ j = omega arith in
          subst (λ (k : ℕ). get_or (l ++ m) k 0 < 256) e (rw (get_or-append-add l m (j - length l) 0) (g (j - length l)))
      go (no h) = let k : j < length l = omega arith in rw (get_or-append l m 0 j k) (f j)

pub block-bytes : (l : List ℕ) (i : ℕ) → Bytes l → Bytes (block_at l i)
block-bytes l i f = taken-bytes (drop (512 * i) l) (dropped-bytes l f (512 * i)) 512
