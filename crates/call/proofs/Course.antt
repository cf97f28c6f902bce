-- A ring takes one of two courses (`course`), whatever the entry. It is turned away by a test, with a number and everything as found; or it is prepared, its
-- cleaned ring has three corners or more, is simple and has an area above 0, and the answer is what its pieces come to.
use Prim.Native.Nat.{ℕ}
use mathlib.Core.Path.{◌≡◌, refl, sym, ap, ◌∙◌, subst}
use mathlib.Core.Bool.{Bool, true, false, cond}
use mathlib.Core.List.{List}
use lib.IntN.{pos}
use lib.Signed.{lt_z}
use lib.ListN.{length}
use lib.Dec.{T, eqb}
use borrow.Author.Tests.{eq-eqb, ne_eqb, eqb-true, eqb-false, ltb-false}
use Rattle.vector.specs.declared.GridPoint.{GridPoint}
use Rattle.vector.specs.Grid.{polygon_area}
use Rattle.vector.specs.Size.{OnSheet}
use Rattle.chain.specs.Chain.{simplify_chain}
use Rattle.clean.proofs.Kept.{clean_length, clean_each}
use Rattle.simple.specs.Simple.{polygon_simple}
use Rattle.marks.specs.Part.{Part}
use Rattle.marks.specs.Marks.{marked}
use Rattle.marks.proofs.SnapRange.{marked-many, marked_in_range}
use Rattle.limits.specs.declared.Limits.{Limits}
use Rattle.split.specs.Split.{Stack, split_bad_vertices}
use Rattle.cells.specs.Pieces.{Outcome, done, failed}
use Rattle.table.specs.Refusals.{Refusal, first_of, in_order, Passes, turns_away, numbered}
use Rattle.table.proofs.Refusals as Refusals
use Rattle.call.specs.Call.{Lists, Call, lists_of, made_by, no_test, tests}
pub use Rattle.call.specs.Divide.{Whole, outcome_of}
use Rattle.call.specs.Divide.{CallAnswer, refused, refused_or, ring_tests, answered, core, cleaned_ring, start_of, divide}
use Rattle.call.specs.Demand.{Prepared}
use Rattle.call.proofs.Tests.{Passed, passed_by}
use Rattle.laws.proofs.Booleans.{not-false}

-- ---- tests, and what follows them
module _ (x : Lists) (rs : List Refusal) (a : CallAnswer) where
  pub turned-away : (first_of rs ≡ 0 → ⊥) → refused_or x rs a ≡ refused x (first_of rs)
  turned-away z = ap (λ (b : Bool). cond b a (refused x (first_of rs))) (ne_eqb (first_of rs) 0 z)

  pub goes_on : first_of rs ≡ 0 → refused_or x rs a ≡ a
  goes_on z = ap (λ (b : Bool). cond b a (refused x (first_of rs))) (eq-eqb (first_of rs) 0 z)

-- what holds of refusals, and of answers where no test holds, holds of the whole: of two calls with the same tests, and of one
pub by_tests-both : (x y : Lists) (rs : List Refusal) (a b : CallAnswer) (P : CallAnswer → CallAnswer → Type 0) → T (numbered rs)
    → (T (turns_away (first_of rs)) → P (refused x (first_of rs)) (refused y (first_of rs))) → (Passes rs → P a b) → P (refused_or x rs a) (refused_or y rs b)
by_tests-both x y rs a b P n f g = go (eqb (first_of rs) 0) refl
  where
    go : (t : Bool) → eqb (first_of rs) 0 ≡ t → P (refused_or x rs a) (refused_or y rs b)
    go true e = let z = eqb-true (first_of rs) 0 e in rw (goes_on x rs a z, goes_on y rs b z) (g (Refusals.all_pass rs n z))
    go false e = let z = eqb-false (first_of rs) 0 e in rw (turned-away x rs a z, turned-away y rs b z) (f (Refusals.away rs n z))

pub by_tests : (x : Lists) (rs : List Refusal) (a : CallAnswer) (P : CallAnswer → Type 0) → T (numbered rs)
    → (T (turns_away (first_of rs)) → P (refused x (first_of rs))) → (Passes rs → P a) → P (refused_or x rs a)
by_tests x rs a P n f g = by_tests-both x x rs a a (λ a b. P a) n f g

-- ---- the core
pub whole : (ps : List GridPoint) → Passes (ring_tests ps) → Whole ps
whole ps h =
    record {
      three = ltb-false (length ps) 3 h.0;
      simple = not-false (polygon_simple ps) h.1.0;
      wide = not-false (lt_z (pos 0) (polygon_area ps)) h.1.1.0;
    }

-- the ring can be divided
pub record Divisible (L : Limits) (r : ℕ) (p : Part) (x : Lists) : Type 0 where
  pub prepared : Prepared L r p x
  pub whole : Whole p.points

module _ (L : Limits) (r : ℕ) (p : Part) (x : Lists) where
  pub data Course (a : CallAnswer) : Type 0 where
    away : (n : ℕ) → T (turns_away n) → a ≡ refused x n → Course a
    ran : Divisible L r p x → a ≡ answered L r p x (split_bad_vertices L p) (outcome_of L p x) → Course a

  -- of any entry: tests, and the core, for which the ring was prepared where none of them holds
  pub course : (rs : List Refusal) → T (numbered rs) → (Passes rs → Prepared L r p x) → Course (refused_or x rs (core L r p x))
  unfolding core
  course rs n h =
      by_tests x rs (core L r p x) Course n (λ t. away (first_of rs) t refl)
      (λ o. by_tests x (ring_tests p.points) (answered L r p x (split_bad_vertices L p) (outcome_of L p x)) Course tt
      (λ t. away (first_of (ring_tests p.points)) t refl)
      (λ w. ran (record { prepared = h o; whole = whole p.points w }) refl))

-- ---- an answer that has a refusal's number is that refusal, all as found
pub refused-code : (x : Lists) (n : ℕ) → (refused x n).row.code ≡ n
unfolding refused
refused-code x n = refl

answered-code : (L : Limits) (r : ℕ) (p : Part) (x : Lists) (s : Stack) (o : Outcome) → T (turns_away (answered L r p x s o).row.code) → ⊥
unfolding answered
answered-code L r p x s (done ns cs) t = t
answered-code L r p x s (failed ns n k) t = t

pub refused_as : (L : Limits) (r : ℕ) (p : Part) (x : Lists) (a : CallAnswer) (n : ℕ) → a.row.code ≡ n → T (turns_away n) → Course L r p x a → a ≡ refused x n
refused_as L r p x a n e t (away m u d) = d ∙ ap (refused x) (sym (ap (λ (a : CallAnswer). a.row.code) d ∙ refused-code x m) ∙ e)
refused_as L r p x a n e t (ran s d) =
    absurd
    (answered-code L r p x (split_bad_vertices L p) (outcome_of L p x) (subst (λ (k : ℕ). T (turns_away k)) (sym e ∙ ap (λ (a : CallAnswer). a.row.code) d) t))

-- ---- the divider call
pub start-points : (c : Call) → (start_of c).points ≡ cleaned_ring c
unfolding marked
start-points c = refl

-- the cleaned ring with the marks of a chain is prepared
pub prepared : (L : Limits) (c : Call) → Passed L c → Prepared L (length c.ring) (start_of c) (lists_of c)
prepared L c h =
    record {
      few = h.to;
      fewer = rw (start-points c) (clean_length c.size c.ring);
      sheet = rw (start-points c) (clean_each OnSheet c.size c.ring h.ring);
      edged = marked-many (simplify_chain c.chain) (cleaned_ring c);
      snaps = marked_in_range c.chain h.chain (cleaned_ring c);
      ready = h.ready;
    }

-- where none of the tests of the call holds, the entry's own among them
pub prepared_by : (own : ℕ → ℕ → Bool) (L : Limits) (c : Call) → Passes (in_order (made_by own L c)) → Prepared L (length c.ring) (start_of c) (lists_of c)
prepared_by own L c h = prepared L c (passed_by own L c h)

pub prepared_if : (L : Limits) (c : Call) → Passes (tests L c) → Prepared L (length c.ring) (start_of c) (lists_of c)
prepared_if L c h = prepared_by no_test L c h

pub divide_course : (L : Limits) (c : Call) → Course L (length c.ring) (start_of c) (lists_of c) (divide L c)
unfolding divide
divide_course L c = course L (length c.ring) (start_of c) (lists_of c) (tests L c) tt (prepared_if L c)
