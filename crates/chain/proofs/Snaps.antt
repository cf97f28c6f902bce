-- A chain's snap points are finite and within 1,024 mm (`snaps_in_range`). For a chain of up to 60 points of the sheet no
-- length is NaN, the parameter between two of its points lies from 0 to 1 (`parameter_unit`), and so the point at any
-- length of the chain lies within the sheet (`point_at_arclength_in_range`).
use Prim.Native.Nat.{ℕ, zero, suc, ◌-◌, ◌^◌, ◌≤◌, ◌<◌}
use native.Mathlib.Nat.{le_refl, not-suc-le-zero}
use native.Mathlib.Omega.{arith}
use native.Mathlib.Decide.{dec_le}
use mathlib.Core.Path.{◌≡◌, refl, sym, subst}
use mathlib.Core.Bool.{Bool, true, false, not, cond}
use mathlib.Core.List.{List, [], ◌∷◌, ◌++◌}
use lib.ListN.{length, get_or, length-append, get_or-append}
use lib.Seq.{get_or_at}
use lib.Dec.{T, lit≤}
use lib.Ieee.{Float, binary64}
use Rattle.laws.specs.Double.{nat, lit, clamp, ◌+f◌, ◌-f◌, ◌*f◌, ◌/f◌, ◌≤f◌}
use Rattle.laws.specs.Bounded.{first}
use Rattle.laws.specs.Within.{Within, InUnit}
use Rattle.laws.proofs.Bounds.{sub_within, middle-within}
use Rattle.laws.proofs.Clamp.{clamp-unit}
use Rattle.laws.proofs.Constants.{lit-half}
use Rattle.laws.proofs.Quotient.{quotient-real, above_zero}
use Rattle.laws.proofs.Search.{first-le}
use Rattle.vector.specs.declared.GridPoint.{GridPoint}
use Rattle.vector.specs.Plane.{in_mm, lerp}
use Rattle.vector.specs.Size.{InRange}
use Rattle.vector.proofs.Sheet.{point_in_lem, between_in}
use Rattle.arclength.specs.Arclength.{point_at, arc, point_at_arclength}
use Rattle.arclength.proofs.Lengths.{arc-within}
use Rattle.chain.specs.Chain.{stays, last_kept, Stretch, no_stretch, stretch, stretches_to, simplify_chain}
use Rattle.chain.specs.Range.{ChainOnSheet, SnapsInRange}

-- ---- the point at a length
-- the parameter: how far s lies into a span that is above 0
pub parameter_unit : (s from span : Float) → Within (2 ^ 20) s → Within (2 ^ 20) from → Within (2 ^ 21) span → T (not (span ≤f nat 0))
    → InUnit (clamp (nat 0) (nat 1) ((s -f from) /f span))
parameter_unit s from span h k l n =
    clamp-unit ((s -f from) /f span)
    (quotient-real binary64 (s -f from) span (sub_within binary64 (2 ^ 20) (2 ^ 20) s from (lit≤ tt) h k).0 l.0 (above_zero span l.0 n))

module _ (c : List GridPoint) (h : ChainOnSheet c) where
  pub point_at_arclength_in_range : (s : Float) → Within (2 ^ 20) s → InRange (point_at_arclength c s)
  unfolding point_at_arclength
  point_at_arclength_in_range s w = go (span ≤f nat 0) refl
    where
      i : ℕ
      i = first (λ i. s ≤f arc c (suc i)) (length c - 2) 0

      low : suc i ≤ 60
      low = omega (arith, first-le (λ i. s ≤f arc c (suc i)) (length c - 2) 0, h.few)

      to : Within (2 ^ 20) (arc c (suc i))
      to = arc-within c h.each (suc i) low

      from : Within (2 ^ 20) (arc c i)
      from = arc-within c h.each i (omega (arith, low))

      span : Float
      span = arc c (suc i) -f arc c i

      go : (b : Bool) → span ≤f nat 0 ≡ b
          → InRange (cond b (in_mm (point_at c (suc i)))
          (lerp (in_mm (point_at c i)) (in_mm (point_at c (suc i))) (clamp (nat 0) (nat 1) ((s -f arc c i) /f span))))
      go true e = point_in_lem (point_at c (suc i)) (h.each (suc i))
      go false e =
          between_in (point_at c i) (point_at c (suc i)) (clamp (nat 0) (nat 1) ((s -f arc c i) /f span)) (h.each i) (h.each (suc i))
          (parameter_unit s (arc c i) span w from (sub_within binary64 (2 ^ 20) (2 ^ 20) (arc c (suc i)) (arc c i) (lit≤ tt) to from)
          (subst (λ (b : Bool). T (not b)) (sym e) tt))

  -- ---- every kept stretch
  stretch_in_lem : (i j : ℕ) → i ≤ 60 → j ≤ 60 → InRange (stretch c i j).snap
  unfolding stretch
  stretch_in_lem i j a b =
      point_at_arclength_in_range (lit 5 1 *f (arc c i +f arc c j))
      (subst (λ (u : Float). Within (2 ^ 20) (u *f (arc c i +f arc c j))) (sym lit-half)
      (middle-within binary64 (2 ^ 20) (arc c i) (arc c j) (lit≤ tt) (arc-within c h.each i a) (arc-within c h.each j b)))

  last_kept-le : (i : ℕ) → last_kept c i ≤ i
  unfolding last_kept
  last_kept-le zero = le_refl 0
  last_kept-le (suc i) = go (stays c i) (last_kept-le i)
    where
      go : (b : Bool) → last_kept c i ≤ i → cond b (suc i) (last_kept c i) ≤ suc i
      go true l = le_refl (suc i)
      go false l = omega arith

  one_more : (ss : List Stretch) (s : Stretch) → SnapsInRange ss → InRange s.snap → SnapsInRange (ss ++ (s ∷ []))
  one_more ss s g p k l = go (dec_le (suc k) (length ss))
    where
      go : Dec (k < length ss) → InRange (get_or (ss ++ (s ∷ [])) k no_stretch).snap
      go (yes u) = subst (λ (q : Stretch). InRange q.snap) (sym (get_or-append ss (s ∷ []) no_stretch k u)) (g k u)
      go (no u) =
          let e : length ss ≡ k = omega (arith, length-append ss (s ∷ [])) in
          subst (λ (q : Stretch). InRange q.snap) (sym (get_or_at ss s [] no_stretch k e)) p

  stretches_in_lem : (i : ℕ) → i ≤ 60 → SnapsInRange (stretches_to c i)
  unfolding stretches_to
  stretches_in_lem zero a = λ k u. absurd (not-suc-le-zero u)
  stretches_in_lem (suc i) a = go (stays c i) (stretches_in_lem i (omega arith))
    where
      go : (b : Bool) → SnapsInRange (stretches_to c i)
          → SnapsInRange (cond b (stretches_to c i ++ (stretch c (last_kept c i) (suc i) ∷ [])) (stretches_to c i))
      go true g = one_more (stretches_to c i) (stretch c (last_kept c i) (suc i)) g (stretch_in_lem (last_kept c i) (suc i) (omega (arith, last_kept-le i)) a)
      go false g = g

  pub snaps_in_range : SnapsInRange (simplify_chain c)
  unfolding simplify_chain
  snaps_in_range = stretches_in_lem (length c - 1) (omega (arith, h.few))
