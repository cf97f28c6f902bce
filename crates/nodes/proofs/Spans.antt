-- A coordinate outside a span has a key that is not strictly between those of the ends: a key grows with its coordinate.
use mathlib.Core.Path.{sym, ap, subst}
use mathlib.Core.Logic.{inl, inr}
use native.Mathlib.Nat.{le_trans}
use lib.IntN.{ℤ, pos, ◌+ℤ◌, ◌-ℤ◌}
use lib.Signed.{lt_z, le_z}
use lib.Dec.{T, lit≤}
use lib.Ieee.{Float, binary64, mul, le}
use lib.Ieee.Fits.{and_i, and_l, and_r}
use lib.Ieee.Scale.{finite}
use Rattle.laws.specs.Within.{Within}
use Rattle.laws.proofs.Fractions.{le→Le}
use Rattle.laws.proofs.Order.{le-or-lt, lt→le}
use Rattle.laws.proofs.Between.{within_real}
use Rattle.laws.proofs.Results.{Val}
use Rattle.laws.proofs.Integers.{posp, negp}
use Rattle.keys.specs.Keys.{rounded, key}
use Rattle.keys.proofs.Rounding.{e8, key-is, key-small, scaled_1025, one-above, one_below}
use Rattle.keys.proofs.Monotone.{rounded_mono, key_mono, both, whole, int_val, next, prev}
use Rattle.nodes.specs.declared.nearby.Span.{Span}
use Rattle.nodes.specs.Nearby.{Spans, in_span, strictly, well_in}

module _ (s : Span) (x : Float) (r : Spans s) (w : Within 1025 x) where
  -- a scaled coordinate between the limits has such a key
  pub well_in_lem : T (well_in s (mul binary64 x e8)) → T (strictly s (key x))
  well_in_lem t = and_i (lt_z (key s.lo) (key x)) (lt_z (key x) (key s.hi)) (next (key s.lo) (key x) low) (prev (key s.hi) (key x) high)
    where
      y : Float
      y = mul binary64 x e8

      f : T (finite y)
      f = (scaled_1025 x w).0

      lo-val : Val s.least (posp (key s.lo +ℤ pos 1)) (negp (key s.lo +ℤ pos 1)) 1
      lo-val =
          subst (λ (z : Float). Val z (posp (key s.lo +ℤ pos 1)) (negp (key s.lo +ℤ pos 1)) 1) (sym (ap (λ (u : Span). u.least) r.same))
          (int_val (key s.lo +ℤ pos 1) (le_trans (one-above (key s.lo) (key-small s.lo r.low)) (lit≤ tt)))

      hi-val : Val s.most (posp (key s.hi -ℤ pos 1)) (negp (key s.hi -ℤ pos 1)) 1
      hi-val =
          subst (λ (z : Float). Val z (posp (key s.hi -ℤ pos 1)) (negp (key s.hi -ℤ pos 1)) 1) (sym (ap (λ (u : Span). u.most) r.same))
          (int_val (key s.hi -ℤ pos 1) (le_trans (one_below (key s.hi) (key-small s.hi r.high)) (lit≤ tt)))

      low : T (le_z (key s.lo +ℤ pos 1) (key x))
      low =
          subst (λ (z : ℤ). T (le_z z (key x))) (whole (key s.lo +ℤ pos 1) s.least lo-val)
          (subst (λ (z : ℤ). T (le_z (rounded s.least) z)) (key-is x)
          (rounded_mono s.least y lo-val.0 f (le→Le s.least y lo-val.0 f (and_l (le s.least y) (le y s.most) t))))

      high : T (le_z (key x) (key s.hi -ℤ pos 1))
      high =
          subst (λ (z : ℤ). T (le_z (key x) z)) (whole (key s.hi -ℤ pos 1) s.most hi-val)
          (subst (λ (z : ℤ). T (le_z z (rounded s.most))) (key-is x)
          (rounded_mono y s.most f hi-val.0 (le→Le y s.most f hi-val.0 (and_r (le s.least y) (le y s.most) t))))

  above : T (lt_z (key s.lo) (key x)) → T (le s.lo x)
  above t =
      elim (le-or-lt s.lo x (within_real 1025 s.lo r.low) (within_real 1025 x w)) [
        | inl a ↦ a
        | inr b ↦ absurd (both (key x) (key s.lo) (key_mono x s.lo w r.low (lt→le x s.lo b)) t)
      ]

  below : T (lt_z (key x) (key s.hi)) → T (le x s.hi)
  below t =
      elim (le-or-lt x s.hi (within_real 1025 x w) (within_real 1025 s.hi r.high)) [
        | inl a ↦ a
        | inr b ↦ absurd (both (key s.hi) (key x) (key_mono s.hi x r.high w (lt→le s.hi x b)) t)
      ]

  pub in_span_lem : T (strictly s (key x)) → T (in_span s x)
  in_span_lem t =
      let a = lt_z (key s.lo) (key x) in
      let b = lt_z (key x) (key s.hi) in
      and_i (le s.lo x) (le x s.hi) (above (and_l a b t)) (below (and_r a b t))
