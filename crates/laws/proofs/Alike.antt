-- Equal numbers compare alike, and so do 0.0 and -0.0.
use mathlib.Core.Path.{◌≡◌}
use lib.Dec.{T}
use lib.Ieee.{Float, le, lt, eq}
use Rattle.laws.proofs.Booleans.{bool_ext}
use Rattle.laws.proofs.Order.{eq_sym, eq→le, le-lt_trans_f, lt-le_trans_f}

module _ (x y : Float) (e : T (eq x y)) where
  there : T (le x y)
  there = eq→le x y e

  back : T (le y x)
  back = eq→le y x (eq_sym x y e)

  pub lt-alike : (z : Float) → lt x z ≡ lt y z
  lt-alike z = bool_ext (lt x z) (lt y z) (λ h. le-lt_trans_f y x z back h) (λ h. le-lt_trans_f x y z there h)

  pub gt_alike : (z : Float) → lt z x ≡ lt z y
  gt_alike z = bool_ext (lt z x) (lt z y) (λ h. lt-le_trans_f z x y h there) (λ h. lt-le_trans_f z y x h back)
