-- `same` is equality of points: it holds of a point and itself, of no two others, and from either side alike; and two points
-- are the same exactly if the step from one to the other is zero.
use mathlib.Core.Path.{◌≡◌, sym, ap, ◌∙◌, subst}
use lib.IntN.{ℤ, +ℤ_invr}
use lib.Dec.{T}
use mathlib.Core.Bool.{Bool, ◌&&◌}
use Rattle.std.proofs.Common.{int_eq}
use Rattle.std.proofs.lemmas.Bool.{true_from_ne_false}
use Rattle.std.proofs.lemmas.Bool.Decides.{Decides-int_eq}
use Rattle.std.proofs.lemmas.Float.{T_from_true}
use lib.Ieee.Fits.{and_i, and_l, and_r}
use Rattle.laws.specs.Integer.{eq_z}
use Rattle.laws.proofs.Booleans.{bool_ext}
use Rattle.laws.proofs.Integers.{no_difference}
use Rattle.laws.proofs.SignedTests.{eq_z→, eq_z_refl}
use Rattle.vector.specs.declared.GridPoint.{GridPoint}
use Rattle.vector.specs.Grid.{origin, same, sub}

-- what the derived `==` of points computes
pub derived_same : (a b : GridPoint) → (int_eq a.x b.x && int_eq a.y b.y) ≡ same a b
unfolding same
derived_same a b = ap (λ (t : Bool). t && int_eq a.y b.y) (whole a.x b.x) ∙ ap (λ (t : Bool). eq_z a.x b.x && t) (whole a.y b.y)
  where
    whole : (z w : ℤ) → int_eq z w ≡ eq_z z w
    whole z w =
        let d = Decides-int_eq z w in
        bool_ext (int_eq z w) (eq_z z w)
        (λ t. subst (λ (v : ℤ). T (eq_z z v)) (d.0 (true_from_ne_false (int_eq z w) (λ e. subst T e t))) (eq_z_refl z))
        (λ t. T_from_true (int_eq z w) (d.1 (eq_z→ z w t)))

pub same→ : (a b : GridPoint) → T (same a b) → a ≡ b
unfolding same
same→ a b t =
    let p = eq_z a.x b.x in
    let q = eq_z a.y b.y in
    λ i. record { x = eq_z→ a.x b.x (and_l p q t) i; y = eq_z→ a.y b.y (and_r p q t) i }

pub same_self : (a : GridPoint) → T (same a a)
unfolding same
same_self a = and_i (eq_z a.x a.x) (eq_z a.y a.y) (eq_z_refl a.x) (eq_z_refl a.y)

pub →same : (a b : GridPoint) → a ≡ b → T (same a b)
→same a b e = subst (λ (p : GridPoint). T (same a p)) e (same_self a)

pub same_comm : (a b : GridPoint) → same a b ≡ same b a
same_comm a b = bool_ext (same a b) (same b a) (λ t. →same b a (sym (same→ a b t))) (λ t. →same a b (sym (same→ b a t)))

pub step-zero : (a b : GridPoint) → same (sub a b) origin ≡ same a b
unfolding sub
step-zero a b =
    bool_ext (same (sub a b) origin) (same a b) (λ t. →same a b (back (same→ (sub a b) origin t))) (λ t. →same (sub a b) origin (there (same→ a b t)))
  where
    back : sub a b ≡ origin → a ≡ b
    back e =
        let x = no_difference a.x b.x (ap (λ (p : GridPoint). p.x) e) in
        let y = no_difference a.y b.y (ap (λ (p : GridPoint). p.y) e) in
        λ i. record { x = x i; y = y i }

    there : a ≡ b → sub a b ≡ origin
    there e = ap (λ (p : GridPoint). sub p b) e ∙ (λ i. record { x = +ℤ_invr b.x i; y = +ℤ_invr b.y i })
