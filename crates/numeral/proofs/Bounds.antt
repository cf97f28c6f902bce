-- How large the numbers of a scan get, byte by byte; that the two steps of `units` are the one division; and signs.
use Prim.Native.Nat.{ℕ, zero, suc, ◌+◌, ◌-◌, ◌*◌, ◌/◌, ◌%◌, ◌^◌, ◌≤◌, ◌<◌}
use mathlib.Core.Path.{◌≡◌, refl, sym, ap, ◌∙◌}
use mathlib.Core.Bool.{Bool, true, false, ◌||◌}
use mathlib.Core.List.{List, [], ◌∷◌}
use native.Mathlib.Nat.{pow-succ', pow-le-pow_right, div-add-mod', add-mul-div_left, mul_assoc, mul_comm, mul_left_comm}
use native.Mathlib.Omega.{arith}
use lib.ListN.{length, get_or, take}
use lib.Dec.{ltb, eqb}
use lib.IntN.{ℤ, pos, ◌-ℤ◌, neg_ℤ, +ℤ_idl}
use mir.Syntax.{w32}
use mir.Val.{to_z, of_z, SFits}
use mir.ValLaws.{to_z_pos, to_z-of_z}
use borrow.Author.Tests.{ltb-false, le-ltb}
use lib.Pointwise.{pointwise}
use Rattle.std.specs.Prelude.{cond, Some, None, IfSome}
use Rattle.std.specs.Bool.{then_some}
use Rattle.std.proofs.lemmas.Bool.Decides.{nat_tests}
use Rattle.numeral.specs.declared.Met.{Met}
use Rattle.numeral.specs.declared.Said.{Said}
use Rattle.numeral.specs.Numeral.{no_digit_of, scaled, more, scan_to, scanned, whole, has_minus, behind, Small, Scaled, units, signed}
use Rattle.std.proofs.Math.Bool.{and-true}

-- after i bytes
pub record Below (s : Met) (i : ℕ) : Type 0 where
  pub value : s.value < 10 ^ i
  pub scale : s.scale ≤ 10 ^ i
  pub one : 0 < s.scale
  pub few : s.digits + s.points ≤ i

ten : (i : ℕ) → 10 ^ suc i ≡ 10 * 10 ^ i
ten i = let e = pow-succ' 10 i in omega arith

scaled-below : (x p i : ℕ) (t : Bool) → eqb p 0 ≡ t → x ≤ 10 ^ i → 0 < x → (scaled x p ≤ 10 ^ suc i) × (0 < scaled x p)
unfolding scaled
scaled-below x p i true e h k = let q = ten i in rw e (omega arith, k)
scaled-below x p i false e h k = let q = ten i in rw e (omega arith, omega arith)

digit-below : (b : ℕ) → no_digit_of b ≡ false → b - 48 ≤ 9
digit-below b e = go (ltb b 48) (ltb 57 b) refl refl e
  where
    go : (x y : Bool) → ltb b 48 ≡ x → ltb 57 b ≡ y → (x || y) ≡ false → b - 48 ≤ 9
    go true y p q z = absurd (let n : ◌≡◌ {A = Bool} true false = z in true-false n)
      where
        true-false : ◌≡◌ {A = Bool} true false → ⊥
        true-false n = let z : ◌≡◌ {A = ℕ} 0 1 = cc in omega arith
    go false true p q z = absurd (let z : ◌≡◌ {A = ℕ} 0 1 = cc in omega arith)
    go false false p q z = omega (arith, ltb-false 57 b q)

more-below : (s : Met) (b i : ℕ) (p d : Bool) → eqb b 46 ≡ p → no_digit_of b ≡ d → Below s i → Below (more s b) (suc i)
unfolding more
more-below s b i true d e f h = let q = ten i in rw e (record { value = omega arith; scale = omega arith; one = h.one; few = omega arith })
more-below s b i false true e f h = let q = ten i in rw (e, f) (record { value = omega arith; scale = omega arith; one = h.one; few = omega arith })
more-below s b i false false e f h =
    let q = ten i in
    let g = digit-below b f in
    let z = scaled-below s.scale s.points i (eqb s.points 0) refl h.scale h.one in
    rw (e, f) (record { value = omega arith; scale = z.0; one = z.1; few = omega arith })

pub below : (w : List ℕ) (i : ℕ) → Below (scan_to w i) i
unfolding scan_to
below w zero = record { value = omega arith; scale = omega arith; one = omega arith; few = omega arith }
below w (suc i) = more-below (scan_to w i) (get_or w i 0) i _ _ refl refl (below w i)

pub small : (w : List ℕ) (i : ℕ) → i ≤ 18 → Small (scan_to w i)
small w i h =
    let b = below w i in
    let p : 10 ^ i ≤ 10 ^ 18 = pow-le-pow_right (omega arith) h in
    record { value = omega arith; scale = omega arith; few = omega arith }

-- n / d is q and r over: q · 8192 units, and those of r / d
module _ (n d : ℕ) (h : 0 < d) where
  parts : n * 16384 + d ≡ n % d * 16384 + d + 2 * d * (n / d * 8192)
  parts =
      let e : n ≡ n / d * d + n % d = sym (div-add-mod' n d) in
      let w : 2 * d * (n / d * 8192) ≡ n / d * d * 16384 = twice d (n / d) in
      omega (arith, e, w)
    where
      twice : (a b : ℕ) → 2 * a * (b * 8192) ≡ b * a * 16384
      twice a b =
          let p : 2 * a * (b * 8192) ≡ 2 * 8192 * (a * b) = simp (mul_assoc, mul_comm, mul_left_comm) in
          let q : b * a ≡ a * b = mul_comm b a in omega (arith, p, q)

  pub two_steps : n / d * 8192 + (n % d * 16384 + d) / (2 * d) ≡ units n d
  unfolding units
  two_steps =
      let q = add-mul-div_left (n % d * 16384 + d) (n / d * 8192) {y = 2 * d} (omega arith) in
      let p = ap (λ (x : ℕ). x / (2 * d)) parts in
      omega (arith, p, q)

  pub far : 1024 < n / d → 8388608 < units n d
  far k = let e = two_steps in omega arith

-- signs
negative : (n : ℕ) → neg_ℤ (pos n) ≡ signed true n
unfolding signed
negative zero = refl
negative (suc n) = refl

minus : (n : ℕ) → pos 0 -ℤ pos n ≡ signed true n
minus n = +ℤ_idl (neg_ℤ (pos n)) ∙ negative n

module _ (n : ℕ) (h : n ≤ 8388608) where
  down : pos 0 -ℤ to_z w32 n ≡ signed true n
  down = ap (λ (z : ℤ). pos 0 -ℤ z) (to_z_pos w32 n (omega arith)) ∙ minus n

  small-fits : (k : ℕ) → k ≤ 8388608 → SFits w32 (signed true k)
  unfolding signed
  small-fits zero g = record { sfits = omega arith }
  small-fits (suc k) g = record { sfits = omega arith }

  pub minus-fits : SFits w32 (pos 0 -ℤ to_z w32 n)
  minus-fits = rw down (small-fits n h)

  pub minus_is : (m : Bool) → m ≡ true → to_z w32 (of_z w32 (pos 0 -ℤ to_z w32 n)) ≡ signed m n
  minus_is m e = to_z-of_z w32 (pos 0 -ℤ to_z w32 n) minus-fits ∙ down ∙ ap (λ (b : Bool). signed b n) (sym e)

  plain : (k : ℕ) → pos k ≡ signed false k
  unfolding signed
  plain zero = refl
  plain (suc k) = refl

  pub plus_is : (m : Bool) → m ≡ false → to_z w32 n ≡ signed m n
  plus_is m e = to_z_pos w32 n (omega arith) ∙ plain n ∙ ap (λ (b : Bool). signed b n) (sym e)

-- ---- what `behind` and `read` answer
pub few_met : (w : List ℕ) (s : Met) → length w ≤ 19 → s ≡ scanned w → s.digits + s.points ≤ 100
unfolding scanned
few_met w s h a = rw a (omega (arith, (below w (length w)).few))

pub said_so : (m q : Bool) (w : List ℕ) (s : Met) → length w ≤ 19 → s ≡ scanned w → q ≡ whole s (length w)
    → then_some {T = Said} q (record { minus = m; value = s.value; scale = s.scale }) ≡ behind m w
unfolding behind
said_so m q w s h a b = rw (a, le-ltb 19 (length w) h) (rw b (rw a (go (whole (scanned w) (length w)))))
  where
    go : (t : Bool) → then_some {T = Said} t (record { minus = m; value = (scanned w).value; scale = (scanned w).scale })
        ≡ cond t (Some (record { minus = m; value = (scanned w).value; scale = (scanned w).scale })) None
    go true = refl
    go false = refl

pub scaled_so : (m q : Bool) (w : List ℕ) (s : Met) → s ≡ scanned w → q ≡ whole s (length w)
    → IfSome (then_some {T = Said} q (record { minus = m; value = s.value; scale = s.scale })) Scaled
unfolding scanned whole
scaled_so m true w s a b = record { some = rw a (below w (length w)).one; few = grind (arith, nat_tests) }
scaled_so m false w s a b = tt

-- a minus in front
pub front_is : (w : List ℕ) (t : Bool) → pointwise eqb (take 1 w) (45 ∷ []) ≡ t → has_minus w ≡ t
unfolding has_minus
front_is [] t e = e
front_is (b ∷ w) t e = sym (and-true (eqb b 45)) ∙ e

-- no scale is zero
pub scale_some : (w : List ℕ) (s : Met) → s ≡ scanned w → 0 < s.scale
unfolding scanned
scale_some w s a = rw a (below w (length w)).one
