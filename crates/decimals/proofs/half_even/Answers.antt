-- `half_even`: the remainder doubled, against the divisor: below, above or equal.
use Prim.Native.Nat.{ℕ, ◌*◌, ◌%◌, ◌^◌, ◌<◌}
use mathlib.Core.Path.{◌≡◌, sym, ap, ◌∙◌, subst}
use native.Mathlib.Nat.{one-mul}
use native.Mathlib.Omega.{arith}
use lib.Pow.{shl_exact}
use Rattle.std.specs.declared.cmp.Ordering.{Ordering}
use Rattle.std.specs.declared.cmp.Ordering.TheVariants.{Less, Equal, Greater}
use Rattle.std.specs.Ordering.{nat_cmp, MatchOrdering}
use Rattle.std.specs.Cmp.{ranks}
use Rattle.decimals.specs.Rounded.{half_even}
use Rattle.decimals.proofs.Rounding.{half-under, half_over, half_tie}
use Rattle.decimals.proofs.half_even.Goals as goal

-- the divisor, as the code has it
abbrev shifted : ℕ → ℕ
shifted s = 1 * 2 ^ s % 2 ^ 64

power : (s : ℕ) → s < 64 → shifted s ≡ 2 ^ s
power s h = shl_exact {a = 1} 1 s 64 (omega arith) (omega arith) ∙ one-mul (2 ^ s)

same : (p s : ℕ) → s < 64 → half_even p (shifted s) ≡ half_even p (2 ^ s)
same p s h = ap (half_even p) (power s h)

-- what an order of two numbers says
ordered : (o : Ordering) (x y : ℕ) → o ≡ nat_cmp x y → MatchOrdering o (x < y) (x ≡ y) (y < x)
ordered o x y e = subst (λ (r : Ordering). MatchOrdering r (x < y) (x ≡ y) (y < x)) (sym e) (ranks x y)

pub returns-in-Less : goal.returns-in-Less
returns-in-Less c =
    half-under c.args.p (shifted c.args.s) (ordered Less _ _ (sym c.in-Less.is ∙ c.cmp.ensures)) ∙ same c.args.p c.args.s c.requires.1

pub returns-in-Equal : goal.returns-in-Equal
returns-in-Equal c =
    let e = ordered Equal (c.args.p % shifted c.args.s * 2) (shifted c.args.s) (sym c.in-Equal.is ∙ c.cmp.ensures) in
    half_tie c.args.p (shifted c.args.s) (omega (arith, e)) (omega (arith, e)) ∙ same c.args.p c.args.s c.requires.1

pub returns-in-Greater : goal.returns-in-Greater
returns-in-Greater c =
    half_over c.args.p (shifted c.args.s) (ordered Greater _ _ (sym c.in-Greater.is ∙ c.cmp.ensures)) ∙ same c.args.p c.args.s c.requires.1
