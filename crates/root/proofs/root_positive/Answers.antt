-- `root_positive`: what its numbers are is in `Pattern.antt` and `Scaled.antt`.
use mathlib.Core.Path.{◌≡◌, sym, subst}
use Prim.Native.Nat.{ℕ, ◌+◌, ◌-◌, ◌*◌, ◌/◌, ◌%◌, ◌^◌, ◌≤◌, ◌<◌}
use native.Mathlib.Nat.{mod-eq_of_lt}
use native.Mathlib.Omega.{arith}
use Rattle.root.specs.Root.{IsRoot}
use Rattle.root.proofs.Pattern.{Decoded, decoded_low, decoded_high}
use Rattle.root.proofs.Scaled.{Lead, lead, Radicand, radicand, shift, rooted, root-to}
use Rattle.root.proofs.root_positive.Goals as goal
use Rattle.root.proofs.root_positive.Goals.{After-from-z, After-root_digits-s, Joined-f-gt0, then-f-gt0, else-f-gt0}

-- where the branches join: m and k are what b's fields say
moved : (b m k m' k' : ℕ) → m' ≡ m → k' ≡ k → Decoded b m k → Decoded b m' k'
moved b m k m' k' p q d = subst (λ (x : ℕ). Decoded b x k') (sym p) (subst (λ (x : ℕ). Decoded b m x) (sym q) d)

at_join : (c : Joined-f-gt0) → Decoded c.args.b c.if-f-gt0.m c.if-f-gt0.k
at_join c =
    let b = c.args.b in
    let p = c.requires in
    elim c.if-f-gt0.branch [
      | then-f-gt0 w ↦ moved b (b % 2 ^ 52 + 2 ^ 52) (b / 2 ^ 52 - 1) c.if-f-gt0.m c.if-f-gt0.k w.m-is w.k-is (decoded_high b p.1 w.if-f-gt0.true)
      | else-f-gt0 w ↦ moved b (b % 2 ^ 52) 0 c.if-f-gt0.m c.if-f-gt0.k w.m-is w.k-is (decoded_low b p.0 p.1 w.if-f-gt0.false)
    ]

-- the shift by the leading zeros, and the number that `root_digits` is handed
leads : (c : After-from-z) → Lead c.if-f-gt0.m c.from-z.result
leads c =
    let d = at_join c.before in
    subst (λ (z : ℕ). Lead c.if-f-gt0.m z) (sym c.from-z.ensures) (lead c.if-f-gt0.m d.above d.small)

handed : (c : After-from-z) → Radicand (c.if-f-gt0.m * 2 ^ shift c.if-f-gt0.k c.from-z.result)
handed c = radicand c.if-f-gt0.m c.if-f-gt0.k c.from-z.result (leads c)

-- the shift loses nothing
kept : (n : ℕ) → Radicand n → n % 2 ^ 64 ≡ n
kept n r = mod-eq_of_lt (omega (arith, r.to))

-- the root's 54 digits
got : (c : After-root_digits-s)
    → IsRoot (c.if-f-gt0.m * 2 ^ shift c.if-f-gt0.k c.from-z.result * 2 ^ 54)
    c.root_digits-s.result
got c =
    let n = c.if-f-gt0.m * 2 ^ shift c.if-f-gt0.k c.from-z.result in
    subst (λ (x : ℕ). IsRoot (x * 2 ^ 54) c.root_digits-s.result) (kept n (handed c.before.before.before)) c.root_digits-s.ensures

small : (c : After-root_digits-s) → c.root_digits-s.result < 2 ^ 54 - 1
small c =
    root-to (c.if-f-gt0.m * 2 ^ shift c.if-f-gt0.k c.from-z.result) c.root_digits-s.result (handed c.before.before.before) (got c)

pub overflow_sub-n : goal.overflow_sub-n
overflow_sub-n c = (leads (goal.at.overflow_sub-n c).After-from-z).low

pub root_digits-s-requires : goal.root_digits-s-requires
root_digits-s-requires c =
    subst (λ (x : ℕ). (2 ^ 52 ≤ x) × (x < 2 ^ 54))
    (sym (kept (c.if-f-gt0.m * 2 ^ shift c.if-f-gt0.k c.from-z.result) (handed (goal.at.root_digits-s-requires c).After-from-z)))
    ((handed (goal.at.root_digits-s-requires c).After-from-z).from, omega (arith, (handed (goal.at.root_digits-s-requires c).After-from-z).to))

pub returns : goal.returns
returns c =
    let m = c.if-f-gt0.m in
    let k = c.if-f-gt0.k in
    let z = c.from-z.result in
    let d = at_join (goal.at.returns c).Joined-f-gt0 in
    let s = c.root_digits-s.result in
    (rooted _ m k z s d.value d.above d.most (leads (goal.at.returns c).After-from-z) (got c), omega (arith, d.most, small c))
