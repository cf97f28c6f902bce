use Rattle.std.specs.Prelude.{ℕ, ◌≡◌, ◌+◌, ◌-◌, ◌*◌, ◌≤◌, length, take, drop}
use Rattle.std.proofs.Common.{ap, ◌∙◌, arith}
use lib.Seq.{take_all}
use lib.ListN.{length-drop}
use Rattle.keys.specs.Keys.{near}
use Rattle.numbering.proofs.Evens.{evens}
use Rattle.numbering.proofs.search.UsedPlaces.any_near.Goals as goal

pub returns : goal.returns
returns c =
    let a = c.args in
    let l = a.self.nodes.now in
    let i = a.to - 16 in
    let r : a.self.used * 2 ≤ length l = a.self.usable.room in
    let h : i * 2 + 32 ≤ length l = omega (arith, r, c.requires.0, c.requires.1) in
    let whole = λ (k : ℕ). ap (take 16) (take_all (length l - k) (drop k l) (omega (arith, length-drop k l))) in
    let e : (a.to - 8) * 2 ≡ i * 2 + 16 = omega (arith, c.requires.0) in
    c.any_of_16_near.ensures ∙ evens (near a.key.scaled) _ l i h _ _ (whole (i * 2)) (whole ((a.to - 8) * 2) ∙ ap (λ k. take 16 (drop k l)) e)
