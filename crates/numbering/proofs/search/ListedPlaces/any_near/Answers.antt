use Rattle.std.specs.Prelude.{◌+◌, ◌-◌, ◌≤◌, length, take, drop}
use Rattle.std.specs.Float.{nan}
use Rattle.std.specs.List.{list_any}
use lib.Seq.{take_all}
use lib.ListN.{length-drop}
use Rattle.std.proofs.Common.{ap, ◌∙◌, arith}
use Rattle.laws.proofs.Search.{any_listed, any_ext}
use Rattle.keys.specs.Keys.{near}
use Rattle.nodes.proofs.Ranged.{any_within}
use Rattle.numbering.proofs.search.ListedPlaces.any_near.Goals as goal

pub returns : goal.returns
returns c =
    let a = c.args in
    let p = near a.key.scaled in
    let xs = a.self.xs.now in
    let s = a.self.lists in
    let i = a.to - 16 in
    let h : i + 16 ≤ length xs = omega (arith, s.places_x, s.few, c.requires.0, c.requires.1) in
    let e = take_all (length xs - i) (drop i xs) (omega (arith, length-drop i xs)) in
    c.any_of_16_near.ensures ∙ ap (λ ys. list_any p (take 16 ys)) e ∙ any_listed p nan (take 16 (drop i xs)) ∙ any_within p nan xs i 16 h
    ∙ any_ext _ _ 16 (λ j k. ap p (s.same (i + j) (omega (arith, k, c.requires.0, c.requires.1))))
