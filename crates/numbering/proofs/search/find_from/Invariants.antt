-- `find_from`: its loop keeps that what is left of the search is the whole of it.
use Rattle.std.proofs.Common.{◌≡◌, ℕ, Bool, ◌-◌, ◌≤◌}
use Rattle.laws.specs.Bounded.{first}
use Rattle.keys.specs.Keys.{key_of}
use Rattle.nodes.specs.Nodes.{has_key}
use Rattle.numbering.proofs.search.find_from.Given as goal

abbrev pub invariant-loop-start : goal.invariant-loop-start
invariant-loop-start g l =
    let k = l.fn.key in
    let p : ℕ → Bool = λ i. has_key (key_of k.x) (key_of k.y) (g.P.Places.at l.places i) in
    (l.start ≤ l.count) × (first p (l.count - l.start) l.start ≡ first p (l.count - l.from) l.from)
