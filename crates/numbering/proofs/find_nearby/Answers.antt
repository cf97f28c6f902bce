-- `find_nearby`: what the collected nodes decide is what the whole scan finds.
use Rattle.std.proofs.Common.{◌≡◌, ℕ, ◌-◌, true, leb, ◌&&◌, refl, sym, ap, subst, ◌∙◌, arith}
use Rattle.laws.specs.Bounded.{first}
use Rattle.laws.proofs.Search.{first-start}
use Rattle.keys.specs.Keys.{key_of}
use Rattle.nodes.specs.Nodes.{number}
use Rattle.nodes.specs.Flat.{nodes_in, Usable, has_at}
use Rattle.nodes.specs.Nearby.{most_nearby, well_inside, NearbyLists}
use Rattle.nodes.proofs.Scan.{found-is}
use Rattle.nodes.proofs.Collection as collection
use Rattle.laws.specs.Bounded.{below}
use Rattle.laws.proofs.Search.{below-some, below-given, below-absent}
use Rattle.numbering.proofs.find_nearby.Goals as goal
use Rattle.numbering.proofs.find_nearby.Goals.{Then-decides, Joined-decides, then-decides+in_default, else-decides}

-- a point whose keys the collected nodes decide
decided : (c : Then-decides)
    → (leb c.args.found.near.count most_nearby && well_inside c.args.found.near.ring_box c.new-key.result.x.scaled c.new-key.result.y.scaled) ≡ true
decided c = sym c.decides.ensures ∙ c.if-decides.true

lists : (c : Then-decides) → let a = c.args in
    Usable a.list.nodes.now a.found.near.old × NearbyLists a.list.nodes.now a.found.near.old a.found.numbers.now a.found.xs.now a.found.near.count
lists c =
    let k = c.new-key in
    collection.searchable _ _ _ _ _ c.args.p _ _ c.requires.1 c.args.list.usable k.ensures.0 k.ensures.1 k.result.sought.0 k.result.sought.1 (decided c)

pub invariant_of-listed : goal.invariant_of-listed
invariant_of-listed c = let r = lists (goal.at.invariant_of-listed c).Then-decides in record { usable = r.0; lists = r.1 }

pub returns-in-Some : goal.returns-in-Some
returns-in-Some c =
    let k = c.new-key in
    let n = c.args.found.near in
    let d = (goal.at.returns-in-Some c).Then-decides in
    let v = below-given n.count _ c.in-Some.j (sym c.in-Some.is ∙ c.find_from.ensures) in
    below-some _ _ _
    (sym (collection.found _ _ _ _ _ c.args.p _ _ c.requires.1 c.args.list.usable k.ensures.0 k.ensures.1 k.result.sought.0 k.result.sought.1 (decided d)
    c.in-Some.j (v.0 ∙ first-start _ _) v.1))
    (omega (arith, (lists d).1.low c.in-Some.j v.1, c.requires.1.old))

-- what is left of the list has the point's number
rest : (c : Joined-decides) → let a = c.args in let k = c.new-key.result in
    first (has_at a.list.nodes.now (key_of k.x) (key_of k.y)) (a.list.used - c.if-decides.from) c.if-decides.from
    ≡ number (nodes_in a.list.nodes.now a.list.used) a.p
rest c =
    let a = c.args in
    let k = c.new-key in
    let n = a.found.near in
    let P : ℕ → Type 0 =
    λ m. first (has_at a.list.nodes.now (key_of k.result.x) (key_of k.result.y)) (a.list.used - m) m ≡ number (nodes_in a.list.nodes.now a.list.used) a.p in
    elim c.if-decides.branch [
      | then-decides+in_default w ↦
          subst P (sym w.from-is)
          (collection.not_found _ _ _ _ _ a.p _ _ c.requires.1 c.args.list.usable k.ensures.0 k.ensures.1 k.result.sought.0 k.result.sought.1
          (sym c.decides.ensures ∙ w.if-decides.true) _ (first-start _ _) _ (below-absent n.count _ (sym w.in_default.is ∙ w.find_from.ensures)) refl)
      | else-decides w ↦ subst P (sym w.from-is) (first-start _ _ ∙ found-is a.list.nodes.now a.list.used a.p k.result.x k.result.y k.ensures.0 k.ensures.1)
    ]

pub returns : goal.returns
returns c = c.find_from-2.ensures ∙ ap (below c.args.list.used) (rest (goal.at.returns c).Joined-decides)
