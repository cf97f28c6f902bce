-- `part`: what is cut out of the corners is the part's.
use Rattle.std.proofs.Common.{◌≡◌, ◌+◌, ◌-◌, ◌≤◌, length, ◌∙◌, arith, rules}
use Rattle.laws.specs.Table.{tab}
use Rattle.parts.specs.Vertices.{vertex}
use Rattle.parts.specs.Layout.{end, size}
use Rattle.parts.proofs.Pieces.{placed, corners-cut}
use Rattle.parts.proofs.list.PartList.part.Goals as goal
use Rattle.parts.proofs.list.PartList.part.Goals.{After-from-b}

-- where it stands, as the code reads it
stands : (c : After-from-b)
    → let p = c.args.self.now in
    (c.from-a.result ≡ end p c.args.j) × (c.from-b.result - c.from-a.result ≡ size p c.args.j) × (c.from-a.result + 3 ≤ c.from-b.result)
    × (c.from-b.result ≤ c.from-a.result + 60)
    × (c.from-b.result ≤ length p.corners)
stands c =
    let p = c.args.self.now in
    let z = placed p c.args.j c.requires in
    let a = c.from-a.ensures in
    let b = c.from-b.ensures in
    let long : length p.corners ≡ 124 = search rules in
    (a, omega (arith, z.3, a, b), omega (arith, z.0, a, b), omega (arith, z.1, a, b), omega (arith, z.2, b, long))

pub slice_bounds-result-end : goal.slice_bounds-result-end
slice_bounds-result-end c = omega (arith, (stands c).4)

pub returns-clause-corners : goal.returns-clause-corners
returns-clause-corners c =
    let p = c.args.self.now in
    let z = stands (goal.at.returns-clause-corners c).After-from-b in
    corners-cut p.corners c.from-a.result (c.from-b.result - c.from-a.result) (omega (arith, z.2, z.4))
    ∙ (λ j. tab (λ i. vertex p.corners (z.0 j + i)) (z.1 j))
