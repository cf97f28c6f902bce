-- `places_for`: at 32 cuts the rows of the code are the sheet of the definition, whose rows are what would be worked out.
use Prim.Native.Nat.{ℕ, ◌-◌}
use mathlib.Core.Path.{◌≡◌, sym, ap, ◌∙◌}
use lib.ListN.{get_or}
use borrow.Author.Rules.{rules}
use Rattle.std.proofs.Math.ListN.{get_or-map}
use Rattle.reserve.specs.Reserve.{node_places, cell_places}
use Rattle.reserve.specs.Sheet.{sheet, node_column, cell_column, nodes_at, cells_at_of}
use Rattle.reserve.proofs.Rows.{sheet-rows}
use Rattle.reserve.proofs.places_for.Goals as goal

nodes_in_row : (r : ℕ) → (get_or sheet (r - 3) (0, 0)).0 ≡ nodes_at r
unfolding nodes_at node_column
nodes_in_row r = sym (get_or-map (λ (row : ℕ × ℕ). row.0) sheet (r - 3) (0, 0))

cells_in_row : (r : ℕ) → (get_or sheet (r - 3) (0, 0)).1 ≡ cells_at_of r
unfolding cells_at_of cell_column
cells_in_row r = sym (get_or-map (λ (row : ℕ × ℕ). row.1) sheet (r - 3) (0, 0))

pub returns-then-cuts-eq32-clause-nodes : goal.returns-then-cuts-eq32-clause-nodes
unfolding sheet
returns-then-cuts-eq32-clause-nodes c =
    let r = c.args.r in
    let e : c.from.result ≡ (get_or sheet (r - 3) (0, 0)).0 = search rules in
    e ∙ nodes_in_row r ∙ (sheet-rows r c.requires.0 c.requires.1).0 ∙ ap (λ k. node_places k r) (sym c.if-cuts-eq32.true)

pub returns-then-cuts-eq32-clause-cells : goal.returns-then-cuts-eq32-clause-cells
unfolding sheet
returns-then-cuts-eq32-clause-cells c =
    let r = c.args.r in
    let e : c.from-then-cuts-eq32.result ≡ (get_or sheet (r - 3) (0, 0)).1 = search rules in
    e ∙ cells_in_row r ∙ (sheet-rows r c.requires.0 c.requires.1).1 ∙ ap (λ k. cell_places k r) (sym c.if-cuts-eq32.true)
