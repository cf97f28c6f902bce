-- Card 2: "The small lists of the controller give the numbers they gave before." With a node list of at most 65,535 places
--   every entry returns the row and leaves the nodes, the rim marks and the cells that it does with 01's limit of 65,535 places, whatever its own tests are
--   (`core_as_before`), and so do the divider call (`divide_as_before`) and the same over lent lists (`lent_as_before`); where the ring is divided, each
--   number of its cells is below 65,535, and so has the 16 bits that it had (`sixteen_bits`).
use Prim.Native.Nat.{ℕ, ◌≤◌}
use native.Mathlib.Omega.{arith}
use mathlib.Core.Path.{◌≡◌, refl}
use mathlib.Core.Bool.{◌||◌}
use mathlib.Core.List.{List, [], ◌∷◌}
use lib.ListN.{length}
use borrow.Author.Tests.{le-ltb}
use Rattle.laws.specs.All.{All}
use Rattle.marks.specs.Part.{Part}
use Rattle.limits.specs.declared.Limits.{Limits}
use Rattle.nodes.specs.Nodes.{most_places}
use Rattle.quads.specs.declared.Cell.{Cell}
use Rattle.quads.specs.Flat.{Listed}
use Rattle.cells.proofs.NewCells.{listed-later}
use Rattle.table.specs.Refusals.{Refusal, Tests, ◌when◌}
use Rattle.call.specs.Call.{Lists, Call, lists_of, lists_over, made}
use Rattle.call.specs.Divide.{CallAnswer, divide, start_of}
use Rattle.call.specs.Demand.{cells_from, AcceptedCall}
use Rattle.call.specs.Lent.{LentOf, call_by, odd, divide_by}
use Rattle.call.specs.SmallLists.{places16, call_up_to}

same_test : (x : Lists) → length x.nodes ≤ places16 → lists_over most_places x ≡ lists_over places16 x
unfolding lists_over
same_test x h = rw (le-ltb most_places (length x.nodes) (omega (arith, h)), le-ltb places16 (length x.nodes) h) refl

pub core_as_before : (own : List Refusal) (t : Tests) (L : Limits) (r : ℕ) (p : Part) (x : Lists) → length x.nodes ≤ places16
    → call_up_to most_places own t L r p x ≡ call_up_to places16 own t L r p x
core_as_before own t L r p x h = rw (same_test x h) refl

pub divide_as_before : (L : Limits) (c : Call) → length c.nodes ≤ places16
    → divide L c ≡ call_up_to places16 [] (made L c) L (length c.ring) (start_of c) (lists_of c)
unfolding divide
divide_as_before L c h = core_as_before [] (made L c) L (length c.ring) (start_of c) (lists_of c) h

pub lent_as_before : {A : Type 0} (read : List A → List Cell) (L : Limits) (l : LentOf A) → let c = call_by read l in
    length c.nodes ≤ places16
    → divide_by read L l ≡ call_up_to places16 (1 when (odd l.ring || odd l.chain) ∷ []) (made L c) L (length c.ring) (start_of c) (lists_of c)
lent_as_before read L l h =
    let c = call_by read l in core_as_before (1 when (odd l.ring || odd l.chain) ∷ []) (made L c) L (length c.ring) (start_of c) (lists_of c) h

pub sixteen_bits : (L : Limits) (p : Part) (x : Lists) (a : CallAnswer) → length x.nodes ≤ places16 → AcceptedCall L p x a
    → All (Listed places16) (cells_from L p x)
sixteen_bits L p x a h d = listed-later a.row.nodes places16 (omega (arith, h, d.nodes_fit)) (cells_from L p x) d.listed
