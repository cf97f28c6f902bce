-- Cells in the lent list from a place on: written through the part that starts there (`part-back`), the cells of one piece
-- after those of another (`from_more`), and zeros over them all (`zeros`, `from-again`).
use mathlib.Core.Path.{◌≡◌, refl, sym, ap, ◌∙◌}
use mathlib.Core.List.{List, [], ◌++◌, append_assoc, append-nil}
use Prim.Native.Nat.{ℕ, zero, suc, ◌+◌, ◌-◌, ◌*◌, ◌≤◌}
use native.Mathlib.Omega.{arith}
use lib.ListN.{length, take, drop, replicate, length-append, length-drop, length-replicate, take-append-drop, drop_of_length-le}
use lib.Seq.{take_all, take_at, drop_at, drop-drop, length-take-le}
use borrow.Rule.Slice.PartMut.{put_mid}
use Rattle.quads.specs.declared.Cell.{Cell}
use Rattle.quads.specs.Quads.{no_cell}
use Rattle.quads.specs.Flat.{four, flat_cells, over_cells}
use Rattle.quads.proofs.CellList.{length-cells, length_over, over-over, over_none}
use Rattle.pieces.specs.Flat.{over_from}
use Rattle.std.proofs.lemmas.Grind.{flat_map-append}

-- ---- written out
flat-zero : (n : ℕ) → replicate (n * 4) 0 ≡ flat_cells (replicate n no_cell)
flat-zero zero = refl
flat-zero (suc n) = let e : suc n * 4 ≡ suc (suc (suc (suc (n * 4)))) = omega arith in rw e (ap (λ (l : List ℕ). four no_cell ++ l) (flat-zero n))

zeros : (l : List ℕ) (n : ℕ) → replicate (n * 4) 0 ++ drop (n * 4) l ≡ over_cells l (replicate n no_cell)
unfolding over_cells
zeros l n = λ j. flat-zero n j ++ drop (sym (length-replicate n no_cell) j * 4) l

-- ---- from a place on
pub from-none : (q : List ℕ) (a : ℕ) → q ≡ over_from q a []
unfolding over_from
from-none q a = sym (take-append-drop (a * 4) q) ∙ ap (λ (l : List ℕ). take (a * 4) q ++ l) (over_none (drop (a * 4) q))

pub length_from : (q : List ℕ) (a : ℕ) (cs : List Cell) → (a + length cs) * 4 ≤ length q → length (over_from q a cs) ≡ length q
unfolding over_from
length_from q a cs h =
    omega (
      arith,
      length-append (take (a * 4) q) (over_cells (drop (a * 4) q) cs),
      length-take-le (a * 4) q (omega arith),
      length-drop (a * 4) q,
      length_over (drop (a * 4) q) cs (omega (arith, length-drop (a * 4) q)),
    )

-- a callee wrote the cells ds over the part from place a on, which is back
pub part-back : (r x : List ℕ) (a : ℕ) (ds : List Cell) → x ≡ over_cells (take (length r - a * 4) (drop (a * 4) r)) ds
    → put_mid (a * 4) (length r - a * 4) r x ≡ over_from r a ds
unfolding over_from
part-back r x a ds e =
    let n : length (drop (a * 4) r) ≤ length r - a * 4 = omega (arith, length-drop (a * 4) r) in
    let t : take (length r - a * 4) (drop (a * 4) r) ≡ drop (a * 4) r = take_all (length r - a * 4) (drop (a * 4) r) n in
    let d : drop (length r - a * 4) (drop (a * 4) r) ≡ [] = drop_of_length-le (drop (a * 4) r) n in
    rw (e, t, d) (simp append-nil)

-- zeros were filled in over the places of n cells from place a on
pub zeros-back : (r : List ℕ) (a n : ℕ) → put_mid (a * 4) (n * 4) r (replicate (n * 4) 0) ≡ over_from r a (replicate n no_cell)
unfolding over_from
zeros-back r a n = ap (λ (l : List ℕ). take (a * 4) r ++ l) (zeros (drop (a * 4) r) n)

-- more cells right after
module _ (q : List ℕ) (a : ℕ) (cs ds : List Cell) (h : (a + length cs) * 4 ≤ length q) where
  abbrev front : List ℕ
  front = take (a * 4) q ++ flat_cells cs

  abbrev rest : List ℕ
  rest = drop (length cs * 4) (drop (a * 4) q)

  length_front : length front ≡ (a + length cs) * 4
  length_front = omega (arith, length-append (take (a * 4) q) (flat_cells cs), length-take-le (a * 4) q (omega arith), length-cells cs)

  parted : over_from q a cs ≡ front ++ rest
  unfolding over_from over_cells
  parted = sym (append_assoc (take (a * 4) q) (flat_cells cs) rest)

  pub from_more : over_from (over_from q a cs) (a + length cs) ds ≡ over_from q a (cs ++ ds)
  from_more =
      let p = parted in
      let t : take ((a + length cs) * 4) (over_from q a cs) ≡ front =
      ap (take ((a + length cs) * 4)) p ∙ take_at front rest ((a + length cs) * 4) length_front in
      let d : drop ((a + length cs) * 4) (over_from q a cs) ≡ rest =
      ap (drop ((a + length cs) * 4)) p ∙ drop_at front rest ((a + length cs) * 4) length_front in
      let e : length cs * 4 + length ds * 4 ≡ length (cs ++ ds) * 4 = omega (arith, length-append cs ds) in
      let z : drop (length ds * 4) rest ≡ drop (length (cs ++ ds) * 4) (drop (a * 4) q) =
      drop-drop (length ds * 4) (length cs * 4) (drop (a * 4) q) ∙ ap (λ (k : ℕ). drop k (drop (a * 4) q)) e in
      joined t d z
    where
      joined : take ((a + length cs) * 4) (over_from q a cs) ≡ front → drop ((a + length cs) * 4) (over_from q a cs) ≡ rest
          → drop (length ds * 4) rest ≡ drop (length (cs ++ ds) * 4) (drop (a * 4) q)
          → over_from (over_from q a cs) (a + length cs) ds ≡ over_from q a (cs ++ ds)
      joined t d z = unfold over_from over_cells in
          (λ j. t j ++ (flat_cells ds ++ drop (length ds * 4) (d j)))
          ∙ append_assoc (take (a * 4) q) (flat_cells cs) (flat_cells ds ++ drop (length ds * 4) rest)
          ∙ ap (λ (l : List ℕ). take (a * 4) q ++ l)
          (sym (append_assoc (flat_cells cs) (flat_cells ds) (drop (length ds * 4) rest)) ∙ (λ j. sym (flat_map-append four cs ds) j ++ z j))

-- cells over cells, no fewer
pub from-again : (q : List ℕ) (a : ℕ) (cs ds : List Cell) → a * 4 ≤ length q → length cs ≤ length ds → over_from (over_from q a cs) a ds ≡ over_from q a ds
unfolding over_from
from-again q a cs ds h k =
    let e : length (take (a * 4) q) ≡ a * 4 = length-take-le (a * 4) q h in
    let x = over_cells (drop (a * 4) q) cs in
    (λ j. take_at (take (a * 4) q) x (a * 4) e j ++ over_cells (drop_at (take (a * 4) q) x (a * 4) e j) ds)
    ∙ ap (λ (l : List ℕ). take (a * 4) q ++ l) (over-over (drop (a * 4) q) cs ds k)
