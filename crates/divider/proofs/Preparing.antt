-- The ring that a call prepares: what the code holds after cleaning and marking is the cleaned ring of the definition, with the marks that the chain gives it.
use Prim.Native.Nat.{ℕ, ◌-◌, ◌/◌}
use native.Mathlib.Omega.{arith}
use mathlib.Core.Path.{◌≡◌, sym, ap, ◌∙◌, subst}
use mathlib.Core.List.{List, ◌++◌}
use lib.IntN.{ℤ}
use lib.ListN.{length, take, replicate}
use lib.Seq.{length-take-le, take_at}
use Rattle.laws.proofs.Table.{length_tab}
use Rattle.vector.specs.Grid.{origin}
use Rattle.vector.specs.declared.Ring.{Ring}
use Rattle.vector.specs.Rings.{points_of}
use Rattle.vector.specs.Size.{OnSheet}
use Rattle.vector.proofs.Rings.{room}
use Rattle.chain.specs.declared.Simplified.{Simplified}
use Rattle.chain.specs.Chain.{simplify_chain}
use Rattle.chain.specs.Range.{ChainOnSheet}
use Rattle.chain.specs.Stretches.{stretches_in, Simplifies}
use Rattle.clean.specs.declared.CleanedRing.{CleanedRing}
use Rattle.clean.specs.Clean.{clean_polygon}
use Rattle.clean.specs.Rings.{Cleaned}
use Rattle.clean.proofs.Kept.{clean_length, clean_each}
use Rattle.marks.specs.declared.EdgeMark.{EdgeMark}
use Rattle.marks.specs.Marks.{marks_to, marked}
use Rattle.marks.specs.Edges.{Marked}
use Rattle.marks.proofs.SnapRange.{marked-many, marked_in_range}
use Rattle.limits.specs.declared.Limits.{Limits}
use Rattle.call.specs.Lent.{point_in, points_in}
use Rattle.call.specs.Marked.{all_points}
use Rattle.entry.specs.Refusal.{points_refusal}
use Rattle.entry.proofs.Tests.{points_passed}
use Rattle.divider.specs.Steps.{OnPaper, Passing, Prepares}

-- what reading the points of a ring or a chain gives
pub read : (l : List ℤ) (r : Ring) → r ≡ record { points = points_in l (length l / 2) ++ replicate (60 - length l / 2) origin; count = length l / 2 }
    → points_of r ≡ all_points l
read l r e =
    let n = length l / 2 in
    ap points_of e ∙ take_at (points_in l n) (replicate (60 - n) origin) n (length_tab (point_in l) n)

-- a ring and a chain that none of their tests refuses
pub reads : (L : Limits) (ring chain : List ℤ) (size : ℕ) → points_refusal L ring chain size ≡ 0 → OnPaper ring × OnPaper chain
reads L ring chain size z =
    let p = points_passed L ring chain size z in
    (record { few = p.to; sheet = p.sheet }, record { few = p.few; sheet = p.drawn })

pub passing : (L : Limits) (ring chain : List ℤ) (size : ℕ) → points_refusal L ring chain size ≡ 0
    → Passing L (length ring / 2) (marked (simplify_chain (all_points chain)) (clean_polygon size (all_points ring)))
unfolding marked
passing L ring chain size z =
    let p = points_passed L ring chain size z in
    let ps = all_points ring in
    let qs = all_points chain in
    let h : ChainOnSheet qs = record { few = omega (arith, p.few, length_tab (point_in chain) (length chain / 2)); each = p.drawn } in
    record {
      cuts = p.cuts;
      from = p.from;
      few = p.to;
      prepared =
          λ x y. record {
            few = p.to;
            fewer = omega (arith, clean_length size ps, length_tab (point_in ring) (length ring / 2));
            sheet = clean_each OnSheet size ps p.sheet;
            edged = marked-many (simplify_chain qs) (clean_polygon size ps);
            snaps = marked_in_range qs h (clean_polygon size ps);
            ready = y;
          };
    }

module _ (ring chain : List ℤ) (size : ℕ) (own run : Ring) (a : points_of own ≡ all_points ring) (b : points_of run ≡ all_points chain)
    (g : CleanedRing) (w : Cleaned size (points_of own) g) (s : Simplified) (y : Simplifies (points_of run) s)
    (es : List EdgeMark) (drawn : Marked (stretches_in s) (points_of g.ring) (length (points_of g.ring)) es) where
  x : Marked (stretches_in s) (points_of g.ring) g.ring.count es
  x = subst (λ (n : ℕ). Marked (stretches_in s) (points_of g.ring) n es) (length-take-le g.ring.count g.ring.points (room g.ring w.valid)) drawn

  points_are : points_of g.ring ≡ clean_polygon size (all_points ring)
  points_are = w.points ∙ ap (clean_polygon size) a

  count_is : length (clean_polygon size (all_points ring)) ≡ g.ring.count
  count_is = ap length (sym points_are) ∙ length-take-le g.ring.count g.ring.points (room g.ring w.valid)

  edges_are : take g.ring.count es ≡ marks_to (simplify_chain (all_points chain)) (clean_polygon size (all_points ring))
      (length (clean_polygon size (all_points ring)))
  edges_are = x.marks ∙ (λ j. marks_to ((y.stretches ∙ ap simplify_chain b) j) (points_are j) (sym count_is j))

  pub prepares : Prepares (marked (simplify_chain (all_points chain)) (clean_polygon size (all_points ring))) (record { ring = g.ring; edges = es })
  unfolding marked
  prepares = record { part = λ j. record { points = points_are j; edges = edges_are j }; held = record { ring = w.valid; marks = x.places } }
