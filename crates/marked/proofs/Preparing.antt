-- The ring that the call prepares: what the code holds after cleaning is the cleaned ring of the definition, with the marks that survive.
use Prim.Native.Nat.{ℕ, ◌/◌}
use native.Mathlib.Omega.{arith}
use mathlib.Core.Path.{◌≡◌, sym, ap, ◌∙◌, subst}
use mathlib.Core.List.{List}
use lib.IntN.{ℤ}
use lib.ListN.{length, take, length-append, length-drop, length-replicate}
use lib.Seq.{length-take-le}
use Rattle.laws.specs.Table.{tab}
use Rattle.laws.proofs.Table.{length_tab}
use Rattle.limits.specs.declared.Limits.{Limits}
use Rattle.vector.specs.declared.GridPoint.{GridPoint}
use Rattle.vector.specs.declared.Ring.{Ring}
use Rattle.vector.specs.Rings.{points_of, OnSheetRing}
use Rattle.vector.specs.Size.{OnSheet}
use Rattle.vector.proofs.Rings as rings
use Rattle.clean.specs.declared.CleanedRing.{CleanedRing}
use Rattle.clean.specs.Clean.{clean_polygon}
use Rattle.clean.specs.Places.{kept_places, Rising}
use Rattle.clean.specs.Rings.{as_cleaned, Cleaned}
use Rattle.survivors.specs.Survivors.{surviving}
use Rattle.clean.proofs.Kept.{clean_length, clean_each}
use Rattle.clean.proofs.Places.{pick-length, kept_image, kept-rising}
use Rattle.marks.specs.declared.EdgeMark.{EdgeMark}
use Rattle.marks.specs.declared.EdgeMark.TheVariants.{Straight}
use Rattle.call.specs.Marked.{Marking, all_points, given_mark, marked_by, marks_out}
use Rattle.call.specs.Lent.{point_in}
use Rattle.call.proofs.Marked.{marks_in_lem, marked-edges, snaps_in}
use Rattle.given.specs.Steps.{places_in, MarksOf, Survive}
use Rattle.divider.specs.Steps.{Passing, Prepares}
use Rattle.marked.specs.Steps.{early_refusal}
use Rattle.marked.proofs.Refusing.{Tested, tested}

-- a ring and marks that none of their tests refuses
pub passing : (L : Limits) (ring : List ℤ) (g : Marking) (size : ℕ) → early_refusal L ring g size ≡ 0
    → Passing L (length ring / 2) (marked_by size g (all_points ring))
unfolding marked_by
passing L ring g size z =
    let p = tested L ring g size z in
    let r = all_points ring in
    let n = length_tab (point_in ring) (length ring / 2) in
    let m = ap (marks_out g.kinds g.snaps) n ∙ p.marks in
    record {
      cuts = p.cuts;
      from = p.from;
      few = p.few;
      prepared =
          λ x y. record {
            few = p.few;
            fewer = omega (arith, clean_length size r, n);
            sheet = clean_each OnSheet size r p.sheet;
            edged = marked-edges size g r;
            snaps = snaps_in size g r p.sheet m p.outline;
            ready = y;
          };
    }

-- as many places are kept as points are left
kept-many : (size : ℕ) (r : List GridPoint) → length (kept_places size r) ≡ length (clean_polygon size r)
kept-many size r = sym (ap length (kept_image size r) ∙ pick-length r (kept_places size r))

-- own is the ring as it was read, of which cleaning left c
module _ (L : Limits) (ring : List ℤ) (g : Marking) (size : ℕ) (h : Tested L ring g) (own : Ring) (v : OnSheetRing own) (n : own.count ≡ length ring / 2)
    (a : points_of own ≡ all_points ring)
    (c : CleanedRing) (w : Cleaned size (points_of own) c) where
  many : length (points_of own) ≡ own.count
  many = length-take-le own.count own.points (rings.room own v)

  counted : length (points_of c.ring) ≡ c.ring.count
  counted = length-take-le c.ring.count c.ring.points (rings.room c.ring w.valid)

  left : length (kept_places size (points_of own)) ≡ c.ring.count
  left = kept-many size (points_of own) ∙ ap length (sym w.points) ∙ counted

  room : length c.places ≡ 60
  unfolding as_cleaned
  room =
      let ks = kept_places size (points_of own) in
      ap (λ (r : CleanedRing). length r.places) w.is ∙ simp (length-append, length-drop, length-replicate) (omega (arith, left, w.valid.count))

  pub marks-of : MarksOf own g.kinds g.snaps c
  marks-of =
      let m = marks_in_lem g.kinds g.snaps (length ring / 2) h.marks in
      record {
        sheet = v;
        marks = m.0 ∙ sym n;
        points = omega (arith, m.1, n);
        count = w.valid.count;
        room = room;
        kept = subst (λ (k : ℕ). Rising k (places_in c)) many (subst (Rising (length (points_of own))) (sym w.places) (kept-rising size (points_of own)));
      }

  pub prepares : (es : List EdgeMark) → Survive g (points_of own) (places_in c) es
      → Prepares (marked_by size g (all_points ring)) (record { ring = c.ring; edges = es })
  unfolding marked_by
  prepares es x =
      let k : length (places_in c) ≡ c.ring.count = ap length w.places ∙ left in
      let r = points_of own in
      let m : take c.ring.count es ≡ (marked_by size g r).edges =
      ap (λ (n : ℕ). take n es) (sym k) ∙ x.marks ∙ ap (λ (ks : List ℕ). surviving Straight (length r) ks (tab (given_mark g r) (length r))) w.places in
      record {
        part = (λ j. record { points = w.points j; edges = m j }) ∙ ap (marked_by size g) a;
        held = record { ring = w.valid; marks = x.places };
      }
