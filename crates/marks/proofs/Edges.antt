-- Marks laid edge by edge into an array (`Marked`), and counted.
use Prim.Native.Nat.{ℕ, suc, ◌+◌, ◌≤◌, ◌<◌}
use native.Mathlib.Numerals.{add-one}
use native.Mathlib.Omega.{arith}
use mathlib.Core.Path.{◌≡◌, refl, sym, ap, ◌∙◌}
use mathlib.Core.Bool.{Bool, cond}
use mathlib.Core.List.{List, [], ◌∷◌, ◌++◌}
use lib.ListN.{length, get_or, set, replicate, take, length-set}
use lib.Seq.{take-suc, take-set-le, get_or-set_same, get_or-set_other}
use lib.Dec.{ltb, eqb}
use borrow.Author.Tests.{lt-ltb, le-ltb}
use Rattle.std.specs.List.{count_by}
use Rattle.std.proofs.lemmas.List.Recursion.{is_count_by}
use Rattle.laws.specs.Bounded.{first}
use Rattle.laws.specs.Table.{tab}
use Rattle.laws.proofs.Lists.{all_same}
use Rattle.laws.proofs.Table.{length_tab, get_d_tab}
use Rattle.vector.specs.declared.GridPoint.{GridPoint}
use Rattle.vector.specs.Grid.{at}
use Rattle.chain.specs.declared.Simplified.{Simplified}
use Rattle.chain.specs.Chain.{Stretch, no_stretch}
use Rattle.chain.specs.Stretches.{stretch_in, stretches_in}
use Rattle.laws.proofs.Search.{first_ext}
use Rattle.marks.specs.declared.EdgeMark.{EdgeMark}
use Rattle.marks.specs.declared.EdgeMark.TheVariants.{Straight, Snap}
use Rattle.marks.specs.Part.{mark_count}
use Rattle.marks.specs.Marks.{joins, mark, marks_to}
use Rattle.marks.specs.Edges.{Marked}

-- ---- one edge more
pub marks-more : (es : List EdgeMark) (i : ℕ) → i < length es → take (i + 1) es ≡ take i es ++ (get_or es i Straight ∷ [])
marks-more es i h =
    rw (add-one i) (take-suc es i Straight h)

abbrev pub snapped : EdgeMark → Bool
snapped e = eqb (mark_count (e ∷ [])) 1

one-more : (m : EdgeMark) (ms : List EdgeMark) → mark_count (m ∷ ms) ≡ cond (eqb (mark_count (m ∷ [])) 1) (1 + mark_count ms) (mark_count ms)
one-more Straight ms = refl
one-more (Snap p) ms = omega arith

-- the edges that are marked, counted one by one
pub counted : (es : List EdgeMark) → count_by snapped es ≡ mark_count es
counted es = sym (is_count_by mark_count snapped refl one-more es)

-- ---- the mark of an edge, by the stretch found
module _ (s : Simplified) (a b : GridPoint) (j : ℕ) (e : j ≡ first (λ k. joins a b (stretch_in s.points s.snaps k)) s.count 0) where
  table : ℕ → Stretch
  table = stretch_in s.points s.snaps

  found : first (λ k. joins a b (get_or (stretches_in s) k no_stretch)) (length (stretches_in s)) 0 ≡ j
  unfolding stretches_in table
  found =
      ap (λ (d : ℕ). first (λ k. joins a b (get_or (tab table s.count) k no_stretch)) d 0) (length_tab table s.count)
      ∙ first_ext (λ k. joins a b (get_or (tab table s.count) k no_stretch)) (λ k. joins a b (table k)) s.count 0
      (λ k l m. ap (joins a b) (get_d_tab table s.count k no_stretch (omega arith)))
      ∙ sym e

  pub mark-snap : j < s.count → mark (stretches_in s) a b ≡ Snap (get_or s.snaps j no_stretch.snap)
  unfolding mark stretches_in table
  mark-snap h =
      let f = found in
      let t : ltb j (length (stretches_in s)) ≡ ltb j s.count = ap (ltb j) (length_tab table s.count) in
      (λ i. cond (ltb (f i) (length (stretches_in s))) (Snap (get_or (stretches_in s) (f i) no_stretch).snap) Straight)
      ∙ (λ i. cond ((t ∙ lt-ltb j s.count h) i) (Snap (get_d_tab table s.count j no_stretch h i).snap) Straight)

  pub mark-straight : s.count ≤ j → mark (stretches_in s) a b ≡ Straight
  unfolding mark stretches_in table
  mark-straight h =
      let f = found in
      let t : ltb j (length (stretches_in s)) ≡ ltb j s.count = ap (ltb j) (length_tab table s.count) in
      (λ i. cond (ltb (f i) (length (stretches_in s))) (Snap (get_or (stretches_in s) (f i) no_stretch).snap) Straight)
      ∙ (λ i. cond ((t ∙ le-ltb j s.count h) i) (Snap (get_or (stretches_in s) j no_stretch).snap) Straight)

-- ---- the loop
pub marked-none : (ss : List Stretch) (r : List GridPoint) → Marked ss r 0 (replicate 60 Straight)
unfolding marks_to
marked-none ss r = record { marks = refl; unused = λ k h. all_same (λ x. x ≡ Straight) Straight 60 Straight refl refl k; places = refl }

module _ (ss : List Stretch) (r : List GridPoint) (i : ℕ) (es : List EdgeMark) (so : Marked ss r i es) (l : i < 60) where
  -- an edge that is marked
  pub marked-snap : (e : EdgeMark) → e ≡ mark ss (at r i) (at r (suc i)) → Marked ss r (i + 1) (set es i e)
  unfolding marks_to
  marked-snap e f =
      let m = take-set-le i es i e (omega arith) ∙ so.marks in
      let g = get_or-set_same es i e Straight (omega arith) ∙ f in
      record {
        marks =
            marks-more (set es i e) i (rw (length-set es i e) (omega arith))
            ∙ (λ j. m j ++ (g j ∷ []))
            ∙ ap (marks_to ss r) (sym (add-one i));
        unused = λ k h. get_or-set_other es i k e Straight (λ q. omega arith) ∙ so.unused k (omega arith);
        places = length-set es i e ∙ so.places;
      }

  -- one that is not
  pub marked-straight : mark ss (at r i) (at r (suc i)) ≡ Straight → Marked ss r (i + 1) es
  unfolding marks_to
  marked-straight f =
      let m = so.marks in
      let g = so.unused i (omega arith) ∙ sym f in
      record {
        marks = marks-more es i (omega arith) ∙ (λ j. m j ++ (g j ∷ [])) ∙ ap (marks_to ss r) (sym (add-one i));
        unused = λ k h. so.unused k (omega arith);
        places = so.places;
      }
