-- A piece as the code divides it, one attempt or two over the lent lists, is `subdivide` of the definition. The second
-- attempt writes its cells over those of the first.
use mathlib.Core.Path.{◌≡◌, refl, sym, ap, ◌∙◌, subst, fun_ext}
use mathlib.Core.List.{List, ◌++◌, append-nil}
use Prim.Native.Nat.{ℕ, zero, suc, ◌≤◌}
use native.Mathlib.Omega.{arith}
use mathlib.Core.Bool.{Bool, true, false}
use borrow.Author.Tests.{eq-eqb, ne_eqb}
use lib.ListN.{length, get_or, take, replicate}
use lib.Ieee.{Float}
use Rattle.laws.specs.Bounded.{below}
use Rattle.laws.proofs.Search.{below-none, below-absent}
use Rattle.marks.specs.Part.{Part}
use Rattle.marks.specs.declared.EdgeMark.TheVariants.{Straight}
use Rattle.nodes.specs.Growth.{InRange, EachNode}
use Rattle.nodes.specs.Flat.{nodes_in, over}
use Rattle.nodes.specs.declared.nearby.Nearby.{Nearby}
use Rattle.nodes.specs.Nearby.{ValidNearby}
use Rattle.nodes.proofs.Collection.{held-over}
use Rattle.nodes.proofs.Growth.{grown-each}
use Rattle.nodes.proofs.Flat.{length_in, in_over, length_over, over-over}
use Rattle.cells.specs.declared.Tried.{Tried}
use Rattle.cells.specs.Cells.{Attempt, attempt, subdivide}
use Rattle.cells.specs.Stages.{mark_at, straight}
use Rattle.cells.specs.Asks.{Ask, attempt_asks, subdivide_asks}
use Rattle.cells.specs.Rims.{rims_by}
use Rattle.cells.specs.Flat.{side_at, attempt_in, attempt_asks_in, subdivide_in, subdivide_asks_in, tried_of, CanTry, CanSubdividePiece}
use Rattle.quads.specs.Flat.{over_cells}
use Rattle.std.specs.Prelude.{None}
use Rattle.cells.proofs.Attempts.{attempt-any, attempt-fails, subdivide_by}
use Rattle.cells.proofs.Ranges.{attempt-ranged, straight≢snap}
use Rattle.cells.proofs.NewCells.{attempt-cells}
use Rattle.piece_nodes.proofs.Adding.{nodes-ranged, over-usable}
use Rattle.quads.proofs.CellList as cell
use Rattle.cells.proofs.Rims.{rims_length, rims_then}
use Rattle.cells.proofs.Asking.{attempt-listed}

-- ---- marks that are all straight
all_plain : (n i m k : ℕ) → get_or (take n (take i (replicate m Straight))) k Straight ≡ Straight
all_plain zero i m k = refl
all_plain (suc n) zero m k = refl
all_plain (suc n) (suc i) zero k = refl
all_plain (suc n) (suc i) (suc m) zero = refl
all_plain (suc n) (suc i) (suc m) (suc k) = all_plain n i m k

plain_at : (n m k : ℕ) → get_or (take n (take n (replicate m Straight))) k Straight ≡ Straight
plain_at n m k = all_plain n n m k

-- what an attempt t over the lists l and q answers and leaves, as the contracts have it
abbrev Answers : Attempt → List Ask → List Float → ℕ → List ℕ → List ℕ → Tried → List Float → List ℕ → List ℕ → Type 0
Answers t xs l u q rs r m q' rs' = (r ≡ tried_of t) × (m ≡ over l t.nodes) × (q' ≡ over_cells q t.cells) × (rs' ≡ rims_by u (length t.nodes) xs rs)

same-answers : (t s : Attempt) (xs ys : List Ask) (l : List Float) (u : ℕ) (q rs : List ℕ) {r : Tried} {m : List Float} {q' rs' : List ℕ} → t ≡ s → xs ≡ ys
    → Answers t xs l u q rs r m q' rs' → Answers s ys l u q rs r m q' rs'
same-answers t s xs ys l u q rs {r} {m} {q'} {rs'} e f a =
    subst (λ (xs : List Ask). Answers s xs l u q rs r m q' rs') f (subst (λ (t : Attempt). Answers t xs l u q rs r m q' rs') e a)

module _ {share : Float} {l : List Float} {u : ℕ} {p : Part} (f : CanSubdividePiece share l u p) where
  abbrev T1 : Attempt
  T1 = attempt_in share l u p

  abbrev T2 : Attempt
  T2 = attempt share T1.nodes p.points straight

  abbrev S : Attempt
  S = subdivide_in share l u p

  -- what they ask for, bs saying which edges are ring edges
  abbrev A1 : List Bool → List Ask
  A1 bs = attempt_asks_in share l u p bs

  abbrev A2 : List Bool → List Ask
  A2 bs = attempt_asks share T1.nodes p.points straight (side_at bs)

  abbrev AS : List Bool → List Ask
  AS bs = subdivide_asks_in share l u p bs

  -- the cell that fails, if one does
  fails-le : T1.fails ≤ length p.points
  fails-le = attempt-fails share (nodes_in l u) p.points (mark_at p)

  many : length T1.cells ≡ length p.points
  many = (attempt-cells share (nodes_in l u) p.points (mark_at p)).many

  once : length T1.nodes ≤ length S.nodes
  once =
      subdivide_by share (λ ms. length T1.nodes ≤ length ms) (nodes_in l u) p (omega arith)
      (attempt-any share T1.nodes p.points straight).longer

  pub try_first : CanTry share l u p
  try_first =
      record {
        usable = f.usable;
        valid = f.valid;
        fits = omega (arith, once, f.fits);
        room = omega (arith, once, f.room);
      }

  -- there are marks for the nodes of the first attempt
  pub rims-first : (k : ℕ) → length S.nodes ≤ k → length T1.nodes ≤ k
  rims-first k h = omega (arith, once, h)

  held : T1.fails ≡ length p.points → T1 ≡ S
  unfolding subdivide
  held e = sym (rw (eq-eqb T1.fails (length p.points) e))

  refused : (T1.fails ≡ length p.points → ⊥) → T1.far ≡ true → T1 ≡ S
  unfolding subdivide
  refused h e = sym (rw (ne_eqb T1.fails (length p.points) h, e))

  again : (T1.fails ≡ length p.points → ⊥) → T1.far ≡ false → T2 ≡ S
  unfolding subdivide
  again h e = sym (rw (ne_eqb T1.fails (length p.points) h, e))

  asks-held : (bs : List Bool) → T1.fails ≡ length p.points → A1 bs ≡ AS bs
  unfolding subdivide_asks
  asks-held bs e = sym (append-nil (A1 bs)) ∙ sym (rw (eq-eqb T1.fails (length p.points) e))

  asks-refused : (bs : List Bool) → (T1.fails ≡ length p.points → ⊥) → T1.far ≡ true → A1 bs ≡ AS bs
  unfolding subdivide_asks
  asks-refused bs h e = sym (append-nil (A1 bs)) ∙ sym (rw (ne_eqb T1.fails (length p.points) h, e))

  asks-again : (bs : List Bool) → (T1.fails ≡ length p.points → ⊥) → T1.far ≡ false → A1 bs ++ A2 bs ≡ AS bs
  unfolding subdivide_asks
  asks-again bs h e = sym (rw (ne_eqb T1.fails (length p.points) h, e))

  -- the nodes of the first attempt
  first-longer : u ≤ length T1.nodes
  first-longer = omega (arith, (attempt-any share (nodes_in l u) p.points (mark_at p)).longer, length_in l u)

  ranged : EachNode InRange T1.nodes
  ranged =
      let a = nodes-ranged f.usable in
      grown-each {P = InRange} (nodes_in l u) T1.nodes
      (attempt-ranged share (nodes_in l u) p (mark_at p) f.valid f.valid.snap a) a

  -- the first attempt is made: r, m and q'
  module _ (q : List ℕ) (bs : List Bool) (rs : List ℕ) {r : Tried} {m : List Float} {q' rs' : List ℕ} (t : Answers T1 (A1 bs) l u q rs r m q' rs') where
    fails-is : r.fails ≡ below (length T1.cells) T1.fails
    fails-is = ap (λ (r : Tried). r.fails) t.0

    none-fails : r.fails ≡ None → T1.fails ≡ length p.points
    none-fails e = omega (arith, fails-le, many, below-absent (length T1.cells) T1.fails (sym e ∙ fails-is))

    one-fails : (r.fails ≡ None → ⊥) → T1.fails ≡ length p.points → ⊥
    one-fails h e = h (fails-is ∙ sym (below-none (length T1.cells) T1.fails (e ∙ sym many)))

    far-is : r.far ≡ T1.far
    far-is = ap (λ (r : Tried). r.far) t.0

    -- ---- one attempt, which holds, or in which a snap was too far
    pub if_held : r.fails ≡ None → Answers S (AS bs) l u q rs r m q' rs'
    if_held e = same-answers T1 S (A1 bs) (AS bs) l u q rs (held (none-fails e)) (asks-held bs (none-fails e)) t

    pub if_far : (r.fails ≡ None → ⊥) → r.far ≡ true → Answers S (AS bs) l u q rs r m q' rs'
    if_far h e =
        same-answers T1 S (A1 bs) (AS bs) l u q rs (refused (one-fails h) (sym far-is ∙ e))
        (asks-refused bs (one-fails h) (sym far-is ∙ e)) t

    -- what was collected of the list stays true of it
    pub held_first : {c : Nearby} {numbers : List ℕ} {xs : List Float} → ValidNearby l u c numbers xs → ValidNearby m r.used c numbers xs
    held_first {c} {numbers} {xs} h =
        held-over l m u r.used T1.nodes c numbers xs t.1 (ap (λ (r : Tried). r.used) t.0)
        (attempt-any share (nodes_in l u) p.points (mark_at p)) h

    -- ---- two attempts
    module _ (h : r.fails ≡ None → ⊥) (e : r.far ≡ false) where
      abbrev plain : Part
      plain = record { points = p.points; edges = take (length p.points) (take (length p.points) (replicate 60 Straight)) }

      used-is : r.used ≡ length T1.nodes
      used-is = ap (λ (r : Tried). r.used) t.0

      now-is : nodes_in m r.used ≡ T1.nodes
      now-is = (λ j. nodes_in (t.1 j) (used-is j)) ∙ in_over l T1.nodes

      second_is : attempt_in share m r.used plain ≡ T2
      second_is = λ j. attempt share (now-is j) p.points (fun_ext (λ k. plain_at (length p.points) 60 k) j)

      last : T2 ≡ S
      last = again (one-fails h) (sym far-is ∙ e)

      pub try-second : CanTry share m r.used plain
      try-second =
          let z = ap (λ (t : Attempt). length t.nodes) (second_is ∙ last) in
          let w : length m ≡ length l = ap length t.1 ∙ length_over l T1.nodes (omega (arith, once, f.room)) in
          record {
            usable = over-usable l T1.nodes t.1 used-is ranged (omega (arith, once, f.fits)) (omega (arith, once, f.room));
            valid =
                record {
                  some = f.valid.some;
                  few = f.valid.few;
                  corner = f.valid.corner;
                  snap = λ i q k e. absurd (straight≢snap q (sym (plain_at (length p.points) 60 i) ∙ e));
                };
            fits = omega (arith, z, f.fits);
            room = omega (arith, z, f.room, w);
          }

      -- and for those of the second
      pub rims-second : length S.nodes ≤ length rs → length (attempt_in share m r.used plain).nodes ≤ length rs'
      rims-second k =
          omega (arith, k, ap (λ (t : Attempt). length t.nodes) (second_is ∙ last), ap length t.3, rims_length u (length T1.nodes) (A1 bs) rs)

      asks-second : attempt_asks_in share m r.used plain bs ≡ A2 bs
      asks-second = λ j. attempt_asks share (now-is j) p.points (fun_ext (λ k. plain_at (length p.points) 60 k) j) (side_at bs)

      rims-both : rims_by (length T1.nodes) (length T2.nodes) (A2 bs) (rims_by u (length T1.nodes) (A1 bs) rs) ≡ rims_by u (length T2.nodes)
          (A1 bs ++ A2 bs) rs
      rims-both =
          rims_then u (length T1.nodes) (length T2.nodes) (A1 bs) (A2 bs) rs first-longer
          (attempt-any share T1.nodes p.points straight).longer
          (attempt-listed share (nodes_in l u) p.points (mark_at p) (side_at bs))

      pub if-again : {r' : Tried} {m' : List Float} {q'' rs'' : List ℕ}
          → Answers (attempt_in share m r.used plain) (attempt_asks_in share m r.used plain bs) m r.used q' rs' r' m' q'' rs''
          → Answers S (AS bs) l u q rs r' m' q'' rs''
      if-again {r'} {m'} {q''} {rs''} d =
          let a = (attempt-cells share (nodes_in l u) p.points (mark_at p)).many in
          let b = (attempt-cells share T1.nodes p.points straight).many in
          let all = second_is ∙ last in (
            d.0 ∙ ap tried_of all,
            d.1 ∙ (λ j. over (t.1 j) (all j).nodes) ∙ over-over l T1.nodes S.nodes once,
            d.2 ∙ (λ j. over_cells (t.2 j) (second_is j).cells) ∙ cell.over-over q T1.cells T2.cells (omega (arith, a, b))
                ∙ ap (λ (t : Attempt). over_cells q t.cells) last,
            d.3 ∙ (λ j. rims_by (used-is j) (length (second_is j).nodes) (asks-second j) (t.3 j)) ∙ rims-both
                ∙ (λ j. rims_by u (length (last j).nodes) (asks-again bs (one-fails h) (sym far-is ∙ e) j) rs),
          )
