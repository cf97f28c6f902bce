-- A cut deals the sides of its part to the two parts that it makes, whether these are turned round or not, and each gets the diagonal besides.
use Prim.Native.Nat.{ℕ, zero, suc, ◌+◌, ◌<◌}
use native.Mathlib.Nat.{le_of_suc-le-suc, suc_inj}
use native.Mathlib.Omega.{arith}
use mathlib.Core.Path.{◌≡◌, refl, sym, ap, ◌∙◌, subst}
use mathlib.Core.Bool.{Bool, true, false}
use mathlib.Core.List.{List, [], ◌∷◌, ◌++◌, map, reverse, append_assoc, reverse-cons, reverse-append}
use lib.ListN.{length, take, drop, get_or, length-take, length-drop, length-reverse, take-append-drop}
use lib.Seq.{take-suc, drop-cons}
use lib.Signed.{non_neg}
use Rattle.vector.specs.declared.GridPoint.{GridPoint}
use Rattle.vector.specs.Grid.{polygon_area, at, origin}
use Rattle.marks.specs.declared.EdgeMark.{EdgeMark}
use Rattle.marks.specs.declared.EdgeMark.TheVariants.{Straight}
use Rattle.marks.specs.Part.{Part}
use Rattle.parts.specs.Cut.{rotate, oriented, make_sub_polygon, first_points, second_points, first_part, second_part}
use Rattle.cuts.specs.Provenance.{Side, side, back, along, around, sides, diagonal, SameSide, same, turned, Match, empty, each, chain, SidesShared, Deals}
use Rattle.parts.proofs.Rotation.{length-rotate, rotate_at}
use Rattle.cuts.proofs.Match as M
use Rattle.cuts.proofs.Match.{alike_self}
use Rattle.cuts.proofs.Sides.{along_join, sides_rotate}

equal : {l m : List Side} → l ≡ m → Match SameSide l m
equal e = M.equal SameSide alike_self e

-- ---- a path run back
run-back : (a : GridPoint) (r : List GridPoint) (z : GridPoint) (es : List EdgeMark) → length es ≡ suc (length r)
    → along z (reverse r ++ (a ∷ [])) (reverse es) ≡ reverse (map back (along a (r ++ (z ∷ [])) es))
unfolding along
run-back a [] z [] h = absurd (omega (arith, h))
run-back a [] z (e ∷ []) h = refl
run-back a [] z (e ∷ f ∷ es) h = absurd (omega (arith, h))
run-back a (c ∷ r) z [] h = absurd (omega (arith, h))
run-back a (c ∷ r) z (e ∷ es) h =
    ap (λ l. along z (l ++ (a ∷ [])) (reverse (e ∷ es))) (reverse-cons c r)
    ∙ ap (λ l. along z l (reverse (e ∷ es))) (append_assoc (reverse r) (c ∷ []) (a ∷ []))
    ∙ ap (λ l. along z (reverse r ++ (c ∷ a ∷ [])) l) (reverse-cons e es)
    ∙ along_join z (reverse r) c (a ∷ []) (reverse es) (e ∷ []) (length-reverse es ∙ suc_inj h ∙ ap suc (sym (length-reverse r)))
    ∙ ap (λ l. l ++ (side c a e ∷ [])) (run-back c r z es (suc_inj h))
    ∙ sym (reverse-cons (side c a e) (map back (along c (r ++ (z ∷ [])) es)))

backwards : (l : List Side) → Match SameSide (reverse (map back l)) l
backwards [] = empty
backwards (s ∷ l) =
    chain (equal (reverse-cons (back s) (map back l))) (chain (M.commute SameSide alike_self (reverse (map back l)) (back s ∷ [])) (each turned (backwards l)))

-- ---- a part that make_sub_polygon gives has the sides that it gets, and the straight one that closes it
oriented-sides : (w : Bool) (a : GridPoint) (r : List GridPoint) (z : GridPoint) (es : List EdgeMark) → length es ≡ suc (length r)
    → Match SameSide (sides (oriented w (a ∷ (r ++ (z ∷ []))) es)) (along a (r ++ (z ∷ [])) es ++ (side z a Straight ∷ []))
unfolding oriented around along
oriented-sides true a r z es h =
    equal (ap (λ l. along a l (es ++ (Straight ∷ []))) (append_assoc r (z ∷ []) (a ∷ [])) ∙ along_join a r z (a ∷ []) es (Straight ∷ []) h)
oriented-sides false a r z es h =
    chain (equal (ap (λ l. around l (reverse es ++ (Straight ∷ []))) (reverse-cons a (r ++ (z ∷ [])) ∙ ap (λ l. l ++ (a ∷ [])) (reverse-append r (z ∷ [])))
    ∙ ap (λ l. along z l (reverse es ++ (Straight ∷ []))) (append_assoc (reverse r) (a ∷ []) (z ∷ []))
    ∙ along_join z (reverse r) a (z ∷ []) (reverse es) (Straight ∷ []) (length-reverse es ∙ h ∙ ap suc (sym (length-reverse r)))
    ∙ ap (λ l. l ++ (side a z Straight ∷ [])) (run-back a r z es h)))
    (chain (M.after SameSide alike_self (side a z Straight ∷ []) (backwards (along a (r ++ (z ∷ [])) es)))
    (M.before SameSide alike_self (along a (r ++ (z ∷ [])) es) (each turned empty)))

-- ---- a ring that is cut from a to z
redeal : {n n' f f' w w' : List Side} {d : Side} → Match SameSide n n' → Match SameSide f f' → Match SameSide w' w → SidesShared n' f' w' d
    → SidesShared n f w d
redeal g h k e = record { one = e.one; two = e.two; first_has = chain g e.first_has; second_has = chain h e.second_has; both = chain e.both k }

pub dealt_both : {n f w : List Side} {d : Side} → SidesShared n f w d → Match SameSide (f ++ n) (d ∷ d ∷ w)
dealt_both {n} {f} {w} {d} e =
    chain (M.after SameSide alike_self n e.second_has)
    (chain (M.before SameSide alike_self (d ∷ e.two) e.first_has)
    (each same (chain (M.commute SameSide alike_self e.two (d ∷ e.one)) (each same e.both))))

two-parts : (w u : Bool) (a : GridPoint) (x : List GridPoint) (z : GridPoint) (y : List GridPoint) (es fs : List EdgeMark) → length es ≡ suc (length x)
    → length fs ≡ suc (length y)
    → SidesShared (sides (oriented u (a ∷ (x ++ (z ∷ []))) es)) (sides (oriented w (z ∷ (y ++ (a ∷ []))) fs)) (around (a ∷ (x ++ (z ∷ y))) (es ++ fs))
    (side a z Straight)
unfolding around
two-parts w u a x z y es fs h k =
    let one = along a (x ++ (z ∷ [])) es in
    let two = along z (y ++ (a ∷ [])) fs in
    record {
      one = one;
      two = two;
      first_has =
          chain (oriented-sides u a x z es h)
          (chain (M.commute SameSide alike_self one (side z a Straight ∷ [])) (each turned (M.whole SameSide alike_self one)));
      second_has = chain (oriented-sides w z y a fs k) (M.commute SameSide alike_self two (side a z Straight ∷ []));
      both = equal (sym (ap (λ l. along a l (es ++ fs)) (append_assoc x (z ∷ y) (a ∷ [])) ∙ along_join a x z (y ++ (a ∷ [])) es fs h));
    }

cut-sides : (w u : Bool) (r : List GridPoint) (es : List EdgeMark) (k : ℕ) → 0 < k → k < length r → length es ≡ length r
    → SidesShared (sides (oriented u (first_points r k) (take k es))) (sides (oriented w (second_points r k) (drop k es))) (around r es)
    (side (get_or r 0 origin) (get_or r k origin) Straight)
cut-sides w u [] es k g h e = absurd (omega (arith, h))
cut-sides w u (a ∷ r) es zero g h e = absurd (omega (arith, g))
cut-sides w u (a ∷ r) es (suc j) g h e =
    let z : GridPoint = get_or r j origin in
    let b : j < length r = le_of_suc-le-suc h in
    redeal
    (equal (ap (λ l. sides (oriented u (a ∷ l) (take (suc j) es))) (take-suc r j origin b)))
    (equal (ap (λ l. sides (oriented w (l ++ (a ∷ [])) (drop (suc j) es))) (drop-cons r j origin b)))
    (equal (ap (λ l. around (a ∷ l) (take (suc j) es ++ drop (suc j) es)) (ap (λ l. take j r ++ l) (sym (drop-cons r j origin b)) ∙ take-append-drop j r)
    ∙ ap (around (a ∷ r)) (take-append-drop (suc j) es)))
    (two-parts w u a (take j r) z (drop (suc j) r) (take (suc j) es) (drop (suc j) es)
    (omega (arith, length-take (suc j) es, length-take j r, e)) (omega (arith, length-drop (suc j) es, length-drop (suc j) r, e)))

-- ---- the law, of a cut from the corner v of p to the place k after v
pub deals : (p : Part) (v k : ℕ) → v < length p.points → 0 < k → k < length p.points → length p.edges ≡ length p.points
    → Deals (record { part = p; v = v; k = k })
unfolding second_part first_part make_sub_polygon diagonal
deals p v k b g h e =
    let r = rotate v p.points in
    let es = rotate v p.edges in
    subst (λ d. SidesShared (sides (first_part p v k)) (sides (second_part p v k)) (sides p) d)
    (ap (λ a. side a (get_or r k origin) Straight) (rotate_at v p.points 0 b (omega arith) ∙ ap (at p.points) (none_more v))
    ∙ ap (λ z. side (at p.points v) z Straight) (rotate_at v p.points k b h))
    (redeal (M.whole SameSide alike_self (sides (first_part p v k))) (M.whole SameSide alike_self (sides (second_part p v k)))
    (sides_rotate v p.points p.edges e)
    (cut-sides (non_neg (polygon_area (second_points r k))) (non_neg (polygon_area (first_points r k))) r es k g
    (subst (λ n. k < n) (sym (length-rotate v p.points)) h) (length-rotate v p.edges ∙ e ∙ sym (length-rotate v p.points))))
  where
    none_more : (v : ℕ) → v + 0 ≡ v
    none_more v = omega arith
