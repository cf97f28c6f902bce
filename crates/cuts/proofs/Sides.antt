-- The sides of a part: as many as its corners, side i from its corner i to the next with the mark i; and those of a ring that starts elsewhere are the same.
use Prim.Native.Nat.{ℕ, zero, suc, ◌<◌}
use native.Mathlib.Nat.{le_of_suc-le-suc, suc_inj}
use native.Mathlib.Decide.{dec_lt}
use native.Mathlib.Omega.{arith}
use mathlib.Core.Path.{◌≡◌, refl, sym, ap, ◌∙◌, subst}
use mathlib.Core.List.{List, [], ◌∷◌, ◌++◌, append-nil, append_assoc}
use lib.ListN.{length, take, drop, get_or, get_or-append, length-append, length-take, length-drop, take-append-drop}
use lib.Seq.{get_or-append_seam}
use Rattle.vector.specs.declared.GridPoint.{GridPoint}
use Rattle.vector.specs.Grid.{at, origin}
use Rattle.marks.specs.declared.EdgeMark.{EdgeMark}
use Rattle.marks.specs.declared.EdgeMark.TheVariants.{Straight}
use Rattle.marks.specs.Part.{Part}
use Rattle.parts.specs.Cut.{rotate}
use Rattle.split.specs.Split.{Cut}
use Rattle.cuts.specs.Counts.{Sound}
use Rattle.cuts.specs.Provenance.{Side, side, along, around, sides, diagonal, SameSide, Match, chain}
use Rattle.parts.proofs.Rotation.{at_place, at-end}
use Rattle.cuts.proofs.Match as M
use Rattle.cuts.proofs.Match.{alike_self}

-- ---- a diagonal is straight
pub diagonal-straight : (c : Cut) → (diagonal c).mark ≡ Straight
unfolding diagonal
diagonal-straight c = refl

-- ---- by place
along-at : (a : GridPoint) (r : List GridPoint) (es : List EdgeMark) (i : ℕ) (d : Side) → i < length r → i < length es
    → get_or (along a r es) i d ≡ side (get_or (a ∷ r) i origin) (get_or r i origin) (get_or es i Straight)
unfolding along
along-at a [] es i d h k = absurd (omega (arith, h))
along-at a (b ∷ r) [] i d h k = absurd (omega (arith, k))
along-at a (b ∷ r) (e ∷ es) zero d h k = refl
along-at a (b ∷ r) (e ∷ es) (suc i) d h k = along-at b r es i d (le_of_suc-le-suc h) (le_of_suc-le-suc k)

next-at : (a : GridPoint) (r : List GridPoint) (i : ℕ) → i < suc (length r) → get_or (r ++ (a ∷ [])) i origin ≡ at (a ∷ r) (suc i)
next-at a r i h = go (dec_lt i (length r))
  where
    end : ¬ (i < length r) → length r ≡ i
    end g = omega arith

    go : Dec (i < length r) → get_or (r ++ (a ∷ [])) i origin ≡ at (a ∷ r) (suc i)
    go (yes g) = get_or-append r (a ∷ []) origin i g ∙ sym (at_place (a ∷ r) (suc i) (omega arith))
    go (no g) = subst (λ n. get_or (r ++ (a ∷ [])) n origin ≡ at (a ∷ r) (suc n)) (end g) (get_or-append_seam r a [] origin ∙ sym (at-end a r))

around-at : (r : List GridPoint) (es : List EdgeMark) (i : ℕ) (d : Side) → length es ≡ length r → i < length r
    → get_or (around r es) i d ≡ side (at r i) (at r (suc i)) (get_or es i Straight)
unfolding around
around-at [] es i d e h = absurd (omega (arith, h))
around-at (a ∷ r) es i d e h =
    along-at a (r ++ (a ∷ [])) es i d (omega (arith, length-append r (a ∷ []))) (omega (arith, e))
    ∙ ap (λ p. side p (get_or (r ++ (a ∷ [])) i origin) (get_or es i Straight)) (get_or-append (a ∷ r) (a ∷ []) origin i h ∙ sym (at_place (a ∷ r) i h))
    ∙ ap (λ p. side (at (a ∷ r) i) p (get_or es i Straight)) (next-at a r i h)

along-length : (a : GridPoint) (r : List GridPoint) (es : List EdgeMark) → length es ≡ length r → length (along a r es) ≡ length r
unfolding along
along-length a [] es e = refl
along-length a (b ∷ r) [] e = absurd (omega (arith, e))
along-length a (b ∷ r) (f ∷ es) e = ap suc (along-length b r es (suc_inj e))

around-length : (r : List GridPoint) (es : List EdgeMark) → length es ≡ length r → length (around r es) ≡ length r
unfolding around
around-length [] es e = refl
around-length (a ∷ r) es e = along-length a (r ++ (a ∷ [])) es (e ∙ sym closed) ∙ closed
  where
    closed : length (r ++ (a ∷ [])) ≡ suc (length r)
    closed = omega (arith, length-append r (a ∷ []))

pub side-count : (p : Part) → Sound p → length (sides p) ≡ length p.points
side-count p s = around-length p.points p.edges s.edged

pub side-at : (p : Part) → Sound p → (i : ℕ) (d : Side) → i < length p.points
    → get_or (sides p) i d ≡ side (at p.points i) (at p.points (suc i)) (get_or p.edges i Straight)
side-at p s i d h = around-at p.points p.edges i d s.edged h

-- ---- a path from a by r to b, and on by s
pub along_join : (a : GridPoint) (r : List GridPoint) (b : GridPoint) (s : List GridPoint) (es fs : List EdgeMark) → length es ≡ suc (length r)
    → along a (r ++ (b ∷ s)) (es ++ fs) ≡ along a (r ++ (b ∷ [])) es ++ along b s fs
unfolding along
along_join a [] b s [] fs h = absurd (omega (arith, h))
along_join a [] b s (e ∷ []) fs h = refl
along_join a [] b s (e ∷ f ∷ es) fs h = absurd (omega (arith, h))
along_join a (c ∷ r) b s [] fs h = absurd (omega (arith, h))
along_join a (c ∷ r) b s (e ∷ es) fs h = ap (λ l. side a c e ∷ l) (along_join c r b s es fs (suc_inj h))

-- ---- a ring that starts elsewhere
turn_on : (xs ys : List GridPoint) (es fs : List EdgeMark) → length es ≡ length xs → length fs ≡ length ys
    → Match SameSide (around (xs ++ ys) (es ++ fs)) (around (ys ++ xs) (fs ++ es))
unfolding around
turn_on [] ys [] fs h k = M.equal SameSide alike_self (ap (λ l. around l fs) (sym (append-nil ys)) ∙ ap (around (ys ++ [])) (sym (append-nil fs)))
turn_on [] ys (e ∷ es) fs h k = absurd (omega (arith, h))
turn_on (a ∷ xs) [] es [] h k = M.equal SameSide alike_self (ap (λ l. around l (es ++ [])) (append-nil (a ∷ xs)) ∙ ap (around (a ∷ xs)) (append-nil es))
turn_on (a ∷ xs) [] es (f ∷ fs) h k = absurd (omega (arith, k))
turn_on (a ∷ xs) (b ∷ ys) es fs h k =
    chain (M.equal SameSide alike_self (ap (λ l. along a l (es ++ fs)) (append_assoc xs (b ∷ ys) (a ∷ [])) ∙ along_join a xs b (ys ++ (a ∷ [])) es fs h))
    (chain (M.commute SameSide alike_self (along a (xs ++ (b ∷ [])) es) (along b (ys ++ (a ∷ [])) fs))
    (M.equal SameSide alike_self (sym (ap (λ l. along b l (fs ++ es)) (append_assoc ys (a ∷ xs) (b ∷ [])) ∙ along_join b ys a (xs ++ (b ∷ [])) fs es k))))

pub sides_rotate : (v : ℕ) (r : List GridPoint) (es : List EdgeMark) → length es ≡ length r → Match SameSide (around (rotate v r) (rotate v es)) (around r es)
sides_rotate v r es h =
    chain
    (turn_on (drop v r) (take v r) (drop v es) (take v es) (omega (arith, h, length-drop v r, length-drop v es))
    (omega (arith, h, length-take v r, length-take v es)))
    (M.equal SameSide alike_self (ap (λ l. around l (take v es ++ drop v es)) (take-append-drop v r) ∙ ap (around r) (take-append-drop v es)))
