-- Where the parts and their sides come from, at any time: over the parts that stand and the pieces.
use Prim.Native.Nat.{ℕ}
use native.Mathlib.Omega.{arith}
use mathlib.Core.Path.{◌≡◌, refl, sym, ◌∙◌}
use mathlib.Core.List.{List, [], ◌∷◌, ◌++◌, append-nil, append_assoc}
use Rattle.laws.specs.All.{All}
use Rattle.laws.proofs.Lists.{all_left}
use Rattle.marks.specs.Part.{Part}
use Rattle.limits.specs.declared.Limits.{Limits}
use Rattle.parts.specs.Cut.{first_part, second_part}
use Rattle.split.specs.Split.{Stack, split_bad_vertices}
use Rattle.cuts.specs.Counts.{Sound}
use Rattle.cuts.specs.Provenance.{Side, sides, all_sides, diagonal, diagonals, made, spent_parts, SameSide, same, Match, each, swap, chain}
use Rattle.cuts.specs.Provenance.{SidesShared, Deals, Among, FromEarlierCuts}
use Rattle.cuts.proofs.Machine.{worst_of, cut}
use Rattle.cuts.proofs.Parts.{SoundCut, keep}
use Rattle.cuts.proofs.Match as M
use Rattle.cuts.proofs.Match.{alike_self, among_match}
use Rattle.cuts.proofs.Dealing.{deals, dealt_both}

pub record Tracing (ring : Part) (s : Stack) : Type 0 where
  pub parts : Match ◌≡◌ (spent_parts s.log ++ (s.parts ++ s.pieces)) (ring ∷ made s.log)
  pub sides : Match SameSide (all_sides s.parts ++ all_sides s.pieces) (diagonals s.log ++ sides ring)
  pub grown : FromEarlierCuts ring s.log
  pub deals : All Deals s.log

itself : (p : Part) → p ≡ p
itself p = refl

sides_snoc : (l : List Part) (p : Part) → Match SameSide (all_sides (l ++ (p ∷ []))) (sides p ++ all_sides l)
sides_snoc [] p = M.whole SameSide alike_self (sides p ++ [])
sides_snoc (q ∷ l) p =
    chain (M.before SameSide alike_self (sides q) (sides_snoc l p))
    (chain (M.equal SameSide alike_self (sym (append_assoc (sides q) (sides p) (all_sides l))))
    (chain (M.after SameSide alike_self (all_sides l) (M.commute SameSide alike_self (sides q) (sides p)))
    (M.equal SameSide alike_self (append_assoc (sides p) (sides q) (all_sides l)))))

-- ---- a part goes out
out-parts : (S : List Part) (p : Part) (ps o R : List Part) → Match ◌≡◌ (S ++ ((p ∷ ps) ++ o)) R → Match ◌≡◌ (S ++ (ps ++ (o ++ (p ∷ [])))) R
out-parts S p ps o R h =
    chain (M.before ◌≡◌ itself S (chain (M.equal ◌≡◌ itself (sym (append_assoc ps o (p ∷ [])))) (M.commute ◌≡◌ itself (ps ++ o) (p ∷ [])))) h

out-sides : (p : Part) (ps o : List Part) (D : List Side) → Match SameSide (all_sides (p ∷ ps) ++ all_sides o) D
    → Match SameSide (all_sides ps ++ all_sides (o ++ (p ∷ []))) D
out-sides p ps o D h =
    chain (M.before SameSide alike_self (all_sides ps) (sides_snoc o p))
    (chain (M.equal SameSide alike_self (sym (append_assoc (all_sides ps) (sides p) (all_sides o))))
    (chain (M.after SameSide alike_self (all_sides o) (M.commute SameSide alike_self (all_sides ps) (sides p))) h))

-- ---- a part is cut into a, first, and b
cut_parts : (S : List Part) (p b a : Part) (ps o : List Part) (ring : Part) (R : List Part) → Match ◌≡◌ (S ++ ((p ∷ ps) ++ o)) (ring ∷ R)
    → Match ◌≡◌ ((p ∷ S) ++ ((b ∷ a ∷ ps) ++ o)) (ring ∷ b ∷ a ∷ R)
cut_parts S p b a ps o ring R h =
    chain (M.commute ◌≡◌ itself (p ∷ S) (b ∷ a ∷ (ps ++ o)))
    (chain (each refl (each refl (chain (M.commute ◌≡◌ itself (ps ++ o) (p ∷ S)) (chain (M.sink ◌≡◌ itself p S (ps ++ o)) h))))
    (chain (each refl swap) swap))

cut-sides : (p b a : Part) (ps o : List Part) (d : Side) (D : List Side) → SidesShared (sides a) (sides b) (sides p) d
    → Match SameSide (all_sides (p ∷ ps) ++ all_sides o) D
    → Match SameSide (all_sides (b ∷ a ∷ ps) ++ all_sides o) (d ∷ d ∷ D)
cut-sides p b a ps o d D e h =
    chain
    (M.after SameSide alike_self (all_sides o)
    (chain (M.equal SameSide alike_self (sym (append_assoc (sides b) (sides a) (all_sides ps)))) (M.after SameSide alike_self (all_sides ps) (dealt_both e))))
    (each same (each same h))

pub cut-deals : {L : Limits} {p : Part} {k : ℕ} → SoundCut L p k → Deals (cut p k)
cut-deals {L} {p} {k} f = deals p (worst_of p) k f.worst.place (omega (arith, f.low)) (omega (arith, f.high)) f.sound.edged

pub tracing : (L : Limits) (ring : Part) → Sound ring → Tracing ring (split_bad_vertices L ring)
tracing L ring s =
    keep L (Tracing ring)
    (λ p ps o c t l s g i.
    record {
      parts = out-parts (spent_parts l) p ps o (ring ∷ made l) i.parts;
      sides = out-sides p ps o (diagonals l ++ sides ring) i.sides;
      grown = i.grown;
      deals = i.deals;
    })
    (λ p ps o c t l k f h i.
    let d = cut-deals f in
    let a = first_part p (worst_of p) k in
    let b = second_part p (worst_of p) k in
    let K = Among (diagonals l ++ sides ring) in
    record {
      parts = cut_parts (spent_parts l) p b a ps o ring (made l) i.parts;
      sides = cut-sides p b a ps o (diagonal (cut p k)) (diagonals l ++ sides ring) d i.sides;
      grown = (all_left K (sides p) (all_sides ps) (all_left K (sides p ++ all_sides ps) (all_sides o) (among_match i.sides)), i.grown);
      deals = (d, i.deals);
    })
    ring s
    (record {
      parts = M.whole ◌≡◌ itself (ring ∷ []);
      sides = M.equal SameSide alike_self (append-nil (sides ring ++ []) ∙ append-nil (sides ring));
      grown = tt;
      deals = tt;
    })
