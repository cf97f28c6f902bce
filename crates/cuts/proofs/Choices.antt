-- THEOREM `chosen`. For every set of limits, of a ring of 3 corners or more that is split: each cut of the log starts at the worst corner of its part, the
-- last of equal ones; this corner is bad; and the cut ends where the best diagonal from it does.
-- THEOREM `excused`. If the ring's corners are on the sheet, so that no measure is a NaN: a piece has a bad corner only if the cuts are spent or no diagonal
-- from its worst corner meets the rule. (A ring on the sheet has one worst corner: `worst-only` of crate corner.)
use Prim.Native.Nat.{ℕ, suc, ◌≤◌, ◌<◌}
use native.Mathlib.Omega.{arith}
use mathlib.Core.Path.{◌≡◌}
use mathlib.Core.Logic.{◌⊎◌, inl, inr}
use mathlib.Core.Option.{none}
use mathlib.Core.List.{List, [], ◌∷◌}
use lib.ListN.{length}
use lib.Dec.{T}
use Rattle.laws.specs.All.{All}
use Rattle.laws.proofs.Lists.{all_snoc, all-weaken}
use Rattle.laws.proofs.Order.{lt-not-lt-f}
use Rattle.vector.specs.declared.GridPoint.{GridPoint}
use Rattle.vector.specs.Size.{OnSheet}
use Rattle.vector.proofs.Sheet.{places}
use Rattle.marks.specs.Part.{Part}
use Rattle.limits.specs.declared.Limits.{Limits}
use Rattle.corner.specs.Corner.{measure_at, bad, Worst}
use Rattle.corner.proofs.WorstCorner.{worst-is}
use Rattle.corner.proofs.Measured.{measure_at-is}
use Rattle.parts.specs.Cut.{rotate}
use Rattle.split.specs.Split.{Stack, split_bad_vertices}
use Rattle.cuts.specs.Counts.{Sound}
use Rattle.split.specs.Diagonals.{NoneMeets}
use Rattle.cuts.specs.Choices.{CutAtWorst, WhyUncut}
use Rattle.cuts.specs.Provenance.{Cornered}
use Rattle.cuts.proofs.Machine.{worst_of, is_bad, choice}
use Rattle.parts.proofs.Rotation.{length-rotate}
use Rattle.split.proofs.BestDiagonal.{no_diagonal}
use Rattle.cuts.proofs.Parts.{keep}
use Rattle.cuts.proofs.Corners.{corners_hold}

-- ---- at any time, c cuts made: each cut is chosen, and a piece whose worst corner is bad has a reason
record Reasoned (L : Limits) (c : ℕ) (p : Part) : Type 0 where
  pub worst : Worst p.points (worst_of p)
  pub why : T (is_bad L p) → (c ≡ L.cuts) ⊎ NoneMeets L (rotate (worst_of p) p.points)

record Choosing (L : Limits) (s : Stack) : Type 0 where
  pub most : s.cuts ≤ L.cuts
  pub cuts : All (CutAtWorst L) s.log
  pub pieces : All (Reasoned L s.cuts) s.pieces

-- a piece that went out while a cut was left did not go out because they were spent
still_reasoned : (L : Limits) (c : ℕ) → c < L.cuts → (p : Part) → Reasoned L c p → Reasoned L (suc c) p
still_reasoned L c h p r = record { worst = r.worst; why = λ t. go (r.why t) }
  where
    go : {X : Type 0} → (c ≡ L.cuts) ⊎ X → (suc c ≡ L.cuts) ⊎ X
    go (inl e) = absurd (omega arith)
    go (inr x) = inr x

reason : (L : Limits) (p : Part) (c : ℕ) → c ≤ L.cuts → (L.cuts ≤ c) ⊎ (choice L p ≡ none) → (c ≡ L.cuts) ⊎ NoneMeets L (rotate (worst_of p) p.points)
reason L p c m (inl h) = inl (omega arith)
reason L p c m (inr e) = inr (no_diagonal L (rotate (worst_of p) p.points) (length p.points) (length-rotate (worst_of p) p.points) e)

choosing : (L : Limits) (p : Part) → Sound p → Choosing L (split_bad_vertices L p)
choosing L p s =
    keep L (Choosing L)
    (λ p ps o c t l s g i.
    record {
      most = i.most;
      cuts = i.cuts;
      pieces =
          all_snoc (Reasoned L c) o p i.pieces
          (record { worst = worst-is p.points (omega (arith, s.three)); why = λ b. reason L p c i.most (g.why b) });
    })
    (λ p ps o c t l k f h i.
    record {
      most = h.left;
      cuts = (record { worst = f.worst; bad = h.bad; best = f.best }, i.cuts);
      pieces = all-weaken (Reasoned L c) (Reasoned L (suc c)) (still_reasoned L c h.left) o i.pieces;
    })
    p s (record { most = omega arith; cuts = tt; pieces = tt })

-- ---- on the sheet: if a corner is bad then the worst is
worst-bad : (L : Limits) (r : List GridPoint) (v j : ℕ) → Worst r v → All OnSheet r → j < length r → T (bad L (measure_at r j)) → T (bad L (measure_at r v))
unfolding bad
worst-bad L r v j w a h t = lt-not-lt-f L.corner (measure_at r j) (measure_at r v) (measure_at-is r v (places r a)).number t (w.above j h)

excuses : (L : Limits) (c : ℕ) (ps : List Part) → All (Reasoned L c) ps → All (Cornered OnSheet) ps → All (WhyUncut L c) ps
excuses L c [] d a = tt
excuses L c (p ∷ ps) d a = (
  record { v = worst_of p; worst = d.0.worst; why = λ j h t. d.0.why (worst-bad L p.points (worst_of p) j d.0.worst a.0 h t) },
  excuses L c ps d.1 a.1,
)

-- ---- the theorems
pub chosen : (L : Limits) (ring : Part) → Sound ring → All (CutAtWorst L) (split_bad_vertices L ring).log
chosen L ring s = (choosing L ring s).cuts

pub excused : (L : Limits) (ring : Part) → Sound ring → All OnSheet ring.points
    → All (WhyUncut L (split_bad_vertices L ring).cuts) (split_bad_vertices L ring).pieces
excused L ring s a =
    let t = split_bad_vertices L ring in
    excuses L t.cuts t.pieces (choosing L ring s).pieces (corners_hold L OnSheet ring s a).pieces
