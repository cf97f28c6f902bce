-- How long what is drawn of a step is, and the lead line of its block; and the room that both need.
use Prim.Native.Nat.{ℕ, ◌+◌, ◌*◌, ◌≤◌}
use mathlib.Core.Path.{◌≡◌, refl, subst}
use mathlib.Core.Bool.{cond}
use mathlib.Core.List.{List, ◌++◌}
use native.Mathlib.Omega.{arith}
use lib.ListN.{length, length-append, length-take}
use lib.IntN.{ℤ}
use lib.Ieee.{Float}
use lib.Dec.{eqb}
use Rattle.std.specs.Prelude.{Result, Ok, Err}
use Rattle.text.specs.declared.Page.{Page}
use Rattle.text.specs.Page.{Room, Wrote}
use Rattle.blocks.specs.declared.Block.{Block}
use Rattle.blocks.specs.declared.Block.TheVariants.{Ring, Chain}
use Rattle.blocks.specs.declared.Reading.{Reading}
use Rattle.blocks.specs.declared.Refused.{Refused}
use Rattle.blocks.specs.Blocks.{number_of, points, read_block}
use Rattle.blocks.proofs.Counts.{few_points}
use Rattle.told.specs.Text.{Tells, CanTell}
use Rattle.job.specs.Run.{block_at}
use Rattle.scene.specs.Scene.{most_ring}
use Rattle.scene.proofs.Lengths.{ring-length, lead_length}
use Rattle.frame.specs.declared.Edges.{Edges}
use Rattle.frame.proofs.Lengths.{ended-length}
use Rattle.sketch.specs.Drawn.{cells_of, drawn, lead_of, lead_in, lead_at, most_step}

-- what is drawn is no longer than a ring
module _ (f : Edges) (t : Tells) (count : ℕ) (ps : List ℤ) (l : List Float) (rs cs : List ℕ) where
  drawn-length : CanTell t cs → count ≤ 60 → length (drawn f t count ps l rs cs) ≤ most_ring
  unfolding drawn
  drawn-length h k = go t
    where
      go : (u : Tells) → length (drawn f u count ps l rs cs) ≤ most_ring
      go Tells.Nothing = omega arith
      go (Tells.Ring n used v) =
          let z = cond (eqb v.code 0) (v.cells * 4) 0 in
          ring-length n v ps count k l rs (cells_of v cs) (omega (arith, length-take z cs, h.few))
      go (Tells.Block r) = omega (arith, ended-length f r.block (number_of r.why))

-- ---- the lead line of a block
-- a chain that was read has at most 60 points
pub few_in_chain : (b : List ℕ) (n : ℕ) (r : Reading) (count : ℕ) → read_block b n ≡ Ok r → r.block ≡ Chain count → count ≤ 60
few_in_chain b n r count e h = subst (λ (x : Block). points x ≤ 60) h (few_points b n r e)

lead_of-length : (ps : List ℤ) (b : Block) → points b ≤ 60 → length (lead_of ps b) ≤ 3275
unfolding lead_of
lead_of-length ps (Ring count size) h = omega arith
lead_of-length ps (Chain count) h = lead_length ps count h

lead_in-length : (b : List ℕ) (n : ℕ) (x : Result Reading Refused) → read_block b n ≡ x → length (lead_in x) ≤ 3275
unfolding lead_in
lead_in-length b n (Ok r) e = lead_of-length r.points r.block (few_points b n r e)
lead_in-length b n (Err x) e = omega arith

lead_length-at : (job : List ℕ) (i : ℕ) → length (lead_at job i) ≤ 3275
unfolding lead_at
lead_length-at job i = lead_in-length (block_at job i) i (read_block (block_at job i) i) refl

-- ---- both
module _ (p : Page) (f : Edges) (t : Tells) (count : ℕ) (ps : List ℤ) (l : List Float) (rs cs job : List ℕ) (i : ℕ) (h : CanTell t cs) (k : count ≤ 60) where
  abbrev both : List ℕ
  both = drawn f t count ps l rs cs ++ lead_at job i

  step-length : length both ≤ most_step
  step-length =
      omega (arith, length-append (drawn f t count ps l rs cs) (lead_at job i), drawn-length f t count ps l rs cs h k, lead_length-at job i)

  pub step-room : p.at + most_step ≤ length p.out.now → Room p both
  step-room m = record { fits = omega (arith, m, step-length) }

  pub step-end : {q : Page} → Wrote p both q → q.at ≤ p.at + most_step
  step-end w = omega (arith, w.text.place, step-length)
