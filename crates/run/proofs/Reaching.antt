-- What a turn of the loop does to what was reached: one block more (`turned`), of which the text is owed (`owes`) and, once it is sent, was written
-- (`wrote`); no run goes on past 65,536 blocks; and where it has ended, `printed` of the input was written (`finished`), and the nodes are those of its run
-- (`listed`).
use Prim.Native.Nat.{ℕ, suc, ◌-◌, ◌*◌, ◌≤◌, ◌<◌}
use mathlib.Core.Path.{◌≡◌, refl, sym, ap, ◌∙◌}
use mathlib.Core.Bool.{true, false, cond}
use mathlib.Core.Logic.{◌⊎◌, inl, inr}
use mathlib.Core.List.{List, [], ◌++◌}
use native.Mathlib.Omega.{arith}
use native.Mathlib.Decide.{dec_le}
use lib.ListN.{length, length-append}
use lib.IntN.{ℤ}
use lib.Ieee.{Float, binary64, of_bits}
use Rattle.laws.specs.Double.{naught}
use Rattle.told.specs.Text.{tells_of, told_text}
use Rattle.state.specs.declared.State.{State}
use Rattle.job.specs.declared.Stepped.{Stepped}
use Rattle.job.specs.Step.{text_of, step_of, Steps, CanStep}
use Rattle.job.specs.Run.{Bytes, start, no_points, no_nodes, no_rims, RunSoFar, onward, ran, read_to}
use Rattle.job.proofs.Runs.{Went, outcome, number-below, not-both, goes, ran-held, read_more, read-added, joined_bytes}
use Rattle.job.proofs.Printed.{one_more, prints, counted, in_time}
use Rattle.told.specs.declared.Told.{Told}
use Rattle.telling.specs.Reached.{Reached, Wrote, Owed, Sends, Finished, EndedWith}
use Rattle.run.specs.declared.Job.{Job}
use Rattle.run.specs.Onward.{Begins, Onward}

-- before the first block
unfoldable pub begun : Reached start no_points no_nodes no_rims
unfolding ran read_to
begun = record { input = []; blocks = 0; state = refl; points = refl; nodes = refl; rims = refl; bytes = λ i. omega arith; whole = λ e. refl }

pub zero_bits : of_bits binary64 0 ≡ naught
unfolding of_bits
zero_bits = refl

unfoldable pub none_written : Wrote start no_points no_nodes no_rims 0
unfolding ran read_to begun
none_written = record { reached = begun; text = refl; bound = omega arith }

module _ (j : Job) (b : Begins j) where
  pub begins_reached : Reached j.state j.ring j.nodes j.rims
  begins_reached = rw (b.state, b.points, b.nodes, b.rims) begun

  pub begins_unwritten : Wrote j.state j.ring j.nodes j.rims 0
  begins_unwritten = rw (b.state, b.points, b.nodes, b.rims) none_written

module _ (s : State) (ps : List ℤ) (l : List Float) (rs : List ℕ) (r : Reached s ps l rs) where
  -- a step can be made
  pub can_step : CanStep s ps
  can_step =
      let h = ran-held (read_to r.input r.blocks) in
      record { few = omega (arith, ap (λ (z : State). z.count) r.state, h.few); long = ap length r.points ∙ h.long }

  unfoldable pub listed : s.ended ≡ true → EndedWith s.used l
  listed e =
      let f : (ran (read_to r.input r.blocks)).state.ended ≡ true = ap (λ (z : State). z.ended) (sym r.state) ∙ e in
      record { input = r.input; blocks = r.blocks; bytes = r.bytes; ended = f; count = ap (λ (z : State). z.used) r.state; nodes = r.nodes }

  module _ (e : s.ended ≡ false) where
    pub few-blocks : r.blocks ≤ 65536
    few-blocks = go (dec_le r.blocks 65536)
      where
        go : Dec (r.blocks ≤ 65536) → r.blocks ≤ 65536
        go (yes h) = h
        go (no h) = not-both s.ended (ap (λ (z : State). z.ended) r.state ∙ in_time r.input r.bytes r.blocks (omega arith)) e

    -- the number of the next block falls short of 65,537 by ever less, until the run has ended
    pub falls : (b : List ℕ) → Bytes b → (x : State) → x ≡ (step_of s ps l rs b).state
        → cond x.ended 0 (65537 - x.block) < cond s.ended 0 (65537 - s.block)
    falls b f x q = rw e (by (outcome s ps l rs b))
      where
        now : s.block ≡ r.blocks
        now = ap (λ (z : State). z.block) r.state ∙ counted r.input r.blocks (ap (λ (z : State). z.ended) (sym r.state) ∙ e)

        by : ((step_of s ps l rs b).state.ended ≡ true) ⊎ Went s b (step_of s ps l rs b) → cond x.ended 0 (65537 - x.block) < 65537 - s.block
        by (inl z) = rw (ap (λ (y : State). y.ended) q ∙ z) (omega (arith, now, few-blocks))
        by (inr w) = rw (ap (λ (y : State). y.ended) q ∙ w.going) (omega (arith, ap (λ (y : State). y.block) q, w.next, number-below s ps l rs b f w))

    module _ (b : List ℕ) (f : Bytes b) (h : length b ≤ 512) where
      -- the run over the longer input
      longer : read_to (r.input ++ b) r.blocks ≡ read_to r.input r.blocks
      longer = read_more r.input b r.blocks (omega (arith, r.whole e))

      pub after : ran (read_to (r.input ++ b) (suc r.blocks)) ≡ record {
        state = (step_of s ps l rs b).state;
        points = (step_of s ps l rs b).points;
        nodes = (step_of
            s ps l rs b).nodes;
        rims = (step_of s ps l rs b).rims;
        text = (ran (read_to r.input r.blocks)).text ++ text_of (step_of s ps l rs b);
      }
      after =
          one_more (r.input ++ b) r.blocks
          ∙ (λ i. onward (ran (longer i)) (read-added r.input b r.blocks (r.whole e) h i))
          ∙ goes (ran (read_to r.input r.blocks)) b (ap (λ (z : State). z.ended) (sym r.state) ∙ e)
          ∙ (let a = sym r.state in
          let q = sym r.points in
          let d = sym r.nodes in
          let w = sym r.rims in
          λ i. record {
            state = (step_of (a i) (q i) (d i) (w i) b).state;
            points = (step_of (a i) (q i) (d i) (w i) b).points;
            nodes = (step_of (a i) (q i) (d i)
                (w i) b).nodes;
            rims = (step_of (a i) (q i) (d i) (w i) b).rims;
            text = (ran (read_to r.input r.blocks)).text ++ text_of
                (step_of (a i) (q i) (d i) (w i) b);
          })

      module _ (x : Stepped) (qs : List ℤ) (m : List Float) (w p : List ℕ) (t : Steps (step_of s ps l rs b) x qs m w p) where
        pub still-whole : x.state.ended ≡ false → length (r.input ++ b) ≡ 512 * suc r.blocks
        still-whole g = by (outcome s ps l rs b)
          where
            by : ((step_of s ps l rs b).state.ended ≡ true) ⊎ Went s b (step_of s ps l rs b) → length (r.input ++ b) ≡ 512 * suc r.blocks
            by (inl z) = not-both x.state.ended (ap (λ (q : State). q.ended) t.state ∙ z) g
            by (inr w) = simp length-append (omega (arith, w.whole, r.whole e))

        unfoldable pub turned : Reached x.state qs m w
        turned =
            record {
              input = r.input ++ b;
              blocks = suc r.blocks;
              state = t.state ∙ ap (λ (q : RunSoFar). q.state) (sym after);
              points = t.points ∙ ap (λ (q : RunSoFar). q.points) (sym after);
              nodes = t.nodes ∙ ap (λ (q : RunSoFar). q.nodes) (sym after);
              rims = t.rims ∙ ap (λ (q : RunSoFar). q.rims) (sym after);
              bytes = joined_bytes r.input r.bytes b f;
              whole = still-whole;
            }

        pub same_text : told_text (tells_of x.told) p ≡ text_of (step_of s ps l rs b)
        same_text = λ i. told_text (t.told i) (t.cells i)

module _ (s : State) (ps : List ℤ) (l : List Float) (rs : List ℕ) (sent : ℕ) (r : Wrote s ps l rs sent) where
  -- where the run has ended, all is written
  pub finished : s.ended ≡ true → Finished sent
  finished e =
      let g = r.reached in
      record {
        input = g.input;
        bytes = g.bytes;
        all = r.text ∙ ap length (prints g.input g.blocks (ap (λ (z : State). z.ended) (sym g.state) ∙ e));
      }

  module _ (e : s.ended ≡ false) (b : List ℕ) (f : Bytes b) (h : length b ≤ 512) (x : Stepped) (qs : List ℤ) (m : List Float) (w p : List ℕ)
      (t : Steps (step_of s ps l rs b) x qs m w p) where
    -- the text of what the step tells is owed
    pub owes : Owed sent (told_text (tells_of x.told) p)
    owes =
        record {
          state = s;
          points = ps;
          nodes = l;
          rims = rs;
          block = b;
          wrote = r;
          going = e;
          few = omega (arith, r.bound, few-blocks s ps l rs r.reached e);
          text = same_text s ps l rs r.reached e b f h x qs m w p t;
        }

    -- and once it is sent, it was written
    unfoldable pub wrote : (n : ℕ) → Sends sent (told_text (tells_of x.told) p) n → Wrote x.state qs m w n
    unfolding turned
    wrote n d =
        let g = r.reached in
        let a = after s ps l rs g e b f h in
        let c = same_text s ps l rs g e b f h x qs m w p t in
        record {
          reached = turned s ps l rs g e b f h x qs m w p t;
          text =
              let k = length-append (ran (read_to g.input g.blocks)).text (text_of (step_of s ps l rs b)) in
              omega (arith, r.text, d.count, ap length c, k, ap (λ (q : RunSoFar). length q.text) a);
          bound = omega (arith, r.bound, d.count, d.short);
        }

-- a job under way, one block on
module _ (j k : Job) (t : Told) (n : Onward j k t) where
  module _ (r : Reached j.state j.ring j.nodes j.rims) where
    pub falls_onward : cond k.state.ended 0 (65537 - k.state.block) < cond j.state.ended 0 (65537 - j.state.block)
    falls_onward = falls j.state j.ring j.nodes j.rims r n.going n.block n.bytes k.state n.steps.state

    pub reached_onward : Reached k.state k.ring k.nodes k.rims
    reached_onward =
        turned j.state j.ring j.nodes j.rims r n.going n.block n.bytes n.few (record { state = k.state; told = t }) k.ring k.nodes k.rims k.cells n.steps

  module _ (sent : ℕ) (w : Wrote j.state j.ring j.nodes j.rims sent) where
    pub owes_onward : Owed sent (told_text (tells_of t) k.cells)
    owes_onward =
        owes j.state j.ring j.nodes j.rims sent w n.going n.block n.bytes n.few (record { state = k.state; told = t }) k.ring k.nodes k.rims k.cells n.steps

    unfoldable pub wrote_onward : (m : ℕ) → Sends sent (told_text (tells_of t) k.cells) m → Wrote k.state k.ring k.nodes k.rims m
    wrote_onward =
        wrote j.state j.ring j.nodes j.rims sent w n.going n.block n.bytes n.few (record { state = k.state; told = t }) k.ring k.nodes k.rims k.cells n.steps
