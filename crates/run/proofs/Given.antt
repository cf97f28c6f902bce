-- What a turn of the loop does to what the reader gave: one block more, whole or the last (`from_on`), of which the text is written (`under_on`); and where
-- the run has ended, what was written is `printed` of the reader's own bytes (`gives`).
use Prim.Native.Nat.{ℕ, suc, ◌*◌, ◌≤◌, ◌<◌}
use mathlib.Core.Path.{◌≡◌, refl, sym, ap, ◌∙◌, subst}
use mathlib.Core.Bool.{true, false}
use mathlib.Core.Logic.{◌⊎◌, inl, inr}
use mathlib.Core.List.{List, ◌++◌}
use native.Mathlib.Omega.{arith}
use native.Mathlib.Decide.{dec_le}
use lib.ListN.{length, length-append}
use lib.IntN.{ℤ}
use lib.Ieee.{Float}
use Rattle.std.proofs.Common.{Some, None, IfSome, append-nil}
use Rattle.std.specs.declared.option.Option.{Option}
use Rattle.std.specs.Io.KnownBytes.{Consumes, Appends, IsAtEnd}
use Rattle.std.proofs.KnownBytes.{Consumes-nil, Consumes-trans, Appends-nil, Appends-trans}
use Rattle.stream.specs.Reads.{Reads}
use Rattle.told.specs.Text.{tells_of, told_text}
use Rattle.told.specs.declared.Told.{Told}
use Rattle.state.specs.declared.State.{State}
use Rattle.job.specs.declared.Stepped.{Stepped}
use Rattle.job.specs.Step.{step_of, Steps}
use Rattle.job.specs.Run.{Bytes, start, no_points, no_nodes, no_rims, RunSoFar, ran, read_to, whole_run, printed}
use Rattle.job.proofs.Runs.{Went, outcome, not-both, read_more}
use Rattle.job.proofs.Printed.{settles, prints}
use Rattle.telling.specs.Reached.{Reached, Sends}
use Rattle.run.specs.declared.Job.{Job}
use Rattle.run.specs.Onward.{Begins, Reading}
use Rattle.run.specs.Given.{Whole, Broken, Gives, From, UnderWay}
use Rattle.run.proofs.Reaching.{begun, none_written, turned, wrote, wrote_onward, after, same_text}

-- a run that has ended within l is that of any bytes that begin with l
module _ (l m : List ℕ) (i : ℕ) (h : 512 * i ≤ length l) (e : (ran (read_to l i)).state.ended ≡ true) where
  whole_front : whole_run (l ++ m) ≡ whole_run l
  whole_front =
      let q = read_more l m i h in
      sym (settles (l ++ m) i (ap (λ (bs : List (List ℕ)). (ran bs).state.ended) q ∙ e)) ∙ ap ran q ∙ settles l i e

module _ (s : State) (ps : List ℤ) (l : List Float) (rs : List ℕ) (r : Reached s ps l rs) (e : s.ended ≡ false) (b : List ℕ) (f : Bytes b)
    (h : length b ≤ 512) (x : Stepped) (qs : List ℤ) (m : List Float) (w p : List ℕ) (t : Steps (step_of s ps l rs b) x qs m w p) where
  -- a run goes on over a whole block alone
  whole-block : x.state.ended ≡ false → 512 ≤ length b
  whole-block g = by (outcome s ps l rs b)
    where
      by : ((step_of s ps l rs b).state.ended ≡ true) ⊎ Went s b (step_of s ps l rs b) → 512 ≤ length b
      by (inl z) = not-both x.state.ended (ap (λ (q : State). q.ended) t.state ∙ z) g
      by (inr v) = v.whole

  ended-there : x.state.ended ≡ true → (ran (read_to (r.input ++ b) (suc r.blocks))).state.ended ≡ true
  unfolding turned
  ended-there g = ap (λ (q : State). q.ended) (sym (turned s ps l rs r e b f h x qs m w p t).state) ∙ g

  -- where it has ended, no byte after the block matters
  same_whole : x.state.ended ≡ true → (a c : Option (List ℕ)) → Consumes a c (r.input ++ b) → (length b < 512 → IsAtEnd c)
      → IfSome a (λ xs. whole_run xs ≡ whole_run (r.input ++ b))
  same_whole g None c q z = tt
  same_whole g (Some xs) None q z = absurd q
  same_whole g (Some xs) (Some ys) q z = go (dec_le 512 (length b))
    where
      go : Dec (512 ≤ length b) → whole_run xs ≡ whole_run (r.input ++ b)
      go (yes k) = ap whole_run q ∙ whole_front (r.input ++ b) ys (suc r.blocks) (omega (arith, length-append r.input b, r.whole e, k)) (ended-there g)
      go (no k) = ap whole_run (q ∙ ap (λ (zs : List ℕ). (r.input ++ b) ++ zs) (z (omega arith)) ∙ append-nil (r.input ++ b))

  pub from_on : (old now new : Option (List ℕ)) → From old now s.ended r.input → Reads now new b → From old new x.state.ended (r.input ++ b)
  from_on old now new u (inl n) =
      let all = Consumes-trans old now new r.input b (u.going e) n.bytes in
      record { going = λ g. all; done = λ g. inl (record { bytes = all; same = same_whole g old new all n.ended }) }
  from_on old now new u (inr n) =
      record {
        going = λ g. absurd (omega (arith, whole-block g, n.part, n.count));
        done = λ g. inr (record { blocks = r.blocks; front = r.input; part = b; mid = now; all = refl; whole = r.whole e; bytes = u.going e; torn = n });
      }

-- before the first block
begun_under : (old out : Option (List ℕ)) → UnderWay old old out out start no_points no_nodes no_rims 0
unfolding ran read_to begun none_written
begun_under old out =
    record { wrote = none_written; read = record { going = λ e. Consumes-nil old; done = λ e. not-both false e refl }; text = Appends-nil out }

pub begins_under : (j : Job) → Begins j → (old out : Option (List ℕ)) → UnderWay old old out out j.state j.ring j.nodes j.rims 0
begins_under j b old out = rw (b.state, b.points, b.nodes, b.rims) (begun_under old out)

-- one block on
pub under_on : (j k : Job) (t : Told) (old now new out cur end : Option (List ℕ)) (sent m : ℕ) → UnderWay old now out cur j.state j.ring j.nodes j.rims sent
    → Reading now new j k t → Sends sent (told_text (tells_of t) k.cells) m → Appends cur end (told_text (tells_of t) k.cells)
    → UnderWay old new out end k.state k.ring k.nodes k.rims m
unfolding turned wrote wrote_onward
under_on j k t old now new out cur end sent m u n d a =
    let o = n.onward in
    let x : Stepped = record { state = k.state; told = t } in
    let r = u.wrote.reached in
    let grown = after j.state j.ring j.nodes j.rims r o.going o.block o.bytes o.few in
    let told = same_text j.state j.ring j.nodes j.rims r o.going o.block o.bytes o.few x k.ring k.nodes k.rims k.cells o.steps in
    let all = Appends-trans out cur end (ran (read_to r.input r.blocks)).text (told_text (tells_of t) k.cells) u.text a in
    record {
      wrote = wrote_onward j k t o sent u.wrote m d;
      read = from_on j.state j.ring j.nodes j.rims r o.going o.block o.bytes o.few x k.ring k.nodes k.rims k.cells o.steps old now new u.read n.read;
      text = subst (Appends out end) (ap (λ (ys : List ℕ). (ran (read_to r.input r.blocks)).text ++ ys) told ∙ ap (λ (q : RunSoFar). q.text) (sym grown)) all;
    }

-- where the run has ended
whole_printed : (old new : Option (List ℕ)) (l : List ℕ) → Whole whole_run old new l → Whole printed old new l
unfolding printed
whole_printed old new l w = record { bytes = w.bytes; same = same old w.same }
  where
    same : (a : Option (List ℕ)) → IfSome a (λ xs. whole_run xs ≡ whole_run l) → IfSome a (λ xs. printed xs ≡ printed l)
    same None q = tt
    same (Some xs) q = ap (λ (c : RunSoFar). c.text) q

pub gives : (s : State) (ps : List ℤ) (l : List Float) (rs : List ℕ) (old now out cur : Option (List ℕ)) (sent : ℕ) → UnderWay old now out cur s ps l rs sent
    → s.ended ≡ true → Gives printed old now out cur sent
gives s ps l rs old now out cur sent u e =
    let r = u.wrote.reached in
    let p = prints r.input r.blocks (ap (λ (z : State). z.ended) (sym r.state) ∙ e) in
    record { input = r.input; bytes = r.bytes; count = u.wrote.text ∙ ap length p; written = subst (Appends out cur) p u.text; read = own (u.read.done e) }
  where
    own : Whole whole_run old now u.wrote.reached.input ⊎ Broken old now u.wrote.reached.input
        → Whole printed old now u.wrote.reached.input ⊎ Broken old now u.wrote.reached.input
    own (inl w) = inl (whole_printed old now _ w)
    own (inr b) = inr b
