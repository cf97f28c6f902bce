-- The loop of `sheet`: it begins with no block read (`begins_came`), a block more is what the reader gave (`came_on`), and where the run has ended, the lines
-- of its nodes are `sheeted` of the reader's own bytes (`gives`).
use Prim.Native.Nat.{ℕ}
use mathlib.Core.Path.{◌≡◌, refl, sym, ap, ◌∙◌, subst}
use mathlib.Core.Bool.{true, false}
use mathlib.Core.Logic.{◌⊎◌, inl, inr}
use mathlib.Core.List.{List}
use lib.ListN.{length}
use lib.IntN.{ℤ}
use lib.Ieee.{Float}
use Rattle.std.proofs.Common.{Some, None, IfSome, Result, Ok, Err, IfOk, OnOk}
use Rattle.std.specs.declared.option.Option.{Option}
use Rattle.std.specs.Io.KnownBytes.{Appends}
use Rattle.std.proofs.KnownBytes.{Consumes-nil}
use Rattle.told.specs.declared.Told.{Told}
use Rattle.state.specs.declared.State.{State}
use Rattle.job.specs.Run.{RunSoFar, start, no_points, no_nodes, no_rims, ran, read_to, whole_run}
use Rattle.job.proofs.Runs.{not-both}
use Rattle.listing.specs.Sheet.{lines}
use Rattle.sheet_lines.specs.Sheeted.{sheeted}
use Rattle.sheet_lines.proofs.Lines.{sheet_of}
use Rattle.run.specs.declared.Job.{Job}
use Rattle.run.specs.Onward.{Begins, Reading}
use Rattle.run.specs.Given.{Whole, Broken, Gives}
use Rattle.run.proofs.Reaching.{begun, turned, listed}
use Rattle.run.proofs.Given.{from_on}
use Rattle.sheet.specs.Came.{Came}

begun_came : (old : Option (List ℕ)) → Came old old start no_points no_nodes no_rims
unfolding ran read_to begun
begun_came old = record { reached = begun; read = record { going = λ e. Consumes-nil old; done = λ e. not-both false e refl } }

pub begins_came : (j : Job) → Begins j → (old : Option (List ℕ)) → Came old old j.state j.ring j.nodes j.rims
begins_came j b old = rw (b.state, b.points, b.nodes, b.rims) (begun_came old)

pub came_on : (j k : Job) (t : Told) (old now new : Option (List ℕ)) → Came old now j.state j.ring j.nodes j.rims → Reading now new j k t
    → Came old new k.state k.ring k.nodes k.rims
unfolding turned
came_on j k t old now new u n =
    let o = n.onward in
    record {
      reached = turned j.state j.ring j.nodes j.rims u.reached o.going o.block o.bytes o.few
          (record { state = k.state; told = t }) k.ring k.nodes k.rims k.cells o.steps;
      read =
          from_on j.state j.ring j.nodes j.rims u.reached o.going o.block o.bytes o.few
          (record { state = k.state; told = t }) k.ring k.nodes k.rims k.cells o.steps
          old now new u.read n.read;
    }

whole_sheeted : (old new : Option (List ℕ)) (l : List ℕ) → Whole whole_run old new l → Whole sheeted old new l
unfolding sheeted
whole_sheeted old new l w = record { bytes = w.bytes; same = same old w.same }
  where
    same : (a : Option (List ℕ)) → IfSome a (λ xs. whole_run xs ≡ whole_run l) → IfSome a (λ xs. sheeted xs ≡ sheeted l)
    same None q = tt
    same (Some xs) q = ap (λ (c : RunSoFar). lines c.nodes c.state.used) q

pub gives : (s : State) (ps : List ℤ) (l : List Float) (rs : List ℕ) (old now out cur : Option (List ℕ)) (n : ℕ) → Came old now s ps l rs → s.ended ≡ true
    → n ≡ length (lines l s.used) → Appends out cur (lines l s.used) → Gives sheeted old now out cur n
unfolding listed
gives s ps l rs old now out cur n u e c a =
    let p = sheet_of s.used l (listed s ps l rs u.reached e) in
    record { input = u.reached.input; bytes = u.reached.bytes; count = c ∙ ap length p; written = subst (Appends out cur) p a; read = own (u.read.done e) }
  where
    own : Whole whole_run old now u.reached.input ⊎ Broken old now u.reached.input → Whole sheeted old now u.reached.input ⊎ Broken old now u.reached.input
    own (inl w) = inl (whole_sheeted old now _ w)
    own (inr b) = inr b

-- a job that is left as it was
pub came_still : (j k : Job) (old now new : Option (List ℕ))
    → Came old now j.state j.ring j.nodes j.rims → k ≡ j → new ≡ now → Came old new k.state k.ring k.nodes k.rims
came_still j k old now new u e f =
    subst (λ (m : Option (List ℕ)). Came old m k.state k.ring k.nodes k.rims) (sym f)
    (subst (λ (x : Job). Came old now x.state x.ring x.nodes x.rims) (sym e) u)

pub printed-so : {E : Type 0} (r : Result ℕ E) (A : Type 0) (p q : ℕ → Type 0) → ((n : ℕ) → p n → A → q n) → IfOk r p → OnOk r A → IfOk r q
printed-so (Ok n) A p q f a b = f n a b
printed-so (Err e) A p q f a b = tt
