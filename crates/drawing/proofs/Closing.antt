-- A ring that is complete: none was open, the writer refused it, or its pair is written; and the ring that begins then.
use Prim.Native.Nat.{ℕ, ◌*◌}
use mathlib.Core.Path.{◌≡◌, refl, sym, ap, ◌∙◌}
use mathlib.Core.List.{List, [], append-nil}
use native.Mathlib.Omega.{arith}
use lib.ListN.{length, take, drop}
use lib.Seq.{drop-length}
use lib.IntN.{ℤ}
use Rattle.std.specs.Prelude.{Ok, Err, Option, Some, None}
use Rattle.std.specs.declared.result.Result.{Result}
use Rattle.writer.specs.declared.Refusal.{Refusal}
use Rattle.writer.specs.Write.{refusal, tested, written, pair_bytes}
use Rattle.writer.proofs.Passed.{low-number, agrees}
use Rattle.drawing.specs.declared.Wrong.{Wrong}
use Rattle.drawing.specs.declared.Wrong.TheVariants.{Refused}
use Rattle.drawing.specs.declared.Phase.{Phase}
use Rattle.drawing.specs.declared.Phase.TheVariants.{Closed, Ring, Chain, Other}
use Rattle.drawing.specs.declared.Draft.{Draft}
use Rattle.drawing.specs.Drawing.{Drawn, before, failed, still, complete, closed_of, closes_at, closes, begun_of, afresh, begins, ValidDraft, Did}

-- a ring is open
pub opened : (d : Drawn) → (d.draft.phase ≡ Closed → ⊥) → closes d ≡ complete (tested d.ring d.chain d.draft.size d.draft.block 1024) d
unfolding closes
opened d k = go d.draft.phase k
  where
    go : (p : Phase) → (p ≡ Closed → ⊥) → closes_at p d ≡ complete (tested d.ring d.chain d.draft.size d.draft.block 1024) d
    go Closed k = absurd (k refl)
    go Ring k = refl
    go Chain k = refl
    go (Other n) k = refl

module _ (o : Draft) (ring chain : List ℤ) (out : List ℕ) (f : ValidDraft o) where
  abbrev D : Drawn
  D = before o ring chain

  pub closes_none : (r : Draft) → o.phase ≡ Closed → r ≡ still o → Did closes o ring chain r ring chain out
  unfolding closes
  closes_none r p e =
      rw e
      (record {
        same = rw p;
        valid = record { corners = f.corners; chain_points = f.chain_points; block = f.block };
      })

  -- the writer was asked
  module _ (out_long : length out ≡ 1024) (k : o.phase ≡ Closed → ⊥) (t : Result (Unit {0}) Refusal)
      (asked : t ≡ tested (take (o.corners * 2) ring) (take (o.chain_points * 2) chain) o.size o.block (length out))
    where
      abbrev R : List ℤ
      R = take (o.corners * 2) ring

      abbrev C : List ℤ
      C = take (o.chain_points * 2) chain

      answered : closes D ≡ complete t D
      answered =
          opened D k ∙ ap (λ (u : Result (Unit {0}) Refusal). complete u D)
          (ap (λ (n : ℕ). tested R C o.size o.block n) (sym out_long) ∙ sym asked)

      pub closes_refused : (r : Draft) (w : Refusal) (out' : List ℕ) → t ≡ Err w → r ≡ failed o (Refused w)
          → Did closes o ring chain r ring chain out'
      closes_refused r w out' z e =
          rw e
          (record {
            same = sym (answered ∙ ap (λ (u : Result (Unit {0}) Refusal). complete u D) z);
            valid = record { corners = f.corners; chain_points = f.chain_points; block = f.block };
          })

      module _ (z : t ≡ Ok tt) where
        passes : refusal R C o.size o.block (length out) ≡ 0
        passes = sym (agrees R C o.size o.block (length out) (Ok tt) (sym z ∙ asked))

        pair-alone : written R C o.size o.block out ≡ pair_bytes R C o.size o.block
        unfolding written
        pair-alone =
            let e : drop 1024 out ≡ [] = ap (λ (n : ℕ). drop n out) (sym out_long) ∙ drop-length out in
            rw (passes, e) (append-nil (pair_bytes R C o.size o.block))

        pub closes_written : (out' : List ℕ) → out' ≡ written R C o.size o.block out
            → Did closes o ring chain (closed_of o) ring chain out'
        closes_written out' w =
            record {
              same =
                  ap (λ (b : List ℕ). record { draft = closed_of o; ring = []; chain = []; out = b }) (w ∙ pair-alone)
                  ∙ sym (answered ∙ ap (λ (u : Result (Unit {0}) Refusal). complete u D) z);
              valid =
                  record {
                    corners = omega arith;
                    chain_points = omega arith;
                    block = omega (arith, low-number R C o.size o.block (length out) passes);
                  };
            }

module _ (o : Draft) (ring chain : List ℤ) (out : List ℕ) (f : ValidDraft o) where
  pub closes_passed : length out ≡ 1024 → (o.phase ≡ Closed → ⊥) → (u : Unit {0})
      → Ok u ≡ tested (take (o.corners * 2) ring) (take (o.chain_points * 2) chain) o.size o.block (length out) → (out' : List ℕ)
      → out' ≡ written (take (o.corners * 2) ring) (take (o.chain_points * 2) chain) o.size o.block out → Did closes o ring chain (closed_of o) ring chain out'
  closes_passed l k u e out' w = closes_written o ring chain out f l k (Ok u) e refl out' w

-- ---- the ring that begins
module _ (n size : ℕ) (o : Draft) (ring chain : List ℤ) (c : Draft) (out' : List ℕ) (d : Did closes o ring chain c ring chain out') where
  wrong_is : (w : Option Wrong) → c.wrong ≡ w → begins n size (before o ring chain) ≡ afresh w n size (closes (before o ring chain))
  unfolding begins
  wrong_is w e =
      ap (λ (v : Option Wrong). afresh v n size (closes (before o ring chain))) (ap (λ (x : Drawn). x.draft.wrong) (sym d.same) ∙ e)

  pub begins_not : (w : Wrong) → c.wrong ≡ Some w → Did (begins n size) o ring chain c ring chain out'
  begins_not w e = record { same = d.same ∙ sym (wrong_is (Some w) e); valid = d.valid }

  pub begins_so : c.wrong ≡ None → Did (begins n size) o ring chain (begun_of n size c) ring chain out'
  begins_so e =
      record {
        same = ap (afresh None n size) d.same ∙ sym (wrong_is None e);
        valid =
            record {
              corners = omega arith;
              chain_points = omega arith;
              block = d.valid.block;
            };
      }
