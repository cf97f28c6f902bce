-- A ring that waits and was divided: a call over the empty cell list that kept its promise leaves what the definition's step leaves, and its row can be
-- printed.
use Prim.Native.Nat.{ℕ, ◌+◌, ◌*◌, ◌/◌, ◌≤◌}
use mathlib.Core.Path.{◌≡◌, refl, ap, ◌∙◌, subst}
use mathlib.Core.Bool.{false}
use mathlib.Core.List.{List}
use native.Mathlib.Omega.{arith}
use lib.ListN.{length, take, length-replicate}
use lib.IntN.{ℤ}
use lib.Ieee.{Float}
use Rattle.limits.specs.Limits.{delivered}
use Rattle.call.specs.Lent.{Lent, divide_lent, lent}
use Rattle.table.specs.declared.Answer.{Answer}
use Rattle.table.specs.declared.Row.{Row}
use Rattle.table.specs.Answers.{values}
use Rattle.divider.specs.Promise.{Promise}
use Rattle.told.specs.declared.Told.TheVariants as Told
use Rattle.told.specs.Text.{Tells}
use Rattle.state.specs.declared.State.{State}
use Rattle.job.specs.Step.{no_cells, lent_by, divides, Steps}
use Rattle.job.proofs.Rows.{printable}

-- the empty cell list is no longer than what can be printed of it
pub few-cells : (p : List ℕ) → p ≡ no_cells → length p ≤ 496
few-cells p e = omega (arith, ap length e, length-replicate {A = ℕ} 496 0)

module _ (s : State) (ps : List ℤ) (l : List Float) (rs : List ℕ) where
  abbrev lent_over : List ℤ → List ℕ → Lent
  lent_over chain k =
      lent (take (s.count * 2) ps) chain s.size l s.used rs k 0

  pub divided : (chain : List ℤ) (k : List ℕ) → k ≡ no_cells → (a : Answer) (m : List Float) (y p : List ℕ)
      → Promise delivered (lent_over chain k) (values a) m y p → length p ≡ length k → (n g : ℕ) → n ≡ (values a).nodes → g ≡ s.block / 2
      → Steps (divides s ps l rs chain) (record {
        state = record { block = s.block + 1; count = s.count; size = s.size; used = n; ended = false };
        told = Told.Ring g s.used a;
      }) ps m y p
  unfolding divides
  divided chain k z a m y p q t n g e f =
      let h : Promise delivered (lent_by s ps l rs chain) (values a) m y p =
      subst (λ (x : List ℕ). Promise delivered (lent_over chain x) (values a) m y p) z q in
      let d : values a ≡ (divide_lent delivered (lent_by s ps l rs chain)).row = h.leaves.values in
      let u : n ≡ (divide_lent delivered (lent_by s ps l rs chain)).row.nodes = e ∙ ap (λ (v : Row). v.nodes) d in
      record {
        state = λ i. record { block = s.block + 1; count = s.count; size = s.size; used = u i; ended = false };
        points = refl;
        nodes = h.leaves.nodes;
        rims = h.leaves.rims;
        cells = h.leaves.cells;
        told = λ i. Tells.Ring (f i) s.used (d i);
        tells =
            record {
              printable = printable (lent_by s ps l rs chain) (values a) m y p h (t ∙ ap length z);
              few = omega (arith, t, few-cells k z);
            };
      }
