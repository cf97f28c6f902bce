-- The tests of the sheet as the code makes them.
use Prim.Native.Nat.{ℕ, ◌+◌, ◌*◌, ◌/◌, ◌≤◌, ◌<◌}
use native.Mathlib.Omega.{arith}
use mathlib.Core.Path.{◌≡◌, sym, ◌∙◌, subst}
use mathlib.Core.Bool.{true, false, not, ◌||◌}
use mathlib.Core.List.{List}
use lib.Dec.{T, ltb}
use borrow.Author.Tests.{ltb-false, lt-ltb, le-ltb}
use lib.ListN.{length, get_or}
use lib.Ieee.{Float, nan}
use Rattle.laws.specs.Within.{Within}
use Rattle.laws.proofs.Booleans.{neither, not-not, is_true}
use Rattle.laws.proofs.Search.{any_none}
use Rattle.text.specs.Text.{Written}
use Rattle.nodes.specs.Nodes.{most_places}
use Rattle.nodes.specs.Flat.{Usable, on_sheet, all_on_sheet}
use Rattle.nodes.proofs.Ranged.{on_sheet-within}
use Rattle.listing.specs.Sheet.{nodes_out, answer, left, lines}

each : (l : List Float) (n : ℕ) → T (all_on_sheet l n) → (k : ℕ) → k < n → Within 1024 (get_or l k nan)
unfolding all_on_sheet
each l n t k h = on_sheet-within (get_or l k nan) (not-not (on_sheet (get_or l k nan)) (any_none (λ i. not (on_sheet (get_or l i nan))) n t k h))

-- what 3 does not refuse
pub usable : (l : List Float) (n : ℕ) → nodes_out l n ≡ false → Usable l n
unfolding nodes_out
usable l n e =
    let f = neither (ltb (length l / 2) n || ltb most_places (length l / 2)) (not (all_on_sheet l (n * 2))) e in
    let g = neither (ltb (length l / 2) n) (ltb most_places (length l / 2)) f.0 in
    let a = ltb-false (length l / 2) n g.0 in
    let b = ltb-false most_places (length l / 2) g.1 in
    let t = subst T (sym (is_true (all_on_sheet l (n * 2)) f.1)) tt in
    record {
      room = omega arith;
      few = omega arith;
      ranged = λ i h. (each l (n * 2) t (i * 2) (omega arith), each l (n * 2) t (i * 2 + 1) (omega arith));
    }

-- ---- what is returned and left
module _ (l : List Float) (n : ℕ) (out : List ℕ) where
  pub refused_3 : nodes_out l n ≡ true → (3 ≡ answer l n out) × (out ≡ left l n out)
  unfolding left answer
  refused_3 e = (rw e, rw e)

  pub refused_17 : nodes_out l n ≡ false → length out < n * 65 → (17 ≡ answer l n out) × (out ≡ left l n out)
  unfolding left answer
  refused_17 e h = (rw (e, lt-ltb (length out) (n * 65) h), rw (e, lt-ltb (length out) (n * 65) h))

  pub written : nodes_out l n ≡ false → n * 65 ≤ length out → (r : ℕ) (m : List ℕ) → Written out 0 (lines l n) r m → (0 ≡ answer l n out) × (m ≡ left l n out)
  unfolding left answer
  written e h r m w = (rw (e, le-ltb (length out) (n * 65) h), w.list ∙ rw (e, le-ltb (length out) (n * 65) h))
