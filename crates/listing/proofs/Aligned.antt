-- A text right-aligned in its columns.
use Prim.Native.Nat.{ℕ, ◌-◌}
use mathlib.Core.Path.{◌≡◌, sym, subst}
use mathlib.Core.List.{List, ◌++◌}
use lib.ListN.{length}
use Rattle.text.specs.declared.Page.{Page}
use Rattle.text.specs.Page.{Room, Wrote}
use Rattle.text.proofs.Pages.{room-one, room-two, wrote-two}
use Rattle.listing.specs.Sheet.{right_aligned}
use Rattle.listing.proofs.Texts.{spaces}

-- the spaces, k being the text's length, and the text
module _ {p : Page} (w k : ℕ) (t : List ℕ) (e : k ≡ length t) (h : Room p (right_aligned w t)) where
  both : Room p (spaces (w - k) ++ t)
  unfolding right_aligned
  both = subst (λ (n : ℕ). Room p (spaces (w - n) ++ t)) (sym e) h

  pub right_spaces : Room p (spaces (w - k))
  right_spaces = room-one (spaces (w - k)) t both

  module _ {q : Page} (a : Wrote p (spaces (w - k)) q) where
    pub right_room : Room q t
    right_room = room-two (spaces (w - k)) t both a

    pub right_aligned-wrote : {r : Page} → Wrote q t r → Wrote p (right_aligned w t) r
    unfolding right_aligned
    right_aligned-wrote {r} b = subst (λ (n : ℕ). Wrote p (spaces (w - n) ++ t) r) e (wrote-two (spaces (w - k)) t both a b)
