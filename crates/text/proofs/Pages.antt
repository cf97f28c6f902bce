-- Texts written on a page one after the other are their sum written at once, and what has room as a whole has room part by part.
use Prim.Native.Nat.{ℕ, suc, ◌+◌, ◌<◌}
use mathlib.Core.Path.{◌≡◌, refl, sym, ◌∙◌, subst}
use mathlib.Core.List.{List, [], ◌++◌}
use native.Mathlib.Omega.{arith}
use lib.ListN.{length}
use Rattle.text.specs.declared.Page.{Page}
use Rattle.text.specs.Text.{Written}
use Rattle.text.specs.Page.{Room, Wrote}
use Rattle.text.proofs.Writing.{nothing, shorter, join, room, turn-room, turn-written}

-- a text that is the same has the same room and is written alike
module _ {p : Page} {t u : List ℕ} (e : t ≡ u) where
  pub room_on : Room p u → Room p t
  room_on h = subst (λ (x : List ℕ). Room p x) (sym e) h

  pub wrote_as : {q : Page} → Wrote p t q → Wrote p u q
  wrote_as {q} w = subst (λ (x : List ℕ). Wrote p x q) e w

-- nothing at all
pub wrote_none : (p : Page) → Room p [] → Wrote p [] p
wrote_none p h = record { list = refl; text = nothing p.out.now p.at (omega (arith, h.fits)) }

-- a list, once the page on it is over
pub written-on : {p q : Page} {t m : List ℕ} → m ≡ q.out.now → Wrote p t q → Written p.out.now p.at t q.at m
written-on {p} {q} {t} e w = subst (λ (x : List ℕ). Written p.out.now p.at t q.at x) (sym e) w.text

-- two texts
module _ {p : Page} (t u : List ℕ) (h : Room p (t ++ u)) where
  pub room-one : Room p t
  room-one = record { fits = shorter p.at (length p.out.now) t u h.fits }

  module _ {q : Page} (w : Wrote p t q) where
    pub room-two : Room q u
    room-two = record { fits = room p.out.now p.at t u h.fits w.text }

    pub wrote-two : {r : Page} → Wrote q u r → Wrote p (t ++ u) r
    wrote-two v = record { list = v.list ∙ w.list; text = join p.out.now p.at t u h.fits w.text v.text }

-- three: the first two are room-one of t and u ++ v, and room-two
module _ {p : Page} (t u v : List ℕ) (h : Room p (t ++ u ++ v)) where
  two : Room p (t ++ u)
  two = room-one (t ++ u) v h

  pub room-first : Room p t
  room-first = room-one t u two

  module _ {q : Page} (w : Wrote p t q) where
    pub room-second : Room q u
    room-second = room-two t u two w

    module _ {r : Page} (x : Wrote q u r) where
      pub room-third : Room r v
      room-third = room-two (t ++ u) v h (wrote-two t u two w x)

      pub wrote-both : Wrote p (t ++ u) r
      wrote-both = wrote-two t u two w x

      pub wrote-three : {s : Page} → Wrote r v s → Wrote p (t ++ u ++ v) s
      wrote-three y = wrote-two (t ++ u) v h wrote-both y

-- ---- a text that grows part by part, as a loop writes it: g i is what stands after i turns, a i what turn i adds
module _ (g a : ℕ → List ℕ) (step : (i : ℕ) → g (suc i) ≡ g i ++ a i) {p q : Page} {i : ℕ} (n : ℕ) (h : Room p (g n)) (k : i < n) (w : Wrote p (g i) q) where
  pub room-turn : Room q (a i)
  room-turn = record { fits = turn-room g a step p.out.now p.at i n h.fits k q.at q.out.now w.text }

  pub wrote-turn : {r : Page} → Wrote q (a i) r → Wrote p (g (i + 1)) r
  wrote-turn {r} v =
      record { list = v.list ∙ w.list; text = turn-written g a step p.out.now p.at i n h.fits k q.at q.out.now w.text r.at r.out.now v.text }
