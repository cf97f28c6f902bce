-- A point of a line: no ring is open, or it is put behind the ring's points or the chain's, where there is room.
use Prim.Native.Nat.{ℕ, ◌+◌, ◌*◌, ◌<◌}
use mathlib.Core.Path.{◌≡◌}
use mathlib.Core.Bool.{false}
use mathlib.Core.Logic.{◌⊎◌, inl, inr}
use mathlib.Core.List.{List, ◌++◌}
use native.Mathlib.Omega.{arith}
use lib.ListN.{take}
use lib.IntN.{ℤ}
use borrow.Author.Tests.{eq-eqb, ne_eqb}
use Rattle.drawing.specs.declared.Wrong.TheVariants.{NoRing, RingFull, ChainFull}
use Rattle.drawing.specs.declared.Phase.{Phase}
use Rattle.drawing.specs.declared.Phase.TheVariants.{Closed, Ring, Chain, Other}
use Rattle.drawing.specs.declared.Draft.{Draft}
use Rattle.drawing.specs.Drawing.{Drawn, point_of, before, failed, points_at, points, ValidDraft, Did}

module _ (x y : ℤ) (o : Draft) (ring chain : List ℤ) (out : List ℕ) (f : ValidDraft o) where
  pub not_open : (r : Draft) → o.phase ≡ Closed → r ≡ failed o NoRing → Did (points x y) o ring chain r ring chain out
  unfolding points
  not_open r p e =
      rw e
      (record {
        same = rw p;
        valid = record { corners = f.corners; chain_points = f.chain_points; block = f.block };
      })

  -- a ring is open, and its points come
  at_ring : (p : Phase) → (p ≡ Ring) ⊎ ((n : ℕ) × (p ≡ Other n)) → (d : Drawn) → points_at p x y d ≡ points_at Ring x y d
  at_ring p (inl e) d = rw e
  at_ring p (inr e) d = rw e.1

  module _ (p : (o.phase ≡ Ring) ⊎ ((n : ℕ) × (o.phase ≡ Other n))) (ring' : List ℤ) where
    pub ring_full : (r : Draft) → (o.corners ≡ 60) × (ring' ≡ ring) → r ≡ failed o RingFull → Did (points x y) o ring chain r ring' chain out
    unfolding points
    ring_full r q e =
        rw (e, q.1)
        (record {
          same = rw (at_ring o.phase p (before o ring chain), eq-eqb o.corners 60 q.0);
          valid = record { corners = f.corners; chain_points = f.chain_points; block = f.block };
        })

    pub ring_more : (m : ℕ) → (o.corners < 60) × (m ≡ o.corners + 1) × (take ((o.corners + 1) * 2) ring' ≡ take (o.corners * 2) ring ++ point_of x y)
        → Did (points x y) o ring chain (record o { corners = m; wrote = false }) ring' chain out
    unfolding points
    ring_more m q =
        rw q.1
        (record {
          same = rw (at_ring o.phase p (before o ring chain), ne_eqb o.corners 60 (λ z. omega (arith, z, q.0)), q.2);
          valid =
              record { corners = omega (arith, q.0); chain_points = f.chain_points; block = f.block };
        })

  module _ (p : o.phase ≡ Chain) (chain' : List ℤ) where
    pub chain_full : (r : Draft) → (o.chain_points ≡ 60) × (chain' ≡ chain) → r ≡ failed o ChainFull → Did (points x y) o ring chain r ring chain' out
    unfolding points
    chain_full r q e =
        rw (e, q.1)
        (record {
          same = rw (p, eq-eqb o.chain_points 60 q.0);
          valid = record { corners = f.corners; chain_points = f.chain_points; block = f.block };
        })

    pub chain_more : (m : ℕ)
        → (o.chain_points < 60) × (m ≡ o.chain_points + 1) × (take ((o.chain_points + 1) * 2) chain' ≡ take (o.chain_points * 2) chain ++ point_of x y)
        → Did (points x y) o ring chain (record o { chain_points = m; wrote = false }) ring chain' out
    unfolding points
    chain_more m q =
        rw q.1
        (record {
          same = rw (p, ne_eqb o.chain_points 60 (λ z. omega (arith, z, q.0)), q.2);
          valid =
              record { corners = f.corners; chain_points = omega (arith, q.0); block = f.block };
        })
