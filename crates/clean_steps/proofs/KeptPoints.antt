-- Kept places as the code holds them: how many points they have, and which point each is.
use Prim.Native.Nat.{ℕ, suc, ◌+◌, ◌-◌, ◌%◌, ◌<◌}
use native.Mathlib.Omega.{arith}
use mathlib.Core.Path.{◌≡◌, ap, ◌∙◌}
use lib.ListN.{length, get_or}
use Rattle.std.proofs.lemmas.List.{get_or-map}
use lib.Seq.{length-take-le, get_or-take}
use Rattle.vector.specs.declared.GridPoint.{GridPoint}
use Rattle.vector.specs.Grid.{origin, at, prev}
use Rattle.vector.proofs.Rings.{at_place, at_following, at_before}
use Rattle.clean_steps.specs.declared.KeptPlaces.{KeptPlaces}
use Rattle.clean_steps.specs.KeptPlaces.{places_of, kept_points}
use Rattle.clean_steps.proofs.Places.{pick-length}

-- ---- the kept points
-- the point at kept place i
abbrev pub point : KeptPlaces → ℕ → GridPoint
point c i = get_or c.ring.now (get_or c.places i 0) origin

module _ (c : KeptPlaces) where
  pub places-length : length (places_of c) ≡ c.count
  places-length = length-take-le c.count c.places (omega (arith, c.valid.count, c.valid.size))

  pub kept_points-length : length (kept_points c) ≡ c.count
  kept_points-length = pick-length c.ring.now (places_of c) ∙ places-length

  pub kept_points_at : (i : ℕ) → i < c.count → get_or (kept_points c) i origin ≡ point c i
  kept_points_at i h =
      get_or-map (λ (k : ℕ). get_or c.ring.now k origin) (places_of c) i 0 origin (omega (arith, places-length))
      ∙ ap (λ (k : ℕ). get_or c.ring.now k origin) (get_or-take c.count c.places i 0 h)

  module _ (i : ℕ) (l : i < c.count) where
    pub round_at : at (kept_points c) i ≡ point c i
    round_at = at_place (kept_points c) i (omega (arith, kept_points-length)) ∙ kept_points_at i l

    pub round_next : (j : ℕ) → j ≡ (i + 1) % c.count → j < c.count → at (kept_points c) (suc i) ≡ point c j
    round_next j e h = at_following (kept_points c) i j (rw kept_points-length e) ∙ kept_points_at j h

    pub round_prev : (j : ℕ) → j ≡ (i + (c.count - 1)) % c.count → j < c.count → prev (kept_points c) i ≡ point c j
    round_prev j e h = at_before (kept_points c) i j (rw kept_points-length e) ∙ kept_points_at j h
