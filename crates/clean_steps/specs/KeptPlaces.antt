-- The kept places of a ring as the code carries them: the places, their points, and what a step leaves of them.
use Rattle.std.specs.Prelude.{ℕ, ◌≡◌, List, take}
use Rattle.vector.specs.declared.GridPoint.{GridPoint}
use Rattle.clean_steps.specs.declared.KeptPlaces.{KeptPlaces}
use Rattle.clean_steps.specs.Places.{pick, among}

abbrev pub places_of : KeptPlaces → List ℕ
places_of c = take c.count c.places

-- the points of the ring at the kept places
abbrev pub kept_points : KeptPlaces → List GridPoint
kept_points c = pick c.ring.now (places_of c)

-- d is what is left of the kept places c, of the same ring by the same tolerance: of the places of c those that stand in it
-- at the places ws
pub record Leaves (c : KeptPlaces) (ws : List ℕ) (d : KeptPlaces) : Type 0 where
  pub ring : d.ring.now ≡ c.ring.now
  pub tol : d.tol ≡ c.tol
  pub places : places_of d ≡ among (places_of c) ws
