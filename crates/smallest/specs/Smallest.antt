-- 02, Card 13: what the entry returns for every ring, chain and sheet size, and what holds of it.
use Rattle.std.specs.Prelude.{ℕ, ◌*◌, ◌^◌, ◌≤◌, ◌<◌, ◌≡◌, ◌||◌, cond, List, length, ltb, eqb, ℤ, Result, Ok, Err}
use Rattle.std.specs.Int.Count.{ones}
use Rattle.smallest.specs.declared.Smallest.{Smallest}
use Rattle.smallest.specs.declared.Found.{Found}
use Rattle.smallest.specs.declared.Refusal.{Refusal}
use Rattle.smallest.specs.declared.Refusal.TheVariants.{Counts, Units, Points, Other}
use Rattle.lone_ring.specs.Number.{points, number_of, number_of_fault}
use Rattle.choice.specs.Choice.{chosen}
use Rattle.choice.specs.Search.{IsLeast}
use Rattle.least.specs.Trial.{trial_of, choice_of}

abbrev pub refused : ℕ → Smallest
refused n = record { code = n; refusal = 0; choice = 0; points = 0 }

abbrev pub found : ℕ → ℕ → Smallest
found w c = record { code = 0; refusal = w; choice = c; points = ones c }

-- the number of each refusal, and the row of an answer
abbrev pub number_of_refusal : Refusal → ℕ
number_of_refusal Counts = 1
number_of_refusal Units = 2
number_of_refusal Points = 18
number_of_refusal Other = 19

abbrev pub row_of : Result Found Refusal → Smallest
row_of (Ok f) = found (number_of_fault f.refusal) f.choice
row_of (Err e) = refused (number_of_refusal e)

-- the tests of a ring of n points with the own number w, in order
unfoldable pub tested : ℕ → ℕ → Result (Unit {0}) Refusal
tested w n =
    cond (eqb w 1) (Err Counts)
    (cond (eqb w 2) (Err Units)
    (cond (ltb 12 n) (Err Points)
    (cond (ltb w 5 || ltb 8 w) (Err Other) (Ok tt))))

-- w the number of the ring's own run on an empty list, whose 1 and 2 come first; "18 if the ring has over 12 points, after 2; 19 if its own run on an empty
-- list gives none of these four, after 18". A ring of over 12 points that has its 1 and 2 behind it gets 4 there
unfoldable pub smallest_of : List ℤ → List ℤ → ℕ → ℕ → Smallest
smallest_of ring chain size w =
    cond (eqb w 1) (refused 1)
    (cond (eqb w 2) (refused 2)
    (cond (ltb 12 (points ring)) (refused 18)
    (cond (ltb w 5 || ltb 8 w) (refused 19) (found w (choice_of ring chain size (points ring) w)))))

unfoldable pub smallest_refused : List ℤ → List ℤ → ℕ → Smallest
smallest_refused ring chain size = smallest_of ring chain size (number_of ring chain size)

-- what is given of a ring with 0
pub record IsSmallest (ring chain : List ℤ) (size : ℕ) (s : Smallest) : Type 0 where
  -- the ring has 3 to 12 points, and is refused with this number, one of 5 to 8
  pub many : 3 ≤ points ring
  pub few : points ring ≤ 12
  pub own : number_of ring chain size ≡ s.refusal
  pub four : (5 ≤ s.refusal) × (s.refusal ≤ 8)
  -- the choice gets the same number, no other of 3 points or more that does has fewer, nor as few and a lower number
  pub least : IsLeast (trial_of ring chain size (points ring)) s.refusal (2 ^ points ring) 3 s.choice
  -- how many points it has
  pub counted : s.points ≡ ones s.choice
  -- fewer than 3 points never get the number, so that the choice has the fewest of all
  pub fewest : (e : ℕ) → e < 2 ^ points ring → trial_of ring chain size (points ring) e ≡ s.refusal → s.points ≤ ones e
  pub rings : length (chosen ring s.choice (points ring)) ≡ s.points * 2
