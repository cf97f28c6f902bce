-- The nodes in a ring's box, collected: what a collection holds, and what is looked for in it. None of it is in 01: a
-- point's number is what Nodes says, however it is found. Definitions only.
use Rattle.std.specs.Prelude.{ℕ, zero, suc, ◌≤◌, ◌<◌, ◌≡◌, Bool, ◌&&◌, cond, List, [], ◌∷◌, map, ℤ, pos, ◌+ℤ◌, ◌-ℤ◌, length, get_or, take, Float}
use Rattle.std.specs.Int.Signed.{lt_z}
use Rattle.std.specs.Float.{nan}
use Rattle.laws.specs.Double.{int, ◌≤f◌}
use Rattle.laws.specs.Within.{Within}
use Rattle.keys.specs.Keys.{key}
use Rattle.nodes.specs.Flat.{node_in_of, has_at}
use Rattle.nodes.specs.declared.nearby.Span.{Span}
use Rattle.nodes.specs.declared.nearby.RingBox.{RingBox}
use Rattle.nodes.specs.declared.nearby.Nearby.{Nearby}
use Rattle.nodes.specs.declared.nearby.Collected.{Collected}

-- so many nodes are collected at most
abbrev pub most_nearby : ℕ
most_nearby = 256

-- those of i, i + 1 .. i + d - 1 at which q holds
unfoldable pub chosen : (ℕ → Bool) → ℕ → ℕ → List ℕ
chosen q zero i = []
chosen q (suc d) i =
    let r = chosen q d (suc i) in
    cond (q i) (i ∷ r) r

-- ---- boxes
abbrev pub span : Float → Float → Span
span lo hi = record { lo = lo; hi = hi; least = int (key lo +ℤ pos 1); most = int (key hi -ℤ pos 1) }

-- the ends lie no more than a unit beyond the sheet, and the two limits are theirs
pub record Spans (s : Span) : Type 0 where
  pub low : Within 1025 s.lo
  pub high : Within 1025 s.hi
  pub same : s ≡ span s.lo s.hi

abbrev pub Framed : RingBox → Type 0
Framed w = Spans w.x × Spans w.y

abbrev pub in_span : Span → Float → Bool
in_span s x = (s.lo ≤f x) && (x ≤f s.hi)

abbrev pub in_box : RingBox → Float → Float → Bool
in_box w x y = in_span w.x x && in_span w.y y

-- the node in place i is in the box
unfoldable pub inside_at : RingBox → List Float → ℕ → Bool
inside_at w l i = in_box w (node_in_of l i).x (node_in_of l i).y

-- a key strictly between those of the ends
abbrev pub strictly : Span → ℤ → Bool
strictly s k = lt_z (key s.lo) k && lt_z k (key s.hi)

abbrev pub surrounds : RingBox → ℤ → ℤ → Bool
surrounds w kx ky = strictly w.x kx && strictly w.y ky

-- a scaled coordinate between the limits, whose key is therefore such a key; and two of them
abbrev pub well_in : Span → Float → Bool
well_in s v = (s.least ≤f v) && (v ≤f s.most)

abbrev pub well_inside : RingBox → Float → Float → Bool
well_inside w v u = well_in w.x v && well_in w.y u

-- ---- collections
-- the numbers of the nodes of the first n places that are in the box; and the x of such nodes
abbrev pub inside : RingBox → List Float → ℕ → List ℕ
inside w l n = chosen (inside_at w l) n 0

abbrev pub xs_of : List Float → List ℕ → List Float
xs_of l ks = map (λ k. (node_in_of l k).x) ks

-- what the search asks of them: the first `count` of the numbers, and of the xs, are those of the nodes of the first n
-- places that are in the box
pub record CollectedOf (l : List Float) (w : RingBox) (n : ℕ) (numbers : List ℕ) (xs : List Float) (count : ℕ) : Type 0 where
  pub places : length numbers ≡ most_nearby
  pub places_x : length xs ≡ most_nearby
  pub few : count ≤ most_nearby
  pub are : take count numbers ≡ inside w l n
  pub are_x : take count xs ≡ xs_of l (inside w l n)

-- so it is of the first places among the used, unless too many are in the box
pub record ValidNearby (l : List Float) (used : ℕ) (c : Nearby) (numbers : List ℕ) (xs : List Float) : Type 0 where
  pub old : c.old ≤ used
  pub framed : Framed c.ring_box
  pub complete : c.count ≤ most_nearby → CollectedOf l c.ring_box c.old numbers xs c.count

-- the same of the collected nodes as they are looked through
abbrev pub ValidCollected : List Float → ℕ → Collected → Type 0
ValidCollected l used c = ValidNearby l used c.near c.numbers.now c.xs.now

-- ---- searches
-- the first `count` of the numbers are places among the first `old`, and the xs are those of their nodes
pub record NearbyLists (l : List Float) (old : ℕ) (numbers : List ℕ) (xs : List Float) (count : ℕ) : Type 0 where
  pub places : length numbers ≡ most_nearby
  pub places_x : length xs ≡ most_nearby
  pub few : count ≤ most_nearby
  pub low : (j : ℕ) → j < count → get_or numbers j 0 < old
  pub same : (j : ℕ) → j < count → get_or xs j nan ≡ (node_in_of l (get_or numbers j 0)).x

-- the node whose number is the j-th has the keys kx, ky
abbrev pub has_listed : List Float → List ℕ → ℤ → ℤ → ℕ → Bool
has_listed l numbers kx ky j = has_at l kx ky (get_or numbers j 0)
