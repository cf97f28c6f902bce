-- 01, What is returned: the free places that a ring of r points asks for. Definitions only.
use Rattle.std.specs.Prelude.{ℕ, ◌+◌, ◌-◌, ◌*◌, min}

-- "m = smaller of 32 and r - 3", where 32 is the most cuts on delivery
abbrev pub most_cuts : ℕ → ℕ → ℕ
most_cuts cuts r = min cuts (r - 3)

-- "free node places < 3r + 2m + 1"
abbrev pub node_places : ℕ → ℕ → ℕ
node_places cuts r = 3 * r + 2 * most_cuts cuts r + 1

-- "or free cell places < r + 2m"
abbrev pub cell_places : ℕ → ℕ → ℕ
cell_places cuts r = r + 2 * most_cuts cuts r
