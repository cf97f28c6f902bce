-- A search of places in each of which a point stands. Definitions only.
use Rattle.std.specs.Prelude.{ℕ, ◌-◌, Bool, Option}
use Rattle.laws.specs.Bounded.{first, below}

-- the first of i, i + 1 .. n - 1 at which p holds, if there is one
abbrev pub found : (ℕ → Bool) → ℕ → ℕ → Option ℕ
found p i n = below n (first p (n - i) i)
