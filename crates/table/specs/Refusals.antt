-- 01, What is returned: "tested in rising order". A list of tests, each with its number; the number of the first that
-- holds; and the one order in which every entry tests.
use Rattle.std.specs.Prelude.{ℕ, ◌≡◌, Bool, true, false, ◌&&◌, not, cond, eqb}
use mathlib.Core.List.{List, [], ◌∷◌, Memᴰ}
use Rattle.laws.specs.All.{All}

-- a test that refuses with a number where it holds
pub record Refusal : Type 0 where
  pub number : ℕ
  pub test : Bool

infix 70 ◌when◌
abbrev pub ◌when◌ : ℕ → Bool → Refusal
n when b = record { number = n; test = b }

-- the number of the first test that holds, or 0
abbrev pub first_of : List Refusal → ℕ
first_of [] = 0
first_of (r ∷ rs) = cond r.test r.number (first_of rs)

-- what an entry tests before it cleans the ring, each test by its name. One that an entry does not make never holds
pub record Tests : Type 0 where
  pub counts : Bool
  pub practice : Bool
  pub units : Bool
  pub marks : Bool
  pub outline : Bool
  pub limits : Bool
  pub lists : Bool
  pub room : Bool

-- the order, for all entries: 1 "ring or chain count", and "after 1" that of the practice paper, 16; 2 "coordinate or
-- sheet size"; "after 2" the given marks, 13, "after 13" their outline, 14, and the set of limits, 15, which "follows
-- 2, and 14 where marks are given"; 3 "a used count above its list" and the rest of its row, 4 "free places"
abbrev pub in_order : Tests → List Refusal
in_order t =
    1 when t.counts
    ∷ 16 when t.practice
    ∷ 2 when t.units
    ∷ 13 when t.marks
    ∷ 14 when t.outline
    ∷ 15 when t.limits
    ∷ 3 when t.lists
    ∷ 4 when t.room
    ∷ []

-- ---- words for the laws of proofs/Refusals
-- no test of the list holds
abbrev pub Passes : List Refusal → Type 0
Passes rs = All (λ (r : Refusal). r.test ≡ false) rs

-- so of the tests in order, by their names
pub record PassesAll (t : Tests) : Type 0 where
  pub counts : t.counts ≡ false
  pub practice : t.practice ≡ false
  pub units : t.units ≡ false
  pub marks : t.marks ≡ false
  pub outline : t.outline ≡ false
  pub limits : t.limits ≡ false
  pub lists : t.lists ≡ false
  pub room : t.room ≡ false

-- the number of a refusal is neither that of a ring that was divided nor that of one with a failing cell
abbrev pub turns_away : ℕ → Bool
turns_away n = not (eqb n 0) && not (eqb n 8)

-- so it is with each number of a list
abbrev pub numbered : List Refusal → Bool
numbered [] = true
numbered (r ∷ rs) = turns_away r.number && numbered rs

-- the first refusal is that of a test of the list that holds; or there is none, and 0
pub data First (rs : List Refusal) : Type 0 where
  holds : (r : Refusal) → Memᴰ r rs → r.test ≡ true → first_of rs ≡ r.number → First rs
  passes : Passes rs → first_of rs ≡ 0 → First rs
