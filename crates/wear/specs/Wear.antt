-- 02, Card 14: "A record keeps the cuts of the last 32 accepted rings and reports their total, the highest, and how many rings it holds." What one answer of a
-- divider call does to it.
use Rattle.std.specs.Prelude.{ℕ, ◌+◌, ◌%◌, Bool, ◌||◌, not, cond, List, [], ◌∷◌, get_or, set, take, ltb, eqb, Result, Ok, Err}
pub use Rattle.laws.specs.Lists.{total}
use Rattle.laws.specs.Bounded.{any}
use Rattle.wear.specs.declared.Record.{Record}
use Rattle.wear.specs.declared.Values.{Values}
use Rattle.wear.specs.declared.Refused.{Refused}
use Rattle.wear.specs.declared.Wear.{Wear}

abbrev pub greater : ℕ → ℕ → ℕ
greater a b = cond (ltb a b) b a

-- the highest of a list; 0 of none
unfoldable pub highest : List ℕ → ℕ
highest [] = 0
highest (x ∷ l) = greater x (highest l)

-- the cuts that a record holds: of unused places nothing is asked
abbrev pub held_cuts : Record → List ℕ
held_cuts r = take r.rings r.cuts

-- "over 32 cuts for a ring"
abbrev pub over_at : List ℕ → ℕ → Bool
over_at l i = ltb 32 (get_or l i 0)

unfoldable pub any_over : List ℕ → ℕ → Bool
any_over l n = any (over_at l) n

-- "a next place outside its 32 (under 32 rings, other than their number)"
unfoldable pub misplaced : ℕ → ℕ → Bool
misplaced rings next = cond (ltb rings 32) (not (eqb next rings)) (ltb 31 next)

-- "20 if a record handed in holds over 32 rings, over 32 cuts for a ring or a next place outside its 32"
unfoldable pub invalid : Record → Bool
invalid r = ltb 32 r.rings || misplaced r.rings r.next || any_over r.cuts r.rings

-- one ring more: its cuts at the next place, which is the oldest ring's where 32 are held_cuts
abbrev pub grown : ℕ → ℕ
grown n = cond (ltb n 32) (n + 1) 32

unfoldable pub stored : Record → ℕ → Record
stored r cuts = record { cuts = set r.cuts r.next cuts; rings = grown r.rings; next = (r.next + 1) % 32 }

-- what comes back of an answer: the three values, or that it is refused, and the record
pub record Added : Type 0 where
  pub values : Result Values Refused
  pub kept : Record

-- the three values of a record
unfoldable pub values_in : Record → Values
values_in r = record { total = total (held_cuts r); highest = highest (held_cuts r); rings = r.rings }

-- with the record; and the other, where "the record comes back as it came"
unfoldable pub reported : Record → Added
reported r = record { values = Ok (values_in r); kept = r }

unfoldable pub refused : Record → Added
refused r = record { values = Err (record {}); kept = r }

-- the record r and an answer, its number and its cuts. "A refused ring leaves the record unchanged"; 20 also where "an accepted answer has over 32 cuts"
unfoldable pub added : Record → ℕ → ℕ → Added
added r code cuts =
    cond (invalid r) (refused r)
    (cond (not (eqb code 0)) (reported r)
    (cond (ltb 32 cuts) (refused r) (reported (stored r cuts))))

-- 0 and the three values, or 20, with zeros
abbrev pub wear_of : Result Values Refused → Wear
wear_of (Ok v) = record { code = 0; total = v.total; highest = v.highest; rings = v.rings }
wear_of (Err e) = record { code = 20; total = 0; highest = 0; rings = 0 }
