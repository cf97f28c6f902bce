-- A record in 34 bytes: the cuts of 32 places, how many rings it holds, the next place. What a call over lent bytes returns and leaves.
use Rattle.std.specs.Prelude.{ℕ, ◌≤◌, ◌≡◌, ◌⊎◌, cond, List, [], ◌∷◌, ◌++◌, length, get_or, take, eqb}
use Rattle.wear.specs.declared.Record.{Record}
use Rattle.wear.specs.declared.Wear.{Wear}
use Rattle.wear.specs.Wear.{Added, added, wear_of}

abbrev pub record_in : List ℕ → Record
record_in l = record { cuts = take 32 l; rings = get_or l 32 0; next = get_or l 33 0 }

abbrev pub bytes_of : Record → List ℕ
bytes_of r = r.cuts ++ (r.rings ∷ r.next ∷ [])

abbrev pub values_of : Added → Wear
values_of a = wear_of a.values

abbrev pub refusal : Wear
refusal = record { code = 20; total = 0; highest = 0; rings = 0 }

-- "a list of another length is 20"
unfoldable pub returned : List ℕ → ℕ → ℕ → Wear
returned l code cuts = cond (eqb (length l) 34) (values_of (added (record_in l) code cuts)) refusal

unfoldable pub left : List ℕ → ℕ → ℕ → List ℕ
left l code cuts = cond (eqb (length l) 34) (bytes_of (added (record_in l) code cuts).kept) l

-- what holds of every list of bytes and every answer: 0 or 20; "the record comes back as it came" with 20; "A refused ring leaves the record unchanged"
pub record AsItCame (l : List ℕ) (code cuts : ℕ) : Type 0 where
  pub either : ((returned l code cuts).code ≡ 0) ⊎ (returned l code cuts ≡ refusal)
  pub twenty : (returned l code cuts).code ≡ 20 → left l code cuts ≡ l
  pub unchanged : (code ≡ 0 → ⊥) → left l code cuts ≡ l
  pub long : length (left l code cuts) ≡ length l
  -- "The total never exceeds 1,024"
  pub bounded : (returned l code cuts).total ≤ 1024
