-- 02, Card 14, of lists of answers: "For every list of rings from an empty record, those three are the values for the last 32 accepted, or for all where fewer,
-- and all zero where there are none."
use Rattle.std.specs.Prelude.{ℕ, ◌-◌, ◌≤◌, ◌≡◌, Bool, true, false, ◌&&◌, ◌||◌, not, cond, List, [], ◌∷◌, ◌++◌, length, drop, replicate, eqb, leb}
use Rattle.laws.specs.All.{All}
use Rattle.wear.specs.declared.Wear.{Wear}
use Rattle.wear.specs.Wear.{total, highest, invalid}
use Rattle.wear.specs.Bytes.{record_in, refusal, returned, left}

-- a divider call's answer: its number and its cuts
pub record RingAnswer : Type 0 where
  pub code : ℕ
  pub cuts : ℕ

-- accepted: the number is 0. One with over 32 cuts is no answer of a divider call, and is refused with 20
abbrev pub is_accepted : RingAnswer → Bool
is_accepted a = eqb a.code 0 && leb a.cuts 32

-- the cuts of the accepted ones, in order
unfoldable pub accepted : List RingAnswer → List ℕ
accepted [] = []
accepted (a ∷ gs) = cond (is_accepted a) (a.cuts ∷ accepted gs) (accepted gs)

-- the last n of a list, or all where fewer
unfoldable pub last : ℕ → List ℕ → List ℕ
last n l = drop (length l - n) l

-- the empty record, and the record after a list of answers: each call gets the bytes that the one before left
abbrev pub empty : List ℕ
empty = replicate 34 0

unfoldable pub after : List ℕ → List RingAnswer → List ℕ
after l [] = l
after l (a ∷ gs) = after (left l a.code a.cuts) gs

-- the three values of a list of cuts
abbrev pub values_for : List ℕ → Wear
values_for l = record { code = 0; total = total l; highest = highest l; rings = length l }

-- what the call with the answer a reports after the list gs of answers, from the empty record
abbrev pub reply : List RingAnswer → RingAnswer → Wear
reply gs a = returned (after empty gs) a.code a.cuts

-- an answer that goes in: accepted, or refused by the divider; not one that is accepted with over 32 cuts
abbrev pub known : RingAnswer → Bool
known a = is_accepted a || not (eqb a.code 0)

-- the list gs of answers, and one more, a, from the empty record
pub record LastRings (gs : List RingAnswer) (a : RingAnswer) : Type 0 where
  -- a ring that is accepted or refused reports the values for the last 32 accepted, itself among them
  pub reports : known a ≡ true → reply gs a ≡ values_for (last 32 (accepted (gs ++ (a ∷ []))))
  -- "all zero where there are none"
  pub none : accepted (gs ++ (a ∷ [])) ≡ [] → (a.code ≡ 0 → ⊥) → reply gs a ≡ record { code = 0; total = 0; highest = 0; rings = 0 }
  -- "The total never exceeds 1,024"
  pub bounded : total (last 32 (accepted gs)) ≤ 1024
  pub few : length (last 32 (accepted gs)) ≤ 32
  -- an accepted answer of over 32 cuts is 20
  pub over : known a ≡ false → reply gs a ≡ refusal
  -- what is not accepted leaves the record, byte for byte
  pub leaves : is_accepted a ≡ false → left (after empty gs) a.code a.cuts ≡ after empty gs
  -- the record that comes back is never one that is refused
  pub valid : invalid (record_in (after empty gs)) ≡ false
  pub long : length (after empty gs) ≡ 34

-- an answer that a divider call gives: 32 cuts or fewer where its number is 0
abbrev pub FewCuts : RingAnswer → Type 0
FewCuts a = a.code ≡ 0 → a.cuts ≤ 32

-- the cuts of those with 0
unfoldable pub zeros : List RingAnswer → List ℕ
zeros [] = []
zeros (a ∷ gs) = cond (eqb a.code 0) (a.cuts ∷ zeros gs) (zeros gs)

-- such answers are never 20: each call reports the values for the last 32 with 0, itself among them
abbrev pub Follows : List RingAnswer → RingAnswer → Type 0
Follows gs a = All FewCuts (gs ++ (a ∷ [])) → reply gs a ≡ values_for (last 32 (zeros (gs ++ (a ∷ []))))
