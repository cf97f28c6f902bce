-- What is put over places of a list; things written out in a flat list, w values each; a total. Definitions only.
use Rattle.std.specs.Prelude.{ℕ, ◌+◌, ◌*◌, List, [], ◌∷◌, ◌++◌, length, take, drop}
use Rattle.std.specs.List.{flat_map}

-- the list l with vs over its places from i on
abbrev pub put {ℓ} : {A : Type ℓ} → List A → ℕ → List A → List A
put l i vs = take i l ++ vs ++ drop (i + length vs) l

-- l with the things xs written out over its first values, w each, all else as found
abbrev pub written_over : {A B : Type 0} → (A → List B) → ℕ → List B → List A → List B
written_over each w l xs = flat_map each xs ++ drop (length xs * w) l

-- the total of a list; 0 of none
abbrev pub total : List ℕ → ℕ
total [] = 0
total (x ∷ l) = x + total l
