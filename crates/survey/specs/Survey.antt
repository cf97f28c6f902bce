-- A pass over the used nodes: whether they are on the sheet, and what of them is collected. None of it is in 01 but that refusal 3
-- asks the first. Definitions only.
use Rattle.std.specs.Prelude.{ℕ, suc, ◌*◌, ◌≡◌, cond, List, ◌++◌, length, take, drop, leb, Float}
use Rattle.nodes.specs.Flat.{all_on_sheet}
use Rattle.nodes.specs.declared.nearby.RingBox.{RingBox}
use Rattle.nodes.specs.declared.nearby.Nearby.{Nearby}
use Rattle.nodes.specs.Nearby.{most_nearby, inside, xs_of}
use Rattle.survey.specs.declared.NodeSurvey.{NodeSurvey}

-- so many are said to be collected where there are n: one above the most where there are more
unfoldable pub counted : ℕ → ℕ
counted n = cond (leb n most_nearby) n (suc most_nearby)

-- l with the list u over its first places, as far as there is room
unfoldable pub laid {ℓ} : {A : Type ℓ} → List A → List A → List A
laid u l = take most_nearby u ++ drop (length (take most_nearby u)) l

-- of the nodes of the first n places those in the box
abbrev pub nearby : RingBox → List Float → ℕ → Nearby
nearby w l n = record { ring_box = w; old = n; count = counted (length (inside w l n)) }

abbrev pub survey_of : RingBox → List Float → ℕ → NodeSurvey
survey_of w l n = record { on_sheet = all_on_sheet l (n * 2); near = nearby w l n }

-- the nodes of the first n places are collected over the lists a and b, which are now numbers and xs: r are collected
pub record Gathered (l : List Float) (w : RingBox) (n : ℕ) (a : List ℕ) (b : List Float) (numbers : List ℕ) (xs : List Float) (r : ℕ) : Type 0 where
  pub count : r ≡ counted (length (inside w l n))
  pub are : numbers ≡ laid (inside w l n) a
  pub are_x : xs ≡ laid (xs_of l (inside w l n)) b

-- the same goes on: from place m, where the lists are c and d and k are collected, to place n
abbrev pub GoesOn : List Float → RingBox → ℕ → List ℕ → List Float → ℕ → ℕ → List ℕ → List Float → ℕ → Type 0
GoesOn l w m c d k n numbers xs r =
    (a : List ℕ) (b : List Float) → length a ≡ most_nearby → length b ≡ most_nearby → Gathered l w m a b c d k → Gathered l w n a b numbers xs r
