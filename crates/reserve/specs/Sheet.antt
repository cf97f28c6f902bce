-- 02, Card 4: "the printed reserve sheet"; "the free places wanted for each ring count from 3 to 60 are read from a constant table". Definitions only.
use Rattle.std.specs.Prelude.{ℕ, ◌-◌, List, [], ◌∷◌, map, get_or}

-- node places and cell places, the first row for 3 points
unfoldable pub sheet : List (ℕ × ℕ)
sheet =
    (10, 3) ∷ (15, 6) ∷ (20, 9) ∷ (25, 12) ∷ (30, 15) ∷ (35, 18) ∷ (40, 21) ∷ (45, 24) ∷ (50, 27)
    ∷ (55, 30) ∷ (60, 33) ∷ (65, 36) ∷ (70, 39) ∷ (75, 42) ∷ (80, 45) ∷ (85, 48) ∷ (90, 51) ∷ (95, 54)
    ∷ (100, 57) ∷ (105, 60) ∷ (110, 63) ∷ (115, 66) ∷ (120, 69) ∷ (125, 72) ∷ (130, 75) ∷ (135, 78) ∷ (140, 81)
    ∷ (145, 84) ∷ (150, 87) ∷ (155, 90) ∷ (160, 93) ∷ (165, 96) ∷ (170, 99) ∷ (173, 100) ∷ (176, 101) ∷ (179, 102)
    ∷ (182, 103) ∷ (185, 104) ∷ (188, 105) ∷ (191, 106) ∷ (194, 107) ∷ (197, 108) ∷ (200, 109) ∷ (203, 110) ∷ (206, 111)
    ∷ (209, 112) ∷ (212, 113) ∷ (215, 114) ∷ (218, 115) ∷ (221, 116) ∷ (224, 117) ∷ (227, 118) ∷ (230, 119) ∷ (233, 120)
    ∷ (236, 121) ∷ (239, 122) ∷ (242, 123) ∷ (245, 124) ∷ []

-- the two columns
unfoldable pub node_column : List ℕ
node_column = map (λ (row : ℕ × ℕ). row.0) sheet

unfoldable pub cell_column : List ℕ
cell_column = map (λ (row : ℕ × ℕ). row.1) sheet

-- the row of a ring of r points
unfoldable pub nodes_at : ℕ → ℕ
nodes_at r = get_or node_column (r - 3) 0

unfoldable pub cells_at_of : ℕ → ℕ
cells_at_of r = get_or cell_column (r - 3) 0
