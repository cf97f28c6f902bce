-- 01, What is returned: the row of the table, its number and all its values, for each answer. The ten values are told here and nowhere else.
use Rattle.std.specs.Prelude.{ℕ, Result, Ok, Err}
use Rattle.table.specs.declared.Refusal.{Refusal}
use Rattle.table.specs.declared.Refusal.TheVariants.{Counts, Units, Lists, Room, UnderThree, NotSimple, NoArea, Marks, Outline, Limits, Practice}
use Rattle.table.specs.declared.Row.{Row}
use Rattle.table.specs.declared.Answer.{Answer}
use Rattle.table.specs.declared.Answer.TheVariants.{Divided, Refused, Failed}

-- the number of each refusal
abbrev pub number_of : Refusal → ℕ
number_of Counts = 1
number_of Units = 2
number_of Lists = 3
number_of Room = 4
number_of UnderThree = 5
number_of NotSimple = 6
number_of NoArea = 7
number_of Marks = 13
number_of Outline = 14
number_of Limits = 15
number_of Practice = 16

-- the number of what a test returns: 0 where it passes
abbrev pub code_of : {A : Type 0} → Result A Refusal → ℕ
code_of (Ok a) = 0
code_of (Err e) = number_of e

-- 0: "n, c, s, pieces, turned area, the cleaned ring's area (both doubled, in units squared), new counts"
abbrev pub divided_row : ℕ → ℕ → ℕ → ℕ → ℕ → ℕ → ℕ → ℕ → Row
divided_row corners marked cuts pieces turned area nodes cells =
    record { code = 0; corners = corners; k = 0; marked = marked; cuts = cuts; pieces = pieces; turned = turned; area = area; nodes = nodes; cells = cells }

-- a ring that was not divided has a number, corners and k, the two counts, "and zeros for the rest"
abbrev pub undivided : ℕ → ℕ → ℕ → ℕ → ℕ → Row
undivided code corners k nodes cells =
    record { code = code; corners = corners; k = k; marked = 0; cuts = 0; pieces = 0; turned = 0; area = 0; nodes = nodes; cells = cells }

-- "Refusals 1 to 7 return the caller's two counts as they came, and zeros besides"
abbrev pub refused_row : ℕ → ℕ → ℕ → Row
refused_row code nodes cells = undivided code 0 0 nodes cells

-- 8: "corners of the piece, k", "the new node count and the old cell count"
abbrev pub failed_row : ℕ → ℕ → ℕ → ℕ → Row
failed_row corners k nodes cells = undivided 8 corners k nodes cells

-- the row of each case of the code's answer
abbrev pub values : Answer → Row
values (Divided corners marked cuts pieces turned area nodes cells) = divided_row corners marked cuts pieces turned area nodes cells
values (Refused why nodes cells) = refused_row (number_of why) nodes cells
values (Failed corners k nodes cells) = failed_row corners k nodes cells

-- the same row with another count of cells
abbrev pub with_cells : Row → ℕ → Row
with_cells v n =
    record {
      code = v.code;
      corners = v.corners;
      k = v.k;
      marked = v.marked;
      cuts = v.cuts;
      pieces = v.pieces;
      turned = v.turned;
      area = v.area;
      nodes = v.nodes;
      cells = n;
    }
