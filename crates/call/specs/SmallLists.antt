-- Card 2: "The small lists of the controller give the numbers they gave before."
use Rattle.std.specs.Prelude.{ℕ, List, ◌++◌}
use Rattle.marks.specs.Part.{Part}
use Rattle.limits.specs.declared.Limits.{Limits}
use Rattle.table.specs.Refusals.{Refusal, Tests, in_order}
use Rattle.call.specs.Call.{Lists, lists_over}
use Rattle.call.specs.Divide.{CallAnswer, refused_or, core}

-- what 01 had: "node numbers have 16 bits, a node list at most 65,535 places"
abbrev pub places16 : ℕ
places16 = 65535

-- the tests t of an entry, in which a node list of more than `most` places is refused
abbrev pub up_to : ℕ → Lists → Tests → Tests
up_to most x t =
    record {
      counts = t.counts;
      practice = t.practice;
      units = t.units;
      marks = t.marks;
      outline = t.outline;
      limits = t.limits;
      lists = lists_over most x;
      room = t.room;
    }

-- the call of an entry: tests of its own, those in the order of all entries, and the core
abbrev pub call_up_to : ℕ → List Refusal → Tests → Limits → ℕ → Part → Lists → CallAnswer
call_up_to most own t L r p x = refused_or x (own ++ in_order (up_to most x t)) (core L r p x)
