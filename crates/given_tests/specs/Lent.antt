-- Card 5, Snap to the lead line, "A new entry takes edge marks directly": the marks as a caller's slices hold them. Definitions only.
use Rattle.call.specs.Marked.{Marking}
use Rattle.given_tests.specs.declared.Marking as declared

-- the marks that a caller's slices hold
abbrev pub lent_in : declared.Marking → Marking
lent_in m = record { kinds = m.kinds.now; snaps = m.snaps.now; outline = m.outline.now; loops = m.loops.now }
