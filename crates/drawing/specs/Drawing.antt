-- A drawing line by line: what a line adds to the ring that is open, and the blocks of a ring that is complete. Definitions only.
use Rattle.std.specs.Prelude.{ℕ, ◌+◌, ◌*◌, ◌≤◌, ◌<◌, ◌≡◌, true, false, cond, Option, Some, None, Ok, Err, List, [], ◌∷◌, ◌++◌, take, eqb, ℤ}
use Rattle.std.specs.declared.result.Result.{Result}
use Rattle.lines.specs.declared.Line.{Line}
use Rattle.lines.specs.declared.Line.TheVariants.{Nothing, Ring as RingLine, Chain as ChainLine, Point}
use Rattle.lines.specs.declared.Fault.{Fault}
use Rattle.lines.specs.Line as Says
use Rattle.writer.specs.declared.Refusal.{Refusal}
use Rattle.writer.specs.Write as Write
use Rattle.writer.specs.Write.{tested, pair_bytes}
use Rattle.drawing.specs.declared.Wrong.{Wrong}
use Rattle.drawing.specs.declared.Wrong.TheVariants.{Refused, Misread, NoRing, RingFull, ChainFull, SecondChain, LongLine, LongText, Other as OtherWrong}
use Rattle.drawing.specs.declared.Phase.{Phase}
use Rattle.drawing.specs.declared.Phase.TheVariants.{Closed, Ring, Chain, Other}
use Rattle.drawing.specs.declared.Draft.{Draft}
use Rattle.drawing.specs.declared.held.Lists.{Lists}

-- the number that is said of what is wrong; 0 where nothing is
abbrev pub number_of : Wrong → ℕ
number_of (Refused r) = Write.number_of r
number_of (Misread f) = Says.number_of f
number_of NoRing = 24
number_of RingFull = 25
number_of ChainFull = 26
number_of SecondChain = 27
number_of LongLine = 28
number_of LongText = 29
number_of (OtherWrong n) = n

abbrev pub said_of : Option Wrong → ℕ
said_of None = 0
said_of (Some w) = number_of w

-- the number of a phase, and the phase of a number
abbrev pub number_of_phase : Phase → ℕ
number_of_phase Closed = 0
number_of_phase Ring = 1
number_of_phase Chain = 2
number_of_phase (Other n) = n

abbrev pub phase_of : ℕ → Phase
phase_of n = cond (eqb n 0) Closed (cond (eqb n 1) Ring (cond (eqb n 2) Chain (Other n)))

-- the ring that is open, its points and its chain's, x and y in turn, and the blocks that the last line wrote
pub record Drawn : Type 0 where
  pub draft : Draft
  pub ring : List ℤ
  pub chain : List ℤ
  pub out : List ℕ

-- what is kept as numbers and in lists, as such a record: so many points of the places, and the pair where one was written
abbrev pub shows : Draft → List ℤ → List ℤ → List ℕ → Drawn
shows o ring chain out = record { draft = o; ring = take (o.corners * 2) ring; chain = take (o.chain_points * 2) chain; out = cond o.wrote out [] }

-- the same as a step finds it: nothing is written yet
abbrev pub before : Draft → List ℤ → List ℤ → Drawn
before o ring chain = record { draft = o; ring = take (o.corners * 2) ring; chain = take (o.chain_points * 2) chain; out = [] }

-- "a line `x y`": its two coordinates
abbrev pub point_of : ℤ → ℤ → List ℤ
point_of x y = x ∷ y ∷ []

-- "A bad line ends the run": what is wrong is said, and nothing is written
abbrev pub failed : Draft → Wrong → Draft
failed o w = record o { wrong = Some w; wrote = false }

abbrev pub fails : Wrong → Drawn → Drawn
fails w d = record { draft = failed d.draft w; ring = d.ring; chain = d.chain; out = [] }

-- nothing new
abbrev pub still : Draft → Draft
still o = record o { wrote = false }

abbrev pub stays : Drawn → Drawn
stays d = record { draft = still d.draft; ring = d.ring; chain = d.chain; out = [] }

-- a complete ring, which the writer does not refuse: its pair of blocks is out, the next ring's block is two further, and no ring is open
abbrev pub closed_of : Draft → Draft
closed_of o = record o { phase = Closed; corners = 0; chain_points = 0; block = o.block + 2; wrote = true }

abbrev pub complete : Result (Unit {0}) Refusal → Drawn → Drawn
complete (Ok u) d =
    record { draft = closed_of d.draft; ring = []; chain = []; out = pair_bytes d.ring d.chain d.draft.size d.draft.block }
complete (Err r) d = fails (Refused r) d

abbrev pub closes_at : Phase → Drawn → Drawn
closes_at Closed d = stays d
closes_at Ring d = complete (tested d.ring d.chain d.draft.size d.draft.block 1024) d
closes_at Chain d = complete (tested d.ring d.chain d.draft.size d.draft.block 1024) d
closes_at (Other n) d = complete (tested d.ring d.chain d.draft.size d.draft.block 1024) d

unfoldable pub closes : Drawn → Drawn
closes d = closes_at d.draft.phase d

-- "A ring is `ring SIZE`": the ring before it is complete; this one begins at line n
abbrev pub begun_of : ℕ → ℕ → Draft → Draft
begun_of n size c = record c { began = n; phase = Ring; size = size; corners = 0; chain_points = 0 }

abbrev pub afresh : Option Wrong → ℕ → ℕ → Drawn → Drawn
afresh None n size c = record { draft = begun_of n size c.draft; ring = []; chain = []; out = c.out }
afresh (Some w) n size c = c

unfoldable pub begins : ℕ → ℕ → Drawn → Drawn
begins n size d = afresh (closes d).draft.wrong n size (closes d)

-- "then, if it has one, `chain` and its points": of an open ring, and one chain
abbrev pub chain_at : Phase → Draft → Draft
chain_at Closed o = failed o NoRing
chain_at Chain o = failed o SecondChain
chain_at Ring o = record o { phase = Chain; wrote = false }
chain_at (Other n) o = record o { phase = Chain; wrote = false }

abbrev pub chain_of : Draft → Draft
chain_of o = chain_at o.phase o

abbrev pub chains : Drawn → Drawn
chains d = record { draft = chain_of d.draft; ring = d.ring; chain = d.chain; out = [] }

-- one point more, of 60 at most: of the ring, and of the chain
abbrev pub corner_of : Draft → Draft
corner_of o = cond (eqb o.corners 60) (failed o RingFull) (record o { corners = o.corners + 1; wrote = false })

abbrev pub chain_point_of : Draft → Draft
chain_point_of o = cond (eqb o.chain_points 60) (failed o ChainFull) (record o { chain_points = o.chain_points + 1; wrote = false })

-- the points with one more, where there is room
abbrev pub joined : ℕ → List ℤ → ℤ → ℤ → List ℤ
joined n ps x y = cond (eqb n 60) ps (ps ++ point_of x y)

abbrev pub points_at : Phase → ℤ → ℤ → Drawn → Drawn
points_at Closed x y d = fails NoRing d
points_at Ring x y d = record { draft = corner_of d.draft; ring = joined d.draft.corners d.ring x y; chain = d.chain; out = [] }
points_at (Other n) x y d = record { draft = corner_of d.draft; ring = joined d.draft.corners d.ring x y; chain = d.chain; out = [] }
points_at Chain x y d = record { draft = chain_point_of d.draft; ring = d.ring; chain = joined d.draft.chain_points d.chain x y; out = [] }

unfoldable pub points : ℤ → ℤ → Drawn → Drawn
points x y d = points_at d.draft.phase x y d

-- what was heard of line n
abbrev pub takes : ℕ → Result Line Fault → Drawn → Drawn
takes n (Err f) d = fails (Misread f) d
takes n (Ok Nothing) d = stays d
takes n (Ok (RingLine size)) d = begins n size d
takes n (Ok ChainLine) d = chains d
takes n (Ok (Point x y)) d = points x y d

-- what the code's numbers keep to
pub record ValidDraft (o : Draft) : Type 0 where
  pub corners : o.corners ≤ 60
  pub chain_points : o.chain_points ≤ 60
  pub block : o.block ≤ 65536

-- a step of the code did f, from some lists to others
pub record Did (f : Drawn → Drawn) (o : Draft) (ring chain : List ℤ) (r : Draft) (ring' chain' : List ℤ) (out' : List ℕ) : Type 0 where
  pub same : shows r ring' chain' out' ≡ f (before o ring chain)
  pub valid : ValidDraft r

abbrev pub Does : (Drawn → Drawn) → Draft → Lists → Draft → Lists → Type 0
Does f o l r l' = Did f o l.ring l.chain r l'.ring l'.chain l'.out

-- a point was put behind n others, or there was no room
abbrev pub Puts : ℕ → ℤ → ℤ → List ℤ → Option ℕ → List ℤ → Type 0
Puts n x y ps None qs = (n ≡ 60) × (qs ≡ ps)
Puts n x y ps (Some m) qs = (n < 60) × (m ≡ n + 1) × (take ((n + 1) * 2) qs ≡ take (n * 2) ps ++ point_of x y)
