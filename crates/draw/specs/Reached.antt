-- The loop of `draw`: what holds between two bytes, what it writes, and how a text ends. Definitions only.
use Rattle.std.specs.Prelude.{ℕ, ◌+◌, ◌*◌, ◌≤◌, ◌≡◌, Bool, cond, ltb, Option, Some, None, List, [], ◌∷◌, ◌++◌, length}
use Rattle.std.specs.Io.KnownBytes.{Appends}
use Rattle.drawing.specs.declared.State.{State}
use Rattle.drawing.specs.declared.held.Drawing.{Drawing}
use Rattle.drawing.specs.Parsing.{Parser, parser_of, fed, ends, Run, after, ran, finished, latest_first}
use Rattle.drawing.specs.declared.Wrong.{Wrong}
use Rattle.drawing.specs.declared.Wrong.TheVariants.{Refused, Misread, NoRing, RingFull, ChainFull, SecondChain, LongLine, LongText, Other}
use Rattle.draw.specs.declared.Bad.{Bad}
use Rattle.draw.specs.declared.Ended.{Ended}

-- what a step wrote
abbrev pub written : Drawing → List ℕ
written d = cond d.state.draft.wrote d.lists.out []

-- the run over the bytes t of a text, and over a text that has ended with them
abbrev pub over : List ℕ → Run
over t = ran (latest_first [] t)

abbrev pub whole : List ℕ → Run
whole t = finished (latest_first [] t)

-- the drawing is that of a run over some bytes, and as many bytes were written as it has blocks for
pub record Reached (d : Drawing) (sent : ℕ) : Type 0 where
  pub text : List ℕ
  pub same : parser_of d ≡ (over text).parser
  pub count : sent ≡ length (over text).blocks
  -- a byte writes one pair at most
  pub bound : sent + 1024 * d.state.left ≤ 17179869184

-- the last of these bytes ended the last line
pub record LineEnded (d : Drawing) (sent : ℕ) : Type 0 where
  pub reached : Reached d sent
  pub before : List ℕ
  pub last : reached.text ≡ before ++ (10 ∷ [])

-- what is written after a step are the blocks of that step, of a run that goes on or has ended
pub record Sendable (d : Drawing) (sent : ℕ) : Type 0 where
  pub text : List ℕ
  pub ended : Bool
  pub blocks : written d ≡ cond ended (whole text).parser.out (over text).parser.out
  pub few : sent ≤ 17179869184

-- what is said at the end: what is wrong, with the line; of a ring as a whole, the line that it begins at
abbrev pub line_of : State → Wrong → ℕ
line_of s (Refused r) = s.draft.began
line_of s (Misread f) = s.line
line_of s NoRing = s.line
line_of s RingFull = s.line
line_of s ChainFull = s.line
line_of s SecondChain = s.line
line_of s LongLine = s.line
line_of s LongText = s.line
line_of s (Other n) = cond (ltb n 21) s.draft.began s.line

abbrev pub bad_of : Option Wrong → State → Option Bad
bad_of None s = None
bad_of (Some w) s = Some (record { wrong = w; line = line_of s w })

abbrev pub ending : State → ℕ → Ended
ending s sent = record { bad = bad_of s.draft.wrong s; sent = sent }

-- the parser p and the blocks that its last step wrote; then the end of a text after p: its last line ends as by a line feed, and then the text
abbrev pub step_of : Parser → Run
step_of p = record { parser = p; blocks = p.out }

unfoldable pub closing : Parser → Run
closing p =
    let r = step_of (fed 10 p) in
    let q = ends r.parser in
    after r.parser.state.draft.wrong r q

-- after `sent` bytes, the blocks of q were written to the end: what is said is what is wrong there, and how many bytes there are then
pub record Ends (q : Run) (sent : ℕ) (out end : Option (List ℕ)) (r : Ended) : Type 0 where
  pub said : r ≡ ending q.parser.state (sent + length q.blocks)
  pub bytes : Appends out end q.blocks
