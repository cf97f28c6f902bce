-- A drawing byte by byte, and as a whole: from the bytes of a text to those of its blocks. Definitions only.
use Rattle.std.specs.Prelude.{ℕ, ◌+◌, ◌-◌, ◌*◌, ◌≡◌, Bool, true, false, ◌||◌, cond, Option, Some, None, List, [], ◌∷◌, ◌++◌, take, eqb, ℤ}
use Rattle.lines.specs.Line.{heard}
use Rattle.drawing.specs.declared.Wrong.{Wrong}
use Rattle.drawing.specs.declared.Wrong.TheVariants.{LongLine, LongText}
use Rattle.drawing.specs.declared.Phase.TheVariants.{Closed}
use Rattle.drawing.specs.declared.Draft.{Draft}
use Rattle.drawing.specs.declared.held.Drawing.{Drawing}
use Rattle.drawing.specs.declared.State.{State}
use Rattle.drawing.specs.Drawing.{Drawn, said_of, failed, still, closes, takes}

-- the parser between two bytes: the numbers, the bytes of the line so far, the points of the open ring and of its chain, and the blocks that the last byte
-- wrote
pub record Parser : Type 0 where
  pub state : State
  pub text : List ℕ
  pub ring : List ℤ
  pub chain : List ℤ
  pub out : List ℕ

abbrev pub parser : State → List ℕ → List ℤ → List ℤ → List ℕ → Parser
parser s text ring chain out =
    record {
      state = s;
      text = take s.length text;
      ring = take (s.draft.corners * 2) ring;
      chain = take (s.draft.chain_points * 2) chain;
      out = cond s.draft.wrote out [];
    }

abbrev pub parser_of : Drawing → Parser
parser_of d = parser d.state d.text d.lists.ring d.lists.chain d.lists.out

abbrev pub drawn_of : Parser → Drawn
drawn_of p = record { draft = p.state.draft; ring = p.ring; chain = p.chain; out = [] }

-- one byte fewer may come; the line has n bytes so far
abbrev pub gone_on : State → ℕ → Bool → State
gone_on s n c = record s { left = s.left - 1; length = n; comment = c; draft = still s.draft }

-- what is wrong with the line that is being read
abbrev pub stopped : State → Wrong → State
stopped s w = record s { draft = failed s.draft w }

abbrev pub stops : Wrong → Parser → Parser
stops w p = record { state = stopped p.state w; text = p.text; ring = p.ring; chain = p.chain; out = [] }

-- the line after one that said o: a bad line's number stays
abbrev pub number_after : Option Wrong → ℕ → ℕ
number_after None n = n + 1
number_after (Some w) n = n

abbrev pub line_after : ℕ → Draft → ℕ
line_after n o = number_after o.wrong n

abbrev pub next_line : State → Draft → State
next_line s o = record { left = s.left - 1; line = line_after s.line o; length = 0; comment = false; draft = o }

-- the end of a line: it is taken
unfoldable pub line_ends : Parser → Parser
line_ends p =
    let d = takes p.state.line (heard p.text) (drawn_of p) in
    record { state = next_line p.state d.draft; text = []; ring = d.ring; chain = d.chain; out = d.out }

-- one byte: 10 ends a line, and "`# comments` are skipped" up to there. A line has 80 bytes at most beside its comment, a text 16,777,216
unfoldable pub fed : ℕ → Parser → Parser
fed b p =
    let s = p.state in
    cond (eqb s.left 0) (stops LongText p)
    (cond (eqb b 10) (line_ends p)
    (cond (s.comment || eqb b 35) (record { state = gone_on s s.length true; text = p.text; ring = p.ring; chain = p.chain; out = [] })
    (cond (eqb s.length 80) (stops LongLine p)
    (record { state = gone_on s (s.length + 1) false; text = p.text ++ (b ∷ []); ring = p.ring; chain = p.chain; out = [] }))))

-- the end of the text, after its last line: the open ring is complete
unfoldable pub ends : Parser → Parser
ends p =
    let s = p.state in
    let d = closes (drawn_of p) in
    record {
      state = record s { draft = d.draft };
      text = p.text;
      ring = d.ring;
      chain = d.chain;
      out = d.out;
    }

-- before the first byte
abbrev pub begun : State
begun =
    record {
      left = 16777216;
      line = 1;
      length = 0;
      comment = false;
      draft = record { began = 0; phase = Closed; size = 0; corners = 0; chain_points = 0; block = 0; wrong = None; wrote = false };
    }

abbrev pub fresh_parser : Parser
fresh_parser = record { state = begun; text = []; ring = []; chain = []; out = [] }

-- a run: the parser, and all blocks so far
pub record Run : Type 0 where
  pub parser : Parser
  pub blocks : List ℕ

-- what comes after a run; one with something wrong stays as it is
abbrev pub after : Option Wrong → Run → Parser → Run
after None r q = record { parser = q; blocks = r.blocks ++ q.out }
after (Some w) r q = r

-- one byte on
unfoldable pub onward : Run → ℕ → Run
onward r b = after r.parser.state.draft.wrong r (fed b r.parser)

-- the run over some bytes, the latest first
unfoldable pub ran : List ℕ → Run
ran [] = record { parser = fresh_parser; blocks = [] }
ran (b ∷ bs) = onward (ran bs) b

-- all bytes are read: the last line ends as by a line feed, and then the text
unfoldable pub finished : List ℕ → Run
finished bs =
    let r = ran (10 ∷ bs) in
    after r.parser.state.draft.wrong r (ends r.parser)

-- the text t in its order
unfoldable pub latest_first : List ℕ → List ℕ → List ℕ
latest_first bs [] = bs
latest_first bs (b ∷ t) = latest_first (b ∷ bs) t

-- the blocks that the text t becomes, and what is wrong with it, 0 where nothing is
unfoldable pub drawn : List ℕ → List ℕ
drawn t = (finished (latest_first [] t)).blocks

unfoldable pub wrong_with : List ℕ → ℕ
wrong_with t = said_of (finished (latest_first [] t)).parser.state.draft.wrong

-- a step of the code did f, from some lists to others
abbrev pub Moved : (Parser → Parser) → State → List ℕ → List ℤ → List ℤ → State → List ℕ → List ℤ → List ℤ → List ℕ → Type 0
Moved f s text ring chain r text' ring' chain' out' = parser r text' ring' chain' out' ≡ f (parser s text ring chain [])

abbrev pub Moves : (Parser → Parser) → Drawing → Drawing → Type 0
Moves f d r = Moved f d.state d.text d.lists.ring d.lists.chain r.state r.text r.lists.ring r.lists.chain r.lists.out
