-- The loop of `draw`: it begins with no byte read, a byte more keeps what was reached (`turned`) and brings the end nearer (`falls`); and a run with
-- something wrong stays as it is, whatever comes after (`same_after`).
use Prim.Native.Nat.{ℕ, suc, ◌+◌, ◌-◌, ◌*◌, ◌≤◌, ◌<◌}
use mathlib.Core.Path.{◌≡◌, refl, sym, ap, ◌∙◌}
use mathlib.Core.Bool.{Bool, true, false, true≢false, not, ◌||◌, cond}
use mathlib.Core.List.{List, [], ◌∷◌, ◌++◌}
use native.Mathlib.Omega.{arith}
use lib.ListN.{length, length-append}
use lib.Dec.{eqb}
use borrow.Author.Tests.{eqb-false}
use Rattle.std.specs.Prelude.{Option, Some, None}
use Rattle.std.specs.Option.{is_some}
use Rattle.drawing.specs.declared.Wrong.{Wrong}
use Rattle.drawing.specs.declared.Wrong.TheVariants.{LongLine, LongText}
use Rattle.drawing.specs.declared.State.{State}
use Rattle.drawing.specs.declared.held.Drawing.{Drawing}
use Rattle.drawing.specs.Parsing.{Parser, parser, parser_of, gone_on, stops, line_ends, fed, ends}
use Rattle.drawing.specs.Parsing.{fresh_parser, Run, after, onward, ran, finished, latest_first, Moves}
use Rattle.draw.specs.Reached.{over, whole, Reached, LineEnded, Sendable, written}

unfoldable pub begun_so : (d : Drawing) → parser_of d ≡ fresh_parser → Reached d 0
unfolding ran latest_first
begun_so d e =
    let l : d.state.left ≡ 16777216 = ap (λ (p : Parser). p.state.left) e in
    record { text = []; same = e; count = refl; bound = omega (arith, l) }

pub onward-as : (w : Option Wrong) (r : Run) (b : ℕ) → r.parser.state.draft.wrong ≡ w → onward r b ≡ after w r (fed b r.parser)
unfolding onward
onward-as w r b e = ap (λ (v : Option Wrong). after v r (fed b r.parser)) e

after-wrong : (r : Run) (q : Parser) → (r.parser.state.draft.wrong ≡ None → ⊥) → after r.parser.state.draft.wrong r q ≡ r
after-wrong r q k = go r.parser.state.draft.wrong k
  where
    go : (w : Option Wrong) → (w ≡ None → ⊥) → after w r q ≡ r
    go None k = absurd (k refl)
    go (Some w) k = refl

onward-stays : (r : Run) (b : ℕ) → (r.parser.state.draft.wrong ≡ None → ⊥) → onward r b ≡ r
unfolding onward
onward-stays r b k = after-wrong r (fed b r.parser) k

-- the parser as a step finds it: nothing is written yet
abbrev found : Drawing → Parser
found d = parser d.state d.text d.lists.ring d.lists.chain []

-- a step does not look at what was written before
pub fed_so : (b : ℕ) (d r : Drawing) → Moves (fed b) d r → parser_of r ≡ fed b (parser_of d)
unfolding fed line_ends
fed_so b d r m = m

pub ends_so : (d r : Drawing) → Moves ends d r → parser_of r ≡ ends (parser_of d)
unfolding ends
ends_so d r m = m

-- ---- the end comes nearer with each byte
abbrev near_by : Option Wrong → ℕ → ℕ
near_by None n = suc n
near_by (Some w) n = 0

abbrev pub nearer : State → ℕ
nearer s = near_by (s.draft.wrong) s.left

at_most : (w : Option Wrong) (n m : ℕ) → n < m → near_by w n < suc m
at_most None n m h = omega arith
at_most (Some w) n m h = omega arith

-- a byte fewer may come, or the run has ended; and it writes one pair at most
fed-step : (b : ℕ) (p : Parser)
    → (nearer (fed b p).state < suc p.state.left)
    × (length (fed b p).out ≤ 1024 → length (fed b p).out + 1024 * (fed b p).state.left ≤ 1024 * p.state.left)
unfolding fed line_ends
fed-step b p = go (eqb p.state.left 0) (eqb b 10) (p.state.comment || eqb b 35) (eqb p.state.length 80) refl
  where
    s : State
    s = p.state

    parsers : Bool → Bool → Bool → Bool → Parser
    parsers t u v w =
        cond t (stops LongText p)
        (cond u (line_ends p)
        (cond v (record { state = gone_on s s.length true; text = p.text; ring = p.ring; chain = p.chain; out = [] })
        (cond w (stops LongLine p)
        (record { state = gone_on s (s.length + 1) false; text = p.text ++ (b ∷ []); ring = p.ring; chain = p.chain; out = [] }))))

    less : eqb s.left 0 ≡ false → s.left - 1 < s.left
    less e = let n = eqb-false s.left 0 e in omega (arith, n)

    go : (t u v w : Bool) → eqb s.left 0 ≡ t
        → (nearer (parsers t u v w).state < suc s.left)
        × (length (parsers t u v w).out ≤ 1024 → length (parsers t u v w).out + 1024 * (parsers t u v w).state.left ≤ 1024 * s.left)
    go true u v w e = (omega arith, λ h. omega arith)
    go false true v w e = (at_most ((line_ends p).state.draft.wrong) (s.left - 1) s.left (less e), λ h. omega (arith, less e))
    go false false true w e = (at_most (s.draft.wrong) (s.left - 1) s.left (less e), λ h. omega (arith, less e))
    go false false false true e = (omega arith, λ h. omega arith)
    go false false false false e = (at_most (s.draft.wrong) (s.left - 1) s.left (less e), λ h. omega (arith, less e))

pub falls : (b : ℕ) (d r : Drawing) → d.state.draft.wrong ≡ None → Moves (fed b) d r → nearer r.state < nearer d.state
falls b d r w m =
    let q : nearer d.state ≡ suc d.state.left = ap (λ (v : Option Wrong). near_by v d.state.left) w in
    let a : r.state ≡ (fed b (found d)).state = ap (λ (p : Parser). p.state) m in
    let h : nearer r.state < suc d.state.left = rw a (fed-step b (found d)).0 in
    omega (arith, q, h)

-- ---- whether a run goes on
pub not_none : {w : Option Wrong} {v : Wrong} → w ≡ Some v → w ≡ None → ⊥
not_none {w} {v} e z = let q : ◌≡◌ {A = Option Wrong} None (Some v) = sym z ∙ e in cc

pub goes_on : (w : Option Wrong) {r : Bool} → is_some w ≡ not r → r ≡ true → w ≡ None
goes_on None e h = refl
goes_on (Some v) e h = absurd (true≢false (e ∙ ap not h))

pub halts : (w : Option Wrong) {r : Bool} → is_some w ≡ not r → r ≡ false → w ≡ None → ⊥
halts None e h z = true≢false (sym (e ∙ ap not h))
halts (Some v) e h z = not_none refl z

-- ---- what a run has reached
-- a byte more in the order of a text, and more of them
pub latest_on : (bs t : List ℕ) (b : ℕ) → latest_first bs (t ++ (b ∷ [])) ≡ b ∷ latest_first bs t
unfolding latest_first
latest_on bs [] b = refl
latest_on bs (c ∷ t) b = latest_on (c ∷ bs) t b

latest_more : (bs t u : List ℕ) → latest_first bs (t ++ u) ≡ latest_first (latest_first bs t) u
unfolding latest_first
latest_more bs [] u = refl
latest_more bs (c ∷ t) u = latest_more (c ∷ bs) t u

part-short : (t : Bool) (out : List ℕ) → length out ≡ 1024 → length (cond t out []) ≤ 1024
part-short true out h = omega arith
part-short false out h = omega arith

pub one_pair : (d : Drawing) → length (written d) ≤ 1024
one_pair d = part-short d.state.draft.wrote d.lists.out d.lists.out_long

-- one byte more of a text with which nothing is wrong
over_on : (t : List ℕ) (b : ℕ) → (over t).parser.state.draft.wrong ≡ None
    → over (t ++ (b ∷ [])) ≡ record { parser = fed b (over t).parser; blocks = (over t).blocks ++ (fed b (over t).parser).out }
unfolding ran
over_on t b e = ap ran (latest_on [] t b) ∙ onward-as None (over t) b e

module _ {d : Drawing} {sent : ℕ} (q : Reached d sent) where
  pub wrong_is : (over q.text).parser.state.draft.wrong ≡ d.state.draft.wrong
  wrong_is = ap (λ (p : Parser). p.state.draft.wrong) (sym q.same)

  module _ (b : ℕ) (r : Drawing) (e : d.state.draft.wrong ≡ None) (m : Moves (fed b) d r) where
    one_on : over (q.text ++ (b ∷ [])) ≡ record { parser = parser_of r; blocks = (over q.text).blocks ++ written r }
    one_on =
        let f : parser_of r ≡ fed b (over q.text).parser = fed_so b d r m ∙ ap (fed b) q.same in
        over_on q.text b (wrong_is ∙ e) ∙ ap (λ (p : Parser). record { parser = p; blocks = (over q.text).blocks ++ p.out }) (sym f)

    pub fed-is : parser_of r ≡ (over (q.text ++ (b ∷ []))).parser
    fed-is = ap (λ (x : Run). x.parser) (sym one_on)

    pub all : (over (q.text ++ (b ∷ []))).blocks ≡ (over q.text).blocks ++ written r
    all = ap (λ (x : Run). x.blocks) one_on

    pub bounded : sent + length (written r) + 1024 * r.state.left ≤ 17179869184
    bounded =
        let p : Parser = found d in
        let w : written r ≡ (fed b p).out = ap (λ (x : Parser). x.out) m in
        let l : r.state.left ≡ (fed b p).state.left = ap (λ (x : Parser). x.state.left) m in
        let k : length (fed b p).out ≤ 1024 = rw (← w) (one_pair r) in
        let z : length (written r) ≡ length (fed b p).out = ap length w in
        omega (arith, (fed-step b p).1 k, q.bound)

    unfoldable pub turned : (sent' : ℕ) → sent' ≡ sent + length (written r) → Reached r sent'
    turned sent' z =
        record {
          text = q.text ++ (b ∷ []);
          same = fed-is;
          count = let n = ap length all ∙ length-append (over q.text).blocks (written r) in omega (arith, z, n, q.count);
          bound = omega (arith, bounded, z);
        }

    -- the byte ended the last line
    pub line_ended : b ≡ 10 → (sent' : ℕ) → sent' ≡ sent + length (written r) → LineEnded r sent'
    unfolding turned
    line_ended n sent' z = record { reached = turned sent' z; before = q.text; last = λ j. q.text ++ (n j ∷ []) }

    pub sendable : Sendable r sent
    sendable = record { text = q.text ++ (b ∷ []); ended = false; blocks = ap (λ (p : Parser). p.out) fed-is; few = omega (arith, q.bound) }

-- ---- a run with something wrong
abbrev pub Stuck : List ℕ → Type 0
Stuck bs = (ran bs).parser.state.draft.wrong ≡ None → ⊥

stays_on : (bs u : List ℕ) → Stuck bs → ran (latest_first bs u) ≡ ran bs
unfolding ran latest_first
stays_on bs [] k = refl
stays_on bs (c ∷ u) k =
    let e : ran (c ∷ bs) ≡ ran bs = onward-stays (ran bs) c k in
    stays_on (c ∷ bs) u (λ z. k (sym (ap (λ (x : Run). x.parser.state.draft.wrong) e) ∙ z)) ∙ e

pub stuck : (bs : List ℕ) → Stuck bs → finished bs ≡ ran bs
unfolding finished ran
stuck bs k =
    let h = onward-stays (ran bs) 10 k in
    after-wrong (onward (ran bs) 10) (ends (onward (ran bs) 10).parser) (λ z. k (sym (ap (λ (x : Run). x.parser.state.draft.wrong) h) ∙ z)) ∙ h

-- no byte that comes after matters
pub same_after : (t u : List ℕ) → Stuck (latest_first [] t) → whole (t ++ u) ≡ whole t
same_after t u k =
    let bs = latest_first [] t in
    let e = stays_on bs u k in
    ap finished (latest_more [] t u)
    ∙ stuck (latest_first bs u) (λ z. k (sym (ap (λ (x : Run). x.parser.state.draft.wrong) e) ∙ z))
    ∙ e
    ∙ sym (stuck bs k)
