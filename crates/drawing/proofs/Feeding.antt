-- One byte of a text, test by test, and its end.
use Prim.Native.Nat.{ℕ, ◌+◌, ◌-◌, ◌*◌, ◌≤◌}
use mathlib.Core.Path.{◌≡◌, ap, ◌∙◌}
use mathlib.Core.Bool.{true, false, ◌||◌, cond}
use mathlib.Core.Logic.{◌⊎◌, inl, inr}
use mathlib.Core.List.{List, [], ◌∷◌, ◌++◌}
use native.Mathlib.Omega.{arith}
use native.Mathlib.Numerals.{add-one}
use lib.ListN.{length, take, set}
use lib.Seq.{take-suc-set}
use lib.Dec.{eqb}
use lib.IntN.{ℤ}
use borrow.Author.Tests.{eq-eqb, ne_eqb}
use Rattle.std.specs.declared.result.Result.{Result}
use Rattle.lines.specs.declared.Line.{Line}
use Rattle.lines.specs.declared.Fault.{Fault}
use Rattle.lines.specs.Line.{heard}
use Rattle.drawing.specs.declared.Wrong.{Wrong}
use Rattle.drawing.specs.declared.Wrong.TheVariants.{LongLine, LongText}
use Rattle.drawing.specs.declared.Draft.{Draft}
use Rattle.drawing.specs.declared.State.{State}
use Rattle.drawing.specs.Drawing.{shows, closes, takes, Did}
use Rattle.drawing.specs.Parsing.{Parser, parser, drawn_of, gone_on, stopped, stops, line_after, next_line, line_ends, fed, ends, Moved}

module _ (s : State) (text : List ℕ) (ring chain : List ℤ) (out : List ℕ) where
  abbrev P : Parser
  P = parser s text ring chain []

  -- the line was taken
  pub line_ends_so : (h : Result Line Fault) (d : Draft) (n : ℕ) (ring' chain' : List ℤ) (out' : List ℕ) → h ≡ heard (take s.length text)
      → Did (takes s.line h) s.draft ring chain d ring' chain' out' → n ≡ line_after s.line d
      → Moved line_ends s text ring chain (record { left = s.left - 1; line = n; length = 0; comment = false; draft = d }) text ring' chain' out'
  unfolding line_ends
  line_ends_so h d n ring' chain' out' e t q =
      let g : shows d ring' chain' out' ≡ takes s.line (heard (take s.length text)) (drawn_of P) =
      t.same ∙ ap (λ (x : Result Line Fault). takes s.line x (drawn_of P)) e in
      (λ j. record {
        state = record { left = s.left - 1; line = q j; length = 0; comment = false; draft = d };
        text = [];
        ring = take (d.corners * 2) ring';
        chain = take (d.chain_points * 2) chain';
        out = cond d.wrote out' [];
      })
      ∙ (λ j. record { state = next_line s (g j).draft; text = []; ring = (g j).ring; chain = (g j).chain; out = (g j).out })

  -- something is wrong
  stopped_so : (r : State) (w : Wrong) → r ≡ stopped s w → Moved (stops w) s text ring chain r text ring chain out
  stopped_so r w e = ap (λ (x : State). parser x text ring chain out) e

  module _ (b : ℕ) where
    pub fed_too_long : (r : State) → s.left ≡ 0 → r ≡ stopped s LongText → Moved (fed b) s text ring chain r text ring chain out
    unfolding fed
    fed_too_long r a e = stopped_so r LongText e ∙ rw (eq-eqb s.left 0 a)

    module _ (a : s.left ≡ 0 → ⊥) where
      pub fed_line : (r : State) (text' : List ℕ) (ring' chain' : List ℤ) (out' : List ℕ) → b ≡ 10
          → Moved line_ends s text ring chain r text' ring' chain' out' → Moved (fed b) s text ring chain r text' ring' chain' out'
      unfolding fed
      fed_line r text' ring' chain' out' c m = m ∙ rw (ne_eqb s.left 0 a, eq-eqb b 10 c)

      module _ (c : b ≡ 10 → ⊥) where
        in-comment : (r : State) → (s.comment || eqb b 35) ≡ true → r ≡ gone_on s s.length true → Moved (fed b) s text ring chain r text ring chain out
        unfolding fed
        in-comment r d e = ap (λ (x : State). parser x text ring chain out) e ∙ rw (ne_eqb s.left 0 a, ne_eqb b 10 c, d)

        pub fed_comment : (r : State) → (s.comment ≡ true) ⊎ ((s.comment ≡ false) × (b ≡ 35)) → r ≡ gone_on s s.length true
            → Moved (fed b) s text ring chain r text ring chain out
        fed_comment r (inl d) = in-comment r (rw d)
        fed_comment r (inr d) = in-comment r (rw (d.0, eq-eqb b 35 d.1))

        module _ (d : s.comment ≡ false) (g : b ≡ 35 → ⊥) where
          none : (s.comment || eqb b 35) ≡ false
          none = rw (d, ne_eqb b 35 g)

          pub fed_full : (r : State) → s.length ≡ 80 → r ≡ stopped s LongLine → Moved (fed b) s text ring chain r text ring chain out
          unfolding fed
          fed_full r z e = stopped_so r LongLine e ∙ rw (ne_eqb s.left 0 a, ne_eqb b 10 c, none, eq-eqb s.length 80 z)

          pub fed_byte : (r : State) → length text ≡ 80 → s.length ≤ 80 → (s.length ≡ 80 → ⊥) → r ≡ gone_on s (s.length + 1) false
              → Moved (fed b) s text ring chain r (set text s.length b) ring chain out
          unfolding fed
          fed_byte r long short z e =
              let l : take (s.length + 1) (set text s.length b) ≡ take s.length text ++ (b ∷ []) =
              rw (add-one s.length) (take-suc-set text s.length b (omega (arith, short, long))) in
              ap (λ (x : State). parser x (set text s.length b) ring chain out) e
              ∙ (λ j. record {
                state = gone_on s (s.length + 1) false;
                text = l j;
                ring = take (s.draft.corners * 2) ring;
                chain = take (s.draft.chain_points * 2) chain;
                out = [];
              })
              ∙ rw (ne_eqb s.left 0 a, ne_eqb b 10 c, none, ne_eqb s.length 80 z)

  -- the end
  pub text_ends : (d : Draft) (out' : List ℕ) → Did closes s.draft ring chain d ring chain out'
      → Moved ends s text ring chain (record { left = s.left; line = s.line; length = s.length; comment = s.comment; draft = d }) text ring chain out'
  unfolding ends
  text_ends d out' t =
      λ j. record {
        state = record s { draft = (t.same j).draft };
        text = take s.length text;
        ring = (t.same j).ring;
        chain = (t.same j).chain;
        out = (t.same j).out;
      }
