-- How a run of `draw` ends: the last line and the text (`ends_step`, `closes_on`), in a run over bytes that the reader gave, of which the blocks were written
-- (`begun_under`, `under_on`); then `drawn` of them was written (`gives_end`, `gives_wrong`).
use Prim.Native.Nat.{ℕ, ◌+◌}
use mathlib.Core.Path.{◌≡◌, refl, sym, ap, ◌∙◌, subst}
use mathlib.Core.Bool.{true}
use mathlib.Core.Logic.{◌⊎◌, inl, inr}
use mathlib.Core.List.{List, [], ◌∷◌, ◌++◌, append_assoc, append-nil}
use native.Mathlib.Omega.{arith}
use lib.ListN.{length, length-append}
use Rattle.std.proofs.Common.{Option, Some, None, IfSome}
use Rattle.std.specs.Io.KnownBytes.{Consumes, Appends, IsAtEnd}
use Rattle.std.proofs.KnownBytes.{Consumes-nil, Consumes-trans, Consumes-whole, Appends-nil, Appends-trans}
use Rattle.drawing.specs.declared.Wrong.{Wrong}
use Rattle.drawing.specs.declared.held.Drawing.{Drawing}
use Rattle.drawing.specs.Parsing.{Parser, parser_of, fed, ends, fresh_parser, Run, after, ran, finished, drawn, latest_first, Moves}
use Rattle.draw.specs.declared.Ended.{Ended}
use Rattle.draw.specs.Reached.{written, over, whole, LineEnded, Sendable, step_of, closing, ending, Ends}
use Rattle.draw.specs.Given.{Good, Stopped, Gives, UnderWay}
use Rattle.draw.proofs.Reaching.{begun_so, onward-as, ends_so, not_none, latest_on, wrong_is, fed-is, all, turned, stuck, same_after}

-- ---- the end of a text
-- one step ended it
pub ends_step : (d : Drawing) (p : Parser) → parser_of d ≡ p → (sent n : ℕ) → n ≡ sent + length (written d) → (out end : Option (List ℕ))
    → Appends out end (written d) → (r : Ended) → r ≡ ending d.state n → Ends (step_of p) sent out end r
ends_step d p e sent n z out end a r s =
    record {
      said = s ∙ (λ j. ending d.state (z j)) ∙ ap (λ (q : Parser). ending q.state (sent + length q.out)) e;
      bytes = subst (Appends out end) (ap (λ (q : Parser). q.out) e) a;
    }

-- its last line was bad
pub closed_bad : (p : Parser) → ((fed 10 p).state.draft.wrong ≡ None → ⊥) → closing p ≡ step_of (fed 10 p)
unfolding closing
closed_bad p k = go (fed 10 p).state.draft.wrong k
  where
    go : (w : Option Wrong) → (w ≡ None → ⊥) → after w (step_of (fed 10 p)) (ends (fed 10 p)) ≡ step_of (fed 10 p)
    go None k = absurd (k refl)
    go (Some w) k = refl

closed_good : (p : Parser) → (fed 10 p).state.draft.wrong ≡ None
    → closing p ≡ record { parser = ends (fed 10 p); blocks = (fed 10 p).out ++ (ends (fed 10 p)).out }
unfolding closing
closed_good p e = ap (λ (w : Option Wrong). after w (step_of (fed 10 p)) (ends (fed 10 p))) e

-- or the text ended after it
pub closes_on : (p : Parser) (d : Drawing) → parser_of d ≡ fed 10 p → d.state.draft.wrong ≡ None → (sent n : ℕ) → n ≡ sent + length (written d)
    → (out cur end : Option (List ℕ)) → Appends out cur (written d) → (r : Ended) → Ends (step_of (ends (parser_of d))) n cur end r
    → Ends (closing p) sent out end r
closes_on p d e k sent n z out cur end a r v =
    let c : closing p ≡ record { parser = ends (parser_of d); blocks = written d ++ (ends (parser_of d)).out } =
    closed_good p (ap (λ (q : Parser). q.state.draft.wrong) (sym e) ∙ k)
    ∙ ap (λ (q : Parser). record { parser = ends q; blocks = q.out ++ (ends q).out }) (sym e) in
    let l : n + length (ends (parser_of d)).out ≡ sent + length (written d ++ (ends (parser_of d)).out) =
    omega (arith, z, length-append (written d) (ends (parser_of d)).out) in
    record {
      said = v.said ∙ ap (ending (ends (parser_of d)).state) l ∙ ap (λ (x : Run). ending x.parser.state (sent + length x.blocks)) (sym c);
      bytes = subst (Appends out end) (ap (λ (x : Run). x.blocks) (sym c)) (Appends-trans out cur end (written d) (ends (parser_of d)).out a v.bytes);
    }

-- a text that has ended, from its last line, and from its last byte
whole_good : (t : List ℕ) → (over (t ++ (10 ∷ []))).parser.state.draft.wrong ≡ None → (whole t).parser ≡ ends (over (t ++ (10 ∷ []))).parser
unfolding finished
whole_good t k =
    let r : ran (10 ∷ latest_first [] t) ≡ over (t ++ (10 ∷ [])) = ap ran (sym (latest_on [] t 10)) in
    ap (λ (x : Run). (after x.parser.state.draft.wrong x (ends x.parser)).parser) r
    ∙ ap (λ (w : Option Wrong). (after w (over (t ++ (10 ∷ []))) (ends (over (t ++ (10 ∷ []))).parser)).parser) k

whole_closes : (t : List ℕ) → Good t
    → whole t ≡ record { parser = (closing (over t).parser).parser; blocks = (over t).blocks ++ (closing (over t).parser).blocks }
unfolding finished ran closing
whole_closes t e =
    let p : Parser = fed 10 (over t).parser in
    ap (λ (x : Run). after x.parser.state.draft.wrong x (ends x.parser)) (onward-as None (over t) 10 e) ∙ go p.state.draft.wrong p (ends p)
  where
    go : (w : Option Wrong) (p q : Parser)
        → after w (record { parser = p; blocks = (over t).blocks ++ p.out }) q
        ≡ record { parser = (after w (step_of p) q).parser; blocks = (over t).blocks ++ (after w (step_of p) q).blocks }
    go None p q = ap (λ (bs : List ℕ). record { parser = q; blocks = bs }) (append_assoc (over t).blocks p.out q.out)
    go (Some w) p q = refl

-- what is written after the last line is of a text that has ended
pub sendable_last : {a : Drawing} {sent : ℕ} → LineEnded a sent → a.state.draft.wrong ≡ None → (b : Drawing) → Moves ends a b → Sendable b sent
sendable_last {a} {sent} l k b m =
    let last : parser_of a ≡ (over (l.before ++ (10 ∷ []))).parser = l.reached.same ∙ ap (λ (t : List ℕ). (over t).parser) l.last in
    let good = ap (λ (p : Parser). p.state.draft.wrong) (sym last) ∙ k in
    record {
      text = l.before;
      ended = true;
      blocks = ap (λ (p : Parser). p.out) (ends_so a b m ∙ ap ends last ∙ sym (whole_good l.before good));
      few = omega (arith, l.reached.bound);
    }

-- ---- between two bytes
pub begun_under : (d : Drawing) → parser_of d ≡ fresh_parser → (old out : Option (List ℕ)) → UnderWay old old out out d 0
unfolding begun_so ran latest_first
begun_under d e old out = record { reached = begun_so d e; bytes = Consumes-nil old; read = inl refl; written = Appends-nil out }

module _ {old now out cur : Option (List ℕ)} {d : Drawing} {sent : ℕ} (u : UnderWay old now out cur d sent) where
  abbrev t : List ℕ
  t = u.reached.text

  good : d.state.draft.wrong ≡ None → Good t
  good k = wrong_is u.reached ∙ k

  -- one byte on
  pub under_on : (b : ℕ) (r : Drawing) → d.state.draft.wrong ≡ None → Moves (fed b) d r → (new end : Option (List ℕ)) → Consumes now new (b ∷ [])
      → (n : ℕ) → n ≡ sent + length (written r) → Appends cur end (written r) → UnderWay old new out end r n
  unfolding turned
  under_on b r k m new end c n z a =
      record {
        reached = turned u.reached b r k m n z;
        bytes = Consumes-trans old now new t (b ∷ []) u.bytes c;
        read = go r.state.draft.wrong refl;
        written = subst (Appends out end) (sym (all u.reached b r k m)) (Appends-trans out cur end (over t).blocks (written r) u.written a);
      }
    where
      same : (over (t ++ (b ∷ []))).parser.state.draft.wrong ≡ r.state.draft.wrong
      same = ap (λ (p : Parser). p.state.draft.wrong) (sym (fed-is u.reached b r k m))

      go : (w : Option Wrong) → r.state.draft.wrong ≡ w → Good (t ++ (b ∷ [])) ⊎ Stopped (t ++ (b ∷ []))
      go None e = inl (same ∙ e)
      go (Some w) e = inr (record { before = t; last = b; all = refl; good = good k; bad = λ g. not_none e (sym same ∙ g) })

  -- ---- the end of a run
  bytes_all : (new : Option (List ℕ)) → Consumes now new [] → Consumes old new t
  bytes_all new c = subst (Consumes old new) (append-nil t) (Consumes-trans old now new t [] u.bytes c)

  -- the reader has no more
  pub gives_end : d.state.draft.wrong ≡ None → (new : Option (List ℕ)) → Consumes now new [] → IsAtEnd new → (end : Option (List ℕ)) (r : Ended)
      → Ends (closing (parser_of d)) sent cur end r → Gives old new out end r
  unfolding drawn
  gives_end k new c i end r v =
      let w = whole_closes t (good k) in
      let q : closing (parser_of d) ≡ closing (over t).parser = ap closing u.reached.same in
      let bytes = bytes_all new c in
      let l = length-append (over t).blocks (closing (over t).parser).blocks in
      let n : sent + length (closing (over t).parser).blocks ≡ length ((over t).blocks ++ (closing (over t).parser).blocks) =
      omega (arith, u.reached.count, l) in
      let f = subst (Appends cur end) (ap (λ (x : Run). x.blocks) q) v.bytes in
      record {
        text = t;
        bytes = bytes;
        read = inl (good k, i);
        same = Consumes-whole old new t (λ (xs : List ℕ). whole xs ≡ whole t) bytes i refl;
        said =
            v.said
            ∙ ap (λ (x : Run). ending x.parser.state (sent + length x.blocks)) q
            ∙ ap (ending (closing (over t).parser).parser.state) n
            ∙ ap (λ (x : Run). ending x.parser.state (length x.blocks)) (sym w);
        written =
            subst (Appends out end) (ap (λ (x : Run). x.blocks) (sym w))
            (Appends-trans out cur end (over t).blocks (closing (over t).parser).blocks u.written f);
      }

  -- something is wrong with the last byte
  pub gives_wrong : (d.state.draft.wrong ≡ None → ⊥) → (r : Ended) → r ≡ ending d.state sent → Gives old now out cur r
  unfolding drawn
  gives_wrong k r s =
      let h : Good t → ⊥ = λ g. k (sym (wrong_is u.reached) ∙ g) in
      let w : whole t ≡ over t = stuck (latest_first [] t) h in
      let e : d.state ≡ (whole t).parser.state = ap (λ (p : Parser). p.state) u.reached.same ∙ ap (λ (x : Run). x.parser.state) (sym w) in
      let n : sent ≡ length (whole t).blocks = u.reached.count ∙ ap (λ (x : Run). length x.blocks) (sym w) in
      record {
        text = t;
        bytes = u.bytes;
        read = inr (stopped h u.read);
        same = front old now h u.bytes;
        said = s ∙ (λ j. ending (e j) (n j));
        written = subst (Appends out cur) (ap (λ (x : Run). x.blocks) (sym w)) u.written;
      }
    where
      stopped : (Good t → ⊥) → Good t ⊎ Stopped t → Stopped t
      stopped h (inl g) = absurd (h g)
      stopped h (inr q) = q

      front : (a b : Option (List ℕ)) → (Good t → ⊥) → Consumes a b t → IfSome a (λ (xs : List ℕ). whole xs ≡ whole t)
      front None b h c = tt
      front (Some xs) None h c = absurd c
      front (Some xs) (Some ys) h c = ap whole c ∙ same_after t ys h
