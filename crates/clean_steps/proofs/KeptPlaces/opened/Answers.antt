use Rattle.std.proofs.Common.{rules, tests, ◌≡◌, ◌∙◌, ◌-◌, take, drop, ◌<◌, arith, sym, subst, get_or}
use Rattle.std.proofs.lemmas.Iterator.Adapters.{YieldsList-from_rev_slice, serves_from_places}
use Rattle.std.proofs.lemmas.Iterator.Consumers.{count_from_yields_List}
use Rattle.std.proofs.lemmas.Iterator.Search.{YieldsList-from_take_while}
use Rattle.std.proofs.lemmas.List.Folds.{length-prefix_len}
use Rattle.std.specs.Prelude.{reverse}
use Rattle.clean_steps.proofs.Turns.{closes, opened-but, back-low}
use Rattle.clean_steps.proofs.KeptPlaces.opened.Goals as goal

pub count-closing-requires-clause-can : goal.count-closing-requires-clause-can
count-closing-requires-clause-can c =
    let r = c.args.self.now in
    let m = c.min.result in
    let l = take (r.count - m) (drop m r.places) in (
      tt,
      serves_from_places (YieldsList-from_rev_slice l cc) (λ x f h. search rules)
          (λ x k h e.
          let low : x.now < 60 = subst (λ p. p < 60) (sym e) (back-low r m (r.count - m) k x.now h) in
          let all = r.valid.points in
          let p = all x.now in
          let q = all (get_or r.places 0 0) in
          search rules),
    )

pub returns : goal.returns
returns c =
    let r = c.args.self.now in
    let m = c.min.result in
    let l = take (r.count - m) (drop m r.places) in
    let n : c.count-closing.result ≡ _ =
    count_from_yields_List c.take_while.result _ c.count-closing.ensures.ran
    (YieldsList-from_take_while _ (closes r)
    (YieldsList-from_rev_slice l cc) c.take_while.ensures.closure c.take_while.ensures.done (λ x b q k. search (rules, tests)))
    ∙ length-prefix_len (closes r) (reverse l) in
    (omega arith, rw n (opened-but r r.count m (omega arith) c.min.ensures))
