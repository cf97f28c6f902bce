-- `root_digits`: what it computes is in `Halves.antt`.
use Rattle.root.proofs.Halves.{Known, known, quot, left, over, square-few}
use Rattle.root.proofs.root_digits.Goals as goal
use Rattle.root.proofs.root_digits.Goals.{After-root_head-a}

has : (c : After-root_head-a) → Known c.args.n c.root_head-a.result
has c = known c.args.n c.root_head-a.result c.requires.0 c.requires.1 c.root_head-a.ensures

pub overflow_mul-b : goal.overflow_mul-b
overflow_mul-b c = record { fits = square-few (quot c.args.n c.root_head-a.result) (has c).few }

pub returns-then-v-b : goal.returns-then-v-b
returns-then-v-b c =
    let n = c.args.n in
    let a = c.root_head-a.result in
    over n a (quot n a) (left n a) c.requires.0 c.requires.1 c.root_head-a.ensures
    (has (goal.at.returns-then-v-b c).After-root_head-a).split (has (goal.at.returns-then-v-b c).After-root_head-a).under c.if-v-b.true
