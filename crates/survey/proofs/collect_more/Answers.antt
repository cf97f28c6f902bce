-- `collect_more`: where the lists are full, nothing more goes in.
use Rattle.survey.proofs.Gathering as gathering
use Rattle.survey.proofs.collect_more.Goals as goal

pub returns-then-n-gt-MOST_NEARBY : goal.returns-then-n-gt-MOST_NEARBY
returns-then-n-gt-MOST_NEARBY c = λ a b p q g. gathering.later _ _ a b _ _ _ _ _ c.requires.2 c.if-n-gt-MOST_NEARBY.true g
