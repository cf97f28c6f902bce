-- 02, Card 14: "It goes in with a divider call's answer and comes back. For every list of rings from an empty record, those three are the values for the last
-- 32 accepted, or for all where fewer, and all zero where there are none." The calls are those of all entries, in any mixture; whatever lists each is lent.
use Rattle.std.specs.Prelude.{◌≡◌, List, [], ◌∷◌, ◌++◌, map}
use Rattle.call.specs.LentCalls as LentCalls
use Rattle.call.specs.LentCalls.{Pool, LentCall}
use Rattle.wear.specs.Answers.{RingAnswer, last, reply, values_for, zeros}

-- a ring: a call of an entry, and the node list that it gets. A wheel outlasts a node list, so that nothing is asked of one between two calls
pub record RingCall : Type 0 where
  pub pool : Pool
  pub call : LentCall

-- what goes in of its answer: the number and the cuts
abbrev pub answer_of : RingCall → RingAnswer
answer_of r = let v = (LentCalls.answer_of r.pool r.call).row in record { code = v.code; cuts = v.cuts }

abbrev pub answers_of : List RingCall → List RingAnswer
answers_of rs = map answer_of rs

-- the rings rs and one more, r: the call with r's answer reports the values for the last 32 that were accepted, r among them if it was
abbrev pub RingsFollow : List RingCall → RingCall → Type 0
RingsFollow rs r =
    reply (answers_of rs) (answer_of r)
    ≡ values_for (last 32 (zeros (answers_of (rs ++ (r ∷ [])))))
