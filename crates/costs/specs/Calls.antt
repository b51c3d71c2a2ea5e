-- What a call of an open list answers and does, by its bag and its slots alone. Assumes nothing.
--   answer_of c n es    what the call c answers, with n slots and the bag es
--   bag_after c n es    the bag after it
--   Alike P Q p q       p of the make P and q of the make Q have the same bag and the same slots
use Rattle.std.specs.Prelude.{◌≡◌, ℕ, List, [], length}
use Rattle.costs.specs.declared.call.Answer.{Answer}
use Rattle.costs.specs.declared.call.Answer.TheVariants as answer
use Rattle.costs.specs.declared.call.Call.{Call}
use Rattle.costs.specs.declared.call.Call.TheVariants.{Count, Slots, Look, Put, Take, Clear}
use Rattle.costs.specs.declared.entry.Entry.{Entry}
use Rattle.costs.specs.declared.open_list.OpenList.{Ghosts}
use Rattle.costs.specs.Bag.{first, rest, put_answer, put_bag}

abbrev pub answer_of : Call → ℕ → List Entry → Answer
answer_of Count n es = answer.Number (length es)
answer_of Slots n es = answer.Number n
answer_of Look n es = answer.Least (first es)
answer_of (Put e) n es = answer.Put (put_answer n es)
answer_of Take n es = answer.Least (first es)
answer_of Clear n es = answer.Cleared

abbrev pub bag_after : Call → ℕ → List Entry → List Entry
bag_after Count n es = es
bag_after Slots n es = es
bag_after Look n es = es
bag_after (Put e) n es = put_bag n e es
bag_after Take n es = rest es
bag_after Clear n es = []

pub record Alike {P Q : Type 0} (as_p : Ghosts P) (as_q : Ghosts Q) (p : P) (q : Q) : Type 0 where
  pub bag : as_p.bag p ≡ as_q.bag q
  pub slots : as_p.slots p ≡ as_q.slots q
