use Rattle.std.proofs.Common.{ℕ, ◌<◌, List, length, get_or, ap, subst, arith}
use Rattle.plan.proofs.Looking.{chosen_stored}
use Rattle.plan.proofs.state.Plan.choice.Goals as goal

pub record-found-requires : goal.record-found-requires
record-found-requires g c =
    let choices = c.as_slice.ensures.value in
    let got = c.in-Some.ensures.lookup.3 in
    let inside : c.args.number < length c.args.self.now.book.choices.items = subst (λ (ns : List ℕ). c.args.number < length ns) choices got.0 in
    omega (arith, got.1 0, ap (λ (ns : List ℕ). get_or ns c.args.number 0) choices, chosen_stored c.args.self.now c.in-Opened.field-0 c.in-Opened.is c.args.number inside)
