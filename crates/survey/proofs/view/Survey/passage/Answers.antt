use Rattle.std.proofs.Common.{◌≡◌, ℕ, ◌+◌, ◌*◌, ◌<◌, ap, ◌∙◌, arith}
use Rattle.survey.specs.declared.layout.Layout.{Layout}
use Rattle.survey.specs.File.{two, passages, passage_start}
use Rattle.survey.proofs.Formed.{well_formed}
use Rattle.survey.proofs.view.Survey.passage.Goals as goal

pub returns-clause-ends : goal.returns-clause-ends
returns-clause-ends c =
    let s = c.args.self.now in
    let bs = s.bytes.now in
    let starts : c.passage_at-at.result ≡ passage_start bs c.args.number =
    c.passage_at-at.ensures ∙ ap (λ (l : Layout). 8 + 4 * l.places + 12 * c.args.number) s.header in
    let many = ap (λ (l : Layout). l.passages) s.header in
    let below : c.args.number < passages bs = omega arith in
    let formed = well_formed bs s.accepted in (
      omega (arith, c.twos_at-from.ensures.first ∙ ap (two bs) starts, formed.from_place c.args.number below),
      omega (arith, c.twos_at-from.ensures.second ∙ ap (λ (k : ℕ). two bs (k + 2)) starts, formed.to_place c.args.number below),
    )
