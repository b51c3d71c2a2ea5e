use Rattle.std.proofs.Common.{◌≡◌, true, false, None, sym, ◌∙◌, eq-eqb, ne_eqb}
use Rattle.survey.specs.File.{places, label_start}
use Rattle.survey.specs.Faults.{read_refusal}
use Rattle.survey.specs.Questions.{first_no}
use Rattle.survey.specs.Reading.{survey_questions}
use Rattle.survey.proofs.Asked.{exits, refused_by, accepted_by, passed, stopped}
use Rattle.survey.proofs.Formed.{formed_none, is_none}
use Rattle.survey.proofs.Stages.{by_passages, by_labels, by_end}
use Rattle.survey.proofs.check.Tables.check_rest.Goals as goal

pub returns-in_err-check_passages-clause-cases : goal.returns-in_err-check_passages-clause-cases
returns-in_err-check_passages-clause-cases c =
    let tables = c.args.self.now in
    exits read_refusal _ _ c.from_residual.ensures.1 ∙
    refused_by _ tt _ (by_passages tables.bytes.now (is_none _ tables.accepted) _ (stopped _ tt _ c.in_err-check_passages.ensures))

pub returns-in_err-check_labels-clause-cases : goal.returns-in_err-check_labels-clause-cases
returns-in_err-check_labels-clause-cases c =
    let tables = c.args.self.now in
    let bs = tables.bytes.now in
    let passing = (passed _ tt tt c.in_ok-check_passages.ensures).0 in
    exits read_refusal _ _ c.from_residual-in_err-check_labels.ensures.1 ∙
    refused_by _ tt _ (by_labels bs (is_none _ tables.accepted) passing _ (stopped _ (label_start bs (places bs)) _ c.in_err-check_labels.ensures))

pub returns-then-branch-self-clause-cases : goal.returns-then-branch-self-clause-cases
returns-then-branch-self-clause-cases c =
    let tables = c.args.self.now in
    let bs = tables.bytes.now in
    let passing = (passed _ tt tt c.in_ok-check_passages.ensures).0 in
    let naming = passed _ (label_start bs (places bs)) _ c.in_ok-check_labels.ensures in
    refused_by _ tt _ (by_end bs (is_none _ tables.accepted) passing naming.0 false (ne_eqb _ _ (λ e. c.if-branch-self.true (naming.1 ∙ e))))

pub returns : goal.returns
returns c =
    let tables = c.args.self.now in
    let bs = tables.bytes.now in
    let passing = (passed _ tt tt c.in_ok-check_passages.ensures).0 in
    let naming = passed _ (label_start bs (places bs)) _ c.in_ok-check_labels.ensures in
    let none : first_no (survey_questions bs) ≡ None = by_end bs (is_none _ tables.accepted) passing naming.0 true (eq-eqb _ _ (sym naming.1 ∙ c.if-branch-self.false)) in
    record { cases = accepted_by _ tt tt none (λ i. tt); formed = formed_none bs none }
