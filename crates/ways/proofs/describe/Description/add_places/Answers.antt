use Rattle.std.proofs.Common.{ℕ, ◌<◌, List, sym, subst, arith}
use Rattle.std.proofs.lemmas.Result.{MatchResult-from_err}
use Rattle.survey.specs.File.{places}
use Rattle.survey.specs.View.{file}
use Rattle.ways.specs.Text.{Grown, Lacks}
use Rattle.ways.proofs.Growth.{grown_then, lacks_then, lacks_more}
use Rattle.ways.proofs.Rows.{rows_more, rows_split, rows, row}
use Rattle.ways.proofs.describe.Description.add_places.Goals as goal

pub returns-in_err-add_place : goal.returns-in_err-add_place
returns-in_err-add_place c =
    let bs = file c.args.self.survey in
    let i = c.loop-place.place in
    let below : i < places bs = omega arith in
    MatchResult-from_err _ _ _ c.from_residual.ensures.0 (λ _.
    subst (λ (l : List ℕ). Lacks c.args.text.now l) (sym (rows_split bs i (places bs) below))
    (lacks_more _ _ (lacks_then (rows bs i) (row bs i) c.loop-place.invariant c.in_err-add_place.ensures)))

pub loop-place-preserved : goal.loop-place-preserved
loop-place-preserved c =
    let bs = file c.args.self.survey in
    let i = c.loop-place.place in
    subst (λ (l : List ℕ). Grown c.args.text.now c.add_place.new.text l) (sym (rows_more bs i))
    (grown_then (rows bs i) (row bs i) c.loop-place.invariant c.in_ok-add_place.ensures)
