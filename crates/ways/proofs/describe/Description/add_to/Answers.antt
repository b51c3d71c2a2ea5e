use Rattle.std.proofs.Common.{codes}
use Rattle.std.proofs.lemmas.Result.{MatchResult-from_err}
use Rattle.survey.specs.View.{file}
use Rattle.ways.specs.Description.{count_lines, place_lines, place_line, repeater_lines}
use Rattle.ways.proofs.Growth.{lacks_then, lacks_more, adds_then}
use Rattle.ways.proofs.describe.Description.add_to.Goals as goal

pub returns-in_err-add_counts : goal.returns-in_err-add_counts
returns-in_err-add_counts c =
    let bs = file c.args.self.survey in
    MatchResult-from_err _ _ _ c.from_residual.ensures.0 (λ _.
    lacks_more (count_lines bs) _ c.in_err-add_counts.ensures)

pub returns-in_err-add_places : goal.returns-in_err-add_places
returns-in_err-add_places c =
    let bs = file c.args.self.survey in
    MatchResult-from_err _ _ _ c.from_residual-in_err-add_places.ensures.0 (λ _.
    lacks_then (count_lines bs) _ c.in_ok-add_counts.ensures (lacks_more (place_lines bs) _ c.in_err-add_places.ensures))

pub returns-in_err-add_place : goal.returns-in_err-add_place
returns-in_err-add_place c =
    let bs = file c.args.self.survey in
    MatchResult-from_err _ _ _ c.from_residual-in_err-add_place.ensures.0 (λ _.
    lacks_then (count_lines bs) _ c.in_ok-add_counts.ensures (lacks_then (place_lines bs) _ c.in_ok-add_places.ensures
    (lacks_more (place_line (codes "start ") bs c.args.self.start) _ c.in_err-add_place.ensures)))

pub returns-in_err-add_place-2 : goal.returns-in_err-add_place-2
returns-in_err-add_place-2 c =
    let bs = file c.args.self.survey in
    MatchResult-from_err _ _ _ c.from_residual-in_err-add_place-2.ensures.0 (λ _.
    lacks_then (count_lines bs) _ c.in_ok-add_counts.ensures (lacks_then (place_lines bs) _ c.in_ok-add_places.ensures
    (lacks_then (place_line (codes "start ") bs c.args.self.start) _ c.in_ok-add_place.ensures
    (lacks_more (place_line (codes "goal ") bs c.args.self.goal) _ c.in_err-add_place-2.ensures))))

pub returns : goal.returns
returns c =
    let bs = file c.args.self.survey in
    let r = c.add_repeater.result in
    let t = c.add_repeater.new.text in
    adds_then t (count_lines bs) _ r c.in_ok-add_counts.ensures (adds_then t (place_lines bs) _ r c.in_ok-add_places.ensures
    (adds_then t (place_line (codes "start ") bs c.args.self.start) _ r c.in_ok-add_place.ensures
    (adds_then t (place_line (codes "goal ") bs c.args.self.goal) (repeater_lines bs c.args.self.goal) r c.in_ok-add_place-2.ensures c.add_repeater.ensures)))
