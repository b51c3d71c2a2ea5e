use Rattle.survey.specs.View.{file}
use Rattle.ways.specs.Text.{Grown}
use Rattle.ways.proofs.Rows.{rows}
use Rattle.ways.proofs.describe.Description.add_places.Given as goal

abbrev pub invariant-loop-place : goal.invariant-loop-place
invariant-loop-place l = Grown l.initial.text l.text (rows (file l.self.survey) l.place)
