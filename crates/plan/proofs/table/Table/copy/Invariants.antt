use Rattle.std.proofs.Common.{◌≡◌, map, replicate}
use Rattle.std.specs.List.{range_with_len}
use Rattle.survey.specs.File as surveyed
use Rattle.survey.specs.View.{file}
use Rattle.plan.specs.Views.{no_place, passages_in}
use Rattle.plan.proofs.table.Table.copy.Given as goal

abbrev pub invariant-loop : goal.invariant-loop
invariant-loop l = l.self.places.items ≡ replicate l.counter no_place

abbrev pub invariant-loop-number : goal.invariant-loop-number
invariant-loop-number l = record {
  places : l.self.places.items ≡ replicate (surveyed.places (file l.survey)) no_place;
  passages : passages_in l.self ≡ map (surveyed.passage_in (file l.survey)) (range_with_len 0 l.number);
}
