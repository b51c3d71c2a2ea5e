use Rattle.std.proofs.Common.{take}
use Rattle.ways.specs.Text.{Grown, written_all}
use Rattle.ways.proofs.text.add_all.Given as goal

abbrev pub invariant-loop-part : goal.invariant-loop-part
invariant-loop-part l = Grown l.initial.text l.text (written_all (take l.part-index l.parts))
