use Rattle.std.proofs.Common.{ℕ, ◌+◌, ap, arith}
use Rattle.survey.specs.File.{two}
use Rattle.survey.proofs.Formed.{well_formed}
use Rattle.survey.proofs.view.Survey.label_bytes.Goals as goal

pub slice_bounds-result-end : goal.slice_bounds-result-end
slice_bounds-result-end c =
    let bs = c.args.self.now.bytes.now in
    let ends = ap (λ (k : ℕ). two bs k + two bs (k + 2)) c.pair_at.ensures in
    let read = c.twos_at-offset.ensures in
    omega (arith, read.first, read.second, ends, (well_formed bs c.args.self.now.accepted).within c.args.place c.requires)
