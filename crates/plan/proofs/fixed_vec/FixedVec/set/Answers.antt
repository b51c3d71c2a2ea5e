use Rattle.std.proofs.Common.{◌≡◌, ◌<◌, length, take, ap, ◌∙◌, arith, length-take-le}
use Rattle.std.proofs.Math.Seq.{take-set-lt}
use Rattle.arrayvec.specs.ArrayVec.{with_item}
use Rattle.plan.proofs.fixed_vec.FixedVec.set.Goals as goal

pub returns : goal.returns
returns g c =
    let v = c.self.inside in
    let below : c.args.at < v.len = omega (arith, c.requires, ap (λ w. length w.items) c.self.view_is, length-take-le v.len v.cells (omega (arith, c.self.invariant))) in
    ap (λ cells. record { items = take v.len cells }) c.write_at.ensures ∙
    ap (λ xs. record { items = xs }) (take-set-lt v.len v.cells c.args.at c.args.item below) ∙
    ap (λ w. with_item w c.args.at c.args.item) c.self.view_is
