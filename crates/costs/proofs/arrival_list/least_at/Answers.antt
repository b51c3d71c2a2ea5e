use Rattle.std.proofs.Common.{◌≡◌, sym, arith}
use Rattle.costs.proofs.Leasts.{least_found, least_stays}
use Rattle.costs.specs.Ordered.{never_itself}
use Rattle.costs.proofs.arrival_list.least_at.Goals as goal
use Rattle.costs.proofs.arrival_list.least_at.Goals.{then-is_before, else-is_before}

pub loop-at-init : goal.loop-at-init
loop-at-init c = (omega arith, λ k h. let start : k ≡ 0 = omega arith in rw start (never_itself _))

pub loop-at-preserved : goal.loop-at-preserved
loop-at-preserved c =
    let inv = c.loop-at.invariant in
    elim c.if-is_before.branch [
      | then-is_before w ↦ rw w.least-is (omega arith, least_found _ _ _ inv.1 (sym w.if-is_before.ensures))
      | else-is_before w ↦ rw w.least-is (omega arith, least_stays _ _ _ inv.1 (sym w.if-is_before.ensures))
    ]
