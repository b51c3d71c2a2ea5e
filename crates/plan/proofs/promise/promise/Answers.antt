use Rattle.plan.proofs.Promised.{asked_task, begun_fair, begun_where, few_slots, kept_run, all_asked, same_run}
use Rattle.plan.proofs.promise.promise.Goals as goal

pub returns : goal.returns
returns g c =
    record {
      kept = λ b ends leading second slots p q es begun run.
          kept_run (asked_task b ends leading second slots p begun) (begun_fair b ends leading second slots p begun) p q es (begun_where b ends leading second slots p begun) run (few_slots b ends leading second slots p begun (λ w. (g.met.P.OpenList.sound w).limit));
      asked = λ b ends leading second slots p q es begun run.
          all_asked (asked_task b ends leading second slots p begun) (begun_fair b ends leading second slots p begun) p q es 0 (begun_where b ends leading second slots p begun) run;
      same = λ b ends leading second slots p q p' q' es es' begun run begun' run' many.
          let other = begun_where b ends leading second slots p' begun' in
          same_run (asked_task b ends leading second slots p begun) (begun_fair b ends leading second slots p begun) p q p' q' es es' (begun_where b ends leading second slots p begun) run
          (record { stands = other.stands; counts = other.counts }) run' (few_slots b ends leading second slots p begun (λ w. (g.met.P.OpenList.sound w).limit)) many;
    }
