-- The number and the spot of each fault of the building and of the plan. Assumes nothing.
use Rattle.survey.specs.declared.refusal.Refusal.{Refusal}
use Rattle.plan.specs.declared.fault.BuildFault.{BuildFault}
use Rattle.plan.specs.declared.fault.BuildFault.TheVariants.{Letters, Values}
use Rattle.plan.specs.declared.fault.PlanFault.{PlanFault}
use Rattle.plan.specs.declared.fault.PlanFault.TheVariants.{NotLoaded, Ends, NoSlot, Forecasts, Forecast, AtGoal, Leading, Inconsistent, NotOpened, Complete, NoRecord, NoChoice, Legs}

abbrev pub build_refusal : BuildFault → Refusal
build_refusal Letters = record { number = 9; spot = 0 }
build_refusal (Values passage) = record { number = 10; spot = passage }

abbrev pub plan_refusal : PlanFault → Refusal
plan_refusal NotLoaded = record { number = 11; spot = 0 }
plan_refusal Ends = record { number = 12; spot = 0 }
plan_refusal NoSlot = record { number = 13; spot = 0 }
plan_refusal Forecasts = record { number = 14; spot = 0 }
plan_refusal (Forecast place) = record { number = 15; spot = place }
plan_refusal AtGoal = record { number = 16; spot = 0 }
plan_refusal (Leading place) = record { number = 17; spot = place }
plan_refusal (Inconsistent passage) = record { number = 18; spot = passage }
plan_refusal NotOpened = record { number = 19; spot = 0 }
plan_refusal Complete = record { number = 20; spot = 0 }
plan_refusal NoRecord = record { number = 21; spot = 0 }
plan_refusal NoChoice = record { number = 22; spot = 0 }
plan_refusal (Legs needed) = record { number = 23; spot = needed }
