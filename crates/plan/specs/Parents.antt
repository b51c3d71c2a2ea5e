-- A record that is opened up, and its children. Assumes nothing.
--   aim up         the task in its table; how many slots it has does not matter to children
--   child up n     its child by the passage n, if that is of use
--   children up    its children that are of use, in file order
use Rattle.std.specs.Prelude.{ℕ, List, Option}
use Rattle.costs.specs.declared.kind.CostKind as kinds
use Rattle.plan.specs.declared.children.Child.{Child}
use Rattle.plan.specs.declared.parent.Parent.{Parent}
use Rattle.plan.specs.declared.record.Record.{Record}
use Rattle.plan.specs.Rules.{Task}
use Rattle.plan.specs.Children.{aim_in, child_answer, kids_of}

module _ {A B : Type 0} {a : kinds.Ghosts A} {b : kinds.Ghosts B} where
  abbrev pub aim : Parent A B a b → Task
  aim up = aim_in a.kind b.kind up.table.now up.ends

  abbrev pub child : Parent A B a b → ℕ → Option Child
  child up n = child_answer a.kind b.kind up.table.now up.ends up.number up.found n

  abbrev pub children : Parent A B a b → List Record
  children up = kids_of a.kind b.kind up.table.now up.ends up.number up.found
