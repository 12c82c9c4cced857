-- `plan_months` meets its contract. A month that a start begins is before the last.
use mathlib.Core.Path.{◌∙◌, sym}
use native.Mathlib.Omega.{arith}
use Rattle.calendar.proofs.Begins.{begun-facts}
use Rattle.plan.proofs.plan_months.Goals as goal

pub overflow_add-end : goal.overflow_add-end
overflow_add-end c = omega (arith, (begun-facts _ _ (sym c.in-Some.is ∙ c.month_begun.ensures)).few, c.requires)
