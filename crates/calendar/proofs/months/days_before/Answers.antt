-- `months::days_before` meets its contract: the table is right: one test, computed over its 49 entries.
use mathlib.Core.Path.{refl}
use Rattle.rules.specs.Calendar.{days_of_month, first_day}
use Rattle.calendar.specs.Cycle.{every}
use Rattle.calendar.proofs.months.days_before.Goals as goal

pub entry-requires : goal.entry-requires
unfolding every first_day days_of_month
entry-requires c = (refl, c.requires)
