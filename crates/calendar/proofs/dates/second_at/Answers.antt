-- `dates::second_at` meets its contract: every date that exists stands before the end of 2099, so no sum wraps.
use native.Mathlib.Omega.{arith}
use Rattle.calendar.proofs.DateLaws.{date_day, date_below}
use Rattle.calendar.proofs.dates.second_at.Goals as goal

pub overflow_add-result : goal.overflow_add-result
overflow_add-result c = omega (arith, c.first_day.ensures, date_day c.requires)

pub overflow_mul-result : goal.overflow_mul-result
overflow_mul-result c = omega (arith, c.first_day.ensures, date_day c.requires)

pub overflow_add-result-4 : goal.overflow_add-result-4
overflow_add-result-4 c = omega (arith, c.first_day.ensures, date_below c.requires)
