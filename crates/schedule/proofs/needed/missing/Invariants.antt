-- `needed::missing` meets its contract. The loop's invariant: the months below this one that need a block are counted.
use mathlib.Core.Path.{◌≡◌}
use Rattle.rules.specs.Machine.{count_below}
use Rattle.schedule.proofs.MissingLaws.{needs-block}
use Rattle.schedule.proofs.needed.missing.Given as goal

abbrev pub invariant-loop-month : goal.invariant-loop-month
invariant-loop-month l = l.needed ≡ count_below l.month (needs-block l.pool l.floor l.slot l.count)
