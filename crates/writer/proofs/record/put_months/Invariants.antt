-- `record::put_months` meets its contract. The invariant: the months that are left, put at the place, give the whole.
use Rattle.plan.specs.Fields.{given}
use Rattle.writer.proofs.Months.{Going}
use Rattle.writer.proofs.record.put_months.Given as goal

abbrev pub invariant-loop-month : goal.invariant-loop-month
invariant-loop-month l = Going l.initial.out l.at (given l.fields) l.fn.months.start l.fn.months.end l.out l.month l.from l.place
