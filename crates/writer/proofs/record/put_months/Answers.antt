use native.Mathlib.Omega.{arith}
use Rattle.writer.proofs.Months.{months-end, part-within, month-room, months-step}
use Rattle.writer.proofs.record.put_months.Goals as goal

pub overflow_add-to : goal.overflow_add-to
overflow_add-to c = omega (arith, part-within c.requires c.loop-month.invariant _ c.days_of_month.ensures c.loop-month-test.true, c.well_formed)

pub slice_bounds-rates-end : goal.slice_bounds-rates-end
slice_bounds-rates-end c = part-within c.requires c.loop-month.invariant _ c.days_of_month.ensures c.loop-month-test.true

pub put_month-requires : goal.put_month-requires
put_month-requires c = month-room c.requires c.loop-month.invariant _ c.days_of_month.ensures c.loop-month-test.true

pub loop-month-preserved : goal.loop-month-preserved
loop-month-preserved c =
    let put = c.put_month in
    months-step c.requires c.loop-month.invariant _ c.days_of_month.ensures c.loop-month-test.true put.auto.out put.ensures

pub returns : goal.returns
returns c = months-end c.requires c.loop-month.invariant c.loop-month-test.false
