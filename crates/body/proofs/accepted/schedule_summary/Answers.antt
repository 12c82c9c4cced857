-- `accepted::schedule_summary` meets its contract: each field is that of `summary_of`.
use native.Mathlib.Omega.{arith}
use Rattle.form.proofs.Walk.{whole-start}
use Rattle.body.proofs.Kept.{rates-room, summary_is}
use Rattle.body.proofs.accepted.schedule_summary.Goals as goal

pub overflow_sub-rates : goal.overflow_sub-rates
overflow_sub-rates c = (rates-room _ _ _ c.requires.scheduled c.requires.formed c.requires.dated c.fixed_bytes.ensures.exact).0

pub overflow_cast-result : goal.overflow_cast-result
overflow_cast-result c = omega (arith, (rates-room _ _ _ c.requires.scheduled c.requires.formed c.requires.dated c.fixed_bytes.ensures.exact).1)

pub slice_bounds-start_slot-end : goal.slice_bounds-start_slot-end
slice_bounds-start_slot-end c = omega (arith, (whole-start _ _ c.requires.formed).room)

pub update_at-requires : goal.update_at-requires
update_at-requires c = whole-start _ _ c.requires.formed

pub returns : goal.returns
returns c =
    let pre = c.requires in
    summary_is _ _ _ pre.scheduled pre.formed pre.dated _ _ _ _ c.fixed_bytes.ensures.exact c.record_count.ensures
    c.start_slot.ensures c.update_at.ensures
