use mathlib.Core.Path.{◌∙◌, refl, sym, ap}
use native.Mathlib.Omega.{arith}
use Rattle.form.specs.Walk.{records_left}
use Rattle.form.proofs.Turns.{begins-records}
use Rattle.schedule.specs.Rates.{stored_of}
use Rattle.taking.proofs.RecordLaws.{in-time, next-run, put_next, put-end}
use Rattle.taking.proofs.put.put_records.Goals as goal

pub loop-parts-init : goal.loop-parts-init
loop-parts-init c =
    let walk = c.new-parts-items in
    let begins =
    ap records_left c.into_iter-parts-iterator.ensures.into_iter_gives
    ∙ begins-records walk.result walk.ensures.format (omega (arith, walk.ensures.left)) walk.ensures.rest c.requires.form in
    rw begins (tt, tt, c.requires.run, refl)

pub overflow_add-slot : goal.overflow_add-slot
overflow_add-slot c =
    let l = c.loop-parts in
    omega (arith, in-time l.parts-iterator c.next.new.self c.in-Some.parts c.in-Some.ensures.steps l.slot l.invariant.2)

pub loop-parts-preserved : goal.loop-parts-preserved
loop-parts-preserved c =
    let l = c.loop-parts in
    let w = l.parts-iterator in
    let t = c.next.new.self in
    let p = c.in-Some.parts in
    let put = c.put_run-pool in
    let held = stored_of l.pool l.store in
    let turn = c.in-Some.ensures.steps in (
      tt,
      tt,
      next-run w t p turn l.slot l.invariant.2,
      l.invariant.3 ∙ put_next w t p turn l.slot l.invariant.2 c.args.floor held (stored_of put.result put.new.store) put.ensures,
    )

pub returns : goal.returns
returns c =
    let l = c.loop-parts in
    sym (l.invariant.3 ∙ put-end l.parts-iterator c.next.new.self c.args.floor _ c.in-None.ensures.steps)
