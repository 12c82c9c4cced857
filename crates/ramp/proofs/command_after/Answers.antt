-- `ramp::command_after` meets its contract.
use Prim.Native.Nat.{◌-◌}
use native.Mathlib.Omega.{arith}
use Rattle.rules.specs.Calendar.{slot_of}
use Rattle.plant.specs.Plant.{settings_of}
use Rattle.ramp.proofs.Laws.{command_over-most, goal-most}
use Rattle.ramp.proofs.command_after.Goals as goal

pub overflow_cast-result : goal.overflow_cast-result
overflow_cast-result c =
    let a = c.args in
    let s = settings_of a.plant in
    let reach = goal-most s a.pool a.store.now c.if-minutes-gt-MOST_MINUTES.false (λ i. (c.shared_slice_known-1.given i).fits) in
    let most = command_over-most s a.pool a.store.now 152400 (a.until - a.clock) a.clock a.command (omega arith) (λ t f u. reach (slot_of t)) in
    let e = c.over.ensures in
    omega arith
