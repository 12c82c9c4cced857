-- `ramp::over` meets its contract.
use Prim.Native.Nat.{◌≤◌}
use mathlib.Core.Path.{sym, ◌∙◌}
use native.Mathlib.Omega.{arith}
use Rattle.plant.specs.Plant.{settings_of}
use Rattle.ramp.specs.Command.{goal_of}
use Rattle.ramp.proofs.Laws.{moved-most, goal-most, over-one, over-parts}
use Rattle.ramp.proofs.over.Goals as goal

pub returns-then-first-last : goal.returns-then-first-last
returns-then-first-last c =
    let a = c.args in
    let first = c.slot_of-first in
    let last = c.slot_of-last in
    let same = c.if-first-last.true ∙ last.ensures in
    c.in_slot.ensures
    ∙ sym (over-one (settings_of a.plant) a.pool a.store.now a.clock a.until a.command c.requires.later
    first.result first.ensures same)

pub between-stands-requires : goal.between-stands-requires
between-stands-requires c =
    let a = c.args in
    let s = settings_of a.plant in
    let first = c.slot_of-first in
    let goal = goal_of s a.pool a.store.now first.result in
    let reach = goal-most s a.pool a.store.now c.requires.few (λ i. (c.shared_slice_known-1.given i).fits) first.result in
    let low : c.in_slot-left.result ≤ 180000 = rw c.in_slot-left.ensures (moved-most goal _ a.command 180000 (omega arith) c.requires.low) in
    record {
      few = c.requires.few;
      later = omega arith;
      low = omega arith;
    }

pub returns : goal.returns
returns c =
    let a = c.args in
    let s = settings_of a.plant in
    let store = a.store.now in
    let first = c.slot_of-first in
    let last = c.slot_of-last in
    over-parts s a.pool store a.clock a.until a.command c.requires.later first.result last.result _ _ _ _ _
    c.in_slot-left.ensures
    c.between-stands.ensures
    c.in_slot-2.ensures
    first.ensures
    last.ensures
    (omega arith)
    (omega arith)
    (omega arith)
