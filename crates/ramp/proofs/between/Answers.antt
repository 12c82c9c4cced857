-- `ramp::between` meets its contract.
use mathlib.Core.Path.{◌∙◌}
use native.Mathlib.Omega.{arith}
use Rattle.plant.specs.Plant.{settings_of}
use Rattle.ramp.proofs.Laws.{between-some}
use Rattle.ramp.proofs.between.Goals as goal

pub returns-then-first-whole : goal.returns-then-first-whole
returns-then-first-whole c =
    let a = c.args in
    c.goal_of.ensures
    ∙ between-some (settings_of a.plant) a.pool a.store.now c.requires.few (λ i. (c.shared_slice_known-1.given i).fits)
    a.first a.last _ a.command c.if-first-whole.true (omega arith) c.requires.low
