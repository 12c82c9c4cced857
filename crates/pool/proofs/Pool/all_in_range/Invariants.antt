use mathlib.Core.Path.{◌≡◌}
use Rattle.pool.specs.Below.{all_below}
use Rattle.pool.specs.Blocks.{in_range}
use Rattle.pool.proofs.Pool.all_in_range.Given as goal

abbrev pub invariant-loop-b : goal.invariant-loop-b
invariant-loop-b l = l.good ≡ all_below l.b (in_range l.fn.self l.floor)
