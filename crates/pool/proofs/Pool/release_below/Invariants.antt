use mathlib.Core.Path.{◌≡◌}
use Rattle.pool.specs.Below.{number}
use Rattle.pool.specs.Blocks.{free_after}
use Rattle.pool.proofs.Pool.release_below.Given as goal

abbrev pub invariant-loop-b : goal.invariant-loop-b
invariant-loop-b l = l.free ≡ number l.b (free_after l.fn.self l.floor)
