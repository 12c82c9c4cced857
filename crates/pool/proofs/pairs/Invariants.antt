use mathlib.Core.Path.{◌≡◌}
use Prim.Native.Nat.{◌≤◌, ◌*◌}
use lib.ListN.{get_or}
use Rattle.rules.specs.Store.{block_count}
use Rattle.pool.specs.Below.{pairs_below}
use Rattle.pool.proofs.pairs.Given as goal

abbrev pub invariant-loop-key : goal.invariant-loop-key
invariant-loop-key l = (l.count ≤ block_count * l.key-index) × (l.count ≡ pairs_below l.key-index (λ c. get_or l.key-items c 0))
