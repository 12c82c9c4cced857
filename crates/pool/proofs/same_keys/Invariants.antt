use mathlib.Core.Path.{◌≡◌}
use lib.Dec.{eqb}
use lib.ListN.{get_or}
use Rattle.pool.specs.Below.{count_below}
use Rattle.pool.proofs.same_keys.Given as goal

abbrev pub invariant-loop-other : goal.invariant-loop-other
invariant-loop-other l = l.count ≡ count_below l.other-index (λ c. eqb (get_or l.other-items c 0) l.key)
