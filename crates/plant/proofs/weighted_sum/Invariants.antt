-- `plant::weighted_sum` meets its contract. The loop's invariant: `sum` and what the digits and weights that are left give are the whole, and
-- each of these weights is at most 9.
use Prim.Native.Nat.{◌≤◌, ◌+◌, ◌*◌}
use mathlib.Core.Path.{◌≡◌}
use mathlib.Core.Bool.{true}
use lib.ListN.{length}
use Rattle.std.specs.Slice.Iter.{iter_rest}
use Rattle.std.specs.Iterator.Adapters.{zip_first, zip_second}
use Rattle.rules.specs.Digits.{all_at_most}
use Rattle.rules.specs.Plant.{weighted_sum}
use Rattle.plant.proofs.Scan.{weigh}
use Rattle.plant.proofs.weighted_sum.Given as goal

abbrev pub invariant-loop-x : goal.invariant-loop-x
invariant-loop-x l =
    let digits = iter_rest (zip_first l.x-iterator) in
    let weights = iter_rest (zip_second l.x-iterator) in
    (all_at_most 9 weights ≡ true) × (l.sum + 2295 * length digits ≤ 57375) × (weighted_sum 0 l.s ≡ l.sum + weigh digits weights)
