use Prim.Native.Nat.{◌<◌, ◌-◌, ◌^◌}
use mathlib.Core.Path.{◌≡◌}
use mathlib.Core.List.{map}
use lib.ListN.{drop}
use Rattle.rules.specs.Digits.{value_from}
use Rattle.digits.specs.Decimal.{all_from}
use Rattle.digits.proofs.number_from.Given as goal

abbrev pub invariant-loop-x : goal.invariant-loop-x
invariant-loop-x g l =
    let first = g.row.ZERO in
    (l.value < 10 ^ l.x-index) × (all_from first l.s ≡ all_from first (drop l.x-index l.s))
    × (value_from 0 (map (λ x. x - first) l.s) ≡ value_from l.value (map (λ x. x - first) (drop l.x-index l.s)))
