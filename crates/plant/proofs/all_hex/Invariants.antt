-- `plant::all_hex` meets its contract. The loop's invariant: `good` and the bytes from x on give the answer.
use mathlib.Core.Path.{◌≡◌}
use mathlib.Core.Bool.{◌&&◌}
use lib.ListN.{drop}
use Rattle.rules.specs.Plant.{all_hex}
use Rattle.plant.proofs.all_hex.Given as goal

abbrev pub invariant-loop-x : goal.invariant-loop-x
invariant-loop-x l = all_hex l.s ≡ (l.good && all_hex (drop l.x-index l.s))
