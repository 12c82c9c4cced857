-- `name::values` meets its contract. The loop's invariant: below i stand the values, and from there on the bytes.
use mathlib.Core.Path.{◌≡◌}
use mathlib.Core.List.{◌++◌}
use lib.ListN.{take, drop}
use Rattle.rules.specs.Digits.{from_ascii}
use Rattle.name.proofs.values.Given as goal

abbrev pub invariant-loop-x : goal.invariant-loop-x
invariant-loop-x l = l.to ≡ from_ascii (take l.x-index l.ascii) ++ drop l.x-index l.ascii
