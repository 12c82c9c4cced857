-- `request::to_ascii` meets its contract. The loop's invariant: below i the digits are in ASCII, and from there on as they were.
use mathlib.Core.Path.{◌≡◌}
use mathlib.Core.List.{◌++◌}
use lib.ListN.{take, drop}
use Rattle.rules.specs.Digits.{to_ascii}
use Rattle.request.proofs.to_ascii.Given as goal

abbrev pub invariant-loop-x : goal.invariant-loop-x
invariant-loop-x l = l.x-items ≡ to_ascii (take l.x-index l.id) ++ drop l.x-index l.id
