use mathlib.Core.Path.{◌≡◌}
use mathlib.Core.Bool.{◌&&◌}
use lib.ListN.{drop}
use Rattle.rules.specs.Digits.{all_ascii}
use Rattle.digits.proofs.all_ascii.Given as goal

abbrev pub invariant-loop-x : goal.invariant-loop-x
invariant-loop-x l = all_ascii l.s ≡ (l.all && all_ascii (drop l.x-index l.s))
