use mathlib.Core.Path.{◌≡◌}
use mathlib.Core.Bool.{◌&&◌}
use lib.ListN.{drop}
use Rattle.rules.specs.Digits.{all_at_most}
use Rattle.digits.proofs.few_at_most.Given as goal

abbrev pub invariant-loop-x : goal.invariant-loop-x
invariant-loop-x l = all_at_most l.most l.s ≡ (l.all && all_at_most l.most (drop l.x-index l.s))
