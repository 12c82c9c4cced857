use Prim.Native.Nat.{◌≤◌, ◌*◌, ◌+◌}
use mathlib.Core.Path.{◌≡◌}
use lib.ListN.{drop}
use Rattle.rules.specs.File.{sum}
use Rattle.digits.proofs.stretch_sum.Given as goal

abbrev pub invariant-loop-x : goal.invariant-loop-x
invariant-loop-x l = (l.total ≤ 255 * l.x-index) × (sum l.s ≡ l.total + sum (drop l.x-index l.s))
