-- `put::put_number` meets its contract. The loop's invariant: the digits of what is left, put before i, give the whole number's.
use Prim.Native.Nat.{◌-◌}
use mathlib.Core.Path.{◌≡◌}
use Rattle.rules.specs.Digits.{decimal}
use Rattle.digits.specs.Placed.{placed}
use Rattle.writer.proofs.put.put_number.Given as goal

abbrev pub invariant-loop-i : goal.invariant-loop-i
invariant-loop-i l = placed l.initial.out l.at (decimal l.width l.number) ≡ placed l.out l.at (decimal (l.i - l.at) l.left)
