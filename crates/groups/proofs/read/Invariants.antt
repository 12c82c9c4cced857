-- `groups::read` meets its contract. The loop's invariant: the first i + 1 groups and those after them give the answer.
use Prim.Native.Nat.{◌+◌, ◌<◌, ◌^◌}
use mathlib.Core.Path.{◌≡◌}
use Rattle.groups.specs.Placed.{reading_at}
use Rattle.groups.proofs.Walk.{Left}
use Rattle.groups.proofs.read.Given as goal

abbrev pub invariant-loop-i : goal.invariant-loop-i
invariant-loop-i l = record {
  unit_here : l.unit ≡ 128 ^ (l.i + 1);
  below : l.value < l.unit;
  rest : reading_at l.s l.at ≡ Left l.s l.at l.value l.unit (l.i + 1);
}
