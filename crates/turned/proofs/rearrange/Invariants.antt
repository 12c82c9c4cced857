-- `turned::rearrange` meets its contract. The loop's invariant: the bytes so far are the rearranged ones, and `place` is where the next comes from.
use Prim.Native.Nat.{◌/◌}
use mathlib.Core.Path.{◌≡◌}
use lib.ListN.{length, take}
use Rattle.rules.specs.Turned.{source_of, rearranged}
use Rattle.turned.proofs.rearrange.Given as goal

abbrev pub invariant-loop-x : goal.invariant-loop-x
invariant-loop-x l = record {
  from_here : l.place ≡ source_of (length l.from / l.row) l.row l.x-index;
  so_far : take l.x-index l.to ≡ take l.x-index (rearranged (length l.from / l.row) l.row l.from);
}
