-- `groups::place` meets its contract. The loop's invariant: the groups of what is left, put from place i on, give the whole number's.
use Prim.Native.Nat.{◌<◌, ◌-◌, ◌+◌, ◌^◌}
use mathlib.Core.Path.{◌≡◌}
use lib.ListN.{length}
use lib.Seq.{sets}
use Rattle.rules.specs.Groups.{groups, groups_in}
use Rattle.groups.proofs.place.Given as goal

abbrev pub invariant-loop-left : goal.invariant-loop-left
invariant-loop-left l = (l.i < l.at + 5)
    × (l.left < 128 ^ (l.at + 5 - l.i))
    × (length l.out ≡ length l.initial.out)
    × (l.at + length (groups l.n) ≡ l.i + length (groups_in (l.at + 5 - l.i) l.left))
    × (sets l.initial.out l.at (groups l.n) ≡ sets l.out l.i (groups_in (l.at + 5 - l.i) l.left))

abbrev pub decreases-loop-left : goal.decreases-loop-left
decreases-loop-left l = l.left
