use Prim.Native.Nat.{◌≤◌, ◌*◌, ◌+◌}
use mathlib.Core.Path.{◌≡◌}
use lib.ListN.{length}
use Rattle.std.specs.Slice.Iter.{chunks_exact_rest, chunks_exact_size}
use Rattle.rules.specs.File.{sum}
use Rattle.digits.proofs.Scan.{remainder}
use Rattle.digits.proofs.sum.Given as goal

abbrev pub invariant-loop-stretch : goal.invariant-loop-stretch
invariant-loop-stretch l =
    let left = chunks_exact_rest l.stretch-iterator in
    (chunks_exact_size l.stretch-iterator ≡ 256) × (l.total + 256 * length left ≤ 256 * length l.s)
    × (sum l.s ≡ l.total + sum left) × (remainder left ≡ remainder l.s)
