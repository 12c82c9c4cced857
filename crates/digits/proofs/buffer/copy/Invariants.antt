-- `buffer::copy` meets its contract. The loop's invariant: below i the two are the same.
use mathlib.Core.Path.{◌≡◌}
use lib.ListN.{length, take}
use Rattle.digits.proofs.buffer.copy.Given as goal

abbrev pub invariant-loop-i : goal.invariant-loop-i
invariant-loop-i l = (length l.to ≡ length l.from) × (take l.i l.to ≡ take l.i l.from)
