-- Each turn but the last reads a byte at least.
use Rattle.std.proofs.Common.{◌-◌, ◌≤◌}
use Rattle.lister.proofs.read_input.Given as goal

abbrev pub invariant-loop-count : goal.invariant-loop-count
invariant-loop-count g l = l.count ≤ l.most

abbrev pub decreases-loop-count : goal.decreases-loop-count
decreases-loop-count g l = l.most - l.count
