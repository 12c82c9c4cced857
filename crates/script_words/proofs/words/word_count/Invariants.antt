-- `script_words::words::word_count` meets its contract: the count and the spaces to come are those of the line.
use Prim.Native.Nat.{◌≤◌, ◌+◌}
use mathlib.Core.Path.{◌≡◌}
use lib.ListN.{drop}
use Rattle.script_words.specs.Words.{spaces}
use Rattle.script_words.proofs.words.word_count.Given as goal

abbrev pub invariant-loop-x : goal.invariant-loop-x
invariant-loop-x l = (l.count ≤ l.x-index + 1) × (spaces l.s + 1 ≡ l.count + spaces (drop l.x-index l.s))
