-- `script_words::words::word` meets its contract: a word fewer of what is left of the line, which grows no longer.
use Prim.Native.Nat.{◌-◌, ◌≤◌}
use mathlib.Core.Path.{◌≡◌}
use lib.ListN.{length}
use Rattle.script_words.specs.Words.{word_at}
use Rattle.script_words.proofs.words.word.Given as goal

abbrev pub invariant-loop : goal.invariant-loop
invariant-loop l = (length l.t ≤ length l.s) × (word_at l.k l.s ≡ word_at (l.k - l.counter) l.t)
