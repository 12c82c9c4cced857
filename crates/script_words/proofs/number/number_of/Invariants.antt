-- `script_words::number::number_of` meets its contract: the number so far and the digits to come give the number.
use Rattle.std.specs.Prelude.{Some}
use mathlib.Core.Path.{◌≡◌}
use lib.ListN.{drop}
use Rattle.script_words.specs.Number.{decimal_from, number_of}
use Rattle.script_words.proofs.number.number_of.Given as goal

abbrev pub invariant-loop-digit : goal.invariant-loop-digit
invariant-loop-digit l = number_of l.s ≡ decimal_from (drop l.digit-index l.s) (Some l.value)
