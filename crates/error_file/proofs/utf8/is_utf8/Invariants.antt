-- `error_file::utf8::is_utf8` meets its contract. The loop's invariant: what the walk says of the bytes that are left is the whole answer.
use mathlib.Core.Path.{◌≡◌}
use lib.ListN.{drop}
use Rattle.std.specs.Prelude.{Some}
use Rattle.rules.specs.ErrorFile.{utf8}
use Rattle.error_file.specs.Walk.{rest}
use Rattle.error_file.proofs.utf8.is_utf8.Given as goal

abbrev pub invariant-loop-x : goal.invariant-loop-x
invariant-loop-x l = utf8 l.s ≡ rest (Some l.walk) (drop l.x-index l.s)
