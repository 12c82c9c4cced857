-- `script_fields::hex::is_hex` meets its contract: the flag and the digits to come give the answer.
use mathlib.Core.Path.{◌≡◌}
use mathlib.Core.Bool.{◌&&◌}
use lib.ListN.{drop}
use Rattle.std.specs.List.{list_all}
use Rattle.script_fields.specs.Hex.{is_hex_digit}
use Rattle.script_fields.proofs.hex.is_hex.Given as goal

abbrev pub invariant-loop-x : goal.invariant-loop-x
invariant-loop-x l = list_all is_hex_digit l.s ≡ (l.all && list_all is_hex_digit (drop l.x-index l.s))
