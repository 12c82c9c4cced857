-- `script_fields::field::put_plain` meets its contract. The loop's invariant: i bytes are written.
use mathlib.Core.Path.{◌≡◌}
use mathlib.Core.List.{map}
use lib.Seq.{paste}
use Rattle.script_fields.specs.Field.{plain_byte}
use Rattle.script_fields.proofs.field.put_plain.Given as goal

abbrev pub invariant-loop-i : goal.invariant-loop-i
invariant-loop-i l = l.out ≡ paste l.initial.out 0 (map (plain_byte l.digits) l.word) l.i
