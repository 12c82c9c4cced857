-- `script_fields::hex::put_bytes` meets its contract. The loop's invariant: i bytes are written.
use mathlib.Core.Path.{◌≡◌}
use lib.Seq.{paste}
use Rattle.script_fields.specs.Hex.{hex_bytes}
use Rattle.script_fields.proofs.hex.put_bytes.Given as goal

abbrev pub invariant-loop-i : goal.invariant-loop-i
invariant-loop-i l = l.out ≡ paste l.initial.out 0 (hex_bytes l.s) l.i
