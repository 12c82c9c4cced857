-- `script_fields::put::copy_hex` meets its contract. The loop's invariant: the digits of i bytes are written.
use Prim.Native.Nat.{◌*◌}
use mathlib.Core.Path.{◌≡◌}
use lib.Seq.{paste}
use Rattle.script_fields.specs.Hex.{hex_text}
use Rattle.script_fields.proofs.put.copy_hex.Given as goal

abbrev pub invariant-loop-i : goal.invariant-loop-i
invariant-loop-i l = l.out ≡ paste l.initial.out l.at (hex_text l.bytes) (2 * l.i)
