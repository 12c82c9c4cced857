-- `script_fields::put::put_hex` meets its contract: a return for each test of the room, and the text put.
use Prim.Native.Nat.{ℕ}
use mathlib.Core.Path.{◌∙◌, sym, ap}
use native.Mathlib.Omega.{arith}
use lib.Seq.{paste}
use Rattle.script_fields.specs.Hex.{hex_text}
use Rattle.script_fields.proofs.HexLaws.{text-length}
use Rattle.script_fields.proofs.PutLaws.{no_room, has_room}
use Rattle.script_fields.proofs.put.put_hex.Goals as goal

pub returns-in_err-checked_sub : goal.returns-in_err-checked_sub
returns-in_err-checked_sub c =
    let both = no_room c.args.out.now c.args.at (hex_text c.args.bytes.now) (omega (arith, c.in_err-checked_sub.ensures)) in
    record { place = c.from_residual.ensures ∙ both.0; buffer = both.1 }

pub returns-then-branch-bytes : goal.returns-then-branch-bytes
returns-then-branch-bytes c =
    let at = c.in_ok-checked_sub.ensures in
    let both = no_room c.args.out.now c.args.at (hex_text c.args.bytes.now) (omega (arith, text-length c.args.bytes.now)) in
    record { place = both.0; buffer = both.1 }

pub returns : goal.returns
returns c =
    let text = hex_text c.args.bytes.now in
    let at = c.in_ok-checked_sub.ensures in
    let long = text-length c.args.bytes.now in
    let all = ap (λ (k : ℕ). paste c.args.out.now c.args.at text k) (sym long) in
    let both = has_room c.args.out.now c.args.at text (omega arith) (c.copy_hex.ensures ∙ all) (omega arith) in
    record { place = both.0; buffer = both.1 }
