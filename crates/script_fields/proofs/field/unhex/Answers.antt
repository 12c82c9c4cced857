-- `script_fields::field::unhex` meets its contract.
use mathlib.Core.Path.{◌≡◌, sym, ◌∙◌}
use mathlib.Core.Bool.{true}
use native.Mathlib.Omega.{arith}
use borrow.Author.Tests.{not-false}
use Rattle.script_fields.specs.Hex.{all_hex, hex_bytes}
use Rattle.script_fields.proofs.HexLaws.{hex-length}
use Rattle.script_fields.proofs.FieldLaws.{says-long, says-put, hex-some}
use Rattle.script_fields.proofs.field.unhex.Goals as goal

pub returns-then-out-count : goal.returns-then-out-count
returns-then-out-count c =
    let digits-held : all_hex c.args.digits.now ≡ true = sym c.is_hex.ensures ∙ not-false _ c.if-not-is_hex.false-raw in
    let a = c.args in
    let s = a.digits.now in
    let both = says-long a.out.now (hex_bytes s) (hex-some s digits-held) (omega (arith, hex-length s)) in
    record { answer = both.0; buffer = both.1 }

pub returns : goal.returns
returns c =
    let digits-held : all_hex c.args.digits.now ≡ true = sym c.is_hex.ensures ∙ not-false _ c.if-not-is_hex.false-raw in
    let a = c.args in
    let s = a.digits.now in
    let room = c.if-out-count.false in
    let both = says-put a.out.now (hex_bytes s) (hex-some s digits-held) (sym (hex-length s)) c.put_bytes.ensures
    (omega (arith, hex-length s, room)) in
    record { answer = both.0; buffer = both.1 }
