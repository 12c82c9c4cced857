use Prim.Native.Nat.{◌*◌, ◌+◌}
use mathlib.Core.Path.{◌≡◌, ◌∙◌, sym}
use native.Mathlib.Omega.{arith}
use Rattle.script_fields.specs.Hex.{hex_text}
use Rattle.script_fields.proofs.HexLaws.{text-length, high_digit, low_digit}
use Rattle.script_fields.proofs.PutLaws.{put_two}
use Rattle.script_fields.proofs.put.copy_hex.Goals as goal

pub loop-i-preserved : goal.loop-i-preserved
loop-i-preserved c =
    let l = c.loop-i in
    let a = c.args in
    let s = a.bytes.now in
    let h = c.loop-i-test.true in
    let long = text-length s in
    let e : 2 * (l.i + 1) ≡ 2 * l.i + 2 = omega arith in
    let x = c.glyph.ensures ∙ sym (high_digit s l.i h) in
    let y = c.glyph-in-loop-i.ensures ∙ sym (low_digit s l.i h) in
    rw e (put_two a.out.now (hex_text s) a.at (2 * l.i) l.invariant x y (omega arith) (omega arith))
