use Rattle.std.proofs.Common.{◌≡◌, ◌+◌, ◌*◌, get_or, refl, arith}
use Rattle.script_fields.specs.Hex.{hex_bytes}
use Rattle.script_fields.proofs.HexLaws.{hex-length, hex-byte}
use Rattle.script_fields.proofs.PutLaws.{put-start}
use Rattle.script_fields.proofs.hex.put_bytes.Goals as goal

pub loop-i-preserved : goal.loop-i-preserved
loop-i-preserved c =
    let l = c.loop-i in
    let a = c.args in
    let s = a.s.now in
    let long = hex-length s in
    let x : c.value.result * 16 + c.value-in-loop-i.result ≡ get_or (hex_bytes s) l.i 0 =
    rw (hex-byte s l.i c.loop-i-test.true, ← c.value.ensures.exact, ← c.value-in-loop-i.ensures.exact) refl in
    put-start a.out.now (hex_bytes s) l.i l.invariant x (omega arith) (omega arith)
