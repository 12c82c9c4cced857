use mathlib.Core.Path.{◌∙◌, sym}
use mathlib.Core.List.{map}
use native.Mathlib.Omega.{arith}
use lib.ListN.{length-map}
use Rattle.script_fields.specs.Field.{plain_byte}
use Rattle.std.proofs.lemmas.List.{get_or-map}
use Rattle.script_fields.proofs.PutLaws.{put-start}
use Rattle.script_fields.proofs.field.put_plain.Goals as goal

pub loop-i-preserved : goal.loop-i-preserved
loop-i-preserved c =
    let l = c.loop-i in
    let a = c.args in
    let s = a.word.now in
    let f = plain_byte a.digits in
    let long = length-map s f in
    let x = c.plain_byte.ensures ∙ sym (get_or-map f s l.i 0 0 c.loop-i-test.true) in
    put-start a.out.now (map f s) l.i l.invariant x (omega arith) (omega arith)
