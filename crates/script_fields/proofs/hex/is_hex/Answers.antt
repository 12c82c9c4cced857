use mathlib.Core.Path.{sym}
use Rattle.script_fields.proofs.HexLaws.{hex-ends}
use Rattle.script_fields.proofs.hex.is_hex.Goals as goal

pub returns : goal.returns
returns c =
    let l = c.loop-x in
    sym (hex-ends l.all c.args.s.now l.x-index c.loop-x-test.false l.invariant)
