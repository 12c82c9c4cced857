-- `write_months` meets its contract: the length of its body.
use Prim.Native.Nat.{◌-◌}
use native.Mathlib.Omega.{arith}
use Rattle.plan.specs.Fields.{given}
use Rattle.digits.proofs.Placing.{placed_first}
use Rattle.writer.proofs.Outputs.{months_long, months_put}
use Rattle.writer.proofs.write_months.Goals as goal

pub returns-then-out-length-clause-answer : goal.returns-then-out-length-clause-answer
returns-then-out-length-clause-answer c = grind (arith, months_long (given c.args.fields) _ _ c.requires)

pub returns-then-out-length-clause-buffer : goal.returns-then-out-length-clause-buffer
returns-then-out-length-clause-buffer c = grind (arith, months_long (given c.args.fields) _ _ c.requires)

pub returns-clause-answer : goal.returns-clause-answer
returns-clause-answer c = grind (arith, months_long (given c.args.fields) _ _ c.requires)

pub returns-clause-buffer : goal.returns-clause-buffer
returns-clause-buffer c =
    let w = given c.args.fields in
    let m = c.args.months in
    grind (arith, months_long w _ _ c.requires, months_put c.args.out.now w (m.end - m.start) m.start, placed_first)
