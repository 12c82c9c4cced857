use mathlib.Core.Path.{◌∙◌, ap}
use native.Mathlib.Omega.{arith}
use lib.ListN.{length, length-append}
use Rattle.rules.specs.File.{sum}
use Rattle.digits.proofs.Scan.{sum-append, remainder-next}
use Rattle.digits.proofs.sum.Goals as goal

pub loop-stretch-preserved : goal.loop-stretch-preserved
loop-stretch-preserved c =
    let step = c.in-Some.ensures.steps in
    let left = step.1.0 in
    let lengths = simp length-append at (ap length left) in
    let sums = ap sum left ∙ sum-append c.in-Some.stretch.now _ in
    (omega arith, omega arith, omega arith, remainder-next c.in-Some.stretch.now _ left (omega arith) ∙ c.loop-stretch.invariant.3)
