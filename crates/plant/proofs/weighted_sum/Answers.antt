use mathlib.Core.Path.{ap}
use native.Mathlib.Omega.{arith}
use lib.ListN.{length}
use borrow.Author.Rules.{rules}
use Rattle.std.proofs.lemmas.Slice.Zip.{either_empty_from_Zip}
use Rattle.plant.proofs.Scan.{weigh-next, weights-next, weigh-end, weighted-most}
use Rattle.plant.proofs.weighted_sum.Goals as goal

pub overflow_add-sum : goal.overflow_add-sum
overflow_add-sum c =
    let l = c.loop-x in
    let step = c.in-Some.ensures.steps in
    let shorter = ap length step.0 in
    let small = weighted-most c.in-Some.field-0-0.now c.in-Some.field-0-1.now (search rules) (weights-next step.0 step.1 l.invariant.0).0 in
    omega (arith, small, l.invariant.1)

pub loop-x-preserved : goal.loop-x-preserved
loop-x-preserved c =
    let l = c.loop-x in
    let step = c.in-Some.ensures.steps in
    let shorter = ap length step.0 in
    let nine = weights-next step.0 step.1 l.invariant.0 in
    let small = weighted-most c.in-Some.field-0-0.now c.in-Some.field-0-1.now (search rules) nine.0 in
    let next = weigh-next step.0 step.1 in
    (nine.1, omega (arith, small, l.invariant.1), omega (arith, next, l.invariant.2))

pub returns : goal.returns
returns c =
    let l = c.loop-x in
    let none = weigh-end _ _ (either_empty_from_Zip l.x-iterator c.next.new.self _ c.in-None.is c.next.ensures.steps) in
    omega (arith, none, l.invariant.2)
