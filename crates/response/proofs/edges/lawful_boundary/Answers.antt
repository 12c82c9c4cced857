use Prim.Native.Nat.{◌+◌}
use mathlib.Core.Path.{◌∙◌, sym, ap}
use mathlib.Core.Bool.{Bool, ◌&&◌}
use native.Mathlib.Omega.{arith}
use lib.ListN.{drop}
use Rattle.rules.specs.Response.{all_letters}
use Rattle.response.proofs.Ends.{letters-step, letters-end, boundary-long, boundary-is}
use Rattle.response.proofs.edges.lawful_boundary.Goals as goal

pub returns-then-b-gt-MOST_BOUNDARY : goal.returns-then-b-gt-MOST_BOUNDARY
returns-then-b-gt-MOST_BOUNDARY c = sym (boundary-long c.args.b.now c.if-b-gt-MOST_BOUNDARY.true)

pub loop-x-preserved : goal.loop-x-preserved
loop-x-preserved c =
    let b = c.args.b.now in
    let l = c.loop-x in
    l.invariant
    ∙ letters-step b l.x-index l.all (omega arith)
    ∙ ap (λ (t : Bool). (l.all && t) && all_letters (drop (l.x-index + 1) b)) (sym c.letter_or_digit-all.ensures)

pub returns : goal.returns
returns c =
    let b = c.args.b.now in
    let l = c.loop-x in
    boundary-is b l.all c.if-b-gt-MOST_BOUNDARY.false (l.invariant ∙ letters-end b l.x-index l.all (omega arith))
