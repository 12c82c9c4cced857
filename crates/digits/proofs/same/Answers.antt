use mathlib.Core.Path.{◌∙◌, sym, ap}
use lib.ListN.{length}
use native.Mathlib.Omega.{arith}
use Rattle.std.proofs.lemmas.Iterator.{empty_from_Zip}
use Rattle.std.proofs.lemmas.Slice.Zip.{Zip-more}
use Rattle.digits.proofs.Scan.{same_next, same_none}
use Rattle.digits.proofs.same.Goals as goal

pub loop-x-preserved : goal.loop-x-preserved
loop-x-preserved c =
    let l = c.loop-x in
    let more = Zip-more l.x-iterator c.next.new.self _ (c.in-Some.x, c.in-Some.y) c.in-Some.is c.next.ensures.steps in
    let shorter = ap length more.0 in
    let both_shorter = ap length more.1 in
    (omega arith, l.invariant.1 ∙ same_next l.all more.0 more.1)

pub returns : goal.returns
returns c =
    let l = c.loop-x in
    let none = empty_from_Zip l.x-iterator c.next.new.self _ c.in-None.is c.next.ensures.steps l.invariant.0 in
    sym (l.invariant.1 ∙ same_none l.all none.0 none.1)
