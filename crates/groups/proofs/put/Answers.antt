-- `groups::put` meets its contract.
use mathlib.Core.Path.{◌∙◌}
use native.Mathlib.Omega.{arith}
use Rattle.rules.specs.Groups.{groups}
use Rattle.groups.proofs.Putting.{none-put, short-put, all-put, sized, has-groups}
use Rattle.groups.proofs.put.Goals as goal

pub returns-in_err-length-clause-next : goal.returns-in_err-length-clause-next
returns-in_err-length-clause-next c = c.from_residual.ensures ∙ (none-put (groups c.args.n) c.args.out.now c.args.at c.in_err-length.ensures).0

pub returns-in_err-length-clause-bytes : goal.returns-in_err-length-clause-bytes
returns-in_err-length-clause-bytes c = (none-put (groups c.args.n) c.args.out.now c.args.at c.in_err-length.ensures).1

pub returns-in_err-checked_sub-clause-next : goal.returns-in_err-checked_sub-clause-next
returns-in_err-checked_sub-clause-next c =
    c.from_residual-in_err-checked_sub.ensures ∙ (short-put (groups c.args.n) c.args.out.now c.args.at (omega (arith, c.in_err-checked_sub.ensures))).0

pub returns-in_err-checked_sub-clause-bytes : goal.returns-in_err-checked_sub-clause-bytes
returns-in_err-checked_sub-clause-bytes c = (short-put (groups c.args.n) c.args.out.now c.args.at (omega (arith, c.in_err-checked_sub.ensures))).1

pub returns-then-branch-length-clause-next : goal.returns-then-branch-length-clause-next
returns-then-branch-length-clause-next c =
    (short-put (groups c.args.n) c.args.out.now c.args.at (omega (arith, sized (groups c.args.n) c.in_ok-length.ensures, c.in_ok-checked_sub.ensures))).0

pub returns-then-branch-length-clause-bytes : goal.returns-then-branch-length-clause-bytes
returns-then-branch-length-clause-bytes c =
    (short-put (groups c.args.n) c.args.out.now c.args.at (omega (arith, sized (groups c.args.n) c.in_ok-length.ensures, c.in_ok-checked_sub.ensures))).1

pub place-requires : goal.place-requires
place-requires c = (has-groups c.args.n c.in_ok-length.ensures, omega (arith, sized (groups c.args.n) c.in_ok-length.ensures, c.in_ok-checked_sub.ensures))

pub returns-clause-next : goal.returns-clause-next
returns-clause-next c =
    let long = sized (groups c.args.n) c.in_ok-length.ensures in
    let at = c.in_ok-checked_sub.ensures in
    (all-put (groups c.args.n) c.args.out.now c.args.at c.in_ok-length.ensures c.place.ensures.next c.place.ensures.bytes (omega arith)).0

pub returns-clause-bytes : goal.returns-clause-bytes
returns-clause-bytes c =
    let long = sized (groups c.args.n) c.in_ok-length.ensures in
    let at = c.in_ok-checked_sub.ensures in
    (all-put (groups c.args.n) c.args.out.now c.args.at c.in_ok-length.ensures c.place.ensures.next c.place.ensures.bytes (omega arith)).1
