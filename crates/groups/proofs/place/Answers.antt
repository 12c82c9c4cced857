use Prim.Native.Nat.{◌-◌, ◌+◌}
use mathlib.Core.Path.{◌≡◌, ◌∙◌, refl, sym}
use native.Mathlib.Omega.{arith}
use lib.ListN.{length-set}
use Rattle.groups.proofs.Steps.{groups-in}
use Rattle.groups.proofs.Putting.{not_last, less_left, put_group, count-group, put_last, count-last}
use Rattle.groups.proofs.place.Goals as goal

pub loop-left-init : goal.loop-left-init
loop-left-init c =
    let a = c.args in
    let e : a.at + 5 - a.at ≡ 5 = omega arith in
    (omega arith, rw e c.requires.0, refl, rw (e, groups-in a.n c.requires.0) refl, rw (e, groups-in a.n c.requires.0) refl)

pub bounds-out-i : goal.bounds-out-i
bounds-out-i c =
    let l = c.loop-left in
    omega (arith, c.requires, count-group c.args.at l.i l.left c.loop-left-test.true l.invariant.1)

pub loop-left-preserved : goal.loop-left-preserved
loop-left-preserved c =
    let l = c.loop-left in
    let at = c.args.at in
    let h = c.loop-left-test.true in (
      not_last at l.i l.left h l.invariant.1,
      less_left at l.i l.left h l.invariant.1,
      simp length-set l.invariant.2,
      l.invariant.3 ∙ count-group at l.i l.left h l.invariant.1,
      l.invariant.4 ∙ put_group at l.i l.left h l.invariant.1 l.out,
    )

pub bounds-out-i-2 : goal.bounds-out-i-2
bounds-out-i-2 c =
    let l = c.loop-left in
    omega (arith, c.requires, count-last c.args.at l.i l.left c.loop-left-test.false l.invariant.0)

pub returns : goal.returns
returns c =
    let l = c.loop-left in
    let at = c.args.at in
    let h = c.loop-left-test.false in
    record {
      next = sym (l.invariant.3 ∙ count-last at l.i l.left h l.invariant.0);
      bytes = sym (l.invariant.4 ∙ put_last at l.i l.left h l.invariant.0 l.out);
    }
