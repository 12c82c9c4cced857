use Prim.Native.Nat.{◌<◌, ◌*◌, ◌/◌}
use mathlib.Core.Path.{◌≡◌, ◌∙◌, refl, sym}
use native.Mathlib.Omega.{arith}
use lib.ListN.{length, get_or}
use Rattle.rules.specs.Turned.{rearranged}
use Rattle.turned.proofs.Places.{place-step, length-rearranged, rearranged-at, put_next, put_all}
use Rattle.turned.proofs.rearrange.Goals as goal

pub loop-x-preserved : goal.loop-x-preserved
loop-x-preserved c =
    let from = c.args.from.now in
    let row = c.args.row in
    let rows = length from / row in
    let l = c.loop-x in
    let all = rearranged rows row from in
    let whole = c.requires.whole in
    let h : l.x-index < rows * row = omega arith in
    let long = length-rearranged rows row from in
    let byte : get_or from l.place 0 ≡ get_or all l.x-index 0 =
    rw l.invariant.from_here (sym (rearranged-at rows row from l.x-index h)) in
    record {
      from_here = c.step-place.ensures ∙ sym (place-step rows row l.x-index h ∙ rw (whole, ← l.invariant.from_here) refl);
      so_far = put_next l.to all l.x-index (get_or from l.place 0) (omega arith) (omega arith) byte l.invariant.so_far;
    }

pub returns : goal.returns
returns c =
    let from = c.args.from.now in
    let rows = length from / c.args.row in
    let long = length-rearranged rows c.args.row from in
    put_all c.loop-x.to (rearranged rows c.args.row from) c.loop-x.x-index (omega arith) (omega arith) c.loop-x.invariant.so_far
