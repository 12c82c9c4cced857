use Prim.Native.Nat.{◌+◌}
use native.Mathlib.Omega.{arith}
use lib.ListN.{get_or}
use Rattle.std.proofs.lemmas.List.{get_or_default}
use Rattle.std.proofs.lemmas.List.Edits.{map_over_more}
use Rattle.request.proofs.RequestLaws.{digit-next}
use Rattle.request.proofs.to_ascii.Goals as goal

pub overflow_add-x : goal.overflow_add-x
overflow_add-x c =
    let l = c.loop-x in
    omega (arith, digit-next c.args.id.now l.x-items l.x-index c.requires.1 (omega arith) l.invariant)

pub loop-x-preserved : goal.loop-x-preserved
loop-x-preserved c =
    let l = c.loop-x in
    let x = get_or l.x-items l.x-index 0 in
    map_over_more (λ x. x + 48) c.args.id.now l.x-items l.x-index x (omega arith) l.invariant (get_or_default l.x-items l.x-index 0 x (omega arith))
