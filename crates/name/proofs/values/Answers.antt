use Prim.Native.Nat.{◌-◌}
use native.Mathlib.Omega.{arith}
use lib.ListN.{get_or}
use Rattle.std.proofs.lemmas.List.{get_or_default}
use Rattle.std.proofs.lemmas.List.Edits.{map_over_more}
use Rattle.name.proofs.values.Goals as goal

pub loop-x-preserved : goal.loop-x-preserved
loop-x-preserved c =
    let l = c.loop-x in
    let x = get_or l.to l.x-index 0 in
    rw c.saturating_sub.ensures
    (map_over_more (λ x. x - 48) c.args.ascii.now l.to l.x-index x (omega arith) l.invariant (get_or_default l.to l.x-index 0 x (omega arith)))
