-- A month's block lies within the store.
use Rattle.std.proofs.Common.{arith, sym}
use Rattle.pool.proofs.Laws.{find_at}
use Rattle.replay.proofs.shown.block_of.Goals as goal

pub overflow_mul-start : goal.overflow_mul-start
overflow_mul-start c = omega (arith, (find_at _ _ _ (sym c.in_ok-block.ensures)).below)

pub overflow_add-end : goal.overflow_add-end
overflow_add-end c = omega (arith, (find_at _ _ _ (sym c.in_ok-block.ensures)).below)

pub slice_bounds-result-end : goal.slice_bounds-result-end
slice_bounds-result-end c = omega (arith, (find_at _ _ _ (sym c.in_ok-block.ensures)).below)
