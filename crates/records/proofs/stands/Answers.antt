-- `stands` meets its contract: what follows the count is there.
use mathlib.Core.Path.{sym}
use Rattle.form.proofs.Count.{count_room}
use Rattle.records.proofs.stands.Goals as goal

pub slice_bounds-records_stand-count : goal.slice_bounds-records_stand-count
slice_bounds-records_stand-count c = count_room _ _ (sym c.if-not-count_holds.ensures)

pub slice_bounds-records_stand-start : goal.slice_bounds-records_stand-start
slice_bounds-records_stand-start c = count_room _ _ (sym c.if-not-count_holds.ensures)
