-- `body::read_body` meets its contract: the count is judged first, and what follows it by its format.
use mathlib.Core.Path.{◌∙◌, sym}
use Rattle.form.proofs.Count.{count_room}
use Rattle.body.proofs.Outcomes.{no-count, with-count, with-registration}
use Rattle.body.proofs.read_body.Goals as goal

pub returns-then-not-count_holds : goal.returns-then-not-count_holds
returns-then-not-count_holds c = no-count _ _ _ c.if-not-count_holds.ensures

pub slice_bounds-s-count : goal.slice_bounds-s-count
slice_bounds-s-count c = count_room _ _ (sym c.if-not-count_holds.ensures)

pub slice_bounds-s-start : goal.slice_bounds-s-start
slice_bounds-s-start c = count_room _ _ (sym c.if-not-count_holds.ensures)

pub returns-then-is_schedule : goal.returns-then-is_schedule
returns-then-is_schedule c = c.read_schedule.ensures ∙ with-count _ _ _ c.if-not-count_holds.ensures

pub returns : goal.returns
returns c = c.read_registration.ensures ∙ with-registration _ _ _ _ (sym c.if-is_schedule.ensures) c.if-not-count_holds.ensures
