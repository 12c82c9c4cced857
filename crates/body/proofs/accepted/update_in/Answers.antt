-- `accepted::update_in` meets its contract, by the calendar's answer.
use mathlib.Core.Path.{◌∙◌}
use Rattle.form.proofs.Walk.{rates-here}
use Rattle.body.proofs.Kept.{no-update, an-update}
use borrow.Author.Rules.{rules}
use Rattle.body.proofs.accepted.update_in.Goals as goal

pub slice_bounds-read_moment-end : goal.slice_bounds-read_moment-end
slice_bounds-read_moment-end c =
    let e = rates-here _ _ c.rate_count.ensures.exact c.requires in
    search rules

pub returns-in_err-next_access : goal.returns-in_err-next_access
returns-in_err-next_access c =
    let e = rates-here _ _ c.rate_count.ensures.exact c.requires in
    c.from_residual.ensures ∙ no-update _ _ e c.read_moment.ensures c.in_err-next_access.was

pub returns : goal.returns
returns c =
    let e = rates-here _ _ c.rate_count.ensures.exact c.requires in
    an-update _ _ e c.read_moment.ensures c.in_ok-next_access.was
