-- `dates::is_update` meets its contract, by the answers of the calendar for start and next access.
use mathlib.Core.Path.{◌≡◌, ◌∙◌, refl, sym}
use borrow.Author.Rules.{rules}
use Rattle.rules.specs.Calendar.{start_slot}
use Rattle.rules.specs.File.{in_time}
use Rattle.layout.proofs.Starts.{moment-is, time-is, update-is}
use Rattle.layout.proofs.dates.is_update.Goals as goal
use Rattle.layout.proofs.dates.is_update.Goals.{After-is_some_and}

timed : (c : After-is_some_and) → c.is_some_and.result ≡ in_time c.args.rates (start_slot c.args.start.now)
timed c = time-is _ _ c.start_slot.ensures c.is_some_and.ensures (λ k q. search rules)

pub returns-then-is_some_and : goal.returns-then-is_some_and
returns-then-is_some_and c =
    let t = timed (goal.at.returns-then-is_some_and c).After-is_some_and in
    update-is _ _ _ (sym c.if-is_some_and.true ∙ t) (c.is_some.ensures ∙ moment-is _ c.read_moment.ensures)

pub returns-else-is_some_and : goal.returns-else-is_some_and
returns-else-is_some_and c =
    let t = timed (goal.at.returns-else-is_some_and c).After-is_some_and in
    c.if-is_some_and.false ∙ update-is _ _ c.args.next.now (sym c.if-is_some_and.false ∙ t) refl
