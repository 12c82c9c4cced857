-- `dates::is_whole_month` meets its contract, by the two answers of the calendar for the start.
use borrow.Author.Rules.{rules}
use Rattle.layout.proofs.Starts.{month-is}
use Rattle.layout.proofs.dates.is_whole_month.Goals as goal

pub returns : goal.returns
returns c = month-is _ _ _ c.month_begun.ensures c.is_some_and.ensures (λ k q. search rules)
