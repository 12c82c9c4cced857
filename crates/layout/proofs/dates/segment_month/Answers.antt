-- `dates::segment_month` meets its contract: four digits are two pairs.
use Rattle.layout.proofs.Starts.{segment-month-is}
use Rattle.layout.proofs.dates.segment_month.Goals as goal

pub returns-clause-exact : goal.returns-clause-exact
returns-clause-exact c = segment-month-is _ _ c.saturating_sub.ensures
