-- What the lister writes of a line is there.
use Rattle.std.proofs.Common.{sym, length-take-le}
use Rattle.listing.proofs.Puts.{line-fits}
use Rattle.lister.proofs.main.Goals as goal

pub slice_bounds-write_all-end : goal.slice_bounds-write_all-end
slice_bounds-write_all-end c = sym (length-take-le _ _ (line-fits _ _ c.line_of-line.ensures))
