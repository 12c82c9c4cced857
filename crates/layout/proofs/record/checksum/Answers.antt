-- `record::checksum` meets its contract.
use mathlib.Core.Path.{◌∙◌}
use Rattle.layout.proofs.Counts.{checksum-read}
use Rattle.layout.proofs.record.checksum.Goals as goal

pub returns : goal.returns
returns c =
    c.unwrap_or.ensures
    ∙ checksum-read c.args.start.now c.args.rates.now c.checked_rem.result c.sum-sum.ensures c.pair.ensures.exact c.pair-2.ensures.exact c.checked_rem.ensures
