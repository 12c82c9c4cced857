-- `record::rate_count` meets its contract: five digits, each a byte.
use Rattle.layout.proofs.Counts.{count-short, count-read}
use Rattle.layout.proofs.record.rate_count.Goals as goal

pub returns-then-s-lt-RATES-clause-exact : goal.returns-then-s-lt-RATES-clause-exact
returns-then-s-lt-RATES-clause-exact c = count-short _ c.if-s-lt-RATES.true

pub returns-clause-exact : goal.returns-clause-exact
returns-clause-exact c = count-read c.args.s.now c.if-s-lt-RATES.false
