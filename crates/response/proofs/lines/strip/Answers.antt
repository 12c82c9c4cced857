-- `response::lines::strip` meets its contract.
use Rattle.response.proofs.Stripping.{stripped}
use Rattle.response.proofs.lines.strip.Goals as goal

pub returns : goal.returns
returns c = stripped c.args.p.now c.args.s.now c.strip_prefix.result c.strip_prefix.ensures.cases
