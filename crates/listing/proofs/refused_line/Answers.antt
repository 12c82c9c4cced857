-- `listing::refused_line` meets its contract: the number behind `refused `.
use mathlib.Core.Path.{◌∙◌}
use Rattle.listing.specs.Line.{line_in}
use Rattle.listing.proofs.Short.{cause_small}
use Rattle.listing.proofs.Texts.{refused_puts}
use Rattle.listing.proofs.refused_line.Goals as goal

pub returns : goal.returns
unfolding line_in
returns c = c.field.ensures ∙ rw c.from.ensures (refused_puts _ (cause_small c.args.cause))
