-- `listing::decimal` meets its contract: a number put into an empty line, whose 20 bytes have room for any u64.
use mathlib.Core.Path.{◌∙◌}
use mathlib.Core.List.{[]}
use native.Mathlib.Omega.{arith}
use Rattle.rules.specs.Lister.{numeral}
use Rattle.listing.specs.Line.{line_in}
use Rattle.listing.proofs.Numeral.{numeral_wide}
use Rattle.listing.proofs.Puts.{puts_line}
use Rattle.listing.proofs.decimal.Goals as goal

pub returns : goal.returns
unfolding line_in
returns c = let n = c.args.n in c.number.ensures ∙ puts_line [] (numeral n) (omega (arith, numeral_wide n (omega arith)))
