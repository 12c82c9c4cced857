-- `listing::name_end` meets its contract: the first 0A is where the name ends.
use mathlib.Core.Path.{◌∙◌, ap}
use borrow.Author.Tests.{tests}
use lib.Dec.{eqb}
use lib.ListN.{length}
use Rattle.std.proofs.Common.{rules, ℕ, Option}
use Rattle.std.proofs.lemmas.Iterator.{YieldsList-from_slice}
use Rattle.std.proofs.lemmas.Iterator.Search.{position_from_yields_List}
use Rattle.std.specs.Option.{unwrap_or}
use Rattle.listing.proofs.Split.{name_found}
use Rattle.listing.proofs.name_end.Goals as goal

pub returns : goal.returns
returns c =
    let x = c.args.input.now in
    let found =
    position_from_yields_List (λ (b : ℕ). eqb b 10) _ _ c.position.result c.position.ensures.ran (YieldsList-from_slice x cc)
    (λ b t q k. search (rules, tests)) in
    c.unwrap_or.ensures ∙ ap (λ (o : Option ℕ). unwrap_or o (length x)) found ∙ name_found x
