-- `date_stage::dates_hold` meets its contract for 203: its record's dates keep the rules where they are digits.
use mathlib.Core.Path.{◌∙◌}
use borrow.Author.Rules.{rules}
use borrow.Author.Tests.{tests}
use Rattle.std.proofs.lemmas.Iterator.Search.{all_from_yields_List}
use Rattle.form.proofs.Turns.{yields}
use Rattle.body.specs.Records.{update_fits}
use Rattle.body.proofs.Fields.{dates-203}
use Rattle.body.proofs.date_stage.dates_hold.Goals as goal

pub returns-in-F203 : goal.returns-in-F203
returns-in-F203 c =
    let w = c.args.records in
    all_from_yields_List update_fits _ _ _ c.all.ensures.ran (yields w) (λ x b q h. search (rules, tests))
    ∙ dates-203 w c.requires.stand c.args.segment c.in-F203.is
