-- `record_stands` meets its contract: each return has a law on the tests that led there.
use Rattle.form.proofs.Walk.{too_short, too_many, the-digits}
use Rattle.form.proofs.record_stands.Goals as goal

pub returns-then-s-size : goal.returns-then-s-size
returns-then-s-size c = too_short _ _ c.requires c.if-s-size.true

pub returns-then-most_rates-rates : goal.returns-then-most_rates-rates
returns-then-most_rates-rates c = too_many _ _ c.requires c.if-s-size.false c.most_rates.ensures c.if-most_rates-rates.true

pub returns : goal.returns
returns c =
    the-digits _ _ c.requires c.if-s-size.false c.most_rates.ensures c.if-most_rates-rates.false
    c.all_at_most.ensures c.all_at_most-2.ensures c.all_at_most-3.ensures
