-- `count_holds` meets its contract: a law for each answer of `number`.
use mathlib.Core.Path.{◌∙◌, sym}
use Rattle.form.proofs.Count.{count-missing, count-number, count-broken}
use Rattle.form.proofs.count_holds.Goals as goal

pub returns-then-body-lt-RECORDS : goal.returns-then-body-lt-RECORDS
returns-then-body-lt-RECORDS c = count-missing _ _ c.if-body-lt-RECORDS.true

pub returns-in-Some : goal.returns-in-Some
returns-in-Some c = count-number _ _ c.if-body-lt-RECORDS.false (sym c.in-Some.is ∙ c.number.ensures) c.record_count.ensures

pub returns-in-None : goal.returns-in-None
returns-in-None c = count-broken _ _ c.if-body-lt-RECORDS.false (sym c.in-None.is ∙ c.number.ensures)
