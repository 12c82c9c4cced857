-- `turned::turn_back` meets its contract.
use mathlib.Core.Path.{◌≡◌, ◌∙◌, sym}
use mathlib.Core.Bool.{true}
use lib.ListN.{length}
use Rattle.turned.specs.Rows.{is_month}
use Rattle.turned.proofs.Months.{half-hour-rows, back-month, back_none}
use Rattle.turned.proofs.turn_back.Goals as goal

pub rearrange-requires : goal.rearrange-requires
rearrange-requires c =
    let month : is_month (length c.args.from.now) (length c.args.to.now) ≡ true = sym c.is_month.ensures ∙ c.if-is_month.true in
    half-hour-rows _ _ month

pub returns-then-is_month : goal.returns-then-is_month
returns-then-is_month c =
    let month : is_month (length c.args.from.now) (length c.args.to.now) ≡ true = sym c.is_month.ensures ∙ c.if-is_month.true in
    c.rearrange.ensures ∙ back-month _ _ month

pub returns-else-is_month : goal.returns-else-is_month
returns-else-is_month c = back_none _ _ (sym c.is_month.ensures ∙ c.if-is_month.false)
