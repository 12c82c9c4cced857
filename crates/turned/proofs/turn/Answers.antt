-- `turned::turn` meets its contract.
use mathlib.Core.Path.{◌≡◌, ◌∙◌, sym}
use mathlib.Core.Bool.{true}
use lib.ListN.{length}
use Rattle.turned.specs.Rows.{is_month}
use Rattle.turned.proofs.Months.{turned-month, turned_none}
use Rattle.turned.proofs.turn.Goals as goal

pub returns-then-is_month : goal.returns-then-is_month
returns-then-is_month c =
    let month : is_month (length c.args.from.now) (length c.args.to.now) ≡ true = sym c.is_month.ensures ∙ c.if-is_month.true in
    c.rearrange.ensures ∙ turned-month _ _ month

pub returns-else-is_month : goal.returns-else-is_month
returns-else-is_month c = turned_none _ _ (sym c.is_month.ensures ∙ c.if-is_month.false)
