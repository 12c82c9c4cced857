-- `response::edges::closed` meets its contract.
use mathlib.Core.Path.{◌∙◌, sym, ap, ap₂}
use mathlib.Core.Bool.{Bool, ◌||◌}
use Rattle.response.specs.Lent.{lent}
use Rattle.response.proofs.Ends.{ends, ends-by}
use Rattle.response.proofs.edges.closed.Goals as goal

pub returns-in-Some : goal.returns-in-Some
returns-in-Some c =
    ap₂ (λ (x y : Bool). x || y) c.is_empty.ensures c.same.ensures
    ∙ ap ends (sym (ap lent c.in-Some.is) ∙ c.past_closing.ensures)
    ∙ ends-by c.args.b.now c.args.s.now

pub returns-in-None : goal.returns-in-None
returns-in-None c = ap ends (sym (ap lent c.in-None.is) ∙ c.past_closing.ensures) ∙ ends-by c.args.b.now c.args.s.now
