-- `responses::take_response` meets its contract: what `find` answered is what is carried.
use mathlib.Core.Path.{sym, ap, ◌∙◌}
use Rattle.response.specs.Lent.{carried}
use Rattle.taking.specs.Ready.{Checked}
use Rattle.taking.proofs.TakeLaws.{response-broken, response-carried}
use Rattle.taking.proofs.ReadyLaws.{checked}
use Rattle.taking.proofs.responses.take_response.Goals as goal
use Rattle.taking.proofs.responses.take_response.Goals.{After-find}

ready : (c : After-find) → Checked c.args.unit c.args.store.now
ready c = checked _ _ (sym c.check.ensures ∙ c.in-Ok.is)

pub returns-in-None : goal.returns-in-None
returns-in-None c =
    let r = response-broken _ _ (ready (goal.at.returns-in-None c).After-find) _ _ (sym c.find.ensures ∙ ap carried c.in-None.is) in
    record { answer = c.refuse-in-None.ensures ∙ r.0; kept = r.1 }

pub returns-in-Some : goal.returns-in-Some
returns-in-Some c =
    let done = c.take_checked.ensures in
    let r = response-carried _ _ (ready (goal.at.returns-in-Some c).After-find) _ _ _ _ (sym c.find.ensures ∙ ap carried c.in-Some.is) _ _ (done.answer, done.kept) in
    record { answer = r.0; kept = r.1 }
