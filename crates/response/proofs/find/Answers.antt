-- `response::find` meets its contract: a lawful boundary, then the first line, then what follows it.
use mathlib.Core.Path.{◌∙◌, sym, ap}
use borrow.Author.Tests.{not-true, not-false}
use Rattle.response.specs.Lent.{lent}
use Rattle.response.proofs.Whole.{bad-boundary, not_opened, when-opened}
use Rattle.response.proofs.find.Goals as goal

pub returns-then-not-lawful_boundary : goal.returns-then-not-lawful_boundary
returns-then-not-lawful_boundary c =
    bad-boundary c.args.boundary.now c.args.s.now (sym c.lawful_boundary.ensures ∙ not-true c.lawful_boundary.result c.if-not-lawful_boundary.true-raw)

pub returns-in_err-headers : goal.returns-in_err-headers
returns-in_err-headers c =
    let lawful = sym c.lawful_boundary.ensures ∙ not-false c.lawful_boundary.result c.if-not-lawful_boundary.false-raw in
    rw c.from_residual.ensures (not_opened c.args.boundary.now c.args.s.now lawful (sym c.opened.ensures ∙ ap lent c.in_err-headers.was))

pub returns : goal.returns
returns c =
    let lawful = sym c.lawful_boundary.ensures ∙ not-false c.lawful_boundary.result c.if-not-lawful_boundary.false-raw in
    c.carried_in.ensures ∙ when-opened c.args.boundary.now c.args.s.now lawful _ (sym c.opened.ensures ∙ ap lent c.in_ok-headers.was)
