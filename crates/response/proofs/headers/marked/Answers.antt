-- `response::headers::marked` meets its contract: a line that begins so moves the mark on.
use mathlib.Core.Path.{◌∙◌, refl, sym}
use borrow.Author.Tests.{not-true, not-false}
use Rattle.response.proofs.Walk.{mark-is}
use Rattle.response.proofs.headers.marked.Goals as goal

pub returns-then-not-begins : goal.returns-then-not-begins
returns-then-not-begins c =
    mark-is c.args.line (sym c.begins.ensures ∙ not-true c.begins.result c.if-not-begins.true-raw) refl

pub returns-in-Never : goal.returns-in-Never
returns-in-Never c =
    mark-is c.args.line (sym c.begins.ensures ∙ not-false c.begins.result c.if-not-begins.false-raw) c.in-Never.is

pub returns-in-Once : goal.returns-in-Once
returns-in-Once c =
    mark-is c.args.line (sym c.begins.ensures ∙ not-false c.begins.result c.if-not-begins.false-raw) c.in-Once.is

pub returns-in-Twice : goal.returns-in-Twice
returns-in-Twice c =
    mark-is c.args.line (sym c.begins.ensures ∙ not-false c.begins.result c.if-not-begins.false-raw) c.in-Twice.is
