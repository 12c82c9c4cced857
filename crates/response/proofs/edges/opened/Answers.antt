-- `response::edges::opened` meets its contract: two hyphens, the boundary, the line's end.
use mathlib.Core.Path.{◌∙◌, sym}
use mathlib.Core.List.{◌++◌}
use Rattle.rules.specs.Response.{hyphens, line_end}
use Rattle.response.proofs.Stripping.{strip-none, strip-on}
use Rattle.response.proofs.edges.opened.Goals as goal

pub returns-in_err-edge : goal.returns-in_err-edge
returns-in_err-edge c =
    let b = c.args.b.now in
    rw c.from_residual.ensures (strip-none hyphens (b ++ line_end) c.args.s.now _ c.strip.ensures c.in_err-edge.was)

pub returns-in_err-strip : goal.returns-in_err-strip
returns-in_err-strip c =
    let b = c.args.b.now in
    let edge = strip-on hyphens (b ++ line_end) c.args.s.now _ c.strip.ensures _ c.in_ok-edge.was in
    rw c.from_residual-in_err-strip.ensures (strip-none b line_end _ _ c.strip-2.ensures c.in_err-strip.was ∙ sym edge)

pub returns : goal.returns
returns c =
    let b = c.args.b.now in
    let edge = strip-on hyphens (b ++ line_end) c.args.s.now _ c.strip.ensures _ c.in_ok-edge.was in
    c.strip-3.ensures ∙ sym (edge ∙ strip-on b line_end _ _ c.strip-2.ensures _ c.in_ok-strip.was)
