-- `response::edges::past_closing` meets its contract: the line's end, two hyphens, the boundary, two hyphens.
use mathlib.Core.Path.{◌∙◌, sym}
use mathlib.Core.List.{◌++◌}
use Rattle.rules.specs.Response.{hyphens, line_end}
use Rattle.response.proofs.Stripping.{strip-none, strip-on}
use Rattle.response.proofs.edges.past_closing.Goals as goal

pub returns-in_err-line : goal.returns-in_err-line
returns-in_err-line c =
    let b = c.args.b.now in
    rw c.from_residual.ensures (strip-none line_end (hyphens ++ (b ++ hyphens)) c.args.s.now _ c.strip.ensures c.in_err-line.was)

pub returns-in_err-edge : goal.returns-in_err-edge
returns-in_err-edge c =
    let b = c.args.b.now in
    let line = strip-on line_end (hyphens ++ (b ++ hyphens)) c.args.s.now _ c.strip.ensures _ c.in_ok-line.was in
    rw c.from_residual-in_err-edge.ensures (strip-none hyphens (b ++ hyphens) _ _ c.strip-2.ensures c.in_err-edge.was ∙ sym line)

pub returns-in_err-strip : goal.returns-in_err-strip
returns-in_err-strip c =
    let b = c.args.b.now in
    let line = strip-on line_end (hyphens ++ (b ++ hyphens)) c.args.s.now _ c.strip.ensures _ c.in_ok-line.was in
    let edge = line ∙ strip-on hyphens (b ++ hyphens) _ _ c.strip-2.ensures _ c.in_ok-edge.was in
    rw c.from_residual-in_err-strip.ensures (strip-none b hyphens _ _ c.strip-3.ensures c.in_err-strip.was ∙ sym edge)

pub returns : goal.returns
returns c =
    let b = c.args.b.now in
    let line = strip-on line_end (hyphens ++ (b ++ hyphens)) c.args.s.now _ c.strip.ensures _ c.in_ok-line.was in
    let edge = line ∙ strip-on hyphens (b ++ hyphens) _ _ c.strip-2.ensures _ c.in_ok-edge.was in
    c.strip-4.ensures ∙ sym (edge ∙ strip-on b hyphens _ _ c.strip-3.ensures _ c.in_ok-strip.was)
