-- `response::lines::split_line` meets its contract: the search finds the first pair.
use Rattle.std.proofs.Common.{rules, tests}
use Rattle.std.proofs.lemmas.Iterator.{first_from_Range}
use Rattle.std.specs.Prelude.{Option, Some}
use Prim.Native.Nat.{ℕ, ◌+◌}
use mathlib.Core.Path.{◌∙◌, sym, ap, subst}
use mathlib.Core.Bool.{true, false}
use mathlib.Core.List.{List}
use native.Mathlib.Omega.{arith}
use lib.ListN.{take}
use lib.Seq.{length-take-le}
use Rattle.laws.proofs.Bytes.{part-rest}
use Rattle.response.proofs.Scans.{Pair, Ends, line_ends}
use Rattle.response.proofs.lines.split_line.Goals.{After-find}
use Rattle.response.proofs.lines.split_line.Goals as goal

ends : (c : After-find) → Ends c.args.s.now c.find.result
ends c =
    let s = c.args.s.now in
    line_ends s c.find.result (omega (arith, c.saturating_sub.ensures))
    (first_from_Range _ _ _ _ (λ i. Pair s i true) (λ i. Pair s i false) c.find.ensures.ran (λ x q k. search (rules, tests)) (λ x q k. search (rules, tests)))

pub returns-in_err-end : goal.returns-in_err-end
returns-in_err-end c =
    rw c.from_residual.ensures (sym (subst (Ends c.args.s.now) c.in_err-end.was (ends (goal.at.returns-in_err-end c).After-find)))

pub slice_bounds-result-end : goal.slice_bounds-result-end
slice_bounds-result-end c =
    let line = subst (Ends c.args.s.now) c.in_ok-end.was (ends (goal.at.slice_bounds-result-end c).After-find) in
    sym (length-take-le c.in_ok-end.end c.args.s.now (omega (arith, line.within)))

pub slice_bounds-result-count : goal.slice_bounds-result-count
slice_bounds-result-count c =
    let line = subst (Ends c.args.s.now) c.in_ok-end.was (ends (goal.at.slice_bounds-result-count c).After-find) in
    line.within

pub slice_bounds-result-start : goal.slice_bounds-result-start
slice_bounds-result-start c =
    let line = subst (Ends c.args.s.now) c.in_ok-end.was (ends (goal.at.slice_bounds-result-start c).After-find) in
    line.within

pub returns : goal.returns
returns c =
    let s = c.args.s.now in
    let end = c.in_ok-end.end in
    let line = subst (Ends s) c.in_ok-end.was (ends (goal.at.returns c).After-find) in
    ap {B = Option (List ℕ × List ℕ)} (λ (t : List ℕ). Some (take end s, t)) (part-rest s (end + 2)) ∙ sym line.found
