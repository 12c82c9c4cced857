-- `response::fields::name_in` meets its contract: the search finds the first place that begins so.
use Rattle.std.proofs.Common.{rules, tests}
use Rattle.std.proofs.lemmas.Iterator.{first_from_Range}
use Prim.Native.Nat.{ℕ, ◌+◌}
use mathlib.Core.Path.{◌∙◌, sym, ap, subst}
use mathlib.Core.List.{List}
use lib.ListN.{length}
use Rattle.std.specs.Prelude.{Option, Some}
use Rattle.laws.proofs.Bytes.{part-rest}
use mathlib.Core.Bool.{true, false}
use native.Mathlib.Omega.{arith}
use Rattle.response.proofs.Scans.{Begun, Sought, name_sought}
use Rattle.response.proofs.fields.name_in.Goals.{After-find}
use Rattle.response.proofs.fields.name_in.Goals as goal

sought : (c : After-find) → Sought c.args.p.now c.args.s.now c.find.result
sought c =
    let s = c.args.s.now in
    let p = c.args.p.now in
    name_sought p s c.find.result
    (first_from_Range _ _ _ _ (λ i. Begun p s i true) (λ i. Begun p s i false) c.find.ensures.ran (λ x q k. search (rules, tests)) (λ x q k. search (rules, tests)))

pub returns-in_err-at : goal.returns-in_err-at
returns-in_err-at c =
    rw c.from_residual.ensures (sym (subst (Sought c.args.p.now c.args.s.now) c.in_err-at.was (sought (goal.at.returns-in_err-at c).After-find)))

pub overflow_add-result : goal.overflow_add-result
overflow_add-result c =
    let name = subst (Sought c.args.p.now c.args.s.now) c.in_ok-at.was (sought (goal.at.overflow_add-result c).After-find) in
    omega (arith, name.within)

pub slice_bounds-result-count : goal.slice_bounds-result-count
slice_bounds-result-count c =
    let name = subst (Sought c.args.p.now c.args.s.now) c.in_ok-at.was (sought (goal.at.slice_bounds-result-count c).After-find) in
    name.within

pub slice_bounds-result-start : goal.slice_bounds-result-start
slice_bounds-result-start c =
    let name = subst (Sought c.args.p.now c.args.s.now) c.in_ok-at.was (sought (goal.at.slice_bounds-result-start c).After-find) in
    name.within

pub returns : goal.returns
returns c =
    let p = c.args.p.now in
    let s = c.args.s.now in
    let name = subst (Sought p s) c.in_ok-at.was (sought (goal.at.returns c).After-find) in
    ap {B = Option (List ℕ)} Some (part-rest s (c.in_ok-at.at + length p)) ∙ sym name.found
