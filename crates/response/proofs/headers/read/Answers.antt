use mathlib.Core.Path.{sym, ap, subst, ◌∙◌}
use native.Mathlib.Omega.{arith}
use borrow.Author.Tests.{eqb-true, eqb-false}
use lib.ListN.{length}
use Rattle.std.specs.Prelude.{Option, ◌≢◌}
use Rattle.response.specs.Lent.{both_lent}
use Rattle.response.specs.Marks.{HeadersRead}
use Rattle.response.specs.declared.headers.Headers.{Headers}
use Rattle.response.proofs.Walk.{line-is, line-shorter, walk_starts, walk_on, walk_cut, walk_over}
use Rattle.response.proofs.headers.read.Goals as goal

pub loop-line-init : goal.loop-line-init
loop-line-init c = walk_starts c.args.s.now

pub returns-then-is_empty : goal.returns-then-is_empty
returns-then-is_empty c =
    let l = c.loop-line in
    let line = line-is l.t.now _ c.split_line.ensures _ _ c.in-Some.is in
    subst (λ (h : Option Headers). HeadersRead c.args.s.now h) (sym c.both.ensures)
    (walk_over c.args.s.now l.t.now l.size l.name l.invariant _ c.in-Some.rest line (eqb-true _ _ (sym c.is_empty.ensures ∙ c.if-is_empty.true)))

pub loop-line-smaller : goal.loop-line-smaller
loop-line-smaller c = line-shorter _ _ _ (line-is c.loop-line.t.now _ c.split_line.ensures _ _ c.in-Some.is)

pub loop-line-preserved : goal.loop-line-preserved
loop-line-preserved c =
    let l = c.loop-line in
    let line = line-is l.t.now _ c.split_line.ensures _ _ c.in-Some.is in
    rw (c.marked-size.ensures, c.marked-name.ensures)
    (walk_on c.args.s.now l.t.now l.size l.name l.invariant c.in-Some.line _ line (let some : length c.in-Some.line.now ≢ 0 = eqb-false _ _ (sym c.is_empty.ensures ∙ c.if-is_empty.false) in omega (arith, some)))

pub returns : goal.returns
returns c =
    let l = c.loop-line in
    walk_cut c.args.s.now l.t.now l.size l.name l.invariant (sym c.split_line.ensures ∙ ap both_lent c.in_default.is)
