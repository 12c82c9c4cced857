use Prim.Native.Nat.{◌+◌}
use mathlib.Core.Path.{◌≡◌, ◌∙◌, sym}
use native.Mathlib.Omega.{arith}
use Rattle.rules.specs.Body.{size_of}
use Rattle.form.specs.Walk.{Whole}
use Rattle.form.proofs.Walk.{whole, within, sized, size-here, shape-end, shape-step, shape_stop}
use Rattle.form.proofs.records_stand.Goals as goal
use Rattle.form.proofs.records_stand.Goals.{Else-not-record_stands}

-- what is known of a record that stood
stood : (c : Else-not-record_stands) → Whole c.args.format c.loop.t.now
stood c = whole _ _ (sym c.if-not-record_stands.ensures)

size : (c : Else-not-record_stands) → 53 + c.rate_count-rates.result + c.tail_digits-tail.result ≡ size_of c.args.format c.loop.t.now
size c = size-here _ _ c.rate_count-rates.ensures.exact c.tail_digits-tail.ensures.exact (stood c)

pub record_stands-requires : goal.record_stands-requires
record_stands-requires c = sized _ _ c.rate_count-rates.ensures.exact c.tail_digits-tail.ensures.exact c.rate_count-rates.ensures.bound

pub returns-then-not-record_stands : goal.returns-then-not-record_stands
returns-then-not-record_stands c = sym (c.loop.invariant ∙ shape_stop _ _ _ (omega (arith, c.loop-test.true)) (sym c.if-not-record_stands.ensures))

pub slice_bounds-t-count : goal.slice_bounds-t-count
slice_bounds-t-count c = within _ _ (stood c) (size c)

pub slice_bounds-t-start : goal.slice_bounds-t-start
slice_bounds-t-start c = within _ _ (stood c) (size c)

pub loop-preserved : goal.loop-preserved
loop-preserved c =
    let e = (goal.at.loop-preserved c).Else-not-record_stands in
    c.loop.invariant ∙ shape-step _ _ _ (omega (arith, c.loop-test.true)) (size e) c.if-not-record_stands.ensures

pub returns : goal.returns
returns c = sym (c.loop.invariant ∙ shape-end _ _ _ (omega (arith, c.loop-test.false)))
