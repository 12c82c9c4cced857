use mathlib.Core.Path.{◌∙◌, sym}
use Rattle.script_words.proofs.NumberLaws.{none-given, some-given, digit-more, digit-none, digit-last}
use Rattle.script_words.proofs.number.number_of.Goals as goal

pub returns-then-s-eq0 : goal.returns-then-s-eq0
returns-then-s-eq0 c = sym (none-given c.args.s.now c.if-s-eq0.true)

pub loop-digit-init : goal.loop-digit-init
loop-digit-init c = some-given c.args.s.now c.if-s-eq0.false

pub returns-in_err-value : goal.returns-in_err-value
returns-in_err-value c =
    let l = c.loop-digit in
    let s = c.args.s.now in
    rw c.from_residual.ensures (sym (l.invariant ∙ digit-none s l.digit-index l.value c.loop-digit-test.true (sym c.more.ensures ∙ c.in_err-value.was)))

pub loop-digit-preserved : goal.loop-digit-preserved
loop-digit-preserved c =
    let l = c.loop-digit in
    let s = c.args.s.now in
    l.invariant ∙ digit-more s l.digit-index l.value c.loop-digit-test.true (sym c.more.ensures ∙ c.in_ok-value.was)

pub returns : goal.returns
returns c =
    let l = c.loop-digit in
    sym (l.invariant ∙ digit-last _ l.digit-index l.value c.loop-digit-test.false)
