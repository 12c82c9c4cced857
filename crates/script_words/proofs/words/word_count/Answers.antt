use Prim.Native.Nat.{ℕ, ◌+◌}
use mathlib.Core.Path.{◌∙◌, sym, ap}
use native.Mathlib.Omega.{arith}
use lib.ListN.{drop}
use Rattle.script_words.specs.Words.{spaces}
use Rattle.script_words.proofs.WordLaws.{space-more, space-other, space-ends}
use Rattle.script_words.proofs.words.word_count.Goals as goal
use Rattle.script_words.proofs.words.word_count.Goals.{then-x-eq-SPACE, else-x-eq-SPACE}

pub loop-x-preserved : goal.loop-x-preserved
loop-x-preserved c =
    let l = c.loop-x in
    let s = c.args.s.now in
    let i = l.x-index in
    let h = c.loop-x-test.true in
    let more : ℕ → ℕ = λ n. n + spaces (drop (i + 1) s) in
    elim c.if-x-eq-SPACE.branch [
      | then-x-eq-SPACE w ↦ (omega arith, l.invariant.1 ∙ space-more s i l.count h w.if-x-eq-SPACE.true ∙ ap more (sym w.count-is))
      | else-x-eq-SPACE w ↦ (omega arith, l.invariant.1 ∙ space-other s i l.count h w.if-x-eq-SPACE.false ∙ ap more (sym w.count-is))
    ]

pub returns : goal.returns
returns c =
    let l = c.loop-x in
    sym (l.invariant.1 ∙ space-ends c.args.s.now l.x-index l.count c.loop-x-test.false)
