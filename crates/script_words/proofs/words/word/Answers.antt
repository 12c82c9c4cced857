use mathlib.Core.Path.{◌∙◌, sym}
use native.Mathlib.Omega.{arith}
use lib.ListN.{length-drop}
use Rattle.std.proofs.lemmas.List.{length-take}
use Rattle.script_words.proofs.WordLaws.{after-part, word_more, word-ends}
use Rattle.script_words.proofs.words.word.Goals as goal

pub loop-preserved : goal.loop-preserved
loop-preserved c =
    let l = c.loop in
    let after = after-part l.t.now _ _ c.place.ensures.exact c.min-start.ensures in
    (simp (length-take, length-drop) (omega arith), l.invariant.1 ∙ word_more _ l.counter l.t.now _ c.loop-test.true after)

pub returns : goal.returns
returns c =
    let l = c.loop in
    sym (l.invariant.1 ∙ word-ends _ l.t.now _ (omega arith) c.place-end.ensures.exact)
