-- `script_words::words::place` meets its contract: the chain gives the first place that passes the test.
use Rattle.std.proofs.Common.{rules, ◌≡◌, ◌≢◌, ◌∙◌, sym}
use Rattle.std.proofs.lemmas.Iterator.{YieldsList-from_slice, IsFirst-from_position}
use borrow.Author.Tests.{tests}
use Rattle.script_words.proofs.WordLaws.{IsFirst, first-place}
use Rattle.script_words.proofs.words.place.Goals as goal

pub returns-clause-exact : goal.returns-clause-exact
returns-clause-exact c =
    let b = c.args.byte in
    let s = c.args.s.now in
    let first : IsFirst b s c.position.result =
    IsFirst-from_position _ _ _ (λ y. y ≡ b) (λ y. y ≢ b) c.position.ensures.ran (YieldsList-from_slice s cc)
    (λ x q k. search (rules, tests))
    (λ x q k. search (rules, tests)) in
    c.unwrap_or.ensures ∙ sym (first-place b s _ first)
