use mathlib.Core.Path.{◌≡◌, ◌∙◌}
use mathlib.Core.Bool.{true, false}
use borrow.Author.Tests.{tests}
use lib.ListN.{length}
use Rattle.std.proofs.Common.{rules}
use Rattle.std.proofs.lemmas.Iterator.{YieldsList-from_slice, first_from_find}
use Rattle.std.proofs.lemmas.Iterator.Consumers.{YieldsList-from_enumerate}
use Rattle.rules.specs.Store.{block_count}
use Rattle.pool.proofs.FindLaws.{has, first-block}
use Rattle.pool.proofs.Pool.find.Goals as goal

pub returns : goal.returns
returns c =
    let p = c.args.self in
    let m = c.args.month in
    let long : length p.months ≡ block_count = search rules in
    search rules ∙ first-block p m long (λ x. (x.0, x.1.now)) c.find.result
    (first_from_find _ _ _ (λ q. has p m q ≡ true) (λ q. has p m q ≡ false) c.find.ensures.ran
    (YieldsList-from_enumerate {v = λ y. y.now} (YieldsList-from_slice p.months (search rules)) (search rules))
    (λ x q k. search (rules, tests)) (λ x q k. search (rules, tests)))
