-- `putting::lay_piece` meets its contract.
use Rattle.std.specs.Prelude.{Option}
use Prim.Native.Nat.{◌+◌, ◌*◌, ℕ}
use mathlib.Core.Path.{sym, ap, ◌∙◌}
use lib.Seq.{sets}
use Rattle.rules.specs.Store.{block_length}
use Rattle.digits.specs.Placed.{placed}
use Rattle.schedule.specs.Stored.{laid}
use Rattle.schedule.proofs.RateLaws.{bytes-same}
use Rattle.schedule.proofs.putting.lay_piece.Goals as goal

pub returns-in-Some : goal.returns-in-Some
unfolding placed
returns-in-Some c =
    let a = c.args in
    let rates = a.piece.rates.now in
    let store = a.store.now in
    c.put.ensures
    ∙ ap (sets store (c.in-Some.b * block_length + a.piece.from)) (sym (bytes-same rates))
    ∙ ap (λ (f : Option ℕ). laid f a.piece.from rates store) (sym c.in-Some.is)
