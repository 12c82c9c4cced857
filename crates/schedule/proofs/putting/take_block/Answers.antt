-- `putting::take_block` meets its contract.
use Prim.Native.Nat.{ℕ, ◌≤◌, ◌+◌, ◌*◌}
use mathlib.Core.Path.{◌≡◌, sym, ap, ◌∙◌}
use native.Mathlib.Nat.{add-zero}
use native.Mathlib.Omega.{arith}
use lib.ListN.{length}
use lib.Seq.{sets}
use Rattle.rules.specs.Store.{block_count, block_length, no_rate}
use Rattle.schedule.specs.Stored.{blank}
use Rattle.schedule.proofs.Parts.{fill_part}
use Rattle.schedule.proofs.PutLaws.{taken_below, take_opens, take_none, take_block, take_no_block}
use Rattle.schedule.proofs.putting.take_block.Goals as goal

pub returns-in-Some : goal.returns-in-Some
returns-in-Some c =
    let t = c.take-taken in
    let a = c.args in
    let long : length a.pool.months ≡ block_count = c.well_formed.0.1.1.0.1.0.1 in
    let b = c.in-Some.b in
    let is = c.in-Some.is in
    let room : b * block_length + block_length ≤ length a.store.now = omega (arith, taken_below _ _ _ t.ensures b is) in (
      take_opens t.result a.pool a.month a.store.now t.ensures b _ is
          (fill_part a.store.now _ (b * block_length) block_length no_rate room (c.fill.ensures.after (λ y e. e))
          ∙ ap (λ (i : ℕ). sets a.store.now i blank) (sym (add-zero (b * block_length)))),
      is ∙ take_block t.result a.pool a.month t.ensures c.requires long b is,
    )

pub returns-in_default : goal.returns-in_default
returns-in_default c =
    let t = c.take-taken in
    let a = c.args in
    let full = c.in_default.is in (
      take_none t.result a.pool a.month a.store.now t.ensures full,
      full ∙ take_no_block t.result a.pool a.month t.ensures c.requires full,
    )
