use mathlib.Core.Path.{◌≡◌}
use mathlib.Core.List.{List}
use Prim.Native.Nat.{ℕ}
use lib.ListN.{length, length-append}
use Rattle.std.proofs.Common.{rules}
use Rattle.std.proofs.lemmas.Iterator.Consumers.{YieldsList-turn, YieldsList-end}
use Rattle.std.specs.Simd.{first_chunks}
use Rattle.rules.specs.Store.{block_length, block_count}
use Rattle.schedule.proofs.StoreLaws.{walk, store_turn, store_end}
use Rattle.schedule.proofs.sound.store_holds.Goals as goal

pub loop-b-preserved : goal.loop-b-preserved
loop-b-preserved c =
    let p = c.args.pool in
    let store = c.args.store.now in
    let l = c.loop-b in
    let long : length p.months ≡ block_count = search rules in
    let road = walk {s = c.into_iter-b-iterator.result} p.months (first_chunks block_length block_count store) (search rules) (search rules) (search rules) in
    let turn = YieldsList-turn road l.yielded l.b-iterator l.yielded_by _ c.next.new.self _ c.in-Some.is c.next.ensures.steps in
    let q : ℕ × (ℕ × List ℕ) = (c.in-Some.b, (c.in-Some.month.now, c.in-Some.block.now)) in
    rw (length-append l.yielded) (store_turn p store (length l.yielded) q _ l.good long turn.0 turn.1 (search rules) l.invariant)

pub returns : goal.returns
returns c =
    let p = c.args.pool in
    let store = c.args.store.now in
    let l = c.loop-b in
    let long : length p.months ≡ block_count = search rules in
    let road = walk {s = c.into_iter-b-iterator.result} p.months (first_chunks block_length block_count store) (search rules) (search rules) (search rules) in
    let end = YieldsList-end road l.yielded l.b-iterator l.yielded_by _ c.next.new.self c.in-None.is c.next.ensures.steps in
    store_end p store (length l.yielded) l.good long end.1 l.invariant c.if-store-ne-STORE_LENGTH.false
