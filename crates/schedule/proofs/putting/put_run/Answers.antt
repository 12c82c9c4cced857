-- `putting::put_run` meets its contract: the search finds this too, but takes long to give up on a wrong second month.
use mathlib.Core.Path.{◌≡◌, sym, ap, ap₂, ◌∙◌}
use mathlib.Core.Bool.{true}
use lib.ListN.{length}
use Rattle.std.proofs.Common.{rules}
use Rattle.rules.specs.Store.{store_length}
use Rattle.schedule.specs.Stored.{Stored, Piece, can_put, put_piece}
use Rattle.schedule.specs.Rates.{stored_of}
use Rattle.schedule.proofs.PutLaws.{run_is, can_count}
use Rattle.schedule.proofs.putting.put_run.Goals as goal

pub returns : goal.returns
returns c =
    let a = c.args in
    let entry = stored_of a.pool a.store.now in
    let long : length a.store.now ≡ store_length = search rules in
    let same : c.in-Some.store.now ≡ a.store.now = search rules in
    let can : can_put a.slot a.rates.now entry ≡ true = sym (can_count a.floor a.slot a.rates.now entry long) ∙ search rules in
    let first = stored_of c.put_piece-first.result c.put_piece-first.new.store in
    let e = c.put_piece-first.ensures ∙ ap₂ (put_piece a.floor) c.piece_in.ensures (ap (stored_of a.pool) same) in
    let f = c.put_piece.ensures ∙ ap (λ (q : Piece). put_piece a.floor q first) c.piece_in-2.ensures in
    let r = run_is a.floor a.slot a.rates.now entry c.month_of_slot-month.result first _ c.month_of_slot-month.ensures can e f in
    (ap (λ (x : Stored). x.pool) r, ap (λ (x : Stored). x.store) r)
