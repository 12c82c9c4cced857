-- `copy_rates` meets its contract: each return has a law on the tests that led there.
use mathlib.Core.Path.{sym}
use Rattle.form.proofs.Count.{count_room}
use Rattle.records.proofs.Bodies.{stands_facts}
use Rattle.records.proofs.Joined.{output-name, output-form, refused, fixed-inside, copy-short, copy-room, copy_done}
use Rattle.records.proofs.copy_rates.Goals as goal

pub returns-then-not-is_schedule : goal.returns-then-not-is_schedule
returns-then-not-is_schedule c =
    let both = refused _ (output-name _ _ _ (sym c.if-not-is_schedule.ensures)) in
    record { answer = both.0; buffer = both.1 }

pub returns-then-not-stands : goal.returns-then-not-stands
returns-then-not-stands c =
    let both = refused _ (output-form _ _ _ (sym c.if-not-is_schedule.ensures) (sym c.if-not-stands.ensures)) in
    record { answer = both.0; buffer = both.1 }

pub slice_bounds-s-count : goal.slice_bounds-s-count
slice_bounds-s-count c = count_room _ _ (stands_facts _ _ (sym c.if-not-stands.ensures)).counts

pub slice_bounds-s-start : goal.slice_bounds-s-start
slice_bounds-s-start c = count_room _ _ (stands_facts _ _ (sym c.if-not-stands.ensures)).counts

pub overflow_sub-length : goal.overflow_sub-length
overflow_sub-length c = fixed-inside _ _ c.args.out.now (sym c.if-not-is_schedule.ensures) (sym c.if-not-stands.ensures) _ c.fixed_bytes.ensures.exact

pub returns-then-room-length : goal.returns-then-room-length
returns-then-room-length c =
    let both = copy-short _ _ _ (sym c.if-not-is_schedule.ensures) (sym c.if-not-stands.ensures) _ c.fixed_bytes.ensures.exact c.if-room-length.true in
    record { answer = both.0; buffer = both.1 }

pub put_rates-requires : goal.put_rates-requires
put_rates-requires c =
    copy-room _ _ c.args.out.now (sym c.if-not-is_schedule.ensures) (sym c.if-not-stands.ensures) _ c.fixed_bytes.ensures.exact c.if-room-length.false

pub returns : goal.returns
returns c =
    let scheduled = sym c.if-not-is_schedule.ensures in
    let both = copy_done _ _ _ scheduled (sym c.if-not-stands.ensures) _ c.fixed_bytes.ensures.exact c.if-room-length.false c.put_rates.ensures in
    record { answer = both.0; buffer = both.1 }
