-- `take::take_checked` meets its contract.
use Rattle.std.specs.Prelude.{Ok}
use mathlib.Core.Path.{◌≡◌, sym, ◌∙◌}
use Rattle.rules.specs.File.{take_file}
use Rattle.rules.specs.Reading.{reading_of}
use Rattle.taking.proofs.TakeLaws.{take-refused, take-full, take_done, read-room, read-following}
use Rattle.taking.proofs.take.take_checked.Goals as goal
use Rattle.taking.proofs.take.take_checked.Goals.{In-Ok}

-- what was read
got : (c : In-Ok) → reading_of (take_file c.args.unit.plant.id c.args.name.now c.args.body.now) ≡ Ok c.in-Ok.summary
got c = sym c.read_to_take.ensures ∙ c.in-Ok.is

pub returns-in-Err : goal.returns-in-Err
returns-in-Err c =
    let r = take-refused _ _ c.requires _ _ _ (sym c.read_to_take.ensures ∙ c.in-Err.is) in
    record { answer = c.refuse.ensures ∙ r.0; kept = r.1 }

pub returns-then-free_count-needed : goal.returns-then-free_count-needed
returns-then-free_count-needed c =
    let read = got (goal.at.returns-then-free_count-needed c).In-Ok in
    let r = take-full _ _ c.requires _ _ _ read _ _ _ c.unwrap_or-start.ensures c.free_count.ensures c.missing-needed.ensures c.if-free_count-needed.true in
    record { answer = c.refuse-then-free_count-needed.ensures ∙ r.0; kept = r.1 }

pub slice_bounds-put_records-count : goal.slice_bounds-put_records-count
slice_bounds-put_records-count c = read-room _ _ _ _ (got (goal.at.slice_bounds-put_records-count c).In-Ok)

pub slice_bounds-put_records-start : goal.slice_bounds-put_records-start
slice_bounds-put_records-start c = read-room _ _ _ _ (got (goal.at.slice_bounds-put_records-start c).In-Ok)

pub put_records-pool-requires : goal.put_records-pool-requires
put_records-pool-requires c = read-following _ _ _ _ (got (goal.at.put_records-pool-requires c).In-Ok) _ c.unwrap_or-start.ensures

pub returns-else-free_count-needed : goal.returns-else-free_count-needed
returns-else-free_count-needed c =
    let read = got (goal.at.returns-else-free_count-needed c).In-Ok in
    let r =
    take_done _ _ c.requires _ _ _ read _ _ _ c.unwrap_or-start.ensures c.free_count.ensures c.missing-needed.ensures
    c.if-free_count-needed.false _ _ _ c.put_records-pool.ensures c.take_requests.ensures in
    record { answer = c.filed.ensures ∙ r.0; kept = r.1 }
