-- `put::put_records` meets its contract. The invariant: the records that are left follow on, and putting them gives the whole.
use mathlib.Core.Path.{◌≡◌}
use Rattle.schedule.specs.Rates.{stored_of}
use Rattle.about_store.specs.Run.{RunFrom, put_records}
use Rattle.form.specs.Walk.{records_from, records_left}
use Rattle.taking.proofs.put.put_records.Given as goal

abbrev pub invariant-loop-parts : goal.invariant-loop-parts
invariant-loop-parts l =
    (goal.iterator-loop-parts).can_next l.parts-iterator
    × (goal.iterator-loop-parts).is_finite l.parts-iterator
    × RunFrom l.slot (records_left l.parts-iterator)
    × (put_records l.floor (records_from l.fn.format l.count l.s) (stored_of l.initial.pool l.initial.store)
    ≡ put_records l.floor (records_left l.parts-iterator) (stored_of l.pool l.store))
