-- `copying::put_rates` meets its contract. The invariant: the rates that are left, put at the place, give the whole.
use Rattle.rules.specs.Body.{count_of}
use Rattle.form.specs.Walk.{records_from}
use Rattle.records.proofs.Joined.{Going}
use Rattle.records.proofs.copying.put_rates.Given as goal

abbrev pub invariant-loop-parts : goal.invariant-loop-parts
invariant-loop-parts l =
    (goal.iterator-loop-parts).can_next l.parts-iterator
    × (goal.iterator-loop-parts).is_finite l.parts-iterator
    × Going (records_from l.fn.format (count_of l.fn.format) l.s) l.initial.out l.out l.place l.parts-iterator
