-- `walk::places_in` meets its contract. The invariant: the walk is where the record of that number begins.
use mathlib.Core.Path.{◌≡◌}
use Rattle.form.specs.Walk.{record_start}
use Rattle.records.proofs.walk.places_in.Given as goal

abbrev pub invariant-loop : goal.invariant-loop
invariant-loop l = l.at ≡ record_start l.format l.body l.counter
