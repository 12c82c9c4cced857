-- `records_stand` meets its contract. The invariant: what is left gives the whole answer.
use Prim.Native.Nat.{◌-◌}
use mathlib.Core.Path.{◌≡◌}
use Rattle.rules.specs.Body.{count_of}
use Rattle.form.specs.Walk.{shaped}
use Rattle.form.proofs.records_stand.Given as goal

abbrev pub invariant-loop : goal.invariant-loop
invariant-loop l = shaped l.format (count_of l.format) l.s ≡ shaped l.format (l.end - l.counter) l.t
