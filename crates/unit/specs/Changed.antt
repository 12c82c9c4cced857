-- What a call that changes something hands back: a unit, and whether it is accepted.
use Rattle.unit.specs.declared.Done.{Done as DoneWith}

abbrev pub Done : Type 0
Done = DoneWith (Unit {0})
