-- What each question hands back: the unit as it was, and the answer. 'Each call takes the unit and hands the unit back'; 'the questions change nothing'.
use Rattle.std.specs.Prelude.{ℕ, List, Option}
use Rattle.rules.specs.Writer.{written_of}
use Rattle.unit.specs.Calls.{due_of, ceiling_of, command_of, free_of}
use Rattle.unit.specs.Request.{request_of}
use Rattle.rules.specs.declared.Ceiling.{Ceiling}
use Rattle.rules.specs.declared.Due.{Due}
use Rattle.unit.specs.declared.Unit.{Unit}
use Rattle.unit.specs.declared.Done.{Done}

abbrev pub due_asked : Unit → Done (Option Due)
due_asked u = record { unit = u; answer = due_of u }

abbrev pub ceiling_asked : Unit → List ℕ → ℕ → Done (Option Ceiling)
ceiling_asked u store slot = record { unit = u; answer = ceiling_of u store slot }

abbrev pub command_asked : Unit → Done ℕ
command_asked u = record { unit = u; answer = command_of u }

abbrev pub free_asked : Unit → Done ℕ
free_asked u = record { unit = u; answer = free_of u }

-- the request for a segment, into a buffer of that length
abbrev pub request_asked : Unit → List ℕ → ℕ → Done ℕ
request_asked u segment room = record { unit = u; answer = written_of (request_of u segment room) }
