-- The request of a unit (01, Beside the unit): from its own plant ID and MAC address, so that only the segment and the buffer are given.
use Rattle.std.specs.Prelude.{ℕ, cond, List}
use Rattle.rules.specs.Request.{request}
use Rattle.rules.specs.Writer.{Output, refuse}
use Rattle.rules.specs.declared.Cause.{Cause}
use Rattle.unit.specs.Values.{is_sound}
use Rattle.unit.specs.declared.Unit.{Unit}

-- 4 of a unit that is not sound; else 7 of the segment, 15 of the room
unfoldable pub request_of : Unit → List ℕ → ℕ → Output
request_of u segment room = cond (is_sound u) (request u.plant.id u.plant.mac segment room) (refuse Cause.Unsound)
