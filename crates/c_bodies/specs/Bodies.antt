-- A body taken apart, by the number of its format; 7 for a number that is no format's.
use Rattle.std.specs.Prelude.{ℕ, List, Some, None, Result, Err, Option}
use Rattle.rules.specs.Writer.{Output, refuse}
use Rattle.rules.specs.declared.Cause.{Cause}
use Rattle.rules.specs.declared.Format.{Format}
use Rattle.records.specs.Locating.{locate}
use Rattle.records.specs.Reading.{rates_output}
use Rattle.records.specs.declared.Places.{Places}

abbrev pub locate_by : Option Format → List ℕ → ℕ → Result Places Cause
locate_by None body i = Err Cause.Name
locate_by (Some f) body i = locate f body i

abbrev pub rates_by : Option Format → List ℕ → ℕ → Output
rates_by None body room = refuse Cause.Name
rates_by (Some f) body room = rates_output f body room
