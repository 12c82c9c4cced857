-- Where a record's fields stand, as C gets it: places that are 0 where it is refused, or has no such field, and 0 or a cause's number.
use Rattle.std.specs.Option.{unwrap_or}
use Rattle.std.specs.Prelude.{ℕ, Result, Ok, Err}
use Rattle.rules.specs.Causes.{number_of}
use Rattle.rules.specs.declared.Cause.{Cause}
use Rattle.records.specs.declared.Places.{Places}
use Rattle.c_bodies.specs.declared.RecordPlaces.{RecordPlaces}

abbrev pub no_places : ℕ → RecordPlaces
no_places n = record { schedule = 0; plant = 0; start = 0; rates = 0; count = 0; flag = 0; checksum = 0; next = 0; cause = n }

abbrev pub places_numbers : Result Places Cause → RecordPlaces
places_numbers (Ok p) = record {
  schedule = p.schedule;
  plant = p.plant;
  start = p.start;
  rates = p.rates;
  count = p.count;
  flag = unwrap_or p.flag 0;
  checksum = p.checksum;
  next = unwrap_or p.next 0;
  cause = 0;
}
places_numbers (Err c) = no_places (number_of c)
