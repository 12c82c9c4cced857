-- Where the fields of a record stand in its body.
use Rattle.std.specs.Option.{unwrap_or}
use Rattle.std.specs.Prelude.{ℕ, ◌+◌, ◌≡◌, Bool, true, false, List, ltb, drop, Result, Ok, Err, Option, None, Some}
use Rattle.rules.specs.Body.{Body, count_of, flag_digits, next_digits, rates_of, is_schedule, parse_body}
use Rattle.rules.specs.Table.{need}
use Rattle.rules.specs.declared.Cause.{Cause}
use Rattle.rules.specs.declared.Format.{Format}
use Rattle.rules.specs.declared.Format.TheVariants.{F201, F202, F203, F301}
use Rattle.layout.specs.Places.{schedule_digits, plant_digits, start_digits, plant_place, start_place, rates_place, checksum_digits}
use Rattle.form.specs.Walk.{record_start}
use Rattle.records.specs.declared.Places.{Places}
use Rattle.records.specs.declared.Field.{Field}
use Rattle.records.specs.declared.Field.TheVariants.{Schedule, Plant, Start, Rates, Flag, Checksum, Next}

-- 'for 203 a flag digit', 'for 203 next access': the place n for 203, else none
abbrev pub only_update : Format → ℕ → Option ℕ
only_update F201 n = None
only_update F202 n = None
only_update F203 n = Some n
only_update F301 n = None

-- 'schedule ID 10 digits, plant ID 26, start YYYYMMDDhhmm 12, rate count n 5, n rates, then for 203 a flag digit, then checksum
-- 2 digits, then for 203 next access': a record that begins at `at` and has n rates
abbrev pub places_of : Format → ℕ → ℕ → Places
places_of f at n = record {
  schedule = at;
  plant = at + plant_place;
  start = at + start_place;
  rates = at + rates_place;
  count = n;
  flag = only_update f (at + rates_place + n);
  checksum = at + rates_place + n + flag_digits f;
  next = only_update f (at + rates_place + n + flag_digits f + checksum_digits);
}

-- those of record i of a body
abbrev pub places_at : Format → List ℕ → ℕ → Places
places_at f body i = places_of f (record_start f body i) (rates_of (drop (record_start f body i) body))

abbrev pub parses : Option Body → Bool
parses None = false
parses (Some b) = true

-- 6: no record of the format has this index; 7: a format without records of rates; 9: the body does not parse for the format
unfoldable pub locate : Format → List ℕ → ℕ → Result Places Cause
locate f body i =
    need (ltb i (count_of f)) (Err Cause.Range)
    (need (is_schedule f) (Err Cause.Name)
    (need (parses (parse_body f body)) (Err Cause.Form)
    (Ok (places_at f body i))))

-- the place and the length of a field; a field that there is not is the empty part at 0
abbrev pub from : Field → Places → ℕ
from Schedule p = p.schedule
from Plant p = p.plant
from Start p = p.start
from Rates p = p.rates
from Flag p = unwrap_or p.flag 0
from Checksum p = p.checksum
from Next p = unwrap_or p.next 0

abbrev pub size : Field → Format → Places → ℕ
size Schedule f p = schedule_digits
size Plant f p = plant_digits
size Start f p = start_digits
size Rates f p = p.count
size Flag f p = flag_digits f
size Checksum f p = checksum_digits
size Next f p = next_digits f

pub record Piece (x : Field) (f : Format) (p : Places) (at n : ℕ) : Type 0 where
  pub begins : at ≡ from x p
  pub long : n ≡ size x f p
