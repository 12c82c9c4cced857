-- The writer (01, Beside the unit): a 201, 202 or 203 body from its fields, and the causes of its refusal in order.
use Rattle.std.specs.Prelude.{ℕ, zero, suc, ◌+◌, ◌-◌, ◌/◌, ◌%◌, Bool, true, false, ◌&&◌, ◌||◌, List, [], ◌∷◌, ◌++◌, length, take, drop, leb, eqb, Result, Ok, Err, Option, None, Some}
use Rattle.rules.specs.Digits.{all_at_most, digits, decimal}
use Rattle.rules.specs.Calendar.{exists, month_at, whole_minute, first_slot, slots_of_month, month_count}
use Rattle.rules.specs.Plant.{plant_id}
use Rattle.rules.specs.Name.{format_of}
use Rattle.rules.specs.Body.{highest_rate, Record, schedule, count_of, most_rates, is_schedule, encode_body}
use Rattle.rules.specs.File.{month_begins, update_dates, checksum_of}
use Rattle.rules.specs.Table.{need}
use Rattle.rules.specs.declared.Cause.{Cause}
use Rattle.rules.specs.declared.Format.{Format}
use Rattle.rules.specs.declared.Format.TheVariants.{F201, F202, F203, F301}

-- what an output is made of: bytes for the caller's buffer, or the cause of a refusal
pub data Output : Type 0 where
  refuse : Cause → Output
  bytes : List ℕ → Output

-- cause 15: 'output longer than the lent buffer'
abbrev pub fitting : ℕ → List ℕ → Output
fitting room b = need (leb (length b) room) (refuse Cause.Buffer) (bytes b)

-- the answer to the caller
abbrev pub written_of : Output → Result ℕ Cause
written_of (refuse c) = Err c
written_of (bytes b) = Ok (length b)

-- what the buffer holds afterwards: 'bytes past its end stay', and on refusal all of them
abbrev pub buffer_after : Output → List ℕ → List ℕ
buffer_after (refuse c) buffer = buffer
buffer_after (bytes b) buffer = b ++ drop (length b) buffer

-- 'plant ID, schedule ID (one for all records), start and next access as digits, rates end to end, flag'
pub record Fields : Type 0 where
  pub format : ℕ
  pub plant : List ℕ
  pub schedule : List ℕ
  pub start : List ℕ
  pub next : List ℕ
  pub rates : List ℕ
  pub flag : ℕ

-- ---- the records

-- the first slot of month m, as a start's digits
abbrev pub month_start : ℕ → List ℕ
month_start m = decimal 4 (2000 + m / 12) ++ (decimal 2 (m % 12 + 1) ++ (0 ∷ 1 ∷ 0 ∷ 0 ∷ 0 ∷ 0 ∷ []))

abbrev pub month_record : Fields → ℕ → List ℕ → Record
month_record w m rates = record {
  schedule = w.schedule;
  plant = w.plant;
  start = month_start m;
  rates = rates;
  flag = [];
  checksum = decimal 2 (checksum_of (month_start m) rates);
  next = [];
}

-- k months from month m on, of rates end to end
unfoldable pub month_records : Fields → ℕ → ℕ → List ℕ → List Record
month_records w zero m rates = []
month_records w (suc k) m rates =
    month_record w m (take (slots_of_month m) rates) ∷ month_records w k (suc m) (drop (slots_of_month m) rates)

unfoldable pub update_record : Fields → Record
update_record w = record {
  schedule = w.schedule;
  plant = w.plant;
  start = w.start;
  rates = w.rates;
  flag = w.flag ∷ [];
  checksum = decimal 2 (checksum_of w.start w.rates);
  next = w.next;
}

unfoldable pub field_records : Format → Fields → List Record
field_records F201 w = month_records w (count_of F201) (month_at w.start) w.rates
field_records F202 w = month_records w (count_of F202) (month_at w.start) w.rates
field_records F203 w = update_record w ∷ []
field_records F301 w = []

-- ---- the refusals

-- cause 6: 'writer's flag above 9'; 'For 201 and 202 flag and next access are not looked at'
abbrev pub flag_fits : Fields → Bool
flag_fits w = leb w.flag 9 || eqb w.format 201 || eqb w.format 202

-- cause 9: 'writer's schedule ID, start or next access not 10, 12 or 14 digits', 'More than 336 rates for 203'
abbrev pub next_fits : Format → Fields → Bool
next_fits F201 w = true
next_fits F202 w = true
next_fits F203 w = digits 14 w.next && leb (length w.rates) (most_rates F203)
next_fits F301 w = false

unfoldable pub digits_fit : Format → Fields → Bool
digits_fit f w = digits 10 w.schedule && digits 12 w.start && next_fits f w

-- cause 10: a start that begins a month, with k months before the end of 2099, 'any length but the one its months need'
unfoldable pub months_fit : ℕ → Fields → Bool
months_fit k w =
    exists (whole_minute w.start)
    && month_begins w.start
    && leb (month_at w.start + k) month_count
    && eqb (length w.rates) (first_slot (month_at w.start + k) - first_slot (month_at w.start))

abbrev pub dates_fit : Format → Fields → Bool
dates_fit F201 w = months_fit (count_of F201) w
dates_fit F202 w = months_fit (count_of F202) w
dates_fit F203 w = update_dates (update_record w)
dates_fit F301 w = false

-- of fields with that format, into so much room
abbrev pub write_as : ℕ → Fields → Option Format → Output
write_as room w None = refuse Cause.Name
write_as room w (Some f) =
    need (is_schedule f) (refuse Cause.Name)
    (need (digits_fit f w) (refuse Cause.Form)
    (need (dates_fit f w) (refuse Cause.Date)
    (need (all_at_most highest_rate w.rates) (refuse Cause.Rate)
    (fitting room (encode_body (schedule (field_records f w)))))))

unfoldable pub write_body : Fields → ℕ → Output
write_body w room =
    need (plant_id w.plant) (refuse Cause.PlantId)
    (need (flag_fits w) (refuse Cause.Range)
    (write_as room w (format_of w.format)))
