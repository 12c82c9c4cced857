-- The starred bench examples of 01, as one table: what the definitions compute, and what 01 states.
use Rattle.rules.specs.Causes.{Answer}
use Rattle.std.specs.Prelude.{ℕ, zero, suc, ◌+◌, ◌-◌, ◌*◌, ◌≡◌, refl, Bool, true, ◌&&◌, List, [], ◌∷◌, ◌++◌, length, take, replicate, eqb, Ok, Err, None}
use Rattle.rules.specs.Digits.{all_at_most, all_ascii, value_from, decimal, same_bytes}
use Rattle.rules.specs.Calendar.{days_of_month, first_day, exists, seconds_of, start_slot, day_length}
use Rattle.rules.specs.Plant.{Settings, weighted_sum, check_digit, plant_id, all_hex, mac_address, valid_settings, percent, parts_of, installing}
use Rattle.rules.specs.Name.{format_of, segment_fits, lawful_name, name_shape, parse_name, encode_name}
use Rattle.rules.specs.Body.{schedule, rates_of, size_of, record_shape, record_at, parse_records, counted, parse_body, encode_record, encode_records, encode_body, every}
use Rattle.rules.specs.File.{
  Outcome,
  refuse,
  file,
  read_file,
  stages,
  whole_month,
  months_from,
  update_dates,
  dates_hold,
  rates_hold,
  sum,
  checksum_of,
  checksums_hold,
  plants_hold,
}
use Rattle.rules.specs.Machine.{approach, one, window_start, in_window, next_window, failed_fixed}
use Rattle.rules.specs.Causes.{number_of}
use Rattle.rules.specs.Writer.{Fields, Output, bytes, write_body, field_records, month_records, update_record, digits_fit, months_fit}
use Rattle.rules.specs.declared.Format.TheVariants.{F203}

-- 'Plant X is 12345678901234567890123455', here without its last digit
unfoldable pub plant_x : ℕ → List ℕ
plant_x last = (1 ∷ 2 ∷ 3 ∷ 4 ∷ 5 ∷ 6 ∷ 7 ∷ 8 ∷ 9 ∷ 0 ∷ []) ++ ((1 ∷ 2 ∷ 3 ∷ 4 ∷ 5 ∷ 6 ∷ 7 ∷ 8 ∷ 9 ∷ 0 ∷ []) ++ (1 ∷ 2 ∷ 3 ∷ 4 ∷ 5 ∷ last ∷ []))

abbrev pub mac : List ℕ
mac = replicate 12 48

abbrev pub settings : Settings
settings = record { panel = 4000; inverter = 5500; minutes = 5 }

-- a refusal's number, and 0 where there is none
install_number : Answer → ℕ
install_number (Ok tt) = 0
install_number (Err c) = number_of c

read_number : Outcome → ℕ
read_number (refuse c) = number_of c
read_number (file f) = 0

length_of : Output → ℕ
length_of (Output.refuse c) = 0
length_of (bytes b) = length b

-- 27 March 2026, 09:30
abbrev march : List ℕ
march = decimal 8 20260327 ++ (0 ∷ 9 ∷ 3 ∷ 0 ∷ [])

-- the yearly file from April 2026 on
year : Fields
year = record {
  format = 201;
  plant = plant_x 5;
  schedule = replicate 10 0;
  start = decimal 8 20260401 ++ replicate 4 0;
  next = [];
  rates = replicate 18960 0;
  flag = 0;
}

-- what reading says to an update of n rates r
read_update : ℕ → ℕ → ℕ
read_update n r =
    let rates = replicate n r in
    read_number
    (read_file None
    (encode_name (record { format = F203; segment = replicate 4 0; plant = plant_x 5; created = decimal 14 20260327090000 }))
    (encode_body
    (schedule
    (record {
      schedule = replicate 10 0;
      plant = plant_x 5;
      start = march;
      rates = rates;
      flag = 2 ∷ [];
      checksum = decimal 2 (checksum_of march rates);
      next = decimal 14 20260327113000;
    }
    ∷ []))))

-- the command after n seconds toward a goal
ramp : ℕ → ℕ → ℕ → ℕ
ramp zero goal c = c
ramp (suc n) goal c = ramp n goal (approach goal c)

-- a time of day
abbrev clock : ℕ → ℕ → ℕ → ℕ
clock h m s = 3600 * h + 60 * m + s

-- the fixed time after a failure of X on day 9,000 at 00:05, with k 5
failed_at : ℕ
failed_at =
    (failed_fixed settings 5 (9000 * day_length + clock 0 5 0) 0 (record { wanted_flag = 2; held_flag = 1; failures = 5; fixed_at = 0; update_at = 0 })).fixed_at

-- a line of the table: 01's example, what is computed, what is stated
pub record Example : Type 0 where
  pub number : ℕ
  pub computed : ℕ
  pub stated : ℕ

abbrev pub line : ℕ → ℕ → ℕ → Example
line n a b = record { number = n; computed = a; stated = b }

pub table : List Example
table =
    line 1 (weighted_sum 0 (take 25 (plant_x 5))) 545
    ∷ line 1 (check_digit (plant_x 5)) 5
    ∷ line 1 (install_number (installing (plant_x 5) mac settings)) 0
    ∷ line 1 (install_number (installing (plant_x 4) mac settings)) 1
    ∷ line 2 (sum (100 ∷ 40 ∷ 28 ∷ [])) 168
    ∷ line 2 (checksum_of march (100 ∷ 40 ∷ 28 ∷ [])) 18
    ∷ line 3 (first_day (315 + 13) - first_day 315) 395
    ∷ line 3 (length_of (write_body year 19681)) 19681
    ∷ line 4 (percent settings 40) 29
    ∷ line 4 (percent settings 100) 72
    ∷ line 5 (parts_of settings 29) 8700
    ∷ line 5 (ramp 86 8700 0) 8600
    ∷ line 5 (ramp 87 8700 0) 8700
    ∷ line 6 (window_start 5) (clock 23 40 0)
    ∷ line 6 (one (in_window settings 5 (clock 23 40 0))) 1
    ∷ line 6 (one (in_window settings 5 (clock 23 59 59))) 1
    ∷ line 6 (one (in_window settings 5 (clock 23 39 59))) 0
    ∷ line 7 (one (in_window settings 6 (clock 0 10 0))) 1
    ∷ line 7 (one (in_window settings 6 (clock 0 30 0))) 0
    ∷ line 8 (read_update 336 100) 0
    ∷ line 8 (read_update 337 100) 9
    ∷ line 8 (read_update 336 101) 11
    ∷ line 9 failed_at (9000 * day_length + clock 23 40 0)
    ∷ []

unfoldable pub all_hold : List Example → Bool
all_hold [] = true
all_hold (e ∷ es) = eqb e.computed e.stated && all_hold es

-- every example is as 01 states it
pub examples_hold : all_hold table ≡ true
unfolding plant_x install_number read_number length_of year read_update ramp failed_at table all_hold
    all_at_most all_ascii value_from decimal same_bytes
    days_of_month first_day exists seconds_of start_slot
    weighted_sum check_digit plant_id all_hex mac_address valid_settings percent installing
    format_of segment_fits lawful_name name_shape parse_name encode_name
    rates_of size_of record_shape record_at parse_records counted parse_body encode_record encode_records encode_body every
    read_file stages whole_month months_from update_dates dates_hold rates_hold sum checksum_of checksums_hold plants_hold
    approach window_start in_window next_window failed_fixed
    write_body field_records month_records update_record digits_fit months_fit
examples_hold = refl
