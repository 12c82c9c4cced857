-- The rows of reading, of taking, of the request and of install on small inputs: which is the first that applies, also where several do.
-- The writer's rows are not tried here.
use Rattle.std.specs.Prelude.{ℕ, ◌+◌, ◌≡◌, refl, true, List, [], ◌∷◌, replicate, Option, None, Some}
use Rattle.rules.specs.Digits.{all_at_most, all_ascii, value_from, decimal, same_bytes}
use Rattle.rules.specs.Calendar.{exists, seconds_of, start_slot, days_of_month, first_day}
use Rattle.rules.specs.Plant.{weighted_sum, check_digit, plant_id, all_hex, mac_address, valid_settings}
use Rattle.rules.specs.Name.{format_of, segment_fits, lawful_name, name_shape, parse_name, encode_name, any_segment}
use Rattle.rules.specs.Body.{schedule, rates_of, size_of, record_shape, record_at, parse_records, counted, parse_body, encode_record, encode_records, encode_body, every}
use Rattle.rules.specs.File.{whole_month, months_from, update_dates, dates_hold, rates_hold, sum, checksum_of, checksums_hold, plants_hold}
use Rattle.rules.specs.Causes.{number_of}
use Rattle.rules.specs.Table.{Row, first_of}
use Rattle.rules.specs.Request.{request_bytes}
use Rattle.rules.specs.Rows.{read_rows, taken_rows, request_rows, install_rows}
use Rattle.rules.specs.Examples.{Example, all_hold, line, plant_x, mac, settings}
use Rattle.rules.specs.declared.Cause.{Cause}
use Rattle.rules.specs.declared.Format.{Format}
use Rattle.rules.specs.declared.Format.TheVariants.{F203, F301}

-- the first cause's number, and 0 where no row applies
unfoldable pub number_by : Option Cause → ℕ
number_by None = 0
number_by (Some c) = number_of c

unfoldable pub judged : List Row → ℕ
judged rows = number_by (first_of rows)

-- the name of a file for a plant with this last digit
unfoldable pub name_for : Format → List ℕ → ℕ → List ℕ
name_for f segment last = encode_name (record { format = f; segment = segment; plant = plant_x last; created = decimal 14 20260327090000 })

abbrev pub update_name : ℕ → List ℕ
update_name last = name_for F203 (replicate 4 0) last

-- an update of one rate r from this minute of 27 March 2026, 9 o'clock, on; its sum is more by d than it should be
unfoldable pub update : ℕ → ℕ → ℕ → ℕ → List ℕ
update minute r d last =
    let start = decimal 12 (202603270900 + minute) in
    encode_body
    (schedule
    (record {
      schedule = replicate 10 0;
      plant = plant_x last;
      start = start;
      rates = r ∷ [];
      flag = 2 ∷ [];
      checksum = decimal 2 (checksum_of start (r ∷ []) + d);
      next = decimal 14 20260327113000;
    }
    ∷ []))

pub row_table : List Example
row_table =
    line 0 (judged (read_rows None (update_name 5) (update 30 100 0 5))) 0
    ∷ line 7 (judged (read_rows None [] (update 30 100 0 5))) 7
    ∷ line 8 (judged (read_rows None (update_name 4) [])) 8
    ∷ line 9 (judged (read_rows None (update_name 5) [])) 9
    ∷ line 10 (judged (read_rows None (update_name 5) (update 31 101 1 5))) 10
    ∷ line 11 (judged (read_rows None (update_name 5) (update 30 101 0 5))) 11
    ∷ line 11 (judged (read_rows None (update_name 5) (update 30 101 1 5))) 11
    ∷ line 12 (judged (read_rows None (update_name 5) (update 30 100 1 4))) 12
    ∷ line 13 (judged (read_rows None (update_name 5) (update 30 100 0 4))) 13
    ∷ line 7 (judged (taken_rows (plant_x 4) (name_for F301 (replicate 4 8) 5) [])) 7
    ∷ line 9 (judged (read_rows None (name_for F301 (replicate 4 8) 5) [])) 9
    ∷ line 8 (judged (taken_rows (plant_x 4) (update_name 5) (update 30 100 0 5))) 8
    ∷ line 0 (judged (taken_rows (plant_x 5) (update_name 5) (update 30 100 0 5))) 0
    ∷ line 15 (judged (request_rows (plant_x 5) mac (replicate 4 48) 83)) 15
    ∷ line 0 (judged (request_rows (plant_x 5) mac (replicate 4 48) 84)) 0
    ∷ line 7 (judged (request_rows (plant_x 5) mac (replicate 3 48) 82)) 7
    ∷ line 2 (judged (request_rows (plant_x 5) [] (replicate 3 48) 84)) 2
    ∷ line 1 (judged (request_rows (plant_x 4) [] (replicate 4 48) 84)) 1
    ∷ line 0 (judged (install_rows (plant_x 5) mac settings)) 0
    ∷ line 2 (judged (install_rows (plant_x 5) mac (record { panel = 4000; inverter = 5500; minutes = 4 }))) 2
    ∷ line 2 (judged (install_rows (plant_x 5) [] settings)) 2
    ∷ line 1 (judged (install_rows (plant_x 4) [] settings)) 1
    ∷ []

-- the first row that applies is the one that 01's table has for it
pub rows_hold : all_hold row_table ≡ true
unfolding row_table judged number_by name_for update plant_x all_hold first_of read_rows taken_rows request_rows install_rows
    all_at_most all_ascii value_from decimal same_bytes
    days_of_month first_day exists seconds_of start_slot
    weighted_sum check_digit plant_id all_hex mac_address valid_settings
    format_of segment_fits lawful_name name_shape parse_name encode_name any_segment request_bytes
    rates_of size_of record_shape record_at parse_records counted parse_body encode_record encode_records encode_body every
    whole_month months_from update_dates dates_hold rates_hold sum checksum_of checksums_hold plants_hold
rows_hold = refl
