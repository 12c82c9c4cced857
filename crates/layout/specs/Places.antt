-- How long the fields of a record are, and where each begins (01, Names and bodies), as `record_at` reads them.
use Rattle.std.specs.Prelude.{ℕ, ◌+◌}

-- 'A body is a 6-digit record count, then the records'
abbrev pub records_place : ℕ
records_place = 6

-- 'schedule ID 10 digits, plant ID 26, start YYYYMMDDhhmm 12, rate count n 5'
abbrev pub schedule_digits : ℕ
schedule_digits = 10

abbrev pub plant_digits : ℕ
plant_digits = 26

abbrev pub start_digits : ℕ
start_digits = 12

abbrev pub count_digits : ℕ
count_digits = 5

-- where they begin in a record, which begins with the schedule ID; 'n rates' follow
abbrev pub plant_place : ℕ
plant_place = schedule_digits

abbrev pub start_place : ℕ
start_place = plant_place + plant_digits

abbrev pub count_place : ℕ
count_place = start_place + start_digits

abbrev pub rates_place : ℕ
rates_place = count_place + count_digits

-- 'checksum 2 digits'
abbrev pub checksum_digits : ℕ
checksum_digits = 2
