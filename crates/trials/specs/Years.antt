-- A 201 with faults in two of its thirteen records: each stage covers all records before the next, so that the lower cause is given wherever it stands.
use Rattle.std.specs.Prelude.{ℕ, zero, suc, ◌+◌, ◌*◌, ◌≡◌, refl, true, List, [], ◌∷◌, replicate, set, None}
use Rattle.rules.specs.Digits.{all_at_most, all_ascii, value_from, decimal, same_bytes}
use Rattle.rules.specs.Calendar.{days_of_month, first_day, exists, seconds_of, start_slot}
use Rattle.rules.specs.Plant.{weighted_sum, check_digit, plant_id}
use Rattle.rules.specs.Name.{format_of, segment_fits, lawful_name, name_shape, parse_name, encode_name}
use Rattle.rules.specs.Body.{Record, schedule, rates_of, size_of, record_shape, record_at, parse_records, counted, parse_body, encode_record, encode_records, encode_body, every}
use Rattle.rules.specs.File.{read_file, take_file, stages, whole_month, months_from, dates_hold, rates_hold, sum, checksum_of, checksums_hold, plants_hold}
use Rattle.rules.specs.declared.Format.TheVariants.{F201}
use Rattle.trials.specs.Samples.{plant_x, name, record_of, outcome_number, Line, ◌is◌, all_hold}

-- a record with one fault, or none; its checksum is right but where that is the fault
data Fault : Type 0 where
  good : Fault
  digit : Fault  -- a schedule ID with a 10
  date : Fault  -- the second day of the month
  rate : Fault  -- a rate of 101
  checksum : Fault  -- one that its rates do not have
  plant : Fault  -- another plant's ID

-- a month's record: its start, its rate count
unfoldable faulty : Fault → ℕ → ℕ → Record
faulty good start n = record_of (decimal 12 start) (replicate n 7) [] []
faulty digit start n =
    let r = record_of (decimal 12 start) (replicate n 7) [] [] in
    record { schedule = set r.schedule 9 10; plant = r.plant; start = r.start; rates = r.rates; flag = []; checksum = r.checksum; next = [] }
faulty date start n = record_of (decimal 12 (start + 10000)) (replicate n 7) [] []
faulty rate start n = record_of (decimal 12 start) (set (replicate n 7) 700 101) [] []
faulty checksum start n =
    let r = record_of (decimal 12 start) (replicate n 7) [] [] in
    record { schedule = r.schedule; plant = r.plant; start = r.start; rates = r.rates; flag = []; checksum = 0 ∷ 1 ∷ []; next = [] }
faulty plant start n =
    let r = record_of (decimal 12 start) (replicate n 7) [] [] in
    record { schedule = r.schedule; plant = set plant_x 0 2; start = r.start; rates = r.rates; flag = []; checksum = r.checksum; next = [] }

-- the months of April 2026 to April 2027: start, and slots
pub record Month : Type 0 where
  pub start : ℕ
  pub slots : ℕ

abbrev month_of : ℕ → ℕ → Month
month_of start days = record { start = start; slots = 48 * days }

year : List Month
year =
    month_of 202604010000 30
    ∷ month_of 202605010000 31
    ∷ month_of 202606010000 30
    ∷ month_of 202607010000 31
    ∷ month_of 202608010000 31
    ∷ month_of 202609010000 30
    ∷ month_of 202610010000 31
    ∷ month_of 202611010000 30
    ∷ month_of 202612010000 31
    ∷ month_of 202701010000 31
    ∷ month_of 202702010000 28
    ∷ month_of 202703010000 31
    ∷ month_of 202704010000 30
    ∷ []

-- its records, with these faults in order
unfoldable records_with : List Fault → List Month → List Record
records_with fs [] = []
records_with [] (m ∷ ms) = faulty good m.start m.slots ∷ records_with [] ms
records_with (f ∷ fs) (m ∷ ms) = faulty f m.start m.slots ∷ records_with fs ms

-- k good records, then these
unfoldable goods : ℕ → List Fault → List Fault
goods zero fs = fs
goods (suc k) fs = good ∷ goods k fs

-- the number that reading such a file gives
reads : List Fault → ℕ
reads fs = outcome_number (read_file None (name F201 9990) (encode_body (schedule (records_with fs year))))

pub years : List Line
years =
    reads [] is 0
    ∷ reads (goods 12 (plant ∷ [])) is 13
    -- record 2 has a wrong checksum, record 5 a rate of 101
    ∷ reads (good ∷ checksum ∷ good ∷ good ∷ rate ∷ []) is 11
    -- record 1 has a wrong checksum, record 9 a wrong date
    ∷ reads (checksum ∷ goods 7 (date ∷ [])) is 10
    -- two stages, the later one's fault in the first record and the earlier one's in the last
    ∷ reads (plant ∷ goods 11 (checksum ∷ [])) is 12
    ∷ reads (plant ∷ goods 11 (rate ∷ [])) is 11
    ∷ reads (rate ∷ goods 11 (date ∷ [])) is 10
    ∷ reads (date ∷ goods 11 (digit ∷ [])) is 9
    -- all five, the later stages first; and four of them to be taken
    ∷ reads (plant ∷ checksum ∷ rate ∷ date ∷ digit ∷ []) is 9
    ∷ outcome_number (take_file plant_x (name F201 9990) (encode_body (schedule (records_with (plant ∷ checksum ∷ rate ∷ date ∷ []) year)))) is 10
    ∷ []

pub years-hold : all_hold years ≡ true
unfolding all_hold years reads goods records_with faulty year name
    all_at_most all_ascii value_from decimal same_bytes
    days_of_month first_day exists seconds_of start_slot weighted_sum check_digit plant_id
    format_of segment_fits lawful_name name_shape parse_name encode_name
    rates_of size_of record_shape record_at parse_records counted parse_body encode_record encode_records encode_body every
    read_file take_file stages whole_month months_from dates_hold rates_hold sum checksum_of checksums_hold plants_hold
years-hold = refl
