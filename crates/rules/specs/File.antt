-- Reading a name and body (01, Names and bodies, and the causes 7 to 13): each stage covers all records before the next.
use Rattle.std.specs.Prelude.{ℕ, suc, ◌+◌, ◌%◌, Bool, true, false, ◌&&◌, not, List, [], ◌∷◌, length, get_or, leb, eqb, Option, None, Some}
use Rattle.rules.specs.Digits.{part, all_at_most, value, same_bytes}
use Rattle.rules.specs.Calendar.{exists, month_in, day_in, month_at, seconds_of, slot_of, start_slot, whole_minute, slots_of_month, slot_count}
use Rattle.rules.specs.Plant.{plant_id}
use Rattle.rules.specs.Name.{Name, parse_name, lawful_name, segment_month}
use Rattle.rules.specs.Body.{Record, Body, schedule, registration, parse_body, form_of_body, every, is_schedule, highest_rate}
use Rattle.rules.specs.Table.{need}
use Rattle.rules.specs.declared.Cause.{Cause}
use Rattle.rules.specs.declared.Format.{Format}
use Rattle.rules.specs.declared.Format.TheVariants.{F201, F202, F203, F301}

pub record File : Type 0 where
  pub name : Name
  pub body : Body

-- ---- stage 8: 'name's ID isn't the plant's (no plant: check digit wrong)'

abbrev pub id_fits : Option (List ℕ) → List ℕ → Bool
id_fits None id = plant_id id
id_fits (Some plant) id = same_bytes id plant

-- ---- stage 10: 'a date or n against the rules above'

-- 'the start is day 01, 00:00'
abbrev pub month_begins : List ℕ → Bool
month_begins start = same_bytes (part start 6 6) (0 ∷ 1 ∷ 0 ∷ 0 ∷ 0 ∷ 0 ∷ [])

-- 'and n is 48 × days of the month'
unfoldable pub whole_month : ℕ → Record → Bool
whole_month m r =
    exists (whole_minute r.start)
    && eqb (month_at r.start) m
    && month_begins r.start
    && eqb (length r.rates) (slots_of_month m)

-- 'consecutive months, rising'
unfoldable pub months_from : ℕ → List Record → Bool
months_from m [] = true
months_from m (r ∷ rs) = whole_month m r && months_from (suc m) rs

abbrev pub first_month : List Record → ℕ
first_month [] = 0
first_month (r ∷ rs) = month_at r.start

-- 'last slot before T': n slots from slot s on
abbrev pub in_time : ℕ → Option ℕ → Bool
in_time n None = false
in_time n (Some s) = leb (s + n) slot_count

-- 203: 'start minute 00 or 30, last slot before T', and a next access that exists
unfoldable pub update_dates : Record → Bool
update_dates r = in_time (length r.rates) (start_slot r.start) && exists r.next

abbrev pub record_dates : Name → Format → List Record → Bool
record_dates n F201 rs = months_from (first_month rs) rs
record_dates n F202 rs = months_from (segment_month n.segment) rs
record_dates n F203 rs = every update_dates rs
record_dates n F301 rs = true

unfoldable pub dates_hold : Name → Body → Bool
dates_hold n (schedule rs) = record_dates n n.format rs
dates_hold n (registration plant result) = true

-- ---- stage 11: 'rate above 100'

unfoldable pub rates_hold : Body → Bool
rates_hold (schedule rs) = every (λ r. all_at_most highest_rate r.rates) rs
rates_hold (registration plant result) = true

-- ---- stage 12: 'sum of the rates modulo (month + day of the start), two digits. The flag isn't summed'

unfoldable pub sum : List ℕ → ℕ
sum [] = 0
sum (x ∷ xs) = x + sum xs

unfoldable pub checksum_of : List ℕ → List ℕ → ℕ
checksum_of start rates = sum rates % (month_in start + day_in start)

unfoldable pub checksums_hold : Body → Bool
checksums_hold (schedule rs) = every (λ r. eqb (value r.checksum) (checksum_of r.start r.rates)) rs
checksums_hold (registration plant result) = true

-- ---- stage 13: 'record's plant ID isn't the name's'

unfoldable pub plants_hold : Name → Body → Bool
plants_hold n (schedule rs) = every (λ r. same_bytes r.plant n.plant) rs
plants_hold n (registration plant result) = same_bytes plant n.plant

-- ---- reading

pub data Outcome : Type 0 where
  refuse : Cause → Outcome
  file : File → Outcome

unfoldable pub stages : Name → Body → Outcome
stages n b =
    need (dates_hold n b) (refuse Cause.Date)
    (need (rates_hold b) (refuse Cause.Rate)
    (need (checksums_hold b) (refuse Cause.Checksum)
    (need (plants_hold n b) (refuse Cause.RecordPlant)
    (file (record { name = n; body = b })))))

abbrev pub with_body : Name → Option Body → Outcome
with_body n None = refuse Cause.Form
with_body n (Some b) = stages n b

abbrev pub with_name : Option (List ℕ) → List ℕ → Option Name → Outcome
with_name plant body None = refuse Cause.Name
with_name plant body (Some n) = need (id_fits plant n.plant) (refuse Cause.OtherPlant) (with_body n (parse_body n.format body))

-- a name and body, read for a plant or for none
unfoldable pub read_file : Option (List ℕ) → List ℕ → List ℕ → Outcome
read_file plant name body = with_name plant body (parse_name name)

abbrev pub is_registration : Option Name → Bool
is_registration None = false
is_registration (Some n) = not (is_schedule n.format)

-- 'a unit takes what reads well, except 301': cause 7, '301 given to be taken'
unfoldable pub take_file : List ℕ → List ℕ → List ℕ → Outcome
take_file plant name body = need (not (is_registration (parse_name name))) (refuse Cause.Name) (read_file (Some plant) name body)

-- ---- the same as a rule about fields: a file whose bytes a reader for that plant, or for none, accepts

unfoldable pub lawful : Option (List ℕ) → File → Bool
lawful plant f =
    lawful_name f.name
    && id_fits plant f.name.plant
    && form_of_body f.name.format f.body
    && dates_hold f.name f.body
    && rates_hold f.body
    && checksums_hold f.body
    && plants_hold f.name f.body

-- ---- what a unit takes from a file that reads well

abbrev pub records_in : Body → List Record
records_in (schedule rs) = rs
records_in (registration plant result) = []

-- the first slot that a record covers
abbrev pub start_of : Record → ℕ
start_of r = slot_of (seconds_of (whole_minute r.start))

-- of a 203: its flag, and its next access in seconds
abbrev pub flag_of : List Record → ℕ
flag_of [] = 0
flag_of (r ∷ rs) = get_or r.flag 0 0

abbrev pub next_access : List Record → ℕ
next_access [] = 0
next_access (r ∷ rs) = seconds_of r.next
