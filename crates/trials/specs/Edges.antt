-- What the definitions say at the edges of 01's rules: one table for each part, each proved by one computation.
use Rattle.std.specs.Prelude.{ℕ, zero, suc, ◌+◌, ◌-◌, ◌*◌, ◌≡◌, refl, true, List, [], ◌∷◌, ◌++◌, length, take, replicate, set, None, Some}
use Rattle.rules.specs.Digits.{all_at_most, all_ascii, value_from, decimal, same_bytes, to_ascii}
use Rattle.rules.specs.Calendar.{leap_year, days_of_month, first_day, first_slot, month_from, month_of_day, month_of_slot, exists, seconds_of, moment, start_slot, slot_count}
use Rattle.rules.specs.Plant.{weighted_sum, check_digit, plant_id, all_hex, mac_address, valid_settings, percent, installing}
use Rattle.rules.specs.Name.{format_of, segment_fits, lawful_name, name_shape, parse_name, encode_name, any_segment}
use Rattle.rules.specs.Body.{registration, rates_of, size_of, record_shape, record_at, parse_records, parse_registration, counted, parse_body, encode_record, encode_records, encode_body, every}
use Rattle.rules.specs.File.{Outcome, refuse, file, read_file, take_file, stages, whole_month, months_from, update_dates, dates_hold, rates_hold, sum, checksum_of, checksums_hold, plants_hold}
use Rattle.rules.specs.Store.{store_length}
use Rattle.rules.specs.Machine.{
  Machine,
  Call,
  tick,
  clock_lost,
  file_taken,
  failure,
  due,
  ceiling_of,
  command,
  free_blocks,
  fresh_machine,
  rate_in,
  last_rate,
  rate_of,
  any_record,
  any_file,
  is_held,
  count_below,
  held_count,
  set_clock,
  or_zero,
  approach,
  move_command,
  second,
  seconds,
  ticked,
  lost_clock,
  update_time,
  take_update,
  with_file,
  window_start,
  in_window,
  next_window,
  failed_update,
  failed_fixed,
  with_requests,
  due_of,
  step,
  replies,
  one,
}
use Rattle.rules.specs.Writer.{write_body, field_records, month_records, update_record, digits_fit, months_fit}
use Rattle.rules.specs.ErrorFile.{more, least, most, utf8_from, utf8, is_error_file, error_code, error_text}
use Rattle.rules.specs.Request.{request_bytes, request}
use Rattle.rules.specs.Lister.{name_part, body_part, trim, total_rates, line_of, line}
use Rattle.rules.specs.declared.Kind.{Kind}
use Rattle.rules.specs.declared.Format.TheVariants.{F201, F202, F203, F301}
use Rattle.trials.specs.Samples.{
  plant_x,
  mac,
  settings,
  told,
  name,
  update_body,
  month_body,
  fields,
  answer_number,
  outcome_number,
  output_number,
  output_bytes,
  option_number,
  reply_numbers,
  Line,
  ◌is◌,
  all_hold,
}

-- ---- dates

slot_at : ℕ → ℕ
slot_at start = option_number (start_slot (decimal 12 start))

second_at : ℕ → ℕ
second_at date = option_number (moment (decimal 14 date))

pub dates : List Line
dates =
    -- leap days, and the length of a century
    one (leap_year 2000) is 1
    ∷ days_of_month 1 is 29
    ∷ days_of_month 13 is 28
    ∷ days_of_month 289 is 29
    ∷ first_day 1200 is 36525
    -- months of slots, at their ends
    ∷ month_of_slot 0 is 0
    ∷ month_of_slot 1487 is 0
    ∷ month_of_slot 1488 is 1
    ∷ month_of_slot (first_slot 315 - 1) is 314
    ∷ month_of_slot (first_slot 315) is 315
    ∷ month_of_slot 1753199 is 1199
    ∷ month_of_slot 1753200 is 1200
    ∷ month_of_slot 9999999 is 1200
    -- starts: the first and the last slot, days that do not exist, minutes other than 00 and 30
    ∷ slot_at 200001010000 is 1
    ∷ slot_at 209912312330 is 1753200
    ∷ slot_at 202402290030 is suc (first_slot 289 + 48 * 28 + 1)
    ∷ slot_at 202302290000 is 0
    ∷ slot_at 202604310000 is 0
    ∷ slot_at 202600010000 is 0
    ∷ slot_at 202613010000 is 0
    ∷ slot_at 202603000000 is 0
    ∷ slot_at 199912312330 is 0
    ∷ slot_at 210001010000 is 0
    ∷ slot_at 202603272400 is 0
    ∷ slot_at 202603270060 is 0
    ∷ slot_at 202603271005 is 0
    ∷ option_number (start_slot (10 ∷ decimal 11 0)) is 0
    ∷ option_number (start_slot (decimal 13 0)) is 0
    -- seconds
    ∷ second_at 20000101000000 is 1
    ∷ second_at 20991231235959 is 3155760000
    ∷ second_at 20260327235960 is 0
    ∷ []

pub dates-hold : all_hold dates ≡ true
unfolding all_hold dates slot_at second_at days_of_month first_day month_from month_of_day exists seconds_of moment start_slot all_at_most value_from decimal
dates-hold = refl

-- ---- installing

pub plants : List Line
plants =
    answer_number (installing plant_x mac (settings 1 1 5)) is 0
    ∷ answer_number (installing plant_x mac (settings 2000000 2000000 10)) is 0
    ∷ answer_number (installing (take 25 plant_x) mac (settings 0 0 0)) is 1
    ∷ answer_number (installing (set plant_x 3 10) mac (settings 1 1 5)) is 1
    ∷ answer_number (installing plant_x (take 11 mac) (settings 1 1 5)) is 2
    ∷ answer_number (installing plant_x (set mac 0 97) (settings 1 1 5)) is 2
    ∷ answer_number (installing plant_x (set mac 0 71) (settings 1 1 5)) is 2
    ∷ answer_number (installing plant_x mac (settings 0 1 5)) is 2
    ∷ answer_number (installing plant_x mac (settings 1 2000001 5)) is 2
    ∷ answer_number (installing plant_x mac (settings 1 1 4)) is 2
    ∷ answer_number (installing plant_x mac (settings 1 1 11)) is 2
    ∷ percent (settings 5500 4000 5) 100 is 100
    ∷ percent (settings 3 7 5) 99 is 42
    ∷ []

pub plants-hold : all_hold plants ≡ true
unfolding all_hold plants weighted_sum check_digit plant_id all_hex mac_address valid_settings percent installing all_at_most decimal
plants-hold = refl

-- ---- reading

example10 : List ℕ
example10 = update_body 202603270930 (100 ∷ 40 ∷ 28 ∷ []) 20260327113000

reads : List ℕ → List ℕ → ℕ
reads n b = outcome_number (read_file None n b)

registered : ℕ → List ℕ
registered result = encode_body (registration plant_x result)

pub readings : List Line
readings =
    length example10 is 79
    ∷ reads (name F203 0) example10 is 0
    -- no rates; the last slot of 2099, and one past it
    ∷ reads (name F203 0) (update_body 202603270930 [] 20260327113000) is 0
    ∷ reads (name F203 0) (update_body 209912312330 (1 ∷ []) 20260327113000) is 0
    ∷ reads (name F203 0) (update_body 209912312330 (1 ∷ 2 ∷ []) 20260327113000) is 10
    -- the name
    ∷ reads [] [] is 7
    ∷ reads (name F203 1) example10 is 7
    ∷ reads (name F202 2613) example10 is 7
    ∷ reads (name F202 2600) example10 is 7
    ∷ reads (name F201 9899) example10 is 7
    ∷ reads (take 54 (name F203 0)) example10 is 7
    ∷ reads (name F203 0 ++ (10 ∷ [])) example10 is 7
    ∷ reads (set (name F203 0) 3 45) example10 is 7
    ∷ reads (set (name F203 0) 54 65) example10 is 7
    ∷ reads (set (name F203 0) 9 47) example10 is 7
    ∷ reads (set (name F203 0) 2 52) example10 is 7
    ∷ reads (set (name F203 0) 40 57) example10 is 7
    ∷ reads (set (name F203 0) 34 48) example10 is 8
    ∷ outcome_number (read_file (Some (set plant_x 0 2)) (name F203 0) example10) is 8
    -- the form
    ∷ reads (name F203 0) [] is 9
    ∷ reads (name F203 0) (take 78 example10) is 9
    ∷ reads (name F203 0) (example10 ++ (0 ∷ [])) is 9
    ∷ reads (name F203 0) (set example10 5 2) is 9
    ∷ reads (name F203 0) (set example10 6 48) is 9
    ∷ reads (name F203 0) (set example10 62 10) is 9
    -- the dates
    ∷ reads (name F203 0) (update_body 202603271005 (100 ∷ 40 ∷ 28 ∷ []) 20260327113000) is 10
    ∷ reads (name F203 0) (update_body 202603270930 (1 ∷ []) 20260231113000) is 10
    ∷ reads (name F202 2602) (month_body 202602010000 1344) is 0
    ∷ reads (name F202 2602) (month_body 202602010000 1343) is 10
    ∷ reads (name F202 2603) (month_body 202602010000 1344) is 10
    ∷ reads (name F202 2602) (month_body 202602020000 1344) is 10
    -- rates, checksum, plant, and two faults at once
    ∷ reads (name F203 0) (update_body 202603270930 (101 ∷ []) 20260327113000) is 11
    ∷ reads (name F203 0) (set example10 64 9) is 12
    ∷ reads (name F203 0) (set example10 16 2) is 13
    ∷ reads (name F203 0) (set (set example10 16 2) 64 9) is 12
    ∷ reads (name F203 0) (set (set example10 59 101) 64 9) is 11
    ∷ reads (set (name F203 0) 34 48) (take 78 example10) is 8
    -- 301, read and taken
    ∷ reads (name F301 8888) (registered 0) is 0
    ∷ reads (name F301 8888) (registered 1) is 0
    ∷ reads (name F301 8888) (registered 2) is 9
    ∷ reads (name F301 8888) (set (registered 0) 6 9) is 13
    ∷ outcome_number (take_file plant_x (name F301 8888) (registered 0)) is 7
    ∷ outcome_number (take_file plant_x (name F203 0) example10) is 0
    -- the lister's line of example 10 is 'ok 203 1 3'; of 301 'ok 301 1 0'; of nothing 'refused 7'
    ∷ one (same_bytes (line (name F203 0 ++ (10 ∷ example10))) (111 ∷ 107 ∷ 32 ∷ 50 ∷ 48 ∷ 51 ∷ 32 ∷ 49 ∷ 32 ∷ 51 ∷ 10 ∷ [])) is 1
    ∷ one (same_bytes (line (name F301 8888 ++ (10 ∷ registered 0))) (111 ∷ 107 ∷ 32 ∷ 51 ∷ 48 ∷ 49 ∷ 32 ∷ 49 ∷ 32 ∷ 48 ∷ 10 ∷ [])) is 1
    ∷ one (same_bytes (line []) (114 ∷ 101 ∷ 102 ∷ 117 ∷ 115 ∷ 101 ∷ 100 ∷ 32 ∷ 55 ∷ 10 ∷ [])) is 1
    ∷ []

pub readings-hold : all_hold readings ≡ true
unfolding all_hold readings example10 reads registered name update_body month_body
    all_at_most all_ascii value_from decimal same_bytes
    days_of_month first_day exists seconds_of start_slot weighted_sum check_digit plant_id
    format_of segment_fits lawful_name name_shape parse_name encode_name
    rates_of size_of record_shape record_at parse_records parse_registration counted parse_body encode_record encode_records encode_body every
    read_file take_file stages whole_month months_from update_dates dates_hold rates_hold sum checksum_of checksums_hold plants_hold
    name_part body_part trim total_rates line_of line
readings-hold = refl

-- ---- outputs: the writer, the request; the error file

writes : ℕ → ℕ → List ℕ → ℕ → ℕ
writes format start rates flag = output_number (write_body (fields format start rates flag) 100000)

pub outputs : List Line
outputs =
    one (same_bytes (output_bytes (write_body (fields 203 202603270930 (100 ∷ 40 ∷ 28 ∷ []) 2) 79)) example10) is 1
    ∷ output_number (write_body (fields 203 202603270930 (100 ∷ 40 ∷ 28 ∷ []) 2) 78) is 1000015
    ∷ writes 203 202603270930 [] 10 is 1000006
    ∷ writes 301 202603270930 [] 10 is 1000006
    ∷ writes 301 202603270930 [] 9 is 1000007
    ∷ writes 204 202603270930 [] 9 is 1000007
    ∷ writes 203 202603270930 (replicate 337 0) 9 is 1000009
    ∷ writes 203 202603271005 [] 9 is 1000010
    ∷ writes 203 202603270930 (101 ∷ []) 9 is 1000011
    ∷ writes 202 202602010000 (replicate 1344 100) 77 is 1405
    ∷ writes 202 202602010000 (replicate 1345 100) 77 is 1000010
    ∷ writes 201 209812010000 (replicate 19008 0) 0 is 19729
    ∷ writes 201 209901010000 (replicate 19008 0) 0 is 1000010
    -- requests: a segment of each format, and none
    ∷ output_number (request plant_x mac (to_ascii (decimal 4 9990)) 84) is 84
    ∷ output_number (request plant_x mac (to_ascii (decimal 4 2612)) 84) is 84
    ∷ output_number (request plant_x mac (to_ascii (decimal 4 0)) 84) is 84
    ∷ output_number (request plant_x mac (to_ascii (decimal 4 8888)) 84) is 84
    ∷ output_number (request plant_x mac (to_ascii (decimal 4 2613)) 84) is 1000007
    ∷ output_number (request plant_x mac (decimal 4 0) 84) is 1000007
    ∷ output_number (request plant_x mac (to_ascii (decimal 4 0)) 83) is 1000015
    ∷ output_number (request (take 25 plant_x) [] [] 0) is 1000001
    ∷ output_number (request plant_x [] [] 0) is 1000002
    -- error files: 'E1001 ', no text, 384 and 385 bytes of it
    ∷ option_number (error_code (69 ∷ 49 ∷ 48 ∷ 48 ∷ 49 ∷ 32 ∷ [])) is 1002
    ∷ option_number (error_code (69 ∷ 48 ∷ 48 ∷ 48 ∷ 51 ∷ 32 ∷ replicate 384 65)) is 4
    ∷ option_number (error_code (69 ∷ 48 ∷ 48 ∷ 48 ∷ 51 ∷ 32 ∷ replicate 385 65)) is 0
    ∷ option_number (error_code (69 ∷ 50 ∷ 48 ∷ 48 ∷ 51 ∷ 32 ∷ [])) is 0
    ∷ option_number (error_code (69 ∷ 48 ∷ 48 ∷ 48 ∷ 51 ∷ [])) is 0
    -- UTF-8: U+00A2, U+20AC, U+10348; an overlong form, a surrogate, above U+10FFFF, a cut character, a lone tail
    ∷ one (utf8 (0xC2 ∷ 0xA2 ∷ 0xE2 ∷ 0x82 ∷ 0xAC ∷ 0xF0 ∷ 0x90 ∷ 0x8D ∷ 0x88 ∷ [])) is 1
    ∷ one (utf8 (0xC0 ∷ 0x80 ∷ [])) is 0
    ∷ one (utf8 (0xE0 ∷ 0x9F ∷ 0xBF ∷ [])) is 0
    ∷ one (utf8 (0xED ∷ 0xA0 ∷ 0x80 ∷ [])) is 0
    ∷ one (utf8 (0xF4 ∷ 0x90 ∷ 0x80 ∷ 0x80 ∷ [])) is 0
    ∷ one (utf8 (0xE2 ∷ 0x82 ∷ [])) is 0
    ∷ one (utf8 (0x80 ∷ [])) is 0
    ∷ []

pub outputs-hold : all_hold outputs ≡ true
unfolding all_hold outputs writes example10 fields update_body
    all_at_most all_ascii value_from decimal same_bytes
    days_of_month first_day exists seconds_of start_slot weighted_sum check_digit plant_id all_hex mac_address
    format_of segment_fits any_segment encode_record encode_records encode_body update_dates sum checksum_of
    write_body field_records month_records update_record digits_fit months_fit
    more least most utf8_from utf8 is_error_file error_code error_text request_bytes request
outputs-hold = refl

-- ---- the machine

-- 27 March 2026, 09:00, in seconds, and the slot of 09:30
march27 : ℕ
march27 = (first_day 314 + 26) * 86400 + 9 * 3600

slot : ℕ
slot = first_slot 314 + 26 * 48 + 19

take_example : Call
take_example = file_taken (name F203 0) example10

-- the machine after a file that reads well; the list of calls is too long to compute where months are counted
abbrev taking : Outcome → Machine → Machine
taking (refuse c) M = M
taking (file f) M = with_file (or_zero M.clock) f M

-- at 10:00 of 27 March, with example 10 taken
afternoon : Machine
afternoon = taking (take_file plant_x (name F203 0) example10) (set_clock (march27 + 3599) fresh_machine)

-- after that a file with rate 7 from 10:00 to 10:30
corrected : Machine
corrected = taking (take_file plant_x (name F203 0) (update_body 202603271000 (7 ∷ []) 20260327113000)) afternoon

-- one-slot updates in the first k months of 2000
months : ℕ → Machine → Machine
months zero M = M
months (suc k) M =
    taking (take_file plant_x (name F203 0) (update_body (200000010000 + 1000000 * (k + 1)) (1 ∷ []) 20260327113000)) (months k M)

numbers_of : ℕ → List Call → Machine → List ℕ
numbers_of len cs M = reply_numbers (replies (told len) cs M)

-- an update with two rates from this start on
take_two : ℕ → Call
take_two start = file_taken (name F203 0) (update_body start (1 ∷ 2 ∷ []) 20260327113000)

-- one-slot updates in the first k months of 2099, the last one's first
take_months : ℕ → List Call → List Call
take_months zero cs = cs
take_months (suc k) cs = file_taken (name F203 0) (update_body (209900010000 + 1000000 * (k + 1)) (1 ∷ []) 20260327113000) ∷ take_months k cs

pub histories : List Line
histories =
    -- the causes 5, 6, 7 and 9, before and after the clock is set
    one
    (same_bytes
    (numbers_of store_length
    (command
    ∷ due
    ∷ ceiling_of slot
    ∷ take_example
    ∷ failure Kind.Update 0
    ∷ tick 3155760000
    ∷ clock_lost
    ∷ tick march27
    ∷ due
    ∷ file_taken (name F301 8888) (registered 0)
    ∷ file_taken (name F203 0) (take 78 example10)
    ∷ ceiling_of slot
    ∷ ceiling_of slot_count
    ∷ failure Kind.Fixed 200
    ∷ failure Kind.Fixed 99
    ∷ failure Kind.Fixed 600
    ∷ failure Kind.Update 599
    ∷ due
    ∷ [])
    fresh_machine)
    (4000000 ∷ 105 ∷ 105 ∷ 105 ∷ 105 ∷ 106 ∷ 0 ∷ 0 ∷ 3000000 ∷ 107 ∷ 109 ∷ 2000000 ∷ 106 ∷ 106 ∷ 106 ∷ 106 ∷ 0 ∷ 3000200 ∷ []))
    is 1
    -- cause 3, before 5 and 6, and only where the store is lent
    ∷ one (same_bytes (numbers_of 23807 (tick 3155760000 ∷ take_example ∷ ceiling_of slot_count ∷ due ∷ []) fresh_machine) (103 ∷ 103 ∷ 103 ∷ 105 ∷ [])) is 1
    -- example 10: its rates, and no rate at 11:00
    ∷ one
    (same_bytes
    (numbers_of store_length (ceiling_of slot ∷ ceiling_of (slot + 1) ∷ ceiling_of (slot + 2) ∷ ceiling_of (slot + 3) ∷ ceiling_of (slot - 1) ∷ []) afternoon)
    (1100072 ∷ 1040029 ∷ 1028020 ∷ 2000000 ∷ 2000000 ∷ []))
    is 1
    -- example 5: rate 40 from 10:00 on, p 29, 8,700 parts after 87 seconds; a step back moves no command, a lost clock sets it to 0
    ∷ one
    (same_bytes
    (numbers_of store_length
    (tick (march27 + 3685) ∷ command ∷ tick (march27 + 3686) ∷ command ∷ tick (march27 + 3690) ∷ command ∷ tick march27 ∷ command ∷ clock_lost ∷ command ∷ [])
    afternoon)
    (0 ∷ 4008600 ∷ 0 ∷ 4008700 ∷ 0 ∷ 4008700 ∷ 0 ∷ 4008700 ∷ 0 ∷ 4000000 ∷ []))
    is 1
    -- failures: 5 minutes later, and for 400-499 the next window
    ∷ one
    (same_bytes
    (numbers_of store_length
    (due
    ∷ failure Kind.Fixed 500
    ∷ due
    ∷ clock_lost
    ∷ tick (march27 + 3899)
    ∷ due
    ∷ failure Kind.Fixed 404
    ∷ due
    ∷ clock_lost
    ∷ tick (march27 + 9000)
    ∷ due
    ∷ [])
    afternoon)
    (3000200 ∷ 0 ∷ 3000200 ∷ 0 ∷ 0 ∷ 3000102 ∷ 0 ∷ 3000200 ∷ 0 ∷ 0 ∷ 3000000 ∷ []))
    is 1
    -- May: March is below floor, and not held
    ∷ option_number (rate_of afternoon slot) is 101
    ∷ option_number (rate_of (set_clock (march27 + 40 * 86400) afternoon) slot) is 0
    ∷ one (is_held afternoon 314) is 1
    ∷ one (is_held afternoon 315) is 0
    ∷ one (is_held (set_clock (march27 + 40 * 86400) afternoon) 314) is 0
    ∷ (set_clock march27 (set_clock (march27 + 40 * 86400) fresh_machine)).floor is 315
    -- the latest file that covers a slot has its rate; the slots beside it keep theirs
    ∷ option_number (rate_of corrected slot) is 101
    ∷ option_number (rate_of corrected (slot + 1)) is 8
    ∷ option_number (rate_of corrected (slot + 2)) is 29
    -- the months that are counted against 16
    ∷ count_below 13 (is_held (months 11 fresh_machine)) is 11
    ∷ count_below 13 (is_held (set_clock (first_day 4 * 86400) (months 11 fresh_machine))) is 8
    -- October 2099: an update from October into November takes two blocks; in December October's serves again
    ∷ one
    (same_bytes
    (numbers_of store_length
    (tick (first_day 1197 * 86400)
    ∷ take_two 209910312330
    ∷ free_blocks
    ∷ clock_lost
    ∷ tick (first_day 1199 * 86400)
    ∷ free_blocks
    ∷ take_two 209912010000
    ∷ free_blocks
    ∷ [])
    fresh_machine)
    (0 ∷ 0 ∷ 5000014 ∷ 0 ∷ 0 ∷ 5000015 ∷ 0 ∷ 5000014 ∷ []))
    is 1
    -- from August 2098 on there are 17 months: with 16 held the seventeenth is refused, and a month that is held is not
    ∷ one
    (same_bytes
    (numbers_of store_length
    (tick (first_day 1184 * 86400)
    ∷ take_months 12 (take_two 209812010000 ∷ take_two 209811010000 ∷ take_two 209810010000 ∷ take_two 209809010000 ∷ free_blocks ∷ take_two 209808010000 ∷ take_two 209809302300 ∷ take_two 209808312330 ∷ []))
    fresh_machine)
    (0 ∷ 0 ∷ 0 ∷ 0 ∷ 0 ∷ 0 ∷ 0 ∷ 0 ∷ 0 ∷ 0 ∷ 0 ∷ 0 ∷ 0 ∷ 0 ∷ 0 ∷ 0 ∷ 0 ∷ 5000000 ∷ 114 ∷ 0 ∷ 114 ∷ []))
    is 1
    ∷ []

pub histories-hold : all_hold histories ≡ true
unfolding all_hold histories numbers_of take_two take_months held_count months corrected afternoon march27 slot take_example reply_numbers example10 registered name update_body
    all_at_most all_ascii value_from decimal same_bytes
    days_of_month first_day month_from month_of_day exists seconds_of start_slot percent
    format_of segment_fits lawful_name name_shape parse_name encode_name
    rates_of size_of record_shape record_at parse_records parse_registration counted parse_body encode_record encode_records encode_body every
    read_file take_file stages update_dates dates_hold rates_hold sum checksum_of checksums_hold plants_hold
    fresh_machine rate_in last_rate rate_of any_record any_file is_held count_below set_clock approach move_command second seconds ticked lost_clock
    update_time take_update with_file window_start in_window next_window failed_update failed_fixed with_requests due_of step replies
histories-hold = refl
