-- Responses among the machine's calls: which cause comes first, and that a response counts as its name and file.
use Rattle.std.specs.Prelude.{ℕ, ◌*◌, ◌≡◌, refl, true, List, [], ◌∷◌, ◌++◌, length, take}
use Rattle.rules.specs.Digits.{all_at_most, all_ascii, value_from, decimal, same_bytes, to_ascii}
use Rattle.rules.specs.Calendar.{days_of_month, first_day, first_slot, month_from, month_of_day, exists, seconds_of, start_slot}
use Rattle.rules.specs.Plant.{percent}
use Rattle.rules.specs.Name.{format_of, segment_fits, lawful_name, name_shape, parse_name, encode_name}
use Rattle.rules.specs.Body.{rates_of, size_of, record_shape, record_at, parse_records, counted, parse_body, encode_record, encode_records, encode_body, every}
use Rattle.rules.specs.File.{read_file, take_file, stages, update_dates, dates_hold, rates_hold, sum, checksum_of, checksums_hold, plants_hold}
use Rattle.rules.specs.Response.{
  all_letters,
  lawful_boundary,
  begins,
  lines_with,
  behind,
  content_length,
  content_disposition,
  file_name,
  length_in,
  line_end,
  opening,
  closing,
  strip,
  line_of,
  headers_of,
  end_in,
  read_response,
  parse_response,
  take_response,
}
use Rattle.rules.specs.Store.{store_length}
use Rattle.rules.specs.Machine.{
  Call,
  tick,
  file_taken,
  response_taken,
  ceiling_of,
  free_blocks,
  fresh_machine,
  rate_in,
  last_rate,
  rate_of,
  any_record,
  any_file,
  is_held,
  count_below,
  held_count,
  set_clock,
  ticked,
  update_time,
  take_update,
  with_file,
  step,
  replies,
  one,
}
use Rattle.rules.specs.declared.Format.TheVariants.{F203}
use Rattle.trials.specs.Samples.{told, name, update_body, reply_numbers, Line, ◌is◌, all_hold}

-- an update of one rate from 1 October 2099, 00:00 on
body : List ℕ
body = update_body 209910010000 (40 ∷ []) 20260327113000

boundary : List ℕ
boundary = 65 ∷ 98 ∷ 57 ∷ []

-- its response, with this name
response : List ℕ → List ℕ
response n =
    opening boundary
    ++ (content_length ++ (to_ascii (decimal 6 (length body)) ++ (line_end
    ++ (content_disposition ++ (file_name ++ (n ++ (line_end ++ (line_end ++ (body ++ closing boundary)))))))))

october : ℕ
october = first_day 1197 * 86400

numbers_of : ℕ → List Call → List ℕ
numbers_of len cs = reply_numbers (replies (told len) cs fresh_machine)

pub responses : List Line
responses =
    -- 3 before 5 before 17 before 7; then accepted, with one block and its rate
    one (same_bytes (numbers_of 23807 (response_taken [] [] ∷ [])) (103 ∷ [])) is 1
    ∷ one
    (same_bytes
    (numbers_of store_length
    (response_taken [] []
    ∷ tick october
    ∷ response_taken [] []
    ∷ response_taken [] (response (name F203 0))
    ∷ response_taken boundary (take 60 (response []))
    ∷ response_taken boundary (response [])
    ∷ response_taken boundary (response (34 ∷ name F203 0))
    ∷ free_blocks
    ∷ response_taken boundary (response (name F203 0))
    ∷ free_blocks
    ∷ ceiling_of (first_slot 1197)
    ∷ []))
    (105 ∷ 0 ∷ 117 ∷ 117 ∷ 117 ∷ 107 ∷ 107 ∷ 5000016 ∷ 0 ∷ 5000015 ∷ 1040029 ∷ []))
    is 1
    -- the file by itself
    ∷ one
    (same_bytes (numbers_of store_length (tick october ∷ file_taken (name F203 0) body ∷ free_blocks ∷ ceiling_of (first_slot 1197) ∷ [])) (0 ∷ 0 ∷ 5000015 ∷ 1040029 ∷ []))
    is 1
    ∷ []

pub responses-taken : all_hold responses ≡ true
unfolding all_hold responses body boundary response october numbers_of reply_numbers name update_body
    days_of_month first_day month_from month_of_day exists seconds_of start_slot all_at_most all_ascii value_from decimal same_bytes percent
    format_of segment_fits lawful_name name_shape parse_name encode_name
    rates_of size_of record_shape record_at parse_records counted parse_body encode_record encode_records encode_body every
    read_file take_file stages update_dates dates_hold rates_hold sum checksum_of checksums_hold plants_hold
    all_letters lawful_boundary begins lines_with behind length_in strip line_of headers_of end_in read_response parse_response take_response
    rate_in last_rate rate_of any_record any_file is_held count_below held_count set_clock ticked update_time take_update with_file step replies
    fresh_machine
responses-taken = refl
