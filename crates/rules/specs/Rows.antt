-- The rows of 01's table (Causes of refusal), and of 02, for what is read, taken out of a response, written, requested and installed: a test of its own for each
-- cause that the call has, in the order in which they are judged. The unit's calls have theirs in the crates above.
use Rattle.std.specs.Prelude.{ℕ, Bool, true, false, not, ◌&&◌, ◌||◌, List, [], ◌∷◌, length, ltb, eqb, Option, None, Some}
use Rattle.rules.specs.Digits.{digits, all_at_most}
use Rattle.rules.specs.Plant.{Settings, plant_id, mac_address, valid_settings}
use Rattle.rules.specs.Name.{Name, parse_name, format_of, any_segment}
use Rattle.rules.specs.Body.{Record, Body, schedule, parse_body, encode_body, highest_rate}
use Rattle.rules.specs.File.{id_fits, dates_hold, rates_hold, checksums_hold, plants_hold, is_registration, update_dates}
use Rattle.rules.specs.Response.{parse_response}
use Rattle.rules.specs.Table.{Row, row}
use Rattle.rules.specs.Writer.{Fields, update_record, field_records, months_fit}
use Rattle.rules.specs.Request.{request_bytes}
use Rattle.rules.specs.declared.Cause.{Cause}
use Rattle.rules.specs.declared.Format.{Format}

-- ---- a name and body

-- a name that did not parse breaks its form, and no other rule
abbrev pub name_breaks : Option Name → Bool
name_breaks None = true
name_breaks (Some n) = false

abbrev pub id_breaks : Option (List ℕ) → Option Name → Bool
id_breaks plant None = false
id_breaks plant (Some n) = not (id_fits plant n.plant)

-- the bytes are no body of the name's format
abbrev pub unread : Option Body → Bool
unread None = true
unread (Some b) = false

abbrev pub form_breaks : Option Name → List ℕ → Bool
form_breaks None body = false
form_breaks (Some n) body = unread (parse_body n.format body)

-- a rule, over all records, that name and body break; nothing to judge where one of them did not parse
abbrev pub broken : (Body → Bool) → Option Body → Bool
broken rule None = false
broken rule (Some b) = not (rule b)

abbrev pub breaks : (Name → Body → Bool) → Option Name → List ℕ → Bool
breaks rule None body = false
breaks rule (Some n) body = broken (rule n) (parse_body n.format body)

-- after 7, for a plant or for none
abbrev pub later_rows : Option (List ℕ) → Option Name → List ℕ → List Row
later_rows plant name body =
    row Cause.OtherPlant (id_breaks plant name)  -- 8: 'name's ID isn't the plant's (no plant: check digit wrong)'
    ∷ row Cause.Form (form_breaks name body)  -- 9: 'record count, digit, 203's n above 336, length, 301 result not 0 or 1'
    ∷ row Cause.Date (breaks dates_hold name body)  -- 10: 'a date or n against the rules above'
    ∷ row Cause.Rate (breaks (λ n. rates_hold) name body)  -- 11: 'rate above 100'
    ∷ row Cause.Checksum (breaks (λ n. checksums_hold) name body)  -- 12: 'checksum'
    ∷ row Cause.RecordPlant (breaks plants_hold name body)  -- 13: 'record's plant ID isn't the name's'
    ∷ []

-- read for a plant or for none; 7: 'name breaks its form'
unfoldable pub read_rows : Option (List ℕ) → List ℕ → List ℕ → List Row
read_rows plant name body = row Cause.Name (name_breaks (parse_name name)) ∷ later_rows plant (parse_name name) body

-- to be taken by a unit; 7 also: '301 given to be taken'
unfoldable pub taken_rows : List ℕ → List ℕ → List ℕ → List Row
taken_rows plant name body =
    row Cause.Name (name_breaks (parse_name name) || is_registration (parse_name name)) ∷ later_rows (Some plant) (parse_name name) body

-- ---- a response

-- 17: 'A response that breaks this form'
abbrev pub formless : Option (List ℕ × List ℕ) → Bool
formless None = true
formless (Some q) = false

-- 'Taking a response is then taking that name and file'; nothing to judge where it has none
abbrev pub carried_rows : List ℕ → Option (List ℕ × List ℕ) → List Row
carried_rows plant None = []
carried_rows plant (Some q) = taken_rows plant q.0 q.1

-- 'after 5 and before 7'
unfoldable pub response_rows : List ℕ → List ℕ → List ℕ → List Row
response_rows plant boundary s = row Cause.Response (formless (parse_response boundary s)) ∷ carried_rows plant (parse_response boundary s)

-- ---- the writer

-- 201 and 202 are of whole months, 203 is the update schedule
abbrev pub is_months : Fields → Bool
is_months w = eqb w.format 201 || eqb w.format 202

abbrev pub is_update : Fields → Bool
is_update w = eqb w.format 203

abbrev pub flag_breaks : Fields → Bool
flag_breaks w = ltb 9 w.flag && not (is_months w)

abbrev pub format_breaks : Fields → Bool
format_breaks w = not (is_months w || is_update w)

-- 'More than 336 rates for 203 is 9'
abbrev pub digits_break : Fields → Bool
digits_break w =
    not (digits 10 w.schedule)
    || not (digits 12 w.start)
    || is_update w && (not (digits 14 w.next) || ltb 336 (length w.rates))

-- 'for 201 and 202 any length but the one its months need is 10'
abbrev pub dates_break : Fields → Bool
dates_break w =
    eqb w.format 201 && not (months_fit 13 w)
    || eqb w.format 202 && not (months_fit 1 w)
    || is_update w && not (update_dates (update_record w))

-- the records of the fields, and the body's bytes
abbrev pub records_for : Option Format → Fields → List Record
records_for None w = []
records_for (Some f) w = field_records f w

abbrev pub body_for : Fields → List ℕ
body_for w = encode_body (schedule (records_for (format_of w.format) w))

-- of an output and so much room
abbrev pub room_breaks : List ℕ → ℕ → Bool
room_breaks output room = ltb room (length output)

unfoldable pub writer_rows : Fields → ℕ → List Row
writer_rows w room =
    row Cause.PlantId (not (plant_id w.plant))  -- 1: 'ID length, byte or check digit'
    ∷ row Cause.Range (flag_breaks w)  -- 6: 'writer's flag above 9'; 'For 201 and 202 flag and next access are not looked at'
    ∷ row Cause.Name (format_breaks w)  -- 7: 'writer's format not 201 to 203'
    ∷ row Cause.Form (digits_break w)  -- 9: 'writer's schedule ID, start or next access not 10, 12 or 14 digits'
    ∷ row Cause.Date (dates_break w)  -- 10: 'a date or n against the rules above'
    ∷ row Cause.Rate (not (all_at_most highest_rate w.rates))  -- 11: 'rate above 100'
    ∷ row Cause.Buffer (room_breaks (body_for w) room)  -- 15: 'output longer than the lent buffer'
    ∷ []

-- ---- the request

unfoldable pub request_rows : List ℕ → List ℕ → List ℕ → ℕ → List Row
request_rows id mac segment room =
    row Cause.PlantId (not (plant_id id))  -- 1: 'ID length, byte or check digit'
    ∷ row Cause.Setting (not (mac_address mac))  -- 2: 'MAC length or MAC byte out of range'
    ∷ row Cause.Name (not (any_segment segment))  -- 7: 'a request's segment, breaks its form'
    ∷ row Cause.Buffer (room_breaks (request_bytes id mac segment) room)  -- 15: 'output longer than the lent buffer'
    ∷ []

-- ---- installing

unfoldable pub install_rows : List ℕ → List ℕ → Settings → List Row
install_rows id mac set =
    row Cause.PlantId (not (plant_id id))  -- 1: 'ID length, byte or check digit'
    ∷ row Cause.Setting (not (mac_address mac && valid_settings set))  -- 2: 'setting, MAC length or MAC byte out of range'
    ∷ []
