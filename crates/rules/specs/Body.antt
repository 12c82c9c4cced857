-- A file's body (01, Names and bodies): a 6-digit record count and the records, parsed and as bytes.
use Rattle.std.specs.Prelude.{ℕ, zero, suc, ◌+◌, Bool, true, false, cond, ◌&&◌, List, [], ◌∷◌, ◌++◌, length, get_or, drop, leb, eqb, Option, None, Some}
use Rattle.std.specs.Option.{option_map}
use Rattle.rules.specs.Digits.{part, all_digits, digits, value, decimal}
use Rattle.rules.specs.declared.Format.{Format}
use Rattle.rules.specs.declared.Format.TheVariants.{F201, F202, F203, F301}

-- a schedule's record; the flag and the next access are there for 203 only
pub record Record : Type 0 where
  pub schedule : List ℕ
  pub plant : List ℕ
  pub start : List ℕ
  pub rates : List ℕ
  pub flag : List ℕ
  pub checksum : List ℕ
  pub next : List ℕ

-- 'a rate is one byte 0 to 100'
abbrev pub highest_rate : ℕ
highest_rate = 100

-- '201: 13 records', '202: 1 record', '203: 1 record', '301: count 1'
abbrev pub count_of : Format → ℕ
count_of F201 = 13
count_of F202 = 1
count_of F203 = 1
count_of F301 = 1

-- '203: n 0 to 336'; for 201 and 202 what 5 digits can say
abbrev pub most_rates : Format → ℕ
most_rates F201 = 99999
most_rates F202 = 99999
most_rates F203 = 336
most_rates F301 = 0

-- 'for 203 a flag digit', 'for 203 next access YYYYMMDDhhmmss'
abbrev pub flag_digits : Format → ℕ
flag_digits F201 = 0
flag_digits F202 = 0
flag_digits F203 = 1
flag_digits F301 = 0

abbrev pub next_digits : Format → ℕ
next_digits F201 = 0
next_digits F202 = 0
next_digits F203 = 14
next_digits F301 = 0

-- the digits after the rates: flag, checksum, next access
abbrev pub tail_digits : Format → ℕ
tail_digits f = flag_digits f + 2 + next_digits f

-- ---- reading

-- of the record at the front of s: its rate count, and its length
unfoldable pub rates_of : List ℕ → ℕ
rates_of s = value (part s 48 5)

unfoldable pub size_of : Format → List ℕ → ℕ
size_of f s = 53 + rates_of s + tail_digits f

-- whether a record stands at the front of s: its 53 digits, its rates, its last digits
unfoldable pub record_shape : Format → List ℕ → Bool
record_shape f s =
    leb 53 (length s)
    && all_digits (part s 0 48)
    && all_digits (part s 48 5)
    && leb (rates_of s) (most_rates f)
    && leb (size_of f s) (length s)
    && all_digits (part s (53 + rates_of s) (tail_digits f))

unfoldable pub record_at : Format → List ℕ → Record
record_at f s =
    let n = rates_of s in
    record {
      schedule = part s 0 10;
      plant = part s 10 26;
      start = part s 36 12;
      rates = part s 53 n;
      flag = part s (53 + n) (flag_digits f);
      checksum = part s (53 + n + flag_digits f) 2;
      next = part s (53 + n + flag_digits f + 2) (next_digits f);
    }

abbrev pub before : Record → Option (List Record) → Option (List Record)
before r None = None
before r (Some rs) = Some (r ∷ rs)

-- k records; 'Nothing follows'
unfoldable pub parse_records : Format → ℕ → List ℕ → Option (List Record)
parse_records f zero s = cond (eqb (length s) 0) (Some []) None
parse_records f (suc k) s =
    let rest = parse_records f k (drop (size_of f s) s) in
    cond (record_shape f s) (before (record_at f s) rest) None

-- what a body says: the records of a schedule, or for 301 a plant ID and 0 (registered) or 1 (not)
pub data Body : Type 0 where
  schedule : List Record → Body
  registration : List ℕ → ℕ → Body

-- '301: count 1, plant ID, result 0 registered or 1 not', after the count
unfoldable pub parse_registration : List ℕ → Option Body
parse_registration s =
    cond (eqb (length s) 27 && all_digits (part s 0 26) && leb (get_or s 26 0) 1) (Some (registration (part s 0 26) (get_or s 26 0))) None

-- what follows the count
abbrev pub parse_rest : Format → List ℕ → Option Body
parse_rest F201 s = option_map schedule (parse_records F201 (count_of F201) s)
parse_rest F202 s = option_map schedule (parse_records F202 (count_of F202) s)
parse_rest F203 s = option_map schedule (parse_records F203 (count_of F203) s)
parse_rest F301 s = parse_registration s

-- whether s begins with the format's record count
unfoldable pub counted : Format → List ℕ → Bool
counted f s = leb 6 (length s) && all_digits (part s 0 6) && eqb (value (part s 0 6)) (count_of f)

-- what the bytes of a body say; none where they break the form (cause 9)
unfoldable pub parse_body : Format → List ℕ → Option Body
parse_body f s =
    let rest = parse_rest f (drop 6 s) in
    cond (counted f s) rest None

-- ---- the bytes

unfoldable pub encode_record : Record → List ℕ
encode_record r =
    r.schedule ++ (r.plant ++ (r.start ++ (decimal 5 (length r.rates) ++ (r.rates ++ (r.flag ++ (r.checksum ++ r.next))))))

unfoldable pub encode_records : List Record → List ℕ
encode_records [] = []
encode_records (r ∷ rs) = encode_record r ++ encode_records rs

unfoldable pub encode_body : Body → List ℕ
encode_body (schedule rs) = decimal 6 (length rs) ++ encode_records rs
encode_body (registration plant result) = decimal 6 1 ++ (plant ++ (result ∷ []))

-- ---- the fields that a body of a format may have, apart from dates, rates and sums

unfoldable pub form_of_record : Format → Record → Bool
form_of_record f r =
    digits 10 r.schedule
    && digits 26 r.plant
    && digits 12 r.start
    && leb (length r.rates) (most_rates f)
    && digits (flag_digits f) r.flag
    && digits 2 r.checksum
    && digits (next_digits f) r.next

-- whether each record passes
unfoldable pub every : (Record → Bool) → List Record → Bool
every p [] = true
every p (r ∷ rs) = p r && every p rs

abbrev pub is_schedule : Format → Bool
is_schedule F201 = true
is_schedule F202 = true
is_schedule F203 = true
is_schedule F301 = false

unfoldable pub form_of_body : Format → Body → Bool
form_of_body f (schedule rs) = is_schedule f && eqb (length rs) (count_of f) && every (form_of_record f) rs
form_of_body F201 (registration plant result) = false
form_of_body F202 (registration plant result) = false
form_of_body F203 (registration plant result) = false
form_of_body F301 (registration plant result) = digits 26 plant && leb result 1
