-- Sample plants, names, bodies and calls for the trials.
use Rattle.rules.specs.Causes.{Answer}
use Rattle.std.specs.Prelude.{ℕ, suc, ◌+◌, ◌*◌, Bool, true, false, ◌&&◌, List, [], ◌∷◌, ◌++◌, length, replicate, eqb, Ok, Err, Option, None, Some}
use Rattle.rules.specs.Digits.{decimal}
use Rattle.rules.specs.Plant.{Settings}
use Rattle.rules.specs.Name.{encode_name}
use Rattle.rules.specs.Body.{Record, schedule, encode_body}
use Rattle.rules.specs.File.{Outcome, refuse, file, checksum_of}
use Rattle.rules.specs.Causes.{Reply, accepted, refused, ceiling, update, fixed, nothing, parts, blocks, number_of}
use Rattle.rules.specs.Machine.{Told}
use Rattle.rules.specs.Writer.{Fields, Output, bytes}
use Rattle.rules.specs.declared.Format.{Format}

-- plant X of the bench examples
abbrev pub plant_x : List ℕ
plant_x = decimal 13 1234567890123 ++ decimal 13 4567890123455

abbrev pub mac : List ℕ
mac = replicate 6 48 ++ replicate 6 70

abbrev pub settings : ℕ → ℕ → ℕ → Settings
settings panel inverter minutes = record { panel = panel; inverter = inverter; minutes = minutes }

abbrev pub told : ℕ → Told
told len = record { plant = plant_x; settings = settings 4000 5500 5; store_length = len }

-- ---- names and bodies

unfoldable pub name : Format → ℕ → List ℕ
name f segment = encode_name (record { format = f; segment = decimal 4 segment; plant = plant_x; created = decimal 14 20260327090000 })

abbrev pub record_of : List ℕ → List ℕ → List ℕ → List ℕ → Record
record_of start rates flag next =
    record {
      schedule = decimal 10 2603270001;
      plant = plant_x;
      start = start;
      rates = rates;
      flag = flag;
      checksum = decimal 2 (checksum_of start rates);
      next = next;
    }

unfoldable pub update_body : ℕ → List ℕ → ℕ → List ℕ
update_body start rates next = encode_body (schedule (record_of (decimal 12 start) rates (2 ∷ []) (decimal 14 next) ∷ []))

unfoldable pub month_body : ℕ → ℕ → List ℕ
month_body start n = encode_body (schedule (record_of (decimal 12 start) (replicate n 7) [] [] ∷ []))

unfoldable pub fields : ℕ → ℕ → List ℕ → ℕ → Fields
fields format start rates flag = record {
  format = format;
  plant = plant_x;
  schedule = decimal 10 2603270001;
  start = decimal 12 start;
  next = decimal 14 20260327113000;
  rates = rates;
  flag = flag;
}

-- ---- answers as numbers

-- a refusal's number, and 0 where there is none
abbrev pub answer_number : Answer → ℕ
answer_number (Ok tt) = 0
answer_number (Err c) = number_of c

abbrev pub outcome_number : Outcome → ℕ
outcome_number (refuse c) = number_of c
outcome_number (file f) = 0

-- of an output: its length, and 1,000,000 and the number where it is refused
abbrev pub output_number : Output → ℕ
output_number (Output.refuse c) = 1000000 + number_of c
output_number (bytes b) = length b

abbrev pub output_bytes : Output → List ℕ
output_bytes (Output.refuse c) = []
output_bytes (bytes b) = b

-- none is 0, and n is n + 1
abbrev pub option_number : Option ℕ → ℕ
option_number None = 0
option_number (Some n) = suc n

-- a reply as one number: 0 accepted; 100 and the cause; 1,000,000 and r, p of a rate; the others as they come
abbrev pub reply_number : Reply → ℕ
reply_number accepted = 0
reply_number (refused n) = 100 + n
reply_number (ceiling true r p) = 1000000 + 1000 * r + p
reply_number (ceiling false r p) = 2000000 + 1000 * r + p
reply_number update = 3000000
reply_number (fixed w) = 3000100 + w
reply_number nothing = 3000200
reply_number (parts n) = 4000000 + n
reply_number (blocks n) = 5000000 + n

unfoldable pub reply_numbers : List Reply → List ℕ
reply_numbers [] = []
reply_numbers (r ∷ rs) = reply_number r ∷ reply_numbers rs

-- ---- tables

-- what is computed, and what is stated
pub record Line : Type 0 where
  pub computed : ℕ
  pub stated : ℕ

abbrev pub ◌is◌ : ℕ → ℕ → Line
◌is◌ a b = record { computed = a; stated = b }

infix 70 ◌is◌
unfoldable pub all_hold : List Line → Bool
all_hold [] = true
all_hold (l ∷ ls) = eqb l.computed l.stated && all_hold ls
