-- The writer and the reader are inverse to each other: what is written reads back, and what was read is written as it was.
-- Proved: `written-reads` in proofs/Written.antt, `name-exists` and `written-length` in Named, `read-written` and `read-written-with-plant` in Rewritten.
use Rattle.std.specs.Prelude.{ℕ, ◌+◌, ◌*◌, ◌/◌, ◌%◌, ◌≤◌, ◌≡◌, Bool, true, List, [], ◌∷◌, ◌++◌, length, get_or, None, Some}
use Rattle.rules.specs.Digits.{digits, decimal, same_bytes}
use Rattle.rules.specs.Calendar.{exists, month_at}
use Rattle.rules.specs.Plant.{plant_id}
use Rattle.rules.specs.Name.{Name, format_number, format_of, segment_fits, segment_month, encode_name}
use Rattle.rules.specs.Body.{Record, schedule, count_of, tail_digits, encode_body, every}
use Rattle.rules.specs.File.{File, file, read_file, lawful, flag_of}
use Rattle.rules.specs.Writer.{Fields, bytes, field_records, write_body}
use Rattle.rules.specs.declared.Format.{Format}
use Rattle.rules.specs.declared.Format.TheVariants.{F201, F202, F203, F301}

-- ---- of records: their rates end to end, the first one's start and next access, and whether they share a schedule ID

abbrev pub end_to_end : List Record → List ℕ
end_to_end [] = []
end_to_end (r ∷ rs) = r.rates ++ end_to_end rs

abbrev pub first_start : List Record → List ℕ
first_start [] = []
first_start (r ∷ rs) = r.start

abbrev pub first_next : List Record → List ℕ
first_next [] = []
first_next (r ∷ rs) = r.next

abbrev pub shared_schedule : List Record → Bool
shared_schedule [] = true
shared_schedule (r ∷ rs) = every (λ q. same_bytes q.schedule r.schedule) rs

-- ---- written, then read

-- a name for a body of the fields w: their plant ID, a segment that fits the format (for 202 the month of the start), a creation time that exists
pub record NameFor (f : Format) (w : Fields) (n : Name) : Type 0 where
  pub format : n.format ≡ f
  pub plant : n.plant ≡ w.plant
  pub segment : digits 4 n.segment ≡ true
  pub fits : segment_fits f n.segment ≡ true
  pub month : f ≡ F202 → segment_month n.segment ≡ month_at w.start
  pub created : digits 14 n.created ≡ true
  pub date : exists n.created ≡ true

-- the fields that the format carries are in the records
pub record Carries (f : Format) (w : Fields) (rs : List Record) : Type 0 where
  pub schedules : every (λ r. same_bytes r.schedule w.schedule) rs ≡ true
  pub plants : every (λ r. same_bytes r.plant w.plant) rs ≡ true
  pub start : first_start rs ≡ w.start
  pub rates : end_to_end rs ≡ w.rates
  pub flag : f ≡ F203 → flag_of rs ≡ w.flag
  pub next : f ≡ F203 → first_next rs ≡ w.next

abbrev pub file_for : Format → Fields → Name → File
file_for f w n = record { name = n; body = schedule (field_records f w) }

pub record ReadsBack (f : Format) (w : Fields) (n : Name) (b : List ℕ) : Type 0 where
  pub fields : lawful None (file_for f w n) ≡ true
  pub body_bytes : b ≡ encode_body (schedule (field_records f w))
  pub read : read_file None (encode_name n) b ≡ file (file_for f w n)
  pub read_with_plant : read_file (Some w.plant) (encode_name n) b ≡ file (file_for f w n)
  pub carried : Carries f w (field_records f w)

-- what the writer writes, with any such name, is a lawful file, reads as that file, and has the fields that it was written from
abbrev pub WrittenReads : Type 0
WrittenReads =
    (w : Fields) (room : ℕ) (b : List ℕ) (f : Format) (n : Name)
    → write_body w room ≡ bytes b → format_of w.format ≡ Some f → NameFor f w n → ReadsBack f w n b

-- for every body that is written and every creation time there is such a name: 999 and any digit, YYMM of the start, 0000
abbrev pub segment_for : Format → ℕ → Fields → List ℕ
segment_for F201 digit w = 9 ∷ 9 ∷ 9 ∷ digit ∷ []
segment_for F202 digit w = decimal 2 (month_at w.start / 12) ++ decimal 2 (month_at w.start % 12 + 1)
segment_for F203 digit w = 0 ∷ 0 ∷ 0 ∷ 0 ∷ []
segment_for F301 digit w = 8 ∷ 8 ∷ 8 ∷ 8 ∷ []

abbrev pub name_for : Format → ℕ → List ℕ → Fields → Name
name_for f digit created w = record { format = f; segment = segment_for f digit w; plant = w.plant; created = created }

abbrev pub NameExists : Type 0
NameExists =
    (w : Fields) (room : ℕ) (b : List ℕ) (f : Format) (digit : ℕ) (created : List ℕ)
    → write_body w room ≡ bytes b → format_of w.format ≡ Some f → digit ≤ 9 → digits 14 created ≡ true → exists created ≡ true
    → NameFor f w (name_for f digit created w)

-- how long what is written is: the count, each record's digits, the rates
abbrev pub WrittenLength : Type 0
WrittenLength =
    (w : Fields) (room : ℕ) (b : List ℕ) (f : Format)
    → write_body w room ≡ bytes b → format_of w.format ≡ Some f → length b ≡ 6 + count_of f * (53 + tail_digits f) + length w.rates

-- ---- read, then written

-- the fields of a file's records: format, plant and schedule ID, the first start, the rates end to end, and what a 203 has besides
abbrev pub fields_of : Format → List Record → Fields
fields_of f [] = record { format = format_number f; plant = []; schedule = []; start = []; next = []; rates = []; flag = 0 }
fields_of f (r ∷ rs) = record {
  format = format_number f;
  plant = r.plant;
  schedule = r.schedule;
  start = r.start;
  next = r.next;
  rates = end_to_end (r ∷ rs);
  flag = get_or r.flag 0 0;
}

-- 'A body whose records share a schedule ID, read and written, is itself'
abbrev pub ReadWritten : Type 0
ReadWritten =
    (name body : List ℕ) (f : File) (rs : List Record) (room : ℕ)
    → read_file None name body ≡ file f → f.body ≡ schedule rs → shared_schedule rs ≡ true → length body ≤ room
    → write_body (fields_of f.name.format rs) room ≡ bytes body

-- and with a plant whose ID is one
abbrev pub ReadWrittenWithPlant : Type 0
ReadWrittenWithPlant =
    (plant name body : List ℕ) (f : File) (rs : List Record) (room : ℕ)
    → plant_id plant ≡ true → read_file (Some plant) name body ≡ file f → f.body ≡ schedule rs → shared_schedule rs ≡ true → length body ≤ room
    → write_body (fields_of f.name.format rs) room ≡ bytes body
