-- Causes of refusal and answers (01, Causes of refusal): 01's number of each cause, and 01's values of each answer.
use Rattle.std.specs.Option.{unwrap_or, option_map}
use Rattle.std.specs.Prelude.{ℕ, Bool, true, false, Option, Some, None, Result, Ok, Err}
use Rattle.rules.specs.declared.Cause.{Cause}
use Rattle.rules.specs.declared.Ceiling.{Ceiling}
use Rattle.rules.specs.declared.Due.{Due}
use Rattle.rules.specs.declared.Summary.{Summary}
use Rattle.rules.specs.Name.{format_number}

-- the table's numbers
abbrev pub number_of : Cause → ℕ
number_of Cause.PlantId = 1  -- ID length, byte or check digit
number_of Cause.Setting = 2  -- setting, MAC length or MAC byte out of range
number_of Cause.StoreLength = 3  -- store not 23,808 bytes
number_of Cause.Unsound = 4  -- unit, or a lent store, not sound
number_of Cause.ClockUnset = 5  -- clock unset
number_of Cause.Range = 6  -- tick, slot, status or the writer's flag out of range
number_of Cause.Name = 7  -- name, request's segment or writer's format breaks its form, or 301 given to be taken
number_of Cause.OtherPlant = 8  -- name's ID isn't the plant's (no plant: check digit wrong)
number_of Cause.Form = 9  -- record count, digit, 203's n above 336, length, 301 result, writer's digits
number_of Cause.Date = 10  -- a date or n against the rules
number_of Cause.Rate = 11  -- rate above 100
number_of Cause.Checksum = 12  -- checksum
number_of Cause.RecordPlant = 13  -- record's plant ID isn't the name's
number_of Cause.Full = 14  -- more than 16 months would be held
number_of Cause.Buffer = 15  -- output longer than the lent buffer
number_of Cause.ErrorFile = 16  -- error file breaks its form
number_of Cause.Response = 17  -- response breaks its form (02, §1)

-- the answer to a call that changes something: tick, clock lost, file or response taken, failure reported
abbrev pub Answer : Type 0
Answer = Result (Unit {0}) Cause

-- an answer as 01 gives it: the machine answers in these values
pub data Reply : Type 0 where
  accepted : Reply
  refused : ℕ → Reply  -- the cause's number
  ceiling : Bool → ℕ → ℕ → Reply  -- whether the slot has a rate, r, p; both 0 where it has none
  update : Reply  -- what is due
  fixed : ℕ → Reply  -- with w
  nothing : Reply
  parts : ℕ → Reply
  blocks : ℕ → Reply

-- what each answer of the unit says
abbrev pub of_answer : Answer → Reply
of_answer (Ok tt) = accepted
of_answer (Err c) = refused (number_of c)

abbrev pub of_ceiling : Result (Option Ceiling) Cause → Reply
of_ceiling (Ok (Some c)) = ceiling true c.rate c.percent
of_ceiling (Ok None) = ceiling false 0 0
of_ceiling (Err c) = refused (number_of c)

abbrev pub of_due : Result (Option Due) Cause → Reply
of_due (Ok (Some Due.Update)) = update
of_due (Ok (Some (Due.Fixed w))) = fixed w
of_due (Ok None) = nothing
of_due (Err c) = refused (number_of c)

abbrev pub of_command : Result ℕ Cause → Reply
of_command (Ok p) = parts p
of_command (Err c) = refused (number_of c)

abbrev pub of_free_blocks : Result ℕ Cause → Reply
of_free_blocks (Ok n) = blocks n
of_free_blocks (Err c) = refused (number_of c)

-- an answer of a call beside the unit as 01 gives it
pub data Said (A : Type 0) : Type 0 where
  refused_by : ℕ → Said A  -- the cause's number
  gives : A → Said A

-- of a file that reads well: 201 to 203 or 301, the segment's digits as a number, its records and their rates together,
-- the first slot that it covers, a 203's flag and next access in seconds, a 301's result; 0 where the format has none
pub record FileValues : Type 0 where
  pub format : ℕ
  pub segment : ℕ
  pub records : ℕ
  pub rates : ℕ
  pub start : ℕ
  pub flag : ℕ
  pub next_access : ℕ
  pub result : ℕ

abbrev pub of_summary : Summary → FileValues
of_summary s = record {
  format = format_number s.format;
  segment = s.segment;
  records = s.records;
  rates = s.rates;
  start = unwrap_or s.start 0;
  flag = unwrap_or (option_map (λ u. u.flag) s.update) 0;
  next_access = unwrap_or (option_map (λ u. u.next_access) s.update) 0;
  result = unwrap_or s.result 0;
}

-- what each answer beside the unit says
abbrev pub of_reading : Result Summary Cause → Said FileValues
of_reading (Ok s) = gives (of_summary s)
of_reading (Err c) = refused_by (number_of c)

-- how many bytes were written
abbrev pub of_written : Result ℕ Cause → Said ℕ
of_written (Ok n) = gives n
of_written (Err c) = refused_by (number_of c)

-- the code of an error file
abbrev pub of_error_code : Result ℕ Cause → Said ℕ
of_error_code (Ok n) = gives n
of_error_code (Err c) = refused_by (number_of c)
