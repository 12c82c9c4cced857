-- The answers of questions, of reading and of writing as C gets them: 0 or a cause's number, and numbers that are 0 where it is refused.
use Rattle.std.specs.Prelude.{ℕ, List, length, Option, None, Some, Result, Ok, Err}
use Rattle.rules.specs.Causes.{number_of, Said, refused_by, gives, FileValues, of_written, of_reading, of_error_code}
use Rattle.rules.specs.ErrorFile.{error_text}
use Rattle.rules.specs.declared.Ceiling.{Ceiling}
use Rattle.rules.specs.declared.Due.{Due}
use Rattle.rules.specs.declared.Cause.{Cause}
use Rattle.rules.specs.declared.Summary.{Summary}
use Rattle.c_answers.specs.declared.Number.{Number}
use Rattle.c_answers.specs.declared.WrittenBytes.{WrittenBytes}
use Rattle.c_answers.specs.declared.DueAnswer.{DueAnswer}
use Rattle.c_answers.specs.declared.CeilingAnswer.{CeilingAnswer}
use Rattle.c_answers.specs.declared.FileAnswer.{FileAnswer}
use Rattle.c_answers.specs.declared.ErrorAnswer.{ErrorAnswer}

abbrev pub due_by : ℕ → ℕ → ℕ → DueAnswer
due_by cause kind flag = record { cause = cause; kind = kind; flag = flag }

-- kind 0: nothing, 1: update, 2: fixed
abbrev pub due_numbers : Result (Option Due) Cause → DueAnswer
due_numbers (Ok (Some Due.Update)) = due_by 0 1 0
due_numbers (Ok (Some (Due.Fixed w))) = due_by 0 2 w
due_numbers (Ok None) = due_by 0 0 0
due_numbers (Err c) = due_by (number_of c) 0 0

abbrev pub ceiling_numbers : Result (Option Ceiling) Cause → CeilingAnswer
ceiling_numbers (Ok (Some c)) = record { cause = 0; has_rate = 1; rate = c.rate; percent = c.percent }
ceiling_numbers (Ok None) = record { cause = 0; has_rate = 0; rate = 0; percent = 0 }
ceiling_numbers (Err c) = record { cause = number_of c; has_rate = 0; rate = 0; percent = 0 }

abbrev pub command_number : Result ℕ Cause → Number
command_number (Ok n) = record { cause = 0; value = n }
command_number (Err c) = record { cause = number_of c; value = 0 }

-- a count of blocks stands where the parts of a command do
abbrev pub blocks_number : Result ℕ Cause → Number
blocks_number = command_number

abbrev pub written_by : Said ℕ → WrittenBytes
written_by (gives n) = record { length = n; cause = 0 }
written_by (refused_by n) = record { length = 0; cause = n }

abbrev pub written_numbers : Result ℕ Cause → WrittenBytes
written_numbers w = written_by (of_written w)

abbrev pub no_file : ℕ → FileAnswer
no_file n = record { cause = n; format = 0; segment = 0; records = 0; rates = 0; start = 0; flag = 0; next_access = 0; result = 0 }

abbrev pub file_by : Said FileValues → FileAnswer
file_by (gives f) = record {
  cause = 0;
  format = f.format;
  segment = f.segment;
  records = f.records;
  rates = f.rates;
  start = f.start;
  flag = f.flag;
  next_access = f.next_access;
  result = f.result;
}
file_by (refused_by n) = no_file n

abbrev pub file_numbers : Result Summary Cause → FileAnswer
file_numbers r = file_by (of_reading r)

-- 'the message text is handed back as that part of the file': it stands from byte 6 on
abbrev pub error_by : Said ℕ → List ℕ → ErrorAnswer
error_by (gives n) file = record { text_at = 6; text_length = length (error_text file); cause = 0; code = n }
error_by (refused_by n) file = record { text_at = 0; text_length = 0; cause = n; code = 0 }

abbrev pub error_numbers : Result ℕ Cause → List ℕ → ErrorAnswer
error_numbers e file = error_by (of_error_code e) file
