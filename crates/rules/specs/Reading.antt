-- What reading a name and body answers: what a unit or a lister needs of a file that reads well, or the cause of the refusal.
use Rattle.std.specs.Prelude.{ℕ, List, [], ◌∷◌, Option, None, Some, Result, Ok, Err}
use Rattle.rules.specs.Digits.{value}
use Rattle.rules.specs.Body.{Record, Body, schedule, registration}
use Rattle.rules.specs.File.{File, Outcome, refuse, file, records_in, start_of, flag_of, next_access}
use Rattle.rules.specs.Lister.{record_count, rate_count}
use Rattle.rules.specs.declared.Format.{Format}
use Rattle.rules.specs.declared.Format.TheVariants.{F201, F202, F203, F301}
use Rattle.rules.specs.declared.Summary.{Summary}
use Rattle.rules.specs.declared.Update.{Update}
use Rattle.rules.specs.declared.Cause.{Cause}

-- the first slot that a file covers; none for 301, which covers none
abbrev pub first_start : List Record → Option ℕ
first_start [] = None
first_start (r ∷ rs) = Some (start_of r)

-- the flag of a 203 and its next access in seconds; none otherwise
abbrev pub update_of : Format → List Record → Option Update
update_of F201 rs = None
update_of F202 rs = None
update_of F203 rs = Some (record { flag = flag_of rs; next_access = next_access rs })
update_of F301 rs = None

-- the result of a registration; none otherwise
abbrev pub result_of : Body → Option ℕ
result_of (schedule rs) = None
result_of (registration plant result) = Some result

-- An accepted schedule file covers one run of `rates` slots from slot `start` on: the months of a 201 are whole and consecutive.
unfoldable pub summary_of : File → Summary
summary_of f = record {
  format = f.name.format;
  segment = value f.name.segment;
  records = record_count f.body;
  rates = rate_count f.body;
  start = first_start (records_in f.body);
  update = update_of f.name.format (records_in f.body);
  result = result_of f.body;
}

unfoldable pub reading_of : Outcome → Result Summary Cause
reading_of (refuse c) = Err c
reading_of (file f) = Ok (summary_of f)
