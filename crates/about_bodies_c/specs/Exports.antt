-- C tied to the theorems about files: what the contract of each exported function that reads, writes or takes apart a file says of its result, and of the
-- buffer that it was lent. `Learnt` is a function's contract as a caller gets it: the `ensures` lines of crates/jagwelu/src themselves, and no copy of them.
-- Proved in proofs/Exports.antt: `files-say` and `files-ask`.
use Rattle.std.specs.Prelude.{ℕ, ◌≡◌, length, None, Some}
use denote.Triple.Clauses.{Lasts, at_exit}
use Rattle.rules.specs.Name.{format_of}
use Rattle.rules.specs.File.{read_file}
use Rattle.rules.specs.Reading.{reading_of}
use Rattle.rules.specs.Writer.{written_of, buffer_after, write_body}
use Rattle.rules.specs.ErrorFile.{error_code, code_of}
use Rattle.plan.specs.Fields.{fields_of}
use Rattle.c_answers.specs.Answers.{file_numbers, written_numbers, error_numbers}
use Rattle.c_bodies.specs.Places.{places_numbers}
use Rattle.c_answers.specs.declared.FileAnswer.{FileAnswer}
use Rattle.c_answers.specs.declared.WrittenBytes.{WrittenBytes}
use Rattle.c_answers.specs.declared.ErrorAnswer.{ErrorAnswer}
use Rattle.c_bodies.specs.declared.RecordPlaces.{RecordPlaces}
use Rattle.c_bodies.specs.Bodies.{locate_by, rates_by}
use Rattle.jagwelu.proofs.jag_read.Reads as jag-read
use Rattle.jagwelu.proofs.jag_read_for.Reads as jag-read-for
use Rattle.jagwelu.proofs.jag_record.Reads as jag-record
use Rattle.jagwelu.specs.contracts.jag_copy_rates as copying
use Rattle.jagwelu.proofs.jag_copy_rates.Reads as jag-copy-rates
use Rattle.jagwelu.specs.contracts.jag_write_body as writing
use Rattle.jagwelu.proofs.jag_write_body.Reads as jag-write-body
use Rattle.jagwelu.proofs.jag_error_file.Reads as jag-error-file

-- for all that a function is given and whatever it returns (r): where its contract holds of these, r is what the theorems speak of. A buffer that it may
-- write has some last value (w), and what a caller sees of the parameters afterwards is e
pub record EachFileSays : Type 0 where
  pub read : (κs : _) (name body : _) (r : FileAnswer) (e : _) → jag-read.Learnt κs (name, (body, tt)) r e
      → r ≡ file_numbers (reading_of (read_file None name.now body.now))
  pub read_for : (κs : _) (plant name body : _) (r : FileAnswer) (e : _) → jag-read-for.Learnt κs (plant, (name, (body, tt))) r e
      → r ≡ file_numbers (reading_of (read_file (Some plant.now) name.now body.now))
  pub located : (κs : _) (format : ℕ) (body : _) (index : ℕ) (r : RecordPlaces) (e : _) → jag-record.Learnt κs (format, (body, (index, tt))) r e
      → r ≡ places_numbers (locate_by (format_of format) body.now index)
  pub copied : (κs : _) (format : ℕ) (body out : _) (r : WrittenBytes) (w : Lasts copying.ended κs (format, (body, (out, tt))))
      → let e = at_exit copying.ended κs (format, (body, (out, tt))) w in
      let o = rates_by (format_of format) body.now (length out.now) in
      jag-copy-rates.Learnt κs (format, (body, (out, tt))) r e
      → (r ≡ written_numbers (written_of o)) × (e.1.1.0.now ≡ buffer_after o out.now)
  pub written : (κs : _) (format : ℕ) (plant ident start next rates : _) (flag : ℕ) (out : _) (r : WrittenBytes)
      (w : Lasts writing.ended κs (format, (plant, (ident, (start, (next, (rates, (flag, (out, tt)))))))))
      → let e = at_exit writing.ended κs (format, (plant, (ident, (start, (next, (rates, (flag, (out, tt)))))))) w in
      let o = write_body (fields_of format plant.now ident.now start.now next.now rates.now flag) (length out.now) in
      jag-write-body.Learnt κs (format, (plant, (ident, (start, (next, (rates, (flag, (out, tt)))))))) r e
      → (r ≡ written_numbers (written_of o)) × (e.1.1.1.1.1.1.1.0.now ≡ buffer_after o out.now)
  pub errors : (κs : _) (file : _) (r : ErrorAnswer) (e : _) → jag-error-file.Learnt κs (file, tt) r e
      → r ≡ error_numbers (code_of (error_code file.now)) file.now

abbrev pub FilesSay : Type 0
FilesSay = EachFileSays

-- and none of them asks anything of its caller: what `Asked`, the contract's `requires`, says holds of all values
pub record EachFileAsks : Type 0 where
  pub read : (κs : _) (a : _) → jag-read.Asked κs a
  pub read_for : (κs : _) (a : _) → jag-read-for.Asked κs a
  pub located : (κs : _) (a : _) → jag-record.Asked κs a
  pub copied : (κs : _) (a : _) → jag-copy-rates.Asked κs a
  pub written : (κs : _) (a : _) → jag-write-body.Asked κs a
  pub errors : (κs : _) (a : _) → jag-error-file.Asked κs a

abbrev pub FilesAsk : Type 0
FilesAsk = EachFileAsks
