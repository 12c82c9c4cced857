-- What `write_body` wrote into a buffer, read under a fitting name and taken apart, is the fields that it was given.
-- Proved in proofs/Written.antt: `written-fields`.
use Rattle.std.specs.Prelude.{ℕ, ◌≤◌, ◌<◌, ◌≡◌, List, [], ◌∷◌, ◌++◌, length, take, drop, Ok, None, Some, slice_get}
use Rattle.rules.specs.Name.{Name, format_of, encode_name}
use Rattle.rules.specs.Body.{count_of}
use Rattle.rules.specs.File.{read_file}
use Rattle.rules.specs.Writer.{Fields, Output, written_of, buffer_after, field_records, write_body}
use Rattle.rules.specs.declared.Format.{Format}
use Rattle.rules.specs.declared.Format.TheVariants.{F203}
use Rattle.rules.specs.Reading.{summary_of, reading_of}
use Rattle.about_files.specs.Writing.{NameFor, file_for}
use Rattle.plan.specs.Fields.{fields_of}
use Rattle.records.specs.Reading.{field_in, record_in, rates_output}
use Rattle.records.specs.declared.Field.TheVariants.{Schedule, Plant, Start, Flag, Next}

-- what a call that fills a buffer answers and leaves there: the bytes b, and past them what the buffer held
pub record Holds (o : Output) (buffer b : List ℕ) : Type 0 where
  pub answer : written_of o ≡ Ok (length b)
  pub bytes : buffer_after o buffer ≡ b ++ drop (length b) buffer

-- what is read of the body b: the answers of `read` and `read_for`, of `field_part` and of `copy_rates`
pub record FieldsRead (f : Format) (w : Fields) (n : Name) (b : List ℕ) : Type 0 where
  pub read : reading_of (read_file None (encode_name n) b) ≡ Ok (summary_of (file_for f w n))
  pub read_for : reading_of (read_file (Some w.plant) (encode_name n) b) ≡ Ok (summary_of (file_for f w n))
  pub records : (i : ℕ) → record_in f b i ≡ slice_get (field_records f w) i
  pub schedule : (i : ℕ) → i < count_of f → field_in Schedule (record_in f b i) ≡ w.schedule
  pub plant : (i : ℕ) → i < count_of f → field_in Plant (record_in f b i) ≡ w.plant
  pub start : field_in Start (record_in f b 0) ≡ w.start
  pub rates : (space : List ℕ) → length w.rates ≤ length space → Holds (rates_output f b (length space)) space w.rates
  pub flag : f ≡ F203 → field_in Flag (record_in f b 0) ≡ w.flag ∷ []
  pub next : f ≡ F203 → field_in Next (record_in f b 0) ≡ w.next

-- `write_body` answered k: then the buffer's first k bytes give the fields that the format carries, and those past them stayed
abbrev pub WrittenFields : Type 0
WrittenFields =
    (format : ℕ) (plant ident start next rates : List ℕ) (flag : ℕ) (out : List ℕ) (k : ℕ) (f : Format) (n : Name)
    → written_of (write_body (fields_of format plant ident start next rates flag) (length out)) ≡ Ok k
    → format_of format ≡ Some f
    → NameFor f (fields_of format plant ident start next rates flag) n
    → FieldsRead f (fields_of format plant ident start next rates flag) n
    (take k (buffer_after (write_body (fields_of format plant ident start next rates flag) (length out)) out))
    × (drop k (buffer_after (write_body (fields_of format plant ident start next rates flag) (length out)) out) ≡ drop k out)
