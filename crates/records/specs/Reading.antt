-- What a body's records say, field by field, and their rates end to end.
use Rattle.std.specs.Prelude.{ℕ, List, [], Option, None, Some, slice_get}
use Rattle.rules.specs.Body.{Record, Body, is_schedule, parse_body}
use Rattle.rules.specs.File.{records_in}
use Rattle.rules.specs.Writer.{Output, refuse, fitting}
use Rattle.rules.specs.Table.{need}
use Rattle.rules.specs.declared.Cause.{Cause}
use Rattle.rules.specs.declared.Format.{Format}
use Rattle.about_files.specs.Writing.{end_to_end}
use Rattle.records.specs.declared.Field.{Field}
use Rattle.records.specs.declared.Field.TheVariants.{Schedule, Plant, Start, Rates, Flag, Checksum, Next}

-- a field of a record, as `read_file` has it
abbrev pub field_of : Field → Record → List ℕ
field_of Schedule r = r.schedule
field_of Plant r = r.plant
field_of Start r = r.start
field_of Rates r = r.rates
field_of Flag r = r.flag
field_of Checksum r = r.checksum
field_of Next r = r.next

abbrev pub field_in : Field → Option Record → List ℕ
field_in x None = []
field_in x (Some r) = field_of x r

-- the records of a body that parsed
abbrev pub records_of : Option Body → List Record
records_of None = []
records_of (Some b) = records_in b

-- record i of a body, the first one being 0; none where the body breaks the format's form, or there is no such record
unfoldable pub record_in : Format → List ℕ → ℕ → Option Record
record_in f body i = slice_get (records_of (parse_body f body)) i

-- the rates of a body's records end to end, into so much room
abbrev pub rates_from : ℕ → Option Body → Output
rates_from room None = refuse Cause.Form
rates_from room (Some b) = fitting room (end_to_end (records_in b))

unfoldable pub rates_output : Format → List ℕ → ℕ → Output
rates_output f body room = need (is_schedule f) (refuse Cause.Name) (rates_from room (parse_body f body))
