-- 'A body whose records share a schedule ID, read and written, is itself' (01, Beside the unit), of what the functions answer.
-- Proved in proofs/Again.antt: `body-again`.
use Rattle.std.specs.Option.{unwrap_or, option_map}
use Rattle.std.specs.Prelude.{ℕ, ◌≤◌, ◌<◌, ◌≡◌, Bool, true, List, length, take, Ok, Option, None, Some}
use Rattle.rules.specs.Plant.{plant_id}
use Rattle.rules.specs.Name.{format_number}
use Rattle.rules.specs.Body.{count_of, is_schedule}
use Rattle.rules.specs.File.{read_file}
use Rattle.rules.specs.Writer.{Fields, written_of, buffer_after, write_body}
use Rattle.rules.specs.declared.Format.{Format}
use Rattle.rules.specs.Reading.{reading_of}
use Rattle.rules.specs.declared.Summary.{Summary}
use Rattle.rules.specs.declared.Update.{Update}
use Rattle.plan.specs.Fields.{fields_of}
use Rattle.records.specs.Reading.{field_in, record_in, rates_output}
use Rattle.records.specs.declared.Field.{Field}
use Rattle.records.specs.declared.Field.TheVariants.{Schedule, Plant, Start, Next}
use Rattle.about_bodies.specs.Written.{Holds}

-- read without a plant, or for one whose ID is one
abbrev pub an_id : Option (List ℕ) → Bool
an_id None = true
an_id (Some plant) = plant_id plant

-- a field of the first record
abbrev pub first : Field → Format → List ℕ → List ℕ
first x f body = field_in x (record_in f body 0)

-- what `copy_rates` put into a buffer, n of them
abbrev pub copied : Format → List ℕ → ℕ → List ℕ → List ℕ
copied f body n space = take n (buffer_after (rates_output f body (length space)) space)

-- the flag of a 203; 0 where there is none
abbrev pub flag_again : Option Update → ℕ
flag_again u = unwrap_or (option_map (λ x. x.flag) u) 0

-- the fields that are handed to `write_body`: x is what reading answered, `space` the buffer that the rates were copied into
abbrev pub fields_again : List ℕ → Summary → List ℕ → Fields
fields_again body x space =
    fields_of (format_number x.format) (first Plant x.format body) (first Schedule x.format body) (first Start x.format body)
    (first Next x.format body) (copied x.format body x.rates space) (flag_again x.update)

-- the records share a schedule ID
abbrev pub Shared : Format → List ℕ → Type 0
Shared f body = (i : ℕ) → i < count_of f → field_in Schedule (record_in f body i) ≡ first Schedule f body

-- the rates of a schedule that was read are copied into any buffer that has room for them; written again with the other fields
-- they give the body, in a buffer of any length that has room for it, and the bytes past it stay
abbrev pub BodyAgain : Type 0
BodyAgain =
    (plant : Option (List ℕ)) (name body space out : List ℕ) (x : Summary)
    → reading_of (read_file plant name body) ≡ Ok x
    → an_id plant ≡ true
    → is_schedule x.format ≡ true
    → Shared x.format body
    → x.rates ≤ length space
    → length body ≤ length out
    → (written_of (rates_output x.format body (length space)) ≡ Ok x.rates)
    × Holds (write_body (fields_again body x space) (length out)) out body
