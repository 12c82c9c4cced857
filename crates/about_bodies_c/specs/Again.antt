-- 'A body whose records share a schedule ID, read and written, is itself' (01, Beside the unit), of what the exported functions answer.
-- Proved in proofs/Again.antt: `body-again-from-c`.
use Rattle.std.specs.Prelude.{ℕ, ◌≤◌, ◌<◌, ◌≡◌, List, ◌++◌, length, take, drop, None}
use Rattle.rules.specs.Digits.{part}
use Rattle.rules.specs.Name.{format_of}
use Rattle.rules.specs.File.{read_file}
use Rattle.rules.specs.Writer.{Fields, written_of, buffer_after, write_body}
use Rattle.rules.specs.Reading.{reading_of}
use Rattle.plan.specs.Fields.{fields_of}
use Rattle.c_answers.specs.Answers.{file_numbers, written_numbers}
use Rattle.c_bodies.specs.Places.{places_numbers}
use Rattle.c_answers.specs.declared.FileAnswer.{FileAnswer}
use Rattle.c_bodies.specs.declared.RecordPlaces.{RecordPlaces}
use Rattle.c_bodies.specs.Bodies.{locate_by, rates_by}

-- what `jag_record` answers: x is what `jag_read` answered
abbrev pub places : FileAnswer → List ℕ → ℕ → RecordPlaces
places x body i = places_numbers (locate_by (format_of x.format) body i)

-- the first rates of the buffer that `jag_copy_rates` was lent
abbrev pub copied : FileAnswer → List ℕ → List ℕ → List ℕ
copied x body space = take x.rates (buffer_after (rates_by (format_of x.format) body (length space)) space)

-- what is handed to `jag_write_body`; for 201 and 202 the place of the next access is 0, and what stands there is not looked at
abbrev pub fields_from_c : FileAnswer → List ℕ → List ℕ → Fields
fields_from_c x body space =
    fields_of x.format (part body (places x body 0).plant 26) (part body (places x body 0).schedule 10)
    (part body (places x body 0).start 12) (part body (places x body 0).next 14) (copied x body space) x.flag

pub record Again (x : FileAnswer) (body space out : List ℕ) : Type 0 where
  pub located : (i : ℕ) → i < x.records → (places x body i).cause ≡ 0
  pub rates : written_numbers (written_of (rates_by (format_of x.format) body (length space))) ≡ record { length = x.rates; cause = 0 }
  pub answer : written_numbers (written_of (write_body (fields_from_c x body space) (length out))) ≡ record { length = length body; cause = 0 }
  pub bytes : buffer_after (write_body (fields_from_c x body space) (length out)) out ≡ body ++ drop (length body) out

-- a schedule whose records share a schedule ID, and buffers with room for the rates and the body
abbrev pub AgainFrom : FileAnswer → List ℕ → List ℕ → List ℕ → Type 0
AgainFrom x body space out =
    x.cause ≡ 0
    → (x.format ≡ 301 → ⊥)
    → ((i : ℕ) → i < x.records → part body (places x body i).schedule 10 ≡ part body (places x body 0).schedule 10)
    → x.rates ≤ length space
    → length body ≤ length out
    → Again x body space out

abbrev pub BodyAgainFromC : Type 0
BodyAgainFromC = (name body space out : List ℕ) → AgainFrom (file_numbers (reading_of (read_file None name body))) body space out
