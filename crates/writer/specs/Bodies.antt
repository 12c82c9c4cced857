-- What is written: the front of a record, and the bodies where there is room, one of whole months, and an update's.
use Rattle.std.specs.Prelude.{ℕ, List, [], ◌∷◌, ◌++◌, length}
use Rattle.rules.specs.Digits.{decimal}
use Rattle.rules.specs.Body.{Record, schedule, encode_body}
use Rattle.rules.specs.Writer.{Fields, month_records, update_record}
use Rattle.plan.specs.Fields.{month_fields}

-- a record up to and with its rates, as `encode_record` begins it
abbrev pub head : List ℕ → List ℕ → List ℕ → List ℕ → List ℕ
head ident plant start rates = ident ++ (plant ++ (start ++ (decimal 5 (length rates) ++ rates)))

-- k months from month m on, of the fields' rates end to end: their records, and their body
abbrev pub months_of : Fields → ℕ → ℕ → List Record
months_of w k m = month_records (month_fields w.plant w.schedule) k m w.rates

abbrev pub months_body : Fields → ℕ → ℕ → List ℕ
months_body w k m = encode_body (schedule (months_of w k m))

abbrev pub update_body : Fields → List ℕ
update_body w = encode_body (schedule (update_record w ∷ []))
