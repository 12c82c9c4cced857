-- A file from its name's ID on, under the fields that were read of the name.
use Rattle.std.specs.Prelude.{Bool, List, ℕ}
use Rattle.rules.specs.Body.{parse_body}
use Rattle.rules.specs.Digits.{same_bytes}
use Rattle.rules.specs.File.{Outcome, refuse, with_body}
use Rattle.rules.specs.Table.{need}
use Rattle.rules.specs.declared.Cause.{Cause}
use Rattle.body.specs.Reading.{name_of}
use Rattle.name.specs.Read.{plant_digits}
use Rattle.name.specs.declared.Fields.{Fields}

-- 'name's ID isn't the plant's (no plant: check digit wrong)', or what the body says
abbrev pub under_name : Bool → Fields → List ℕ → List ℕ → Outcome
under_name fits f id body = need fits (refuse Cause.OtherPlant) (with_body (name_of f.format f.segment id) (parse_body f.format body))

-- the same for a plant
abbrev pub for_plant : Fields → List ℕ → List ℕ → List ℕ → Outcome
for_plant f plant name body = under_name (same_bytes (plant_digits name) plant) f (plant_digits name) body
