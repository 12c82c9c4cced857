-- Reading by its parts: what the name says, whether the ID fits, and the body under the name's fields.
use Rattle.std.specs.Prelude.{Result, Err, Option, None, Some}
use Prim.Native.Nat.{ℕ}
use mathlib.Core.Path.{◌≡◌, refl, sym, ap, ◌∙◌}
use mathlib.Core.Bool.{Bool, true, false}
use mathlib.Core.List.{List, []}
use lib.Dec.{eqb}
use lib.ListN.{length}
use borrow.Author.Tests.{eqb-true}
use Rattle.rules.specs.Digits.{all_digits, digits, value}
use Rattle.rules.specs.Name.{Name, parse_name}
use Rattle.rules.specs.Body.{Body, parse_body, is_schedule}
use Rattle.rules.specs.File.{with_body, read_file, take_file, id_fits}
use Rattle.rules.specs.Table.{need}
use Rattle.rules.specs.declared.Cause.{Cause}
use Rattle.rules.specs.declared.Format.{Format}
use Rattle.rules.specs.Reading.{reading_of}
use Rattle.rules.specs.declared.Summary.{Summary}
use Rattle.laws.proofs.Tests.{both}
use Rattle.body.specs.Reading.{name_of}
use Rattle.body.proofs.Outcomes.{created-free}
use Rattle.name.specs.Read.{plant_digits, name_read}
use Rattle.name.specs.declared.Fields.{Fields}
use Rattle.name.proofs.Laws.{Read, parsed, plant-is, read-broken, read_named}
use Rattle.about_files.proofs.Numerals.{decimal-value}
use Rattle.transfer.specs.Under.{under_name, for_plant}

-- a body under a name, and under the fields that were read of it
under : (n : Name) (f : Format) (segment : ℕ) (plant : List ℕ) (b : Option Body) → f ≡ n.format → segment ≡ value n.segment → plant ≡ n.plant
    → digits 4 n.segment ≡ true → reading_of (with_body (name_of f segment plant) b) ≡ reading_of (with_body n b)
under n f segment plant b e h k l =
    let d = both (eqb (length n.segment) 4) (all_digits n.segment) l in
    rw (e, h, k, decimal-value n.segment 4 (eqb-true _ _ d.0) d.1) (created-free n.format n.segment n.plant [] n.created b)

module _ (name body : List ℕ) (f : Fields) (read : Read (parse_name name) f) where
  abbrev n : Name
  n = read.name

  below : (b : Option Body) → reading_of (with_body (name_of f.format f.segment (plant_digits name)) b) ≡ reading_of (with_body n b)
  below b =
      under n f.format f.segment (plant_digits name) b read.format read.segment
      (plant-is name n read.found)
      (parsed name n read.found).segment

  -- the stages from the body on, for a name whose ID fits
  named : (plant : Option (List ℕ)) → id_fits plant n.plant ≡ true
      → reading_of (read_file plant name body) ≡ reading_of (with_body n (parse_body n.format body))
  unfolding read_file
  named plant e = rw (read.found, e)

  -- 8: the ID does not fit
  other-plant : (plant : Option (List ℕ)) → id_fits plant (plant_digits name) ≡ false → Err Cause.OtherPlant ≡ reading_of (read_file plant name body)
  unfolding read_file reading_of
  other-plant plant e = rw (read.found, ← plant-is name n read.found, e)

  -- from the ID on, its digits as they were read
  under-read : (plant : Option (List ℕ)) (fits : Bool) → fits ≡ id_fits plant (plant_digits name)
      → reading_of (under_name fits f (plant_digits name) body) ≡ reading_of (read_file plant name body)
  unfolding reading_of
  under-read plant true e =
      below (parse_body f.format body)
      ∙ ap (λ (x : Format). reading_of (with_body n (parse_body x body))) read.format
      ∙ sym (named plant (ap (id_fits plant) (sym (plant-is name n read.found)) ∙ sym e))
  under-read plant false e = other-plant plant (sym e)

-- ---- what is read, by the fields that the name has

abbrev pub read_by : Option (List ℕ) → List ℕ → List ℕ → Option Fields → Result Summary Cause
read_by plant name body None = Err Cause.Name
read_by plant name body (Some f) = reading_of (under_name (id_fits plant (plant_digits name)) f (plant_digits name) body)

-- 7: the name breaks its form
no_name : (plant : Option (List ℕ)) (name body : List ℕ) → parse_name name ≡ None → reading_of (read_file plant name body) ≡ Err Cause.Name
unfolding read_file reading_of
no_name plant name body e = rw e

pub read_as : (plant : Option (List ℕ)) (name body : List ℕ)
    → reading_of (read_file plant name body) ≡ read_by plant name body (name_read (parse_name name))
read_as plant name body = go (name_read (parse_name name)) refl
  where
    go : (o : Option Fields) → o ≡ name_read (parse_name name) → reading_of (read_file plant name body) ≡ read_by plant name body o
    go None e = no_name plant name body (read-broken (parse_name name) e)
    go (Some f) e =
        sym (under-read name body f (read_named (parse_name name) f e) plant (id_fits plant (plant_digits name)) refl)

-- 301 is not taken; any other file is read for the plant
abbrev pub taken_by : List ℕ → List ℕ → List ℕ → Option Fields → Result Summary Cause
taken_by plant name body None = Err Cause.Name
taken_by plant name body (Some f) = need (is_schedule f.format) (Err Cause.Name) (reading_of (for_plant f plant name body))

taken : (plant name body : List ℕ) (o : Option Name) → parse_name name ≡ o
    → reading_of (take_file plant name body) ≡ taken_by plant name body (name_read o)
unfolding take_file reading_of
taken plant name body None e = rw e (no_name (Some plant) name body e)
taken plant name body (Some n) e = go (is_schedule n.format) refl
  where
    go : (t : Bool) → is_schedule n.format ≡ t → reading_of (take_file plant name body) ≡ taken_by plant name body (name_read (Some n))
    go true k = rw (e, k) (rw e at (read_as (Some plant) name body))
    go false k = rw (e, k) refl

pub take_as : (plant name body : List ℕ) → reading_of (take_file plant name body) ≡ taken_by plant name body (name_read (parse_name name))
take_as plant name body = taken plant name body (parse_name name) refl
