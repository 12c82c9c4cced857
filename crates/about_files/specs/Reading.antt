-- Reading is exact: a name and body are accepted exactly when they are the bytes of a lawful file.
-- Each statement is proved under its own name in small letters: `ReadExactly` is `read-exactly` of proofs/Reading.antt, the parts are in Name and Body.
use Rattle.std.specs.Prelude.{ℕ, ◌≡◌, Bool, true, false, List, ◌↔◌, length, Option, None, Some}
use Rattle.rules.specs.Plant.{plant_id}
use Rattle.rules.specs.Name.{Name, parse_name, encode_name, lawful_name}
use Rattle.rules.specs.Body.{Record, Body, parse_records, parse_body, encode_records, encode_body, form_of_record, form_of_body, every, is_schedule}
use Rattle.rules.specs.File.{File, Outcome, refuse, file, read_file, take_file, lawful, dates_hold, rates_hold, checksums_hold, plants_hold}
use Rattle.rules.specs.declared.Format.{Format}

-- ---- the parts

-- a name is read as n exactly when it is the bytes of n, and n's fields are lawful
abbrev pub NameExactly : Type 0
NameExactly = (s : List ℕ) (n : Name) → (parse_name s ≡ Some n) ↔ ((s ≡ encode_name n) × (lawful_name n ≡ true))

-- k records are read as rs exactly when the bytes are those of rs, and nothing more, and each record of rs has its form
abbrev pub RecordsExactly : Type 0
RecordsExactly =
    (f : Format) (k : ℕ) (s : List ℕ) (rs : List Record)
    → (parse_records f k s ≡ Some rs) ↔ ((s ≡ encode_records rs) × (length rs ≡ k) × (every (form_of_record f) rs ≡ true))

-- a body is read as b exactly when it is the bytes of b, and b has the format's form
abbrev pub BodyExactly : Type 0
BodyExactly = (f : Format) (s : List ℕ) (b : Body) → (parse_body f s ≡ Some b) ↔ ((s ≡ encode_body b) × (form_of_body f b ≡ true))

-- ---- the whole

-- name and body are the bytes of f, and f's fields are lawful for that plant, or for none
pub record LawfulBytes (plant : Option (List ℕ)) (name body : List ℕ) (f : File) : Type 0 where
  pub name_bytes : name ≡ encode_name f.name
  pub body_bytes : body ≡ encode_body f.body
  pub fields : lawful plant f ≡ true

-- the reader gives the file f exactly for the bytes of f, and only if f is lawful
abbrev pub ReadExactly : Type 0
ReadExactly = (plant : Option (List ℕ)) (name body : List ℕ) (f : File) → (read_file plant name body ≡ file f) ↔ LawfulBytes plant name body f

-- ---- what follows

abbrev pub accepted : Outcome → Bool
accepted (refuse c) = false
accepted (file f) = true

-- a name and body are accepted exactly when they are the bytes of a lawful file
abbrev pub AcceptedExactly : Type 0
AcceptedExactly =
    (plant : Option (List ℕ)) (name body : List ℕ)
    → (accepted (read_file plant name body) ≡ true) ↔ ((f : File) × LawfulBytes plant name body f)

-- and refused exactly when no lawful file has these bytes
abbrev pub RefusedExactly : Type 0
RefusedExactly =
    (plant : Option (List ℕ)) (name body : List ℕ)
    → (accepted (read_file plant name body) ≡ false) ↔ ((f : File) → LawfulBytes plant name body f → ⊥)

-- no two lawful files have the same bytes
abbrev pub OneFile : Type 0
OneFile = (plant : Option (List ℕ)) (name body : List ℕ) (f g : File) → LawfulBytes plant name body f → LawfulBytes plant name body g → f ≡ g

-- the rules that hold with a plant and without, for the causes 7, 9, 10, 11, 12 and 13
pub record Rules (f : File) : Type 0 where
  pub name : lawful_name f.name ≡ true
  pub form : form_of_body f.name.format f.body ≡ true
  pub dates : dates_hold f.name f.body ≡ true
  pub rates : rates_hold f.body ≡ true
  pub checksums : checksums_hold f.body ≡ true
  pub plants : plants_hold f.name f.body ≡ true

-- name and body are the bytes of f, and f keeps these rules
pub record FileBytes (name body : List ℕ) (f : File) : Type 0 where
  pub name_bytes : name ≡ encode_name f.name
  pub body_bytes : body ≡ encode_body f.body
  pub rules : Rules f

-- without a plant, the name's ID has its check digit
abbrev pub ReadWithoutPlant : Type 0
ReadWithoutPlant = (name body : List ℕ) (f : File) → (read_file None name body ≡ file f) ↔ (FileBytes name body f × (plant_id f.name.plant ≡ true))

-- with a plant, the name's ID is the plant's
abbrev pub ReadWithPlant : Type 0
ReadWithPlant = (plant name body : List ℕ) (f : File) → (read_file (Some plant) name body ≡ file f) ↔ (FileBytes name body f × (f.name.plant ≡ plant))

-- a unit takes what reads well with its plant, except 301
abbrev pub TakenExactly : Type 0
TakenExactly =
    (plant name body : List ℕ) (f : File)
    → (take_file plant name body ≡ file f) ↔ (LawfulBytes (Some plant) name body f × (is_schedule f.name.format ≡ true))
