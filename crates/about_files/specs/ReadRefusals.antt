-- Reading's refusals: a name and body are refused with the lowest row of 01's table that applies, and read exactly where none does.
-- Proved in proofs/ReadRefusals.antt: `read-refuses`, `read-accepts`, `take-refuses` and `take-accepts`.
use Rattle.std.specs.Prelude.{ℕ, ◌≡◌, false, List, ◌↔◌, Option, Some}
use Rattle.rules.specs.Name.{parse_name}
use Rattle.rules.specs.Body.{parse_body}
use Rattle.rules.specs.File.{File, refuse, file, read_file, take_file}
use Rattle.rules.specs.Table.{applies_in, Lowest}
use Rattle.rules.specs.Rows.{read_rows, taken_rows}
use Rattle.rules.specs.declared.Cause.{Cause}

-- f is what name and body parse as
pub record Parsed (name body : List ℕ) (f : File) : Type 0 where
  pub name_is : parse_name name ≡ Some f.name
  pub body_is : parse_body f.name.format body ≡ Some f.body

abbrev pub ReadRefuses : Type 0
ReadRefuses =
    (plant : Option (List ℕ)) (name body : List ℕ) (c : Cause) → (read_file plant name body ≡ refuse c) ↔ Lowest (read_rows plant name body) c

-- and a file is read exactly when no row applies
abbrev pub ReadAccepts : Type 0
ReadAccepts =
    (plant : Option (List ℕ)) (name body : List ℕ) (f : File)
    → (read_file plant name body ≡ file f) ↔ (((c : Cause) → applies_in (read_rows plant name body) c ≡ false) × Parsed name body f)

-- the same where a unit takes it
abbrev pub TakeRefuses : Type 0
TakeRefuses = (plant name body : List ℕ) (c : Cause) → (take_file plant name body ≡ refuse c) ↔ Lowest (taken_rows plant name body) c

abbrev pub TakeAccepts : Type 0
TakeAccepts =
    (plant name body : List ℕ) (f : File)
    → (take_file plant name body ≡ file f) ↔ (((c : Cause) → applies_in (taken_rows plant name body) c ≡ false) × Parsed name body f)
