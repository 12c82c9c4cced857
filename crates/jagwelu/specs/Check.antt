-- Soundness of a unit with its store, as a number: 0, 3 or 4.
use Rattle.std.specs.Prelude.{ℕ, List, [], ◌∷◌, Option, None, Some}
use Rattle.rules.specs.Causes.{number_of}
use Rattle.rules.specs.Table.{first_of}
use Rattle.rules.specs.declared.Cause.{Cause}
use Rattle.unit.specs.Rows.{length_row, sound_row}
use Rattle.unit.specs.declared.Unit.{Unit}

abbrev pub cause_number : Option Cause → ℕ
cause_number None = 0
cause_number (Some c) = number_of c

-- 3, then 4, of the rows that every call with a store looks at first
unfoldable pub check_number : Unit → List ℕ → ℕ
check_number u store = cause_number (first_of (length_row store ∷ sound_row u store ∷ []))
