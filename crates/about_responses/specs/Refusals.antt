-- A response's refusals: it is refused with the lowest row that applies, 17 before 7, and taken exactly where none does.
-- Proved in proofs/Refusals.antt: `response-refuses` and `response-accepts`.
use Rattle.std.specs.Prelude.{ℕ, ◌≡◌, false, List, ◌↔◌, Some}
use Rattle.rules.specs.File.{File, refuse, file}
use Rattle.rules.specs.Response.{parse_response, take_response}
use Rattle.rules.specs.Table.{applies_in, Lowest}
use Rattle.rules.specs.Rows.{response_rows}
use Rattle.rules.specs.declared.Cause.{Cause}
use Rattle.about_files.specs.ReadRefusals.{Parsed}

-- f is what the name and file that the bytes carry parse as
pub record CarriedFile (boundary s : List ℕ) (f : File) : Type 0 where
  pub name : List ℕ
  pub body : List ℕ
  pub carried : parse_response boundary s ≡ Some (name, body)
  pub parsed : Parsed name body f

abbrev pub ResponseRefuses : Type 0
ResponseRefuses =
    (plant boundary s : List ℕ) (c : Cause) → (take_response plant boundary s ≡ refuse c) ↔ Lowest (response_rows plant boundary s) c

-- and its file is taken exactly when no row applies
abbrev pub ResponseAccepts : Type 0
ResponseAccepts =
    (plant boundary s : List ℕ) (f : File)
    → (take_response plant boundary s ≡ file f) ↔ (((c : Cause) → applies_in (response_rows plant boundary s) c ≡ false) × CarriedFile boundary s f)
