-- A body that stands: its records after their count, and nothing more.
use Rattle.std.specs.Prelude.{ℕ, ◌≤◌, ◌≡◌, Bool, true, ◌&&◌, List, length, drop}
use Rattle.rules.specs.Body.{count_of, counted}
use Rattle.rules.specs.declared.Format.{Format}
use Rattle.layout.specs.Places.{records_place}
use Rattle.form.specs.Walk.{shaped, records_from}
use Rattle.about_files.specs.Writing.{end_to_end}

abbrev pub standing : Format → List ℕ → Bool
standing f body = counted f body && shaped f (count_of f) (drop records_place body)

pub record Stands (f : Format) (body : List ℕ) : Type 0 where
  pub counts : counted f body ≡ true
  pub records : shaped f (count_of f) (drop records_place body) ≡ true

-- the records that stand in s, and room for their rates
pub record RatesRoom (f : Format) (s : List ℕ) (room : ℕ) : Type 0 where
  pub records : shaped f (count_of f) s ≡ true
  pub enough : length (end_to_end (records_from f (count_of f) s)) ≤ room
