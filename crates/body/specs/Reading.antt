-- The names under which a body is read.
use Rattle.std.specs.Prelude.{ℕ, List, []}
use Rattle.rules.specs.Digits.{decimal}
use Rattle.rules.specs.Name.{Name}
use Rattle.rules.specs.Body.{Record, schedule}
use Rattle.rules.specs.File.{File}
use Rattle.rules.specs.declared.Format.{Format}

-- a name of these fields; the creation time does not matter to the reading of a body
abbrev pub name_of : Format → ℕ → List ℕ → Name
name_of f segment plant = record { format = f; segment = decimal 4 segment; plant = plant; created = [] }

abbrev pub schedule_file : Format → ℕ → List ℕ → List Record → File
schedule_file f segment plant rs = record { name = name_of f segment plant; body = schedule rs }
