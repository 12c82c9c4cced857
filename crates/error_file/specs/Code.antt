-- The code of an error file.
use Rattle.std.specs.Prelude.{ℕ, List}
use Rattle.rules.specs.Digits.{part, value, from_ascii}

-- the four digits after the E as a number
unfoldable pub code_in : List ℕ → ℕ
code_in s = value (from_ascii (part s 1 4))
