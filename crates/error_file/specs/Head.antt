-- The six bytes before the text (01, Beside the unit).
use Rattle.std.specs.Prelude.{ℕ, ◌≤◌, Bool, ◌&&◌, ◌||◌, List, length, get_or, eqb}
use Rattle.rules.specs.Digits.{part, all_ascii}

-- `0` to `9`
pub record Digit (x : ℕ) : Type 0 where
  pub low : 48 ≤ x
  pub high : x ≤ 57

-- '`E`, `1` or `0`, three digits, a space'
unfoldable pub has_head : List ℕ → Bool
has_head s =
    eqb (get_or s 0 0) 69
    && (eqb (get_or s 1 0) 48 || eqb (get_or s 1 0) 49)
    && all_ascii (part s 2 3)
    && eqb (get_or s 5 0) 32

-- what reading the code asks of a file
pub record Headed (s : List ℕ) : Type 0 where
  pub room : 6 ≤ length s
  pub first : Digit (get_or s 1 0)
  pub second : Digit (get_or s 2 0)
  pub third : Digit (get_or s 3 0)
  pub fourth : Digit (get_or s 4 0)
