-- A number: 'Numbers are decimal and may be any u64'. 'A number that is not decimal or above u64: `unknown`'.
use Rattle.std.specs.Prelude.{ℕ, ◌+◌, ◌-◌, ◌*◌, Bool, cond, ◌&&◌, List, [], ◌∷◌, leb, Option, Some, None}

-- the highest u64
abbrev pub highest : ℕ
highest = 18446744073709551615

abbrev pub is_digit : ℕ → Bool
is_digit x = leb 48 x && leb x 57

-- a number with one more digit behind it
unfoldable pub decimal_step : ℕ → ℕ → Option ℕ
decimal_step n x = cond (is_digit x && leb (n * 10 + (x - 48)) highest) (Some (n * 10 + (x - 48))) None

abbrev pub number_step : Option ℕ → ℕ → Option ℕ
number_step None x = None
number_step (Some n) x = decimal_step n x

-- a number with these digits behind it
unfoldable pub decimal_from : List ℕ → Option ℕ → Option ℕ
decimal_from [] n = n
decimal_from (x ∷ xs) n = decimal_from xs (number_step n x)

-- no digit is no number
unfoldable pub number_of : List ℕ → Option ℕ
number_of [] = None
number_of (x ∷ xs) = decimal_from (x ∷ xs) (Some 0)
