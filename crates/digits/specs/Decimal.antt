-- What the functions on digits answer where a slice is too long for them.
use Rattle.std.specs.Prelude.{ℕ, ◌+◌, ◌-◌, Bool, true, ◌&&◌, cond, List, [], ◌∷◌, map, length, leb, Option, Some, None}
use Rattle.rules.specs.Digits.{all_digits, all_ascii, from_ascii, value}
use Rattle.rules.specs.File.{sum}

-- at most 14 digits as a number
unfoldable pub decimal_of : List ℕ → Option ℕ
decimal_of s = cond (leb (length s) 14 && all_digits s) (Some (value s)) None

-- the same of ASCII digits
unfoldable pub ascii_of : List ℕ → Option ℕ
ascii_of s = cond (leb (length s) 14 && all_ascii s) (Some (value (from_ascii s))) None

-- whether each byte is a digit, where the byte `first` is the digit 0 and the nine after it are the others
unfoldable pub all_from : ℕ → List ℕ → Bool
all_from first [] = true
all_from first (x ∷ xs) = leb first x && leb x (first + 9) && all_from first xs

-- at most 14 of those digits as a number
unfoldable pub number_from : ℕ → List ℕ → Option ℕ
number_from first s = cond (leb (length s) 14 && all_from first s) (Some (value (map (λ x. x - first) s))) None

-- the sum of at most 99,999 rates, as many as a record's count can say; 0 of more
unfoldable pub rates_sum : List ℕ → ℕ
rates_sum s = cond (leb (length s) 99999) (sum s) 0
