-- Digits: bytes of value 0 to 9, the highest first (01, Names and bodies), and the same in ASCII.
use Rattle.std.specs.Prelude.{ℕ, zero, suc, ◌+◌, ◌-◌, ◌*◌, ◌/◌, ◌%◌, Bool, true, false, ◌&&◌, List, [], ◌∷◌, ◌++◌, map, length, take, drop, leb, eqb}

-- the n bytes of s from place i on
abbrev pub part : List ℕ → ℕ → ℕ → List ℕ
part s i n = take n (drop i s)

-- whether each byte is at most `most`
unfoldable pub all_at_most : ℕ → List ℕ → Bool
all_at_most most [] = true
all_at_most most (x ∷ xs) = leb x most && all_at_most most xs

-- whether each byte is a digit
abbrev pub all_digits : List ℕ → Bool
all_digits = all_at_most 9

-- whether s is k digits
abbrev pub digits : ℕ → List ℕ → Bool
digits k s = eqb (length s) k && all_digits s

-- the number that `acc` and then the digits stand for
unfoldable pub value_from : ℕ → List ℕ → ℕ
value_from acc [] = acc
value_from acc (d ∷ ds) = value_from (acc * 10 + d) ds

abbrev pub value : List ℕ → ℕ
value = value_from 0

-- n as k digits
unfoldable pub decimal : ℕ → ℕ → List ℕ
decimal zero n = []
decimal (suc k) n = decimal k (n / 10) ++ (n % 10 ∷ [])

-- whether each byte is an ASCII digit
unfoldable pub all_ascii : List ℕ → Bool
all_ascii [] = true
all_ascii (x ∷ xs) = leb 48 x && leb x 57 && all_ascii xs

-- digits in ASCII, and back
abbrev pub to_ascii : List ℕ → List ℕ
to_ascii = map (λ d. d + 48)

abbrev pub from_ascii : List ℕ → List ℕ
from_ascii = map (λ x. x - 48)

-- whether two byte strings are the same
unfoldable pub same_bytes : List ℕ → List ℕ → Bool
same_bytes [] [] = true
same_bytes [] (y ∷ ys) = false
same_bytes (x ∷ xs) [] = false
same_bytes (x ∷ xs) (y ∷ ys) = eqb x y && same_bytes xs ys
