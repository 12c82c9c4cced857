-- The lister (01, Beside the unit): the line that it prints for its input.
use Rattle.std.specs.Prelude.{ℕ, ◌+◌, cond, List, [], ◌∷◌, ◌++◌, length, eqb, None}
use Rattle.rules.specs.Digits.{decimal, to_ascii}
use Rattle.rules.specs.Name.{format_number}
use Rattle.rules.specs.Body.{Record, Body, schedule, registration}
use Rattle.rules.specs.File.{Outcome, refuse, file, read_file}
use Rattle.rules.specs.Causes.{number_of}

-- 'a name, byte 0A, a body, split at the first 0A; without one, all of it is the name'
unfoldable pub name_part : List ℕ → List ℕ
name_part [] = []
name_part (x ∷ xs) = cond (eqb x 10) [] (x ∷ name_part xs)

unfoldable pub body_part : List ℕ → List ℕ
body_part [] = []
body_part (x ∷ xs) = cond (eqb x 10) xs (body_part xs)

-- a number as ASCII digits, without zeros before it; 20 digits say any number of 64 bits
unfoldable pub trim : List ℕ → List ℕ
trim [] = []
trim (d ∷ []) = d ∷ []
trim (d ∷ e ∷ ds) = cond (eqb d 0) (trim (e ∷ ds)) (d ∷ e ∷ ds)

abbrev pub numeral : ℕ → List ℕ
numeral n = to_ascii (trim (decimal 20 n))

-- the records of a body, and their rates; '301: 0 rates'
unfoldable pub total_rates : List Record → ℕ
total_rates [] = 0
total_rates (r ∷ rs) = length r.rates + total_rates rs

abbrev pub record_count : Body → ℕ
record_count (schedule rs) = length rs
record_count (registration plant result) = 1

abbrev pub rate_count : Body → ℕ
rate_count (schedule rs) = total_rates rs
rate_count (registration plant result) = 0

-- 'It prints `ok`, format, records, total rates, spaced, or `refused` and the number, then 0A'
unfoldable pub line_of : Outcome → List ℕ
line_of (refuse c) = 114 ∷ 101 ∷ 102 ∷ 117 ∷ 115 ∷ 101 ∷ 100 ∷ 32 ∷ (numeral (number_of c) ++ (10 ∷ []))
line_of (file f) =
    111 ∷ 107 ∷ 32 ∷ (numeral (format_number f.name.format)
    ++ (32 ∷ (numeral (record_count f.body) ++ (32 ∷ (numeral (rate_count f.body) ++ (10 ∷ []))))))

unfoldable pub line : List ℕ → List ℕ
line input = line_of (read_file None (name_part input) (body_part input))
