-- The plant (01, Time, plant, settings): its ID, its MAC address, its settings, and percent of the inverter from percent of C.
use Rattle.rules.specs.Causes.{Answer}
use Rattle.std.specs.Prelude.{ℕ, suc, ◌+◌, ◌*◌, ◌/◌, ◌%◌, min, Bool, true, cond, ◌&&◌, ◌||◌, List, [], ◌∷◌, length, get_or, take, leb, eqb, Ok, Err}
use Rattle.rules.specs.Digits.{digits}
use Rattle.rules.specs.declared.Cause.{Cause}

-- 'the first 25 times weights 1, 3, 5, 7, 9 repeating, summed'
abbrev pub weights : List ℕ
weights = 1 ∷ 3 ∷ 5 ∷ 7 ∷ 9 ∷ []

-- the weighted sum of digits of which the first stands at place i
unfoldable pub weighted_sum : ℕ → List ℕ → ℕ
weighted_sum i [] = 0
weighted_sum i (d ∷ ds) = d * get_or weights (i % 5) 0 + weighted_sum (suc i) ds

-- 'the last digit of the sum is digit 26'
unfoldable pub check_digit : List ℕ → ℕ
check_digit id = weighted_sum 0 (take 25 id) % 10

-- digit 26
abbrev pub last_digit : List ℕ → ℕ
last_digit id = get_or id 25 0

unfoldable pub plant_id : List ℕ → Bool
plant_id id = digits 26 id && eqb (last_digit id) (check_digit id)

-- '12 ASCII bytes 0-9 or A-F'
abbrev pub hex_byte : ℕ → Bool
hex_byte x = leb 48 x && leb x 57 || leb 65 x && leb x 70

unfoldable pub all_hex : List ℕ → Bool
all_hex [] = true
all_hex (x ∷ xs) = hex_byte x && all_hex xs

unfoldable pub mac_address : List ℕ → Bool
mac_address s = eqb (length s) 12 && all_hex s

-- panel and inverter capacity in W, and N, the ramp minutes
pub record Settings : Type 0 where
  pub panel : ℕ
  pub inverter : ℕ
  pub minutes : ℕ

abbrev pub capacity : ℕ → Bool
capacity w = leb 1 w && leb w 2000000

abbrev pub ramp_minutes : ℕ → Bool
ramp_minutes n = leb 5 n && leb n 10

unfoldable pub valid_settings : Settings → Bool
valid_settings s = capacity s.panel && capacity s.inverter && ramp_minutes s.minutes

-- C, 'the lesser capacity'
abbrev pub contracted : Settings → ℕ
contracted s = min s.panel s.inverter

-- 'A rate r (percent of C) becomes p = floor(r × C ÷ P) percent of P'; P is the inverter's capacity
unfoldable pub percent : Settings → ℕ → ℕ
percent s r = r * contracted s / s.inverter

-- 'command at most 6,000 × N': 100% is 6,000 × N parts, one percent 60 × N
abbrev pub parts_of : Settings → ℕ → ℕ
parts_of s p = 60 * s.minutes * p

abbrev pub full_command : Settings → ℕ
full_command s = 6000 * s.minutes

-- installing 'refuses only where cause 1 or 2 applies'
unfoldable pub installing : List ℕ → List ℕ → Settings → Answer
installing id mac s =
    cond (plant_id id)
    (cond (mac_address mac && valid_settings s) (Ok tt) (Err Cause.Setting))
    (Err Cause.PlantId)
