-- The records of a body as a reader walks them: their form and their fields apart, so that what follows looks at the fields alone.
use Rattle.std.specs.Prelude.{ℕ, zero, suc, ◌+◌, ◌≤◌, ◌≡◌, Bool, true, cond, ◌&&◌, List, [], ◌∷◌, length, get_or, drop, leb, eqb}
use Rattle.rules.specs.Digits.{part, all_digits}
use Rattle.rules.specs.Body.{Record, tail_digits, rates_of, size_of, record_shape, record_at}
use Rattle.rules.specs.declared.Format.{Format}
use Rattle.layout.specs.Places.{records_place, plant_digits, count_place, rates_place}
use Rattle.layout.specs.Records.{count_at}
use Rattle.layout.specs.declared.walk.Records.{Records}

-- whether s is k records; 'Nothing follows'
unfoldable pub shaped : Format → ℕ → List ℕ → Bool
shaped f zero s = eqb (length s) 0
shaped f (suc k) s = record_shape f s && shaped f k (drop (size_of f s) s)

-- the k records that stand in s
unfoldable pub records_from : Format → ℕ → List ℕ → List Record
records_from f zero s = []
records_from f (suc k) s = record_at f s ∷ records_from f k (drop (size_of f s) s)

-- those of k records in s that are all there
unfoldable pub whole_from : Format → ℕ → List ℕ → List Record
whole_from f zero s = []
whole_from f (suc k) s = cond (leb (size_of f s) (length s)) (record_at f s ∷ whole_from f k (drop (size_of f s) s)) []

-- whether what a walk has left is its records, and those that it gives
abbrev pub shaped_left : Records → Bool
shaped_left it = shaped it.format it.left it.rest.now

abbrev pub records_left : Records → List Record
records_left it = whole_from it.format it.left it.rest.now

-- where record k of a body starts: the first after the 6-digit count, each other where the one before it ends
unfoldable pub record_start : Format → List ℕ → ℕ → ℕ
record_start f body zero = records_place
record_start f body (suc k) = record_start f body k + size_of f (drop (record_start f body k) body)

-- a record stands at the front of s
pub record Whole (f : Format) (s : List ℕ) : Type 0 where
  pub few : rates_of s ≤ 99999
  pub room : rates_place + rates_of s + tail_digits f ≤ length s
  pub head : all_digits (part s 0 count_place) ≡ true
  pub tail : all_digits (part s (rates_place + rates_of s) (tail_digits f)) ≡ true

-- n and z are the rate count and the length of the record at the front of s, as its digits say them; five bytes of 255 say 2,833,305
pub record Sized (f : Format) (s : List ℕ) (n z : ℕ) : Type 0 where
  pub rates : n ≡ count_at s
  pub size : z ≡ rates_place + n + tail_digits f
  pub few : n ≤ 2833305

-- '301: count 1, plant ID, result 0 registered or 1 not': whether s is what follows the count
unfoldable pub registered : List ℕ → Bool
registered s = eqb (length s) (plant_digits + 1) && all_digits (part s 0 plant_digits) && leb (get_or s plant_digits 0) 1
