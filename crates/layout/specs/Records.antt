-- What the functions on a record answer for any bytes.
use Rattle.std.specs.Prelude.{ℕ, ◌+◌, ◌%◌, cond, List, length, leb}
use Rattle.rules.specs.Calendar.{month_in, day_in}
use Rattle.rules.specs.Body.{tail_digits, rates_of}
use Rattle.rules.specs.declared.Format.{Format}
use Rattle.digits.specs.Decimal.{rates_sum}
use Rattle.layout.specs.Places.{rates_place}

-- the rate count of the record at the front of s; 0 of fewer bytes than stand before its rates
unfoldable pub count_at : List ℕ → ℕ
count_at s = cond (leb rates_place (length s)) (rates_of s) 0

-- and its length
abbrev pub size_at : Format → List ℕ → ℕ
size_at f s = rates_place + count_at s + tail_digits f

-- 'sum of the rates modulo (month + day of the start)', as far as `rates_sum` sums
unfoldable pub checksum_for : List ℕ → List ℕ → ℕ
checksum_for start rates = rates_sum rates % (month_in start + day_in start)
