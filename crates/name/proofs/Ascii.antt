-- Laws of ASCII digits: the number that four of them stand for.
use Rattle.std.specs.Prelude.{Some}
use Prim.Native.Nat.{ℕ, ◌-◌, ◌≤◌, ◌<◌}
use mathlib.Core.Path.{◌≡◌, refl}
use mathlib.Core.Bool.{true}
use mathlib.Core.List.{List}
use native.Mathlib.Omega.{arith}
use native.Mathlib.Nat.{pow-le-pow_right, lt_of_lt_of_le}
use lib.Dec.{lit<}
use lib.ListN.{length, length-map}
use borrow.Author.Tests.{le-leb}
use Rattle.rules.specs.Digits.{value, all_ascii, from_ascii}
use Rattle.laws.proofs.Bytes.{ascii-digits, value-small}
use Rattle.digits.specs.Decimal.{ascii_of}

-- at most four are a number below 10,000
module _ (s : List ℕ) (short : length s ≤ 4) (ascii : all_ascii s ≡ true) where
  pub four_digits : value (from_ascii s) < 10000
  four_digits = lt_of_lt_of_le (value-small (from_ascii s) (length s) (length-map s (λ x. x - 48)) (ascii-digits s ascii)) (pow-le-pow_right (lit< tt) short)

  pub number_is : ascii_of s ≡ Some (value (from_ascii s))
  unfolding ascii_of
  number_is = rw (le-leb (length s) 14 (omega arith), ascii) refl
