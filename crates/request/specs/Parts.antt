-- What a request is made of once its parts are checked.
use Rattle.std.specs.Prelude.{ℕ, ◌≤◌, ◌≡◌, true, List, length}
use Rattle.rules.specs.Digits.{all_digits}

-- 26 digits, 12 and 4 bytes, and room for 84
pub record Parts (id mac segment out : List ℕ) : Type 0 where
  pub id-length : length id ≡ 26
  pub id-digits : all_digits id ≡ true
  pub mac-length : length mac ≡ 12
  pub segment-length : length segment ≡ 4
  pub room : 84 ≤ length out
