-- Laws of a list of digits that is read by an index.
use Prim.Native.Nat.{ℕ, ◌+◌, ◌-◌, ◌*◌, ◌≤◌, ◌<◌}
use mathlib.Core.Path.{◌≡◌, refl}
use mathlib.Core.List.{List}
use native.Mathlib.Omega.{arith}
use lib.ListN.{length, get_or, drop_of_length-le}
use Rattle.rules.specs.Digits.{part, value_from, value}
use Rattle.laws.proofs.Bytes.{at_next}

module _ (s : List ℕ) (i : ℕ) where
  -- no digit, and one
  pub pair_none : length s ≤ i → 0 ≡ value (part s i 2)
  unfolding value_from
  pair_none h = rw (drop_of_length-le s h) refl

  pub pair_one : i < length s → length s - i < 2 → get_or s i 0 ≡ value (part s i 2)
  unfolding value_from
  pair_one h l =
      let end : length s ≤ i + 1 = omega arith in
      rw (at_next s i h, drop_of_length-le s end) (omega arith)

  -- two digits as a number
  pub pair_is : i + 2 ≤ length s → value (part s i 2) ≡ get_or s i 0 * 10 + get_or s (i + 1) 0
  unfolding value_from
  pair_is h =
      let h₀ : i < length s = omega arith in
      let h₁ : i + 1 < length s = omega arith in
      rw (at_next s i h₀, at_next s (i + 1) h₁) (omega arith)

  -- four digits from two pairs
  pub four_is : i + 4 ≤ length s → value (part s i 4) ≡ value (part s i 2) * 100 + value (part s (i + 2) 2)
  unfolding value_from
  four_is h =
      let h₀ : i < length s = omega arith in
      let h₁ : i + 1 < length s = omega arith in
      let h₂ : i + 2 < length s = omega arith in
      let h₃ : i + 3 < length s = omega arith in
      let e₁ : i + 1 + 1 ≡ i + 2 = omega arith in
      let e₂ : i + 2 + 1 ≡ i + 3 = omega arith in
      rw (at_next s i h₀, at_next s (i + 1) h₁, e₁, at_next s (i + 2) h₂, e₂, at_next s (i + 3) h₃) (omega arith)
