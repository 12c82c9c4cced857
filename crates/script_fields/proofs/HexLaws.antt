-- Laws of hex digits: digits tested and read pair by pair, and bytes spelt in pairs of digits.
use Prim.Native.Nat.{ℕ, zero, suc, ◌+◌, ◌*◌, ◌/◌, ◌%◌, ◌≤◌, ◌<◌}
use mathlib.Core.Path.{◌≡◌, ◌∙◌, refl, sym}
use mathlib.Core.Bool.{Bool, true, ◌&&◌, false, and-true, and-false}
use mathlib.Core.List.{List, [], ◌∷◌}
use native.Mathlib.Omega.{arith}
use lib.Dec.{eqb}
use lib.ListN.{length, get_or, drop, drop_of_length-le}
use Rattle.std.specs.List.{list_all}
use Rattle.script_fields.specs.Hex.{value, is_hex_digit, all_hex, hex_bytes, glyph, hex_text}

-- ---- the test, pair by pair and digit by digit

four : (a b c d : Bool) → ((a && b) && (c && d)) ≡ ((a && (b && c)) && d)
four true true c d = refl
four true false c d = refl
four false b c d = refl

pub hex-pairs : (s : List ℕ) → all_hex s ≡ (list_all is_hex_digit s && eqb (length s % 2) 0)
unfolding all_hex
hex-pairs [] = refl
hex-pairs (x ∷ []) = sym (and-false _)
hex-pairs (x ∷ y ∷ s) =
    let e : suc (suc (length s)) % 2 ≡ length s % 2 = omega arith in
    rw (hex-pairs s, e) (four (is_hex_digit x) (is_hex_digit y) (list_all is_hex_digit s) (eqb (length s % 2) 0))

-- the flag once every digit is tested
pub hex-ends : (all : Bool) (s : List ℕ) (i : ℕ) → length s ≤ i → list_all is_hex_digit s ≡ (all && list_all is_hex_digit (drop i s))
    → all_hex s ≡ (all && eqb (length s % 2) 0)
hex-ends all s i h e =
    let f : list_all is_hex_digit s ≡ all = e ∙ rw drop_of_length-le (and-true all) in
    rw (hex-pairs s, f) refl

-- ---- the bytes

pub hex-length : (s : List ℕ) → length (hex_bytes s) ≡ length s / 2
unfolding hex_bytes
hex-length [] = refl
hex-length (x ∷ []) = refl
hex-length (x ∷ y ∷ s) = omega (arith, hex-length s)

pub hex-byte : (s : List ℕ) (i : ℕ) → i < length s / 2 → get_or (hex_bytes s) i 0 ≡ value (get_or s (2 * i) 0) * 16 + value (get_or s (2 * i + 1) 0)
unfolding hex_bytes
hex-byte [] i h = absurd (omega arith)
hex-byte (x ∷ []) i h = absurd (omega arith)
hex-byte (x ∷ y ∷ s) zero h = refl
hex-byte (x ∷ y ∷ s) (suc i) h =
    let e : 2 * suc i ≡ suc (suc (2 * i)) = omega arith in
    let f : 2 * suc i + 1 ≡ suc (suc (2 * i + 1)) = omega arith in
    rw (f, e) (hex-byte s i (omega arith))

-- ---- bytes as digits

pub text-length : (s : List ℕ) → length (hex_text s) ≡ 2 * length s
unfolding hex_text
text-length [] = refl
text-length (x ∷ s) = omega (arith, text-length s)

pub high_digit : (s : List ℕ) (i : ℕ) → i < length s → get_or (hex_text s) (2 * i) 0 ≡ glyph (get_or s i 0 / 16)
unfolding hex_text
high_digit [] i h = absurd (omega arith)
high_digit (x ∷ s) zero h = refl
high_digit (x ∷ s) (suc i) h =
    let e : 2 * suc i ≡ suc (suc (2 * i)) = omega arith in
    rw e (high_digit s i (omega arith))

pub low_digit : (s : List ℕ) (i : ℕ) → i < length s → get_or (hex_text s) (2 * i + 1) 0 ≡ glyph (get_or s i 0 % 16)
unfolding hex_text
low_digit [] i h = absurd (omega arith)
low_digit (x ∷ s) zero h = refl
low_digit (x ∷ s) (suc i) h =
    let e : 2 * suc i + 1 ≡ suc (suc (2 * i + 1)) = omega arith in
    rw e (low_digit s i (omega arith))
