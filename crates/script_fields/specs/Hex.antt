-- Hex digits: two to a byte, the high one first; 'odd or non-hex digits (both cases are read): `unknown`'.
use Rattle.std.specs.Prelude.{ℕ, ◌+◌, ◌-◌, ◌*◌, ◌/◌, ◌%◌, Bool, true, false, cond, ◌&&◌, List, [], ◌∷◌, leb, ltb, Option, Some, None, is_some, unwrap_or}

-- what a digit stands for
unfoldable pub nibble : ℕ → Option ℕ
nibble x =
    cond (leb 48 x && leb x 57) (Some (x - 48))
    (cond (leb 65 x && leb x 70) (Some (x - 65 + 10))
    (cond (leb 97 x && leb x 102) (Some (x - 97 + 10)) None))

abbrev pub is_hex_digit : ℕ → Bool
is_hex_digit x = is_some (nibble x)

-- whether these are digits, and two for every byte
unfoldable pub all_hex : List ℕ → Bool
all_hex [] = true
all_hex (x ∷ []) = false
all_hex (x ∷ y ∷ s) = is_hex_digit x && is_hex_digit y && all_hex s

-- the number of a byte that is a digit
abbrev pub value : ℕ → ℕ
value x = unwrap_or (nibble x) 0

-- the bytes that they stand for
unfoldable pub hex_bytes : List ℕ → List ℕ
hex_bytes [] = []
hex_bytes (x ∷ []) = []
hex_bytes (x ∷ y ∷ s) = (value x * 16 + value y) ∷ hex_bytes s

-- a number below 16 as a digit, in small letters
abbrev pub glyph : ℕ → ℕ
glyph d = cond (ltb d 10) (48 + d) (97 + (d - 10))

-- bytes in hex
unfoldable pub hex_text : List ℕ → List ℕ
hex_text [] = []
hex_text (x ∷ s) = glyph (x / 16) ∷ glyph (x % 16) ∷ hex_text s
