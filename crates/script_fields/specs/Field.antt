-- The words that stand for bytes. An empty word stands for none; `hex:` alone and `-` stand for no bytes.
use Rattle.std.specs.Prelude.{ℕ, ◌-◌, Bool, true, false, cond, ◌&&◌, List, [], ◌∷◌, ◌++◌, map, length, take, drop, leb, Some, None, Option}
use Rattle.rules.specs.Digits.{same_bytes}
use Rattle.script_words.specs.Number.{is_digit}
use Rattle.script_fields.specs.Hex.{all_hex, hex_bytes}

-- `hex:`
abbrev pub mark : List ℕ
mark = 104 ∷ 101 ∷ 120 ∷ 58 ∷ []

abbrev pub marked : List ℕ → Bool
marked s = leb 4 (length s) && same_bytes (take 4 s) mark

-- 'hex digits (`hex:` alone is empty)'
abbrev pub hex_field : List ℕ → Option (List ℕ)
hex_field s = cond (all_hex s) (Some (hex_bytes s)) None

-- 'in a plain ID 0-9 are their values, any other byte is itself'; of any other plain word each byte is itself
abbrev pub plain_byte : Bool → ℕ → ℕ
plain_byte digits x = cond (digits && is_digit x) (x - 48) x

abbrev pub given : Bool → List ℕ → Option (List ℕ)
given digits [] = None
given digits (x ∷ xs) = Some (map (plain_byte digits) (x ∷ xs))

-- 'ID, MAC, NAME, BOUNDARY and SEGMENT may each be `hex:` and hex digits'
unfoldable pub plain_field : Bool → List ℕ → Option (List ℕ)
plain_field digits s = cond (marked s) (hex_field (drop 4 s)) (given digits s)

abbrev pub bytes_field : List ℕ → Option (List ℕ)
bytes_field = plain_field false

abbrev pub digits_field : List ℕ → Option (List ℕ)
digits_field = plain_field true

-- 'HEX the bytes of a body or a response, - for none'
abbrev pub hex_given : List ℕ → Option (List ℕ)
hex_given [] = None
hex_given (x ∷ xs) = hex_field (x ∷ xs)

unfoldable pub body_field : List ℕ → Option (List ℕ)
body_field s = cond (same_bytes s (45 ∷ [])) (Some []) (hex_given s)

-- ---- bytes in so much room: how many they are, and what the buffer holds afterwards

abbrev pub field_in : ℕ → Option (List ℕ) → Option ℕ
field_in room None = None
field_in room (Some b) = cond (leb (length b) room) (Some (length b)) None

abbrev pub buffer_with : Option (List ℕ) → List ℕ → List ℕ
buffer_with None buffer = buffer
buffer_with (Some b) buffer = cond (leb (length b) (length buffer)) (b ++ drop (length b) buffer) buffer
