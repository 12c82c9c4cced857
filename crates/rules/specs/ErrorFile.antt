-- The error file (01, Beside the unit): its code, and its message text.
use Rattle.std.specs.Prelude.{ℕ, zero, suc, ◌-◌, Bool, true, false, cond, ◌&&◌, ◌||◌, List, [], ◌∷◌, length, get_or, drop, leb, eqb, Result, Ok, Err, Option, None, Some}
use Rattle.rules.specs.Digits.{part, value, all_ascii, from_ascii}
use Rattle.rules.specs.declared.Cause.{Cause}

-- between two numbers, both taken in
abbrev pub within : ℕ → ℕ → ℕ → Bool
within a b x = leb a x && leb x b

-- RFC 3629, 4: a character is a lead byte and the bytes that it asks for; the first of these lies between two bounds that
-- the lead byte sets, any other between 80 and BF

-- 00-7F, C2-DF, E0-EF and F0-F4
abbrev pub is_lead : ℕ → Bool
is_lead x = leb x 0x7F || within 0xC2 0xF4 x

-- how many bytes a lead byte asks for
unfoldable pub more : ℕ → ℕ
more x = cond (leb x 0x7F) 0 (cond (leb x 0xDF) 1 (cond (leb x 0xEF) 2 3))

-- 'E0 A0-BF', 'F0 90-BF'
unfoldable pub least : ℕ → ℕ
least x = cond (eqb x 0xE0) 0xA0 (cond (eqb x 0xF0) 0x90 0x80)

-- 'ED 80-9F', 'F4 80-8F'
unfoldable pub most : ℕ → ℕ
most x = cond (eqb x 0xED) 0x9F (cond (eqb x 0xF4) 0x8F 0xBF)

-- whether s goes on rightly where k bytes are still asked for, the first between low and high
unfoldable pub utf8_from : ℕ → ℕ → ℕ → List ℕ → Bool
utf8_from zero low high [] = true
utf8_from (suc k) low high [] = false
utf8_from zero low high (x ∷ xs) = is_lead x && utf8_from (more x) (least x) (most x) xs
utf8_from (suc k) low high (x ∷ xs) = within low high x && utf8_from k 0x80 0xBF xs

unfoldable pub utf8 : List ℕ → Bool
utf8 s = utf8_from 0 0x80 0xBF s

-- '`E`, `1` or `0`, three digits, a space, then 0 to 384 bytes of valid UTF-8 (RFC 3629)'
unfoldable pub is_error_file : List ℕ → Bool
is_error_file s =
    leb 6 (length s)
    && eqb (get_or s 0 0) 69
    && (eqb (get_or s 1 0) 48 || eqb (get_or s 1 0) 49)
    && all_ascii (part s 2 3)
    && eqb (get_or s 5 0) 32
    && leb (length s - 6) 384
    && utf8 (drop 6 s)

-- the four digits after the E as a number; none where the file breaks its form (cause 16)
unfoldable pub error_code : List ℕ → Option ℕ
error_code s = cond (is_error_file s) (Some (value (from_ascii (part s 1 4)))) None

-- the answer: the code, or 'error file breaks its form'
abbrev pub code_of : Option ℕ → Result ℕ Cause
code_of (Some n) = Ok n
code_of None = Err Cause.ErrorFile

-- 'the message text is handed back as that part of the file'; the empty part where the file breaks its form
unfoldable pub error_text : List ℕ → List ℕ
error_text s = cond (is_error_file s) (drop 6 s) []
