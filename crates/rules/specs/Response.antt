-- A whole response from the modem (02, §1): its header lines, its file, its bytes, and the name and file that bytes carry.
use Rattle.std.specs.Prelude.{ℕ, zero, suc, Bool, true, false, cond, not, ◌&&◌, ◌||◌, List, [], ◌∷◌, ◌++◌, length, take, drop, leb, eqb, Option, None, Some}
use Rattle.rules.specs.Digits.{all_ascii, from_ascii, value, same_bytes}
use Rattle.rules.specs.File.{Outcome, refuse, take_file}
use Rattle.rules.specs.declared.Cause.{Cause}

-- ---- the boundary: '1 to 70 ASCII letters or digits, anything else breaks the form'

abbrev pub letter_or_digit : ℕ → Bool
letter_or_digit x = leb 48 x && leb x 57 || leb 65 x && leb x 90 || leb 97 x && leb x 122

unfoldable pub all_letters : List ℕ → Bool
all_letters [] = true
all_letters (x ∷ xs) = letter_or_digit x && all_letters xs

unfoldable pub lawful_boundary : List ℕ → Bool
lawful_boundary b = leb 1 (length b) && leb (length b) 70 && all_letters b

-- ---- lines: 'Lines end in bytes 0D 0A', and only that pair ends one

abbrev pub line_end : List ℕ
line_end = 13 ∷ 10 ∷ []

-- whether the pair stands at the front
abbrev pub pair_at : List ℕ → Bool
pair_at [] = false
pair_at (x ∷ []) = false
pair_at (x ∷ y ∷ s) = eqb x 13 && eqb y 10

-- whether it stands nowhere
unfoldable pub no_pair : List ℕ → Bool
no_pair [] = true
no_pair (x ∷ s) = not (pair_at (x ∷ s)) && no_pair s

abbrev pub not_empty : List ℕ → Bool
not_empty [] = false
not_empty (x ∷ s) = true

-- a header line is not empty, and has no end of a line in it
abbrev pub lawful_line : List ℕ → Bool
lawful_line l = not_empty l && no_pair l

unfoldable pub lawful_lines : List (List ℕ) → Bool
lawful_lines [] = true
lawful_lines (l ∷ ls) = lawful_line l && lawful_lines ls

unfoldable pub lines_bytes : List (List ℕ) → List ℕ
lines_bytes [] = []
lines_bytes (l ∷ ls) = l ++ (line_end ++ lines_bytes ls)

-- ---- what a line begins with, and what it has in it

unfoldable pub begins : List ℕ → List ℕ → Bool
begins p s = same_bytes (take (length p) s) p

-- the lines that begin with p; 'other lines are skipped'
unfoldable pub lines_with : List ℕ → List (List ℕ) → List (List ℕ)
lines_with p [] = []
lines_with p (l ∷ ls) = cond (begins p l) (l ∷ lines_with p ls) (lines_with p ls)

-- 'what follows the first' p
unfoldable pub behind : List ℕ → List ℕ → Option (List ℕ)
behind p [] = None
behind p (x ∷ s) = cond (begins p (x ∷ s)) (Some (drop (length p) (x ∷ s))) (behind p s)

-- 'spelt so, before a colon and a space': `Content-Length: `
abbrev pub content_length : List ℕ
content_length = 67 ∷ 111 ∷ 110 ∷ 116 ∷ 101 ∷ 110 ∷ 116 ∷ 45 ∷ 76 ∷ 101 ∷ 110 ∷ 103 ∷ 116 ∷ 104 ∷ 58 ∷ 32 ∷ []

-- `Content-Disposition: `
abbrev pub content_disposition : List ℕ
content_disposition =
    67 ∷ 111 ∷ 110 ∷ 116 ∷ 101 ∷ 110 ∷ 116 ∷ 45 ∷ 68 ∷ 105 ∷ 115 ∷ 112 ∷ 111 ∷ 115 ∷ 105 ∷ 116 ∷ 105 ∷ 111 ∷ 110 ∷ 58 ∷ 32 ∷ []

-- `filename=`
abbrev pub file_name : List ℕ
file_name = 102 ∷ 105 ∷ 108 ∷ 101 ∷ 110 ∷ 97 ∷ 109 ∷ 101 ∷ 61 ∷ []

-- 'The length is 1 to 6 decimal digits'
unfoldable pub length_in : List ℕ → Option ℕ
length_in d = cond (leb 1 (length d) && leb (length d) 6 && all_ascii d) (Some (value (from_ascii d))) None

-- 'must begin exactly one header line': of the lines that begin so, the length that the only one gives
abbrev pub only_length : List (List ℕ) → Option ℕ
only_length [] = None
only_length (l ∷ []) = length_in (drop (length content_length) l)
only_length (l ∷ m ∷ ls) = None

-- 'the name is what follows the first `filename=` in the Content-Disposition line, quotation marks included, to the line's end'
abbrev pub only_name : List (List ℕ) → Option (List ℕ)
only_name [] = None
only_name (l ∷ []) = behind file_name l
only_name (l ∷ m ∷ ls) = None

abbrev pub given_length : List (List ℕ) → Option ℕ
given_length ls = only_length (lines_with content_length ls)

abbrev pub given_name : List (List ℕ) → Option (List ℕ)
given_name ls = only_name (lines_with content_disposition ls)

-- ---- a response

pub record Response : Type 0 where
  pub lines : List (List ℕ)  -- the header lines
  pub file : List ℕ
  pub ended : Bool  -- whether one more 0D 0A follows

-- 'the file is exactly that long'
abbrev pub is_length : Option ℕ → ℕ → Bool
is_length None n = false
is_length (Some m) n = eqb m n

-- 'without one the form is broken'
abbrev pub is_name : Option (List ℕ) → Bool
is_name None = false
is_name (Some name) = true

unfoldable pub lawful_response : Response → Bool
lawful_response r = lawful_lines r.lines && is_length (given_length r.lines) (length r.file) && is_name (given_name r.lines)

-- the name of a lawful response
abbrev pub the_name : Option (List ℕ) → List ℕ
the_name None = []
the_name (Some name) = name

abbrev pub name_of : Response → List ℕ
name_of r = the_name (given_name r.lines)

-- ---- its bytes

abbrev pub hyphens : List ℕ
hyphens = 45 ∷ 45 ∷ []

-- 'The first line is `--` and the boundary'
abbrev pub opening : List ℕ → List ℕ
opening b = hyphens ++ (b ++ line_end)

-- '0D 0A, `--`, the boundary, `--`'
abbrev pub closing : List ℕ → List ℕ
closing b = line_end ++ (hyphens ++ (b ++ hyphens))

-- 'and at most one more 0D 0A'
abbrev pub last_end : Bool → List ℕ
last_end true = line_end
last_end false = []

-- 'then come headers, an empty line, the file' and its end
unfoldable pub encode_response : List ℕ → Response → List ℕ
encode_response b r = opening b ++ (lines_bytes r.lines ++ (line_end ++ (r.file ++ (closing b ++ last_end r.ended))))

-- ---- reading

-- what follows p where it stands at the front
unfoldable pub strip : List ℕ → List ℕ → Option (List ℕ)
strip p s = cond (begins p s) (Some (drop (length p) s)) None

abbrev pub before_byte : ℕ → Option (List ℕ × List ℕ) → Option (List ℕ × List ℕ)
before_byte x None = None
before_byte x (Some q) = Some (x ∷ q.0, q.1)

-- the first line, and what follows its end
unfoldable pub line_of : List ℕ → Option (List ℕ × List ℕ)
line_of [] = None
line_of (x ∷ s) = cond (pair_at (x ∷ s)) (Some ([], drop 1 s)) (before_byte x (line_of s))

abbrev pub before_line : List ℕ → Option (List (List ℕ) × List ℕ) → Option (List (List ℕ) × List ℕ)
before_line l None = None
before_line l (Some q) = Some (l ∷ q.0, q.1)

-- the first line ends the headers where it is empty; `more` reads the headers after it
abbrev pub line_then : (List ℕ → Option (List (List ℕ) × List ℕ)) → List ℕ → List ℕ → Option (List (List ℕ) × List ℕ)
line_then more [] rest = Some ([], rest)
line_then more (x ∷ l) rest = before_line (x ∷ l) (more rest)

abbrev pub headers_then : (List ℕ → Option (List (List ℕ) × List ℕ)) → Option (List ℕ × List ℕ) → Option (List (List ℕ) × List ℕ)
headers_then more None = None
headers_then more (Some q) = line_then more q.0 q.1

-- the header lines before the first empty one, of fewer than k, and what follows it
unfoldable pub headers_of : ℕ → List ℕ → Option (List (List ℕ) × List ℕ)
headers_of zero s = None
headers_of (suc k) s = headers_then (headers_of k) (line_of s)

-- there are fewer lines than bytes
abbrev pub headers_in : List ℕ → Option (List (List ℕ) × List ℕ)
headers_in s = headers_of (length s) s

-- what may follow the file: whether one more 0D 0A does
unfoldable pub end_in : List ℕ → List ℕ → Option Bool
end_in b s = cond (same_bytes s (closing b)) (Some false) (cond (same_bytes s (closing b ++ line_end)) (Some true) None)

abbrev pub response_with : List (List ℕ) → List ℕ → Option Bool → Option Response
response_with ls file None = None
response_with ls file (Some e) = Some (record { lines = ls; file = file; ended = e })

-- n bytes are the file, whatever they are
abbrev pub file_then : List ℕ → List (List ℕ) → List ℕ → Option ℕ → Option Response
file_then b ls s None = None
file_then b ls s (Some n) = cond (leb n (length s) && is_name (given_name ls)) (response_with ls (take n s) (end_in b (drop n s))) None

abbrev pub headers_next : List ℕ → Option (List (List ℕ) × List ℕ) → Option Response
headers_next b None = None
headers_next b (Some q) = file_then b q.0 q.1 (given_length q.0)

abbrev pub opened_then : List ℕ → Option (List ℕ) → Option Response
opened_then b None = None
opened_then b (Some s) = headers_next b (headers_in s)

-- the response that these bytes are
unfoldable pub read_response : List ℕ → List ℕ → Option Response
read_response b s = cond (lawful_boundary b) (opened_then b (strip (opening b) s)) None

abbrev pub name_and_file : Option Response → Option (List ℕ × List ℕ)
name_and_file None = None
name_and_file (Some r) = Some (name_of r, r.file)

-- its name and its file; none where the bytes break the form
unfoldable pub parse_response : List ℕ → List ℕ → Option (List ℕ × List ℕ)
parse_response b s = name_and_file (read_response b s)

-- ---- taken

-- 'A response that breaks this form is refused with 17'; 'Taking a response is then taking that name and file'
abbrev pub take_parsed : List ℕ → Option (List ℕ × List ℕ) → Outcome
take_parsed plant None = refuse Cause.Response
take_parsed plant (Some q) = take_file plant q.0 q.1

unfoldable pub take_response : List ℕ → List ℕ → List ℕ → Outcome
take_response plant boundary s = take_parsed plant (parse_response boundary s)
