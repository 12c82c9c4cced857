-- Whole responses (02, §1) on small inputs: which name and file they carry, and which cause is the first that applies.
-- Their bytes are spelt out here once more, and not made by `encode_response`.
use Rattle.std.specs.Prelude.{ℕ, ◌≡◌, refl, true, cond, ◌&&◌, List, [], ◌∷◌, ◌++◌, length, replicate, Option, None, Some}
use Rattle.rules.specs.Digits.{all_at_most, all_ascii, value_from, decimal, to_ascii, same_bytes}
use Rattle.rules.specs.Calendar.{exists, seconds_of, start_slot, days_of_month, first_day}
use Rattle.rules.specs.Plant.{weighted_sum, check_digit, plant_id}
use Rattle.rules.specs.Name.{format_of, segment_fits, lawful_name, name_shape, parse_name, encode_name}
use Rattle.rules.specs.Body.{rates_of, size_of, record_shape, record_at, parse_records, counted, parse_body, encode_record, encode_records, encode_body, every}
use Rattle.rules.specs.File.{update_dates, dates_hold, rates_hold, sum, checksum_of, checksums_hold, plants_hold}
use Rattle.rules.specs.Response.{all_letters, lawful_boundary, begins, lines_with, behind, length_in, strip, line_of, headers_of, end_in, read_response, parse_response}
use Rattle.rules.specs.Table.{first_of}
use Rattle.rules.specs.Rows.{taken_rows, response_rows}
use Rattle.rules.specs.Examples.{Example, all_hold, line, plant_x}
use Rattle.rules.specs.RowExamples.{number_by, judged, name_for, update_name, update}

-- ---- pieces

-- a boundary, `aB9`
abbrev edge : List ℕ
edge = 97 ∷ 66 ∷ 57 ∷ []

abbrev end : List ℕ
end = 13 ∷ 10 ∷ []

abbrev dashes : List ℕ
dashes = 45 ∷ 45 ∷ []

-- `Content-Length`, and `content-length: ` as a line
abbrev length_word : List ℕ
length_word = 67 ∷ 111 ∷ 110 ∷ 116 ∷ 101 ∷ 110 ∷ 116 ∷ 45 ∷ 76 ∷ 101 ∷ 110 ∷ 103 ∷ 116 ∷ 104 ∷ []

abbrev lower_line : List ℕ
lower_line = 99 ∷ 111 ∷ 110 ∷ 116 ∷ 101 ∷ 110 ∷ 116 ∷ 45 ∷ 108 ∷ 101 ∷ 110 ∷ 103 ∷ 116 ∷ 104 ∷ 58 ∷ 32 ∷ end

-- `Content-Length: ` and these digits, as a line
abbrev sized : List ℕ → List ℕ
sized digits = length_word ++ (58 ∷ 32 ∷ (digits ++ end))

-- `Content-Disposition: ` and this rest
abbrev disposed : List ℕ → List ℕ
disposed rest =
    67 ∷ 111 ∷ 110 ∷ 116 ∷ 101 ∷ 110 ∷ 116 ∷ 45 ∷ 68 ∷ 105 ∷ 115 ∷ 112 ∷ 111 ∷ 115 ∷ 105 ∷ 116 ∷ 105 ∷ 111 ∷ 110 ∷ 58 ∷ 32 ∷ (rest ++ end)

-- `filename=` and this name
abbrev naming : List ℕ → List ℕ
naming name = 102 ∷ 105 ∷ 108 ∷ 101 ∷ 110 ∷ 97 ∷ 109 ∷ 101 ∷ 61 ∷ name

-- `Content-Type: a`
abbrev typed : List ℕ
typed = 67 ∷ 111 ∷ 110 ∷ 116 ∷ 101 ∷ 110 ∷ 116 ∷ 45 ∷ 84 ∷ 121 ∷ 112 ∷ 101 ∷ 58 ∷ 32 ∷ 97 ∷ end

-- the lines of a length and of a name
abbrev both : List ℕ → List ℕ → List ℕ
both digits name = sized digits ++ disposed (naming name)

-- the bytes between a boundary: these lines, this file, and what follows the last hyphens
abbrev between : List ℕ → List ℕ → List ℕ → List ℕ → List ℕ
between boundary lines file more =
    dashes ++ (boundary ++ (end ++ (lines ++ (end ++ (file ++ (end ++ (dashes ++ (boundary ++ (dashes ++ more)))))))))

-- ---- what is looked at

-- 1 where a parse gave this name and file
carries : List ℕ → List ℕ → Option (List ℕ × List ℕ) → ℕ
carries name file None = 0
carries name file (Some q) = cond (same_bytes q.0 name && same_bytes q.1 file) 1 0

-- 1 where these lines and this file carry this name and the file
carried : List ℕ → List ℕ → List ℕ → ℕ
carried name lines file = carries name file (parse_response edge (between edge lines file []))

-- the number of the first cause for plant X
caused : List ℕ → List ℕ → ℕ
caused lines file = judged (response_rows (plant_x 5) edge (between edge lines file []))

-- ---- a small response, of the file `1` and the name `n`, one of an update, and the paper's

abbrev one : List ℕ
one = 49 ∷ []

abbrev n : List ℕ
n = 110 ∷ []

abbrev quoted : List ℕ → List ℕ
quoted name = 34 ∷ (name ++ (34 ∷ []))

abbrev zeros : List ℕ
zeros = replicate 6 48

-- 0D 0A and the closing boundary
abbrev closed : List ℕ
closed = end ++ (dashes ++ (edge ++ dashes))

abbrev body : List ℕ
body = update 30 100 0 5

-- its length
abbrev digits : List ℕ
digits = to_ascii (decimal 3 (length body))

-- figure 4.3 of 002, whose text 000 has: `BOUNDARY`, a name, and a file of 19,681 bytes
abbrev paper_edge : List ℕ
paper_edge = 66 ∷ 79 ∷ 85 ∷ 78 ∷ 68 ∷ 65 ∷ 82 ∷ 89 ∷ []

abbrev paper_name : List ℕ
paper_name =
    50 ∷ 48 ∷ 49 ∷ 95 ∷ 57 ∷ 57 ∷ 57 ∷ 48 ∷ 95 ∷ 48 ∷ 50 ∷ 48 ∷ 48 ∷ 48 ∷ 48 ∷ 48 ∷ 48 ∷ 48 ∷ 50 ∷ 48 ∷ 48 ∷ 48 ∷ 48 ∷ 48 ∷ 48
    ∷ 50 ∷ 48 ∷ 48 ∷ 48 ∷ 48 ∷ 49 ∷ 48 ∷ 48 ∷ 48 ∷ 51 ∷ 95 ∷ 50 ∷ 48 ∷ 49 ∷ 56 ∷ 48 ∷ 49 ∷ 50 ∷ 49 ∷ 49 ∷ 55 ∷ 48 ∷ 48 ∷ 49 ∷ 49
    ∷ 46 ∷ 100 ∷ 97 ∷ 116 ∷ 97
    ∷ []

-- `19681`, `Content-Type: application/octet-stream` and `attachment; `
abbrev paper_lines : List ℕ
paper_lines =
    sized (49 ∷ 57 ∷ 54 ∷ 56 ∷ 49 ∷ [])
    ++ (67 ∷ 111 ∷ 110 ∷ 116 ∷ 101 ∷ 110 ∷ 116 ∷ 45 ∷ 84 ∷ 121 ∷ 112 ∷ 101 ∷ 58 ∷ 32
    ∷ 97 ∷ 112 ∷ 112 ∷ 108 ∷ 105 ∷ 99 ∷ 97 ∷ 116 ∷ 105 ∷ 111 ∷ 110 ∷ 47 ∷ 111 ∷ 99 ∷ 116 ∷ 101 ∷ 116 ∷ 45 ∷ 115 ∷ 116 ∷ 114 ∷ 101 ∷ 97 ∷ 109
    ∷ (end
    ++ disposed (97 ∷ 116 ∷ 116 ∷ 97 ∷ 99 ∷ 104 ∷ 109 ∷ 101 ∷ 110 ∷ 116 ∷ 59 ∷ 32 ∷ naming paper_name)))

abbrev paper_file : List ℕ
paper_file = replicate 19681 0

-- so many letters
abbrev letters : ℕ → List ℕ
letters k = replicate k 97

-- the cause with a boundary of this one byte
edge_of : ℕ → ℕ
edge_of x = judged (response_rows (plant_x 5) (x ∷ []) (between (x ∷ []) (both one n) one []))

pub response_table : List Example
response_table =
    line 0 (carried (update_name 5) (typed ++ both digits (update_name 5)) body) 1
    ∷ line 0 (caused (typed ++ both digits (update_name 5)) body) 0
    ∷ line 0 (judged (response_rows (plant_x 5) edge (between edge (both digits (update_name 5)) body end))) 0  -- one more 0D 0A
    ∷ line 8 (judged (response_rows (plant_x 4) edge (between edge (both digits (update_name 5)) body []))) 8
    ∷ line 0 (length (between paper_edge paper_lines paper_file [])) 19871
    ∷ line 0 (carries paper_name paper_file (parse_response paper_edge (between paper_edge paper_lines paper_file []))) 1
    ∷ line 0 (carried n (disposed (naming n) ++ (typed ++ sized one)) one) 1  -- the lines in another order
    ∷ line 0 (carried n (both (57 ∷ []) n) closed) 1  -- the closing boundary in the file
    ∷ line 0 (carried n (both zeros n) []) 1  -- 000000, and no byte
    ∷ line 9 (caused (both zeros (update_name 5)) []) 9
    ∷ line 0 (carried [] (both one []) one) 1  -- an empty name
    ∷ line 7 (caused (both one []) one) 7
    ∷ line 0 (carried (59 ∷ naming n) (both one (59 ∷ naming n)) one) 1  -- the first of two `filename=`
    ∷ line 0 (carried (quoted n) (both one (quoted n)) one) 1  -- quotation marks are of the name
    ∷ line 7 (caused (both digits (quoted (update_name 5))) body) 7
    ∷ line 17 (caused (sized one ++ both one (quoted n)) one) 17  -- two lengths, before a name that is 7
    ∷ line 17 (caused (both one n ++ disposed (naming n)) one) 17  -- two names
    ∷ line 17 (caused (length_word ++ (58 ∷ (one ++ (end ++ disposed (naming n))))) one) 17  -- no space after the colon
    ∷ line 17 (caused (length_word ++ (121 ∷ 58 ∷ 32 ∷ (one ++ (end ++ disposed (naming n))))) one) 17  -- `Content-Lengthy: 1`
    ∷ line 0 (carried n (lower_line ++ both one n) one) 1  -- spelt otherwise, and skipped
    ∷ line 17 (caused (both (48 ∷ zeros) n) []) 17  -- seven digits
    ∷ line 17 (caused (both [] n) []) 17  -- no digit
    ∷ line 17 (caused (both (32 ∷ one) n) one) 17  -- a blank before the digit
    ∷ line 17 (caused (both (43 ∷ one) n) one) 17  -- a sign
    ∷ line 17 (caused (both one n) (49 ∷ one)) 17  -- a longer file
    ∷ line 17 (caused (both one n) []) 17  -- a shorter one
    ∷ line 17 (judged (response_rows (plant_x 5) edge (between edge (both one n) one (end ++ end)))) 17  -- two more 0D 0A
    ∷ line 17 (caused (sized one ++ disposed n) one) 17  -- no `filename=`
    ∷ line 17 (caused (naming n ++ (end ++ (sized one ++ disposed n))) one) 17  -- `filename=` in another line
    ∷ line 17 (caused (both one n) (one ++ closed)) 17  -- the file is not sought by its end
    ∷ line 0 (carried n (both (52 ∷ []) n) (end ++ end)) 1  -- an empty line in the file
    ∷ line 0 (carried n (dashes ++ (edge ++ (end ++ both one n))) one) 1  -- the boundary among the headers
    ∷ line 0 (carried n (13 ∷ (end ++ both one n)) one) 1  -- a line of a lone 0D
    ∷ line 0 (carried (13 ∷ 110 ∷ 10 ∷ 13 ∷ []) (both one (13 ∷ 110 ∷ 10 ∷ 13 ∷ [])) one) 1  -- 0D and 0A alone end no line
    ∷ line 17 (caused [] one) 17  -- no headers
    ∷ line 17 (judged (response_rows (plant_x 5) [] (between [] (both one n) one []))) 17  -- no boundary
    ∷ line 17 (judged (response_rows (plant_x 5) (letters 71) (between (letters 71) (both one n) one []))) 17
    ∷ line 7 (judged (response_rows (plant_x 5) (letters 70) (between (letters 70) (both one n) one []))) 7
    ∷ line 17 (judged (response_rows (plant_x 5) (97 ∷ 45 ∷ []) (between (97 ∷ 45 ∷ []) (both one n) one []))) 17  -- a hyphen in it
    ∷ line 17 (edge_of 47) 17
    ∷ line 7 (edge_of 48) 7
    ∷ line 7 (edge_of 57) 7
    ∷ line 17 (edge_of 58) 17
    ∷ line 17 (edge_of 64) 17
    ∷ line 7 (edge_of 65) 7
    ∷ line 7 (edge_of 90) 7
    ∷ line 17 (edge_of 91) 17
    ∷ line 17 (edge_of 96) 17
    ∷ line 7 (edge_of 97) 7
    ∷ line 7 (edge_of 122) 7
    ∷ line 17 (edge_of 123) 17
    ∷ line 17 (judged (response_rows (plant_x 5) n (between edge (both one n) one []))) 17  -- another boundary
    ∷ []

-- each response carries what 02 says, or is refused with the cause that it says
pub responses_hold : all_hold response_table ≡ true
unfolding response_table edge_of carries carried caused judged number_by name_for update plant_x all_hold first_of taken_rows response_rows
    all_at_most all_ascii value_from decimal same_bytes
    days_of_month first_day exists seconds_of start_slot
    weighted_sum check_digit plant_id
    format_of segment_fits lawful_name name_shape parse_name encode_name
    rates_of size_of record_shape record_at parse_records counted parse_body encode_record encode_records encode_body every
    update_dates dates_hold rates_hold sum checksum_of checksums_hold plants_hold
    all_letters lawful_boundary begins lines_with behind length_in strip line_of headers_of end_in read_response parse_response
responses_hold = refl
