-- A file's name (01, Names and bodies): format, segment, plant ID and creation time in 55 ASCII bytes.
use Rattle.std.specs.Prelude.{ℕ, ◌+◌, Bool, cond, ◌&&◌, ◌||◌, List, [], ◌∷◌, ◌++◌, length, get_or, leb, eqb, Option, None, Some}
use Rattle.rules.specs.Digits.{part, digits, value, decimal, all_ascii, to_ascii, from_ascii, same_bytes}
use Rattle.rules.specs.Calendar.{exists, month_number}
use Rattle.rules.specs.declared.Format.{Format}
use Rattle.rules.specs.declared.Format.TheVariants.{F201, F202, F203, F301}

abbrev pub format_number : Format → ℕ
format_number F201 = 201
format_number F202 = 202
format_number F203 = 203
format_number F301 = 301

unfoldable pub format_of : ℕ → Option Format
format_of n =
    cond (eqb n 201) (Some F201) (cond (eqb n 202) (Some F202) (cond (eqb n 203) (Some F203) (cond (eqb n 301) (Some F301) None)))

-- the fields of a name, as digits
pub record Name : Type 0 where
  pub format : Format
  pub segment : List ℕ
  pub plant : List ℕ
  pub created : List ℕ

-- '201 with 999 and any digit; 202 with YYMM (20YY, MM 01-12); 203 with 0000; 301 with 8888'
unfoldable pub segment_fits : Format → List ℕ → Bool
segment_fits F201 s = eqb (value (part s 0 3)) 999
segment_fits F202 s = leb 1 (value (part s 2 2)) && leb (value (part s 2 2)) 12
segment_fits F203 s = eqb (value s) 0
segment_fits F301 s = eqb (value s) 8888

-- the last digit of a 201's segment, and the month of a 202's
abbrev pub segment_digit : List ℕ → ℕ
segment_digit s = get_or s 3 0

abbrev pub segment_month : List ℕ → ℕ
segment_month s = month_number (2000 + value (part s 0 2)) (value (part s 2 2))

-- the fields that a name may have
unfoldable pub lawful_name : Name → Bool
lawful_name n =
    digits 4 n.segment
    && segment_fits n.format n.segment
    && digits 26 n.plant
    && digits 14 n.created
    && exists n.created

-- '_', and 'the five letters .data'
abbrev pub underscore : List ℕ
underscore = 95 ∷ []

abbrev pub dot_data : List ℕ
dot_data = 46 ∷ 100 ∷ 97 ∷ 116 ∷ 97 ∷ []

-- the bytes of a name
unfoldable pub encode_name : Name → List ℕ
encode_name n =
    to_ascii (decimal 3 (format_number n.format))
    ++ (underscore
    ++ (to_ascii n.segment
    ++ (underscore ++ (to_ascii n.plant ++ (underscore ++ (to_ascii n.created ++ dot_data))))))

abbrev pub name_length : ℕ
name_length = 55

-- whether s has digits and marks at the places of a name
unfoldable pub name_shape : List ℕ → Bool
name_shape s =
    eqb (length s) name_length
    && all_ascii (part s 0 3)
    && same_bytes (part s 3 1) underscore
    && all_ascii (part s 4 4)
    && same_bytes (part s 8 1) underscore
    && all_ascii (part s 9 26)
    && same_bytes (part s 35 1) underscore
    && all_ascii (part s 36 14)
    && same_bytes (part s 50 5) dot_data

abbrev pub name_fields : Format → List ℕ → Name
name_fields f s = record {
  format = f;
  segment = from_ascii (part s 4 4);
  plant = from_ascii (part s 9 26);
  created = from_ascii (part s 36 14);
}

-- the name with that format, if its fields are lawful
abbrev pub name_with : Option Format → List ℕ → Option Name
name_with None s = None
name_with (Some f) s = cond (lawful_name (name_fields f s)) (Some (name_fields f s)) None

-- the fields of a name's bytes; none where they break the form (cause 7)
unfoldable pub parse_name : List ℕ → Option Name
parse_name s = cond (name_shape s) (name_with (format_of (value (from_ascii (part s 0 3)))) s) None

-- 'the segment is given as four ASCII bytes, any that a name may have' (Request)
unfoldable pub any_segment : List ℕ → Bool
any_segment s =
    let d = from_ascii s in
    eqb (length s) 4
    && all_ascii s
    && (segment_fits F201 d || segment_fits F202 d || segment_fits F203 d || segment_fits F301 d)
