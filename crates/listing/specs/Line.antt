-- The lister's line as a value: its bytes, then zeros, and its length.
use Rattle.std.specs.Prelude.{ℕ, ◌+◌, ◌-◌, ◌<◌, List, [], ◌∷◌, ◌++◌, length, replicate, set, Result, Ok, Err}
use Rattle.rules.specs.Lister.{numeral}
use Rattle.rules.specs.Causes.{Said, refused_by, gives, FileValues, of_reading}
use Rattle.rules.specs.declared.Cause.{Cause}
use Rattle.rules.specs.declared.Summary.{Summary}
use Rattle.listing.specs.declared.Line.{Line}

-- as many bytes as a line has room for
abbrev pub room : ℕ
room = 20

-- the line of these bytes
unfoldable pub line_in : List ℕ → Line
line_in s = record { bytes = s ++ replicate (room - length s) 0; length = length s }

-- a line with a byte more, and with these bytes more
abbrev pub put_in : Line → ℕ → Line
put_in l b = record { bytes = set l.bytes l.length b; length = l.length + 1 }

unfoldable pub puts : Line → List ℕ → Line
puts l [] = l
puts l (b ∷ bs) = puts (put_in l b) bs

-- 'It prints `ok`, format, records, total rates, spaced, or `refused` and the number, then 0A'
unfoldable pub ok_text : ℕ → ℕ → ℕ → List ℕ
ok_text format records rates =
    111 ∷ 107 ∷ 32 ∷ (numeral format ++ (32 ∷ (numeral records ++ (32 ∷ (numeral rates ++ (10 ∷ []))))))

unfoldable pub refused_text : ℕ → List ℕ
refused_text number = 114 ∷ 101 ∷ 102 ∷ 117 ∷ 115 ∷ 101 ∷ 100 ∷ 32 ∷ (numeral number ++ (10 ∷ []))

-- the text of what reading a file gave
abbrev pub text_by : Said FileValues → List ℕ
text_by (gives f) = ok_text f.format f.records f.rates
text_by (refused_by n) = refused_text n

abbrev pub text_of : Result Summary Cause → List ℕ
text_of r = text_by (of_reading r)

-- a reading whose text fits a line: no file that reads well has 100 records or 100,000 rates
abbrev pub Printable : Result Summary Cause → Type 0
Printable (Ok f) = (f.records < 100) × (f.rates < 100000)
Printable (Err c) = Unit {0}
