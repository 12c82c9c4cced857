-- What the header lines say, by bytes put together: the length and the name that a reader finds in them are exactly those that were put there.
-- Proved in proofs/Fields.antt: `length-given` and `name-given`.
use Rattle.std.specs.Prelude.{ℕ, ◌≤◌, ◌<◌, ◌≡◌, Bool, true, false, not, ◌&&◌, List, [], ◌∷◌, ◌++◌, ◌↔◌, length, drop, Some}
use Rattle.rules.specs.Digits.{all_digits, value, to_ascii}
use Rattle.rules.specs.Response.{begins, content_length, content_disposition, file_name, given_length, given_name}

-- whether no line begins with p
unfoldable pub none_begins : List ℕ → List (List ℕ) → Bool
none_begins p [] = true
none_begins p (l ∷ ls) = not (begins p l) && none_begins p ls

-- 'must begin exactly one header line': p and this text are one line, and no line before or after it begins with p
pub record OnlyLine (p text : List ℕ) (ls : List (List ℕ)) : Type 0 where
  pub before : List (List ℕ)
  pub after : List (List ℕ)
  pub lines : ls ≡ before ++ ((p ++ text) ∷ after)
  pub others : (none_begins p before && none_begins p after) ≡ true

-- 'The length is 1 to 6 decimal digits'
pub record LengthLine (ls : List (List ℕ)) (m : ℕ) : Type 0 where
  pub number : List ℕ  -- digits 0 to 9, in the line in ASCII
  pub line : OnlyLine content_length (to_ascii number) ls
  pub digits : all_digits number ≡ true
  pub least : 1 ≤ length number
  pub most : length number ≤ 6
  pub says : value number ≡ m

-- the lines give a length exactly where one of them is put together so
abbrev pub LengthGiven : Type 0
LengthGiven = (ls : List (List ℕ)) (m : ℕ) → (given_length ls ≡ Some m) ↔ LengthLine ls m

-- 'the name is what follows the first `filename=` in the Content-Disposition line, quotation marks included, to the line's end'
pub record NameLine (ls : List (List ℕ)) (n : List ℕ) : Type 0 where
  pub front : List ℕ  -- what stands before the first `filename=`
  pub line : OnlyLine content_disposition (front ++ (file_name ++ n)) ls
  pub first : (k : ℕ) → k < length front → begins file_name (drop k (front ++ (file_name ++ n))) ≡ false

-- and a name
abbrev pub NameGiven : Type 0
NameGiven = (ls : List (List ℕ)) (n : List ℕ) → (given_name ls ≡ Some n) ↔ NameLine ls n
