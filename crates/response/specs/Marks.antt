-- What the one walk over the header lines remembers: of the lines so far that begin so, none, the only one, or that there are two.
use Rattle.std.specs.Prelude.{ℕ, ◌≤◌, ◌≡◌, Bool, true, false, List, [], ◌∷◌, ◌++◌, length, Option, None, Some}
use Rattle.std.specs.Borrow.{Bor}
use Rattle.rules.specs.Response.{lines_with, content_length, content_disposition, headers_in, headers_next}
use Rattle.response.specs.declared.headers.Mark.{Mark}
use Rattle.response.specs.declared.headers.Mark.TheVariants.{Never, Once, Twice}
use Rattle.response.specs.declared.headers.Headers.{Headers}

-- ---- a mark

-- after one more line, which begins so or not
abbrev pub marked_by : Bool → Mark → Bor (List ℕ) → Mark
marked_by false before line = before
marked_by true Never line = Once line
marked_by true (Once l) line = Twice
marked_by true Twice line = Twice

-- what it says of the lines
abbrev pub Marked : List (List ℕ) → Mark → Type 0
Marked ls Never = ls ≡ []
Marked ls (Once l) = ls ≡ l.now ∷ []
Marked ls Twice = 2 ≤ length ls

-- ---- the walk

-- after some lines
abbrev pub after_lines : List (List ℕ) → Option (List (List ℕ) × List ℕ) → Option (List (List ℕ) × List ℕ)
after_lines ls None = None
after_lines ls (Some q) = Some (ls ++ q.0, q.1)

-- from s on up to t: the lines between, and what they say
pub record Walked (s t : List ℕ) (size name : Mark) : Type 0 where
  pub passed : List (List ℕ)
  pub read : headers_in s ≡ after_lines passed (headers_in t)
  pub sizes : Marked (lines_with content_length passed) size
  pub names : Marked (lines_with content_disposition passed) name

-- ---- the headers

abbrev pub with_name : Bor (List ℕ) → Mark → Bor (List ℕ) → Option Headers
with_name size Never rest = None
with_name size (Once name) rest = Some (record { size = size; name = name; rest = rest })
with_name size Twice rest = None

abbrev pub both_of : Mark → Mark → Bor (List ℕ) → Option Headers
both_of Never name rest = None
both_of (Once size) name rest = with_name size name rest
both_of Twice name rest = None

-- the header lines of s: of those that begin so each is the only one
pub record Both (s size name rest : List ℕ) : Type 0 where
  pub all : List (List ℕ)
  pub read : headers_in s ≡ Some (all, rest)
  pub sizes : lines_with content_length all ≡ size ∷ []
  pub names : lines_with content_disposition all ≡ name ∷ []

abbrev pub HeadersRead : List ℕ → Option Headers → Type 0
HeadersRead s (Some h) = Both s h.size.now h.name.now h.rest.now
HeadersRead s None = (b : List ℕ) → headers_next b (headers_in s) ≡ None
