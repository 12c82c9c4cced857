-- Laws of the walk over the header lines: a line more, and what the marks say at the headers' end.
use Rattle.std.specs.Prelude.{Option, None, Some}
use Rattle.std.specs.Borrow.{Bor}
use Prim.Native.Nat.{ℕ, ◌<◌, ◌≤◌}
use mathlib.Core.Path.{◌≡◌, ◌∙◌, refl, sym, ap, subst}
use mathlib.Core.Bool.{Bool, true, false, cond, and-false}
use mathlib.Core.List.{List, [], ◌∷◌, ◌++◌, append_assoc, append-nil}
use native.Mathlib.Omega.{arith}
use lib.Dec.{leb}
use lib.ListN.{length, length-append}
use Rattle.rules.specs.Response.{begins, lines_with, content_length, content_disposition, only_length, only_name, given_length, given_name, line_end, line_of, before_line, headers_then, headers_in, file_then, headers_next}
use Rattle.about_responses.proofs.Headers.{headers-next}
use Rattle.about_responses.proofs.Lines.{line_made}
use Rattle.response.specs.Lent.{both_lent}
use Rattle.response.specs.Marks.{marked_by, Marked, after_lines, Walked, both_of, HeadersRead}
use Rattle.response.specs.declared.headers.Mark.{Mark}
use Rattle.response.specs.declared.headers.Mark.TheVariants.{Never, Once, Twice}

-- ---- lines that begin so

with-more : (p : List ℕ) (ls : List (List ℕ)) (l : List ℕ)
    → lines_with p (ls ++ (l ∷ [])) ≡ lines_with p ls ++ cond {A = List (List ℕ)} (begins p l) (l ∷ []) []
unfolding lines_with
with-more p [] l = refl
with-more p (m ∷ ls) l = go (begins p m) (with-more p ls l)
  where
    go : (t : Bool) → lines_with p (ls ++ (l ∷ [])) ≡ lines_with p ls ++ cond {A = List (List ℕ)} (begins p l) (l ∷ []) []
        → cond {A = List (List ℕ)} t (m ∷ lines_with p (ls ++ (l ∷ []))) (lines_with p (ls ++ (l ∷ [])))
        ≡ cond {A = List (List ℕ)} t (m ∷ lines_with p ls) (lines_with p ls) ++ cond {A = List (List ℕ)} (begins p l) (l ∷ []) []
    go true e = ap (λ (k : List (List ℕ)). m ∷ k) e
    go false e = e

module _ (line : Bor (List ℕ)) where
  mark-more : (t : Bool) (m : Mark) (ls : List (List ℕ)) → Marked ls m → Marked (ls ++ cond {A = List (List ℕ)} t (line.now ∷ []) []) (marked_by t m line)
  mark-more false m ls h = subst (λ (k : List (List ℕ)). Marked k m) (sym (append-nil ls)) h
  mark-more true Never ls h = ap (λ (k : List (List ℕ)). k ++ (line.now ∷ [])) h
  mark-more true (Once l) ls h =
      let n : length ls ≡ length (l.now ∷ []) = ap length h in
      omega (arith, n, length-append ls (line.now ∷ []))
  mark-more true Twice ls h = omega (arith, h, length-append ls (line.now ∷ []))

  -- a line more, and what it makes of a mark
  pub marked_more : (p : List ℕ) (m : Mark) (ls : List (List ℕ)) → Marked (lines_with p ls) m
      → Marked (lines_with p (ls ++ (line.now ∷ []))) (marked_by (begins p line.now) m line)
  marked_more p m ls h =
      subst (λ (k : List (List ℕ)). Marked k (marked_by (begins p line.now) m line)) (sym (with-more p ls line.now))
      (mark-more (begins p line.now) m (lines_with p ls) h)

-- the test and the mark before, as the code has them
pub mark-is : (line : Bor (List ℕ)) {t u : Bool} {m k : Mark} → t ≡ u → m ≡ k → marked_by u k line ≡ marked_by t m line
mark-is line p q = rw (p, q) refl

-- ---- a line more

headers-line : (s l rest : List ℕ) → line_of s ≡ Some (l, rest) → 0 < length l → headers_in s ≡ before_line l (headers_in rest)
headers-line s [] rest e h = absurd (omega arith)
headers-line s (x ∷ l) rest e h = headers-next s ∙ ap (headers_then headers_in) e

after-nil : (o : Option (List (List ℕ) × List ℕ)) → o ≡ after_lines [] o
after-nil None = refl
after-nil (Some q) = refl

after_line : (ls : List (List ℕ)) (l : List ℕ) (o : Option (List (List ℕ) × List ℕ)) → after_lines ls (before_line l o) ≡ after_lines (ls ++ (l ∷ [])) o
after_line ls l None = refl
after_line ls l (Some q) =
    ap {B = Option (List (List ℕ) × List ℕ)} (λ (k : List (List ℕ)). Some (k, q.1)) (sym (append_assoc ls (l ∷ []) q.0))

-- the line that an answer lends
pub line-is : (t : List ℕ) (o : Option (Bor (List ℕ) × Bor (List ℕ))) → both_lent o ≡ line_of t → (line rest : Bor (List ℕ)) → o ≡ Some (line, rest)
    → line_of t ≡ Some (line.now, rest.now)
line-is t o e line rest i = sym e ∙ ap both_lent i

pub line-shorter : (t l rest : List ℕ) → line_of t ≡ Some (l, rest) → length rest < length t
line-shorter t l rest e = let made = line_made t (l, rest) e in omega (arith, ap length made.0, length-append l (line_end ++ rest))

pub walk_starts : (s : List ℕ) → Walked s s Never Never
unfolding lines_with
walk_starts s = record { passed = []; read = after-nil (headers_in s); sizes = refl; names = refl }

module _ (s t : List ℕ) (m n : Mark) (w : Walked s t m n) where
  pub walk_on : (line : Bor (List ℕ)) (rest : List ℕ) → line_of t ≡ Some (line.now, rest) → 0 < length line.now
      → Walked s rest (marked_by (begins content_length line.now) m line) (marked_by (begins content_disposition line.now) n line)
  walk_on line rest e l = record {
    passed = w.passed ++ (line.now ∷ []);
    read = w.read ∙ ap (after_lines w.passed) (headers-line t line.now rest e l) ∙ after_line w.passed line.now (headers_in rest);
    sizes = marked_more line content_length m w.passed w.sizes;
    names = marked_more line content_disposition n w.passed w.names;
  }

  pub walk_cut : line_of t ≡ None → (b : List ℕ) → headers_next b (headers_in s) ≡ None
  walk_cut e b = ap (headers_next b) (w.read ∙ ap (after_lines w.passed) (headers-next t ∙ ap (headers_then headers_in) e))

-- ---- the headers' end

many-length : (ls : List (List ℕ)) → 2 ≤ length ls → only_length ls ≡ None
many-length [] h = refl
many-length (l ∷ []) h = absurd (omega arith)
many-length (l ∷ k ∷ ls) h = refl

many-name : (ls : List (List ℕ)) → 2 ≤ length ls → only_name ls ≡ None
many-name [] h = refl
many-name (l ∷ []) h = absurd (omega arith)
many-name (l ∷ k ∷ ls) h = refl

pub file-nameless : (b : List ℕ) (ls : List (List ℕ)) (u : List ℕ) (o : Option ℕ) → given_name ls ≡ None → file_then b ls u o ≡ None
file-nameless b ls u None h = refl
file-nameless b ls u (Some n) h = rw (h, and-false (leb n (length u))) refl

module _ (s rest : List ℕ) (ls : List (List ℕ)) (read : headers_in s ≡ Some (ls, rest)) where
  sizeless : given_length ls ≡ None → (b : List ℕ) → headers_next b (headers_in s) ≡ None
  sizeless e b = ap (headers_next b) read ∙ ap (file_then b ls rest) e

  nameless : given_name ls ≡ None → (b : List ℕ) → headers_next b (headers_in s) ≡ None
  nameless e b = ap (headers_next b) read ∙ file-nameless b ls rest (given_length ls) e

both_read : (s : List ℕ) (rest : Bor (List ℕ)) (ls : List (List ℕ)) → headers_in s ≡ Some (ls, rest.now)
    → (m n : Mark) → Marked (lines_with content_length ls) m → Marked (lines_with content_disposition ls) n → HeadersRead s (both_of m n rest)
both_read s rest ls e Never n h k = sizeless s rest.now ls e (ap only_length h)
both_read s rest ls e Twice n h k = sizeless s rest.now ls e (many-length (lines_with content_length ls) h)
both_read s rest ls e (Once a) Never h k = nameless s rest.now ls e (ap only_name k)
both_read s rest ls e (Once a) Twice h k = nameless s rest.now ls e (many-name (lines_with content_disposition ls) k)
both_read s rest ls e (Once a) (Once c) h k = record { all = ls; read = e; sizes = h; names = k }

pub walk_over : (s t : List ℕ) (m n : Mark) → Walked s t m n → (line : List ℕ) (rest : Bor (List ℕ)) → line_of t ≡ Some (line, rest.now) → length line ≡ 0
    → HeadersRead s (both_of m n rest)
walk_over s t m n w [] rest e i =
    let read : headers_in s ≡ Some (w.passed, rest.now) =
    w.read
    ∙ ap (after_lines w.passed) (headers-next t ∙ ap (headers_then headers_in) e)
    ∙ ap {B = Option (List (List ℕ) × List ℕ)} (λ (k : List (List ℕ)). Some (k, rest.now)) (append-nil w.passed) in
    both_read s rest w.passed read m n w.sizes w.names
walk_over s t m n w (x ∷ line) rest e i = absurd (omega arith)
