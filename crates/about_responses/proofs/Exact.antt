-- Bytes are read exactly where they are those of a lawful response.
use Rattle.laws.proofs.Options.{some-injective}
use Rattle.std.specs.Prelude.{Option, None, Some}
use Prim.Native.Nat.{ℕ, ◌≤◌}
use mathlib.Core.Path.{◌≡◌, ◌∙◌, refl, sym, ap, ap₂, subst}
use mathlib.Core.Bool.{Bool, true, false, cond, ◌&&◌, false≢true}
use mathlib.Core.List.{List, ◌++◌, append-nil}
use native.Mathlib.Omega.{arith}
use borrow.Author.Tests.{eqb-true, eq-eqb, leb-true, le-leb}
use lib.Dec.{eqb, leb}
use lib.ListN.{length, take, drop, length-append, take-append-drop}
use lib.Seq.{length-take-le, take_at, drop_at}
use Rattle.rules.specs.Digits.{same_bytes}
use Rattle.rules.specs.Response.{Response, line_end, lawful_boundary, lawful_lines, lines_bytes, given_length, given_name, is_length, is_name, lawful_response, name_of, opening, closing, last_end, encode_response, strip, headers_in, end_in, response_with, file_then, headers_next, opened_then, read_response, name_and_file, parse_response}
use Rattle.about_responses.specs.Exact.{ResponseBytes, ResponseRead, Carried, ResponseExactly, OneResponse, BrokenExactly}
use Rattle.laws.proofs.Tests.{no-some, both, join}
use Rattle.laws.proofs.Bytes.{same-equal, same_self}
use Rattle.about_responses.proofs.Begins.{strip-made, strip-back}
use Rattle.about_responses.proofs.Headers.{headers_made, headers-in}

-- ---- the end

abbrev EndMade : List ℕ → List ℕ → Bool → Type 0
EndMade b s e = s ≡ closing b ++ last_end e

end-made : (b s : List ℕ) (e : Bool) → end_in b s ≡ Some e → s ≡ closing b ++ last_end e
unfolding end_in
end-made b s e h = go (same_bytes s (closing b)) refl h
  where
    go : (t : Bool) → same_bytes s (closing b) ≡ t
        → cond {A = Option Bool} t (Some false) (cond (same_bytes s (closing b ++ line_end)) (Some true) None) ≡ Some e → EndMade b s e
    go true f g = subst (EndMade b s) (some-injective false e g) (same-equal s (closing b) f ∙ sym (append-nil (closing b)))
    go false f g = second (same_bytes s (closing b ++ line_end)) refl g
      where
        second : (t : Bool) → same_bytes s (closing b ++ line_end) ≡ t → cond {A = Option Bool} t (Some true) None ≡ Some e → EndMade b s e
        second true f g = subst (EndMade b s) (some-injective true e g) (same-equal s (closing b ++ line_end) f)
        second false f g = no-some g

longer : (b : List ℕ) → same_bytes (closing b ++ line_end) (closing b) ≡ false
longer b = go (same_bytes (closing b ++ line_end) (closing b)) refl
  where
    go : (t : Bool) → same_bytes (closing b ++ line_end) (closing b) ≡ t → t ≡ false
    go true f =
        let e : length (closing b ++ line_end) ≡ length (closing b) = ap length (same-equal (closing b ++ line_end) (closing b) f) in
        absurd (omega (arith, e, length-append (closing b) line_end))
    go false f = refl

end_back : (b : List ℕ) (e : Bool) → end_in b (closing b ++ last_end e) ≡ Some e
unfolding end_in
end_back b true = rw (longer b, same_self (closing b ++ line_end)) refl
end_back b false = rw (append-nil (closing b), same_self (closing b)) refl

-- ---- what was read is there

module _ (b s : List ℕ) where
  bytes_of : (t : List ℕ) (ls : List (List ℕ)) (u : List ℕ) (n : ℕ) (e : Bool) → s ≡ opening b ++ t → t ≡ lines_bytes ls ++ (line_end ++ u)
      → drop n u ≡ closing b ++ last_end e → s ≡ encode_response b (record { lines = ls; file = take n u; ended = e })
  unfolding encode_response
  bytes_of t ls u n e p q r =
      let f : u ≡ take n u ++ (closing b ++ last_end e) = sym (take-append-drop n u) ∙ ap (λ (l : List ℕ). take n u ++ l) r in
      p ∙ ap (λ (l : List ℕ). opening b ++ l) (q ∙ ap (λ (l : List ℕ). lines_bytes ls ++ (line_end ++ l)) f)

  lawful-of : (ls : List (List ℕ)) (u : List ℕ) (n : ℕ) (e : Bool) → lawful_lines ls ≡ true → given_length ls ≡ Some n → n ≤ length u
      → is_name (given_name ls) ≡ true → lawful_response (record { lines = ls; file = take n u; ended = e }) ≡ true
  unfolding lawful_response
  lawful-of ls u n e l g h i =
      rw (l, g) (join {a = eqb n (length (take n u))} {b = is_name (given_name ls)} (eq-eqb n (length (take n u)) (sym (length-take-le n u h))) i)

  module _ (edge : lawful_boundary b ≡ true) where
    file-there : (t : List ℕ) (ls : List (List ℕ)) (u : List ℕ) (r : Response) → s ≡ opening b ++ t → t ≡ lines_bytes ls ++ (line_end ++ u)
        → lawful_lines ls ≡ true → (o : Option ℕ) → given_length ls ≡ o → file_then b ls u o ≡ Some r → ResponseBytes b s r
    file-there t ls u r p q l None g e = no-some e
    file-there t ls u r p q l (Some n) g e = go (leb n (length u) && is_name (given_name ls)) refl e
      where
        go : (c : Bool) → (leb n (length u) && is_name (given_name ls)) ≡ c
            → cond {A = Option Response} c (response_with ls (take n u) (end_in b (drop n u))) None ≡ Some r → ResponseBytes b s r
        go false f e = no-some e
        go true f e = second (end_in b (drop n u)) refl e
          where
            second : (o : Option Bool) → end_in b (drop n u) ≡ o → response_with ls (take n u) o ≡ Some r → ResponseBytes b s r
            second None h e = no-some e
            second (Some d) h e =
                let k = both (leb n (length u)) (is_name (given_name ls)) f in
                subst (ResponseBytes b s) (some-injective _ r e)
                (record {
                  edge = edge;
                  bytes = bytes_of t ls u n d p q (end-made b (drop n u) d h);
                  lawful = lawful-of ls u n d l g (leb-true n (length u) k.0) k.1;
                })

    headers-there : (t : List ℕ) (r : Response) → s ≡ opening b ++ t → (o : Option (List (List ℕ) × List ℕ)) → headers_in t ≡ o
        → headers_next b o ≡ Some r → ResponseBytes b s r
    headers-there t r p None f e = no-some e
    headers-there t r p (Some q) f e =
        let m = headers_made (length t) t q f in
        file-there t q.0 q.1 r p m.0 m.1 (given_length q.0) refl e

    opened-there : (r : Response) → (o : Option (List ℕ)) → strip (opening b) s ≡ o → opened_then b o ≡ Some r → ResponseBytes b s r
    opened-there r None f e = no-some e
    opened-there r (Some t) f e = headers-there t r (strip-made (opening b) s t f) (headers_in t) refl e

  read-there : (r : Response) → read_response b s ≡ Some r → ResponseBytes b s r
  unfolding read_response
  read-there r e = go (lawful_boundary b) refl e
    where
      go : (c : Bool) → lawful_boundary b ≡ c → cond {A = Option Response} c (opened_then b (strip (opening b) s)) None ≡ Some r → ResponseBytes b s r
      go true f e = opened-there f r (strip (opening b) s) refl e
      go false f e = no-some e

-- ---- what is there is read

is-length : (o : Option ℕ) (n : ℕ) → is_length o n ≡ true → o ≡ Some n
is-length None n e = absurd (false≢true e)
is-length (Some m) n e = ap {B = Option ℕ} Some (eqb-true m n e)

module _ (b : List ℕ) (r : Response) where
  abbrev tail : List ℕ
  tail = closing b ++ last_end r.ended

  file-back : lawful_response r ≡ true → file_then b r.lines (r.file ++ tail) (given_length r.lines) ≡ Some r
  unfolding lawful_response
  file-back h =
      let p = both (lawful_lines r.lines && is_length (given_length r.lines) (length r.file)) (is_name (given_name r.lines)) h in
      let q = both (lawful_lines r.lines) (is_length (given_length r.lines) (length r.file)) p.0 in
      let k = length r.file in
      let s = r.file ++ tail in
      let n : k ≤ length s = omega (arith, length-append r.file tail) in
      ap (file_then b r.lines s) (is-length (given_length r.lines) k q.1)
      ∙ ap (λ (c : Bool). cond {A = Option Response} c (response_with r.lines (take k s) (end_in b (drop k s))) None) (join (le-leb k (length s) n) p.1)
      ∙ ap₂ (λ (f d : List ℕ). response_with r.lines f (end_in b d)) (take_at r.file tail k refl) (drop_at r.file tail k refl)
      ∙ ap (response_with r.lines r.file) (end_back b r.ended)

  lawful-lines : lawful_response r ≡ true → lawful_lines r.lines ≡ true
  unfolding lawful_response
  lawful-lines h =
      let p = both (lawful_lines r.lines && is_length (given_length r.lines) (length r.file)) (is_name (given_name r.lines)) h in
      (both (lawful_lines r.lines) (is_length (given_length r.lines) (length r.file)) p.0).0

  read_back : lawful_boundary b ≡ true → lawful_response r ≡ true → read_response b (encode_response b r) ≡ Some r
  unfolding read_response encode_response
  read_back f h =
      ap (λ (c : Bool). cond {A = Option Response} c (opened_then b (strip (opening b) (encode_response b r))) None) f
      ∙ ap (opened_then b) (strip-back (opening b) (lines_bytes r.lines ++ (line_end ++ (r.file ++ tail))))
      ∙ ap (headers_next b) (headers-in r.lines (r.file ++ tail) (lawful-lines h))
      ∙ file-back h

pub response-read : ResponseRead
response-read boundary s r =
    (read-there boundary s r, λ m. ap (read_response boundary) m.bytes ∙ read_back boundary r m.edge m.lawful)

-- ---- name and file

parse-there : (boundary s name file : List ℕ) → parse_response boundary s ≡ Some (name, file) → Carried boundary s name file
unfolding parse_response
parse-there boundary s name file e = go (read_response boundary s) refl e
  where
    go : (o : Option Response) → read_response boundary s ≡ o → name_and_file o ≡ Some (name, file) → Carried boundary s name file
    go None f e = no-some e
    go (Some r) f e =
        let p = some-injective (name_of r, r.file) (name, file) e in
        record {
          response = r;
          bytes = read-there boundary s r f;
          name = ap (λ (q : List ℕ × List ℕ). q.0) p;
          file = ap (λ (q : List ℕ × List ℕ). q.1) p;
        }

parse-back : (boundary s name file : List ℕ) → Carried boundary s name file → parse_response boundary s ≡ Some (name, file)
unfolding parse_response
parse-back boundary s name file c =
    ap name_and_file ((response-read boundary s c.response).1 c.bytes)
    ∙ ap₂ {C = Option (List ℕ × List ℕ)} (λ (n f : List ℕ). Some (n, f)) c.name c.file

pub response-exactly : ResponseExactly
response-exactly boundary s name file = (parse-there boundary s name file, parse-back boundary s name file)

pub one-response : OneResponse
one-response boundary s r q m n =
    some-injective r q (sym ((response-read boundary s r).1 m) ∙ (response-read boundary s q).1 n)

parse-none : (boundary s : List ℕ) → parse_response boundary s ≡ None → (r : Response) → ResponseBytes boundary s r → ⊥
unfolding parse_response
parse-none boundary s e r m = no-some (sym e ∙ ap name_and_file ((response-read boundary s r).1 m))

none-parse : (boundary s : List ℕ) → ((r : Response) → ResponseBytes boundary s r → ⊥) → parse_response boundary s ≡ None
unfolding parse_response
none-parse boundary s h = go (read_response boundary s) refl
  where
    go : (o : Option Response) → read_response boundary s ≡ o → name_and_file o ≡ None
    go None f = refl
    go (Some r) f = absurd (h r (read-there boundary s r f))

pub broken-exactly : BrokenExactly
broken-exactly boundary s = (parse-none boundary s, none-parse boundary s)
