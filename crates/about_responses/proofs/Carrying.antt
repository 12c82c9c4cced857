-- Every lawful schedule file is carried: the response with the two header lines that it must have.
use Rattle.std.specs.Prelude.{Option, Some}
use Prim.Native.Nat.{ℕ, ◌^◌, ◌<◌}
use mathlib.Core.Path.{◌≡◌, ◌∙◌, refl, sym, ap, subst}
use mathlib.Core.Bool.{true, false}
use mathlib.Core.List.{List, [], ◌∷◌, ◌++◌, append-nil}
use lib.ListN.{length, length-map}
use borrow.Author.Tests.{eq-eqb}
use Rattle.rules.specs.Digits.{decimal, to_ascii, same_bytes}
use Rattle.rules.specs.Name.{encode_name}
use Rattle.rules.specs.Body.{Body, encode_body}
use Rattle.rules.specs.File.{records_in}
use Rattle.rules.specs.Response.{Response, lawful_boundary, lawful_lines, begins, lines_with, behind, content_length, content_disposition, file_name, length_in, given_length, given_name, is_length, is_name, lawful_response, the_name, encode_response}
use Rattle.laws.proofs.Tests.{join}
use Rattle.laws.proofs.Bytes.{length-decimal}
use Rattle.about_files.proofs.Numerals.{digits_decimal, value-decimal, from-to, digits-ascii}
use Rattle.about_files.proofs.Reading.{read-exactly}
use Rattle.about_files.proofs.Accepted.{accepted, schedule-read}
use Rattle.about_responses.specs.Exact.{Carried}
use Rattle.about_responses.specs.Carrying.{FileCarried}
use Rattle.about_responses.proofs.Returns.{no_return, pair_nowhere, digits-clean, name-clean}
use Rattle.about_responses.proofs.Sizes.{body-small}

-- ---- the two lines

-- six digits of a number below 1,000,000 give it as the length
length-said : (n : ℕ) → n < 10 ^ 6 → length_in (to_ascii (decimal 6 n)) ≡ Some n
unfolding length_in
length-said n h =
    let l : length (to_ascii (decimal 6 n)) ≡ 6 = length-map (decimal 6 n) _ ∙ length-decimal 6 n in
    rw (l, digits-ascii (decimal 6 n) (digits_decimal 6 n), from-to (decimal 6 n), value-decimal 6 n h) refl

module _ (n : ℕ) (name : List ℕ) where
  abbrev length_line : List ℕ
  length_line = content_length ++ to_ascii (decimal 6 n)

  abbrev name_line : List ℕ
  name_line = content_disposition ++ (file_name ++ name)

  abbrev two_lines : List (List ℕ)
  two_lines = length_line ∷ name_line ∷ []

  -- each of the two beginnings is that of one line alone, and no `filename=` stands before the name's: found by computing
  lines-length : n < 10 ^ 6 → given_length two_lines ≡ Some n
  unfolding lines_with begins same_bytes
  lines-length h = length-said n h

  lines-name : given_name two_lines ≡ Some name
  unfolding lines_with begins behind same_bytes
  lines-name = refl

  lines-lawful : no_return name ≡ true → lawful_lines two_lines ≡ true
  unfolding lawful_lines no_return
  lines-lawful e =
      let d = ap no_return (sym (append-nil (to_ascii (decimal 6 n)))) ∙ digits-clean (decimal 6 n) [] refl in
      rw (pair_nowhere length_line d, pair_nowhere name_line e) refl

-- ---- the response

-- any name without 0D and any file of fewer than 1,000,000 bytes are carried
module _ (name file : List ℕ) (clean : no_return name ≡ true) (few : length file < 10 ^ 6) where
  abbrev response : Response
  response = record { lines = two_lines (length file) name; file = file; ended = false }

  response-lawful : lawful_response response ≡ true
  unfolding lawful_response
  response-lawful =
      let n = length file in
      let length-is = ap (λ (o : Option ℕ). is_length o n) (lines-length n name few) ∙ eq-eqb n n refl in
      join (join (lines-lawful n name clean) length-is) (ap is_name (lines-name n name))

  carried-between : (boundary : List ℕ) → lawful_boundary boundary ≡ true → (s : List ℕ) × Carried boundary s name file
  carried-between boundary edge = (
    encode_response boundary response,
    record {
      response = response;
      bytes = record { edge = edge; bytes = refl; lawful = response-lawful };
      name = ap the_name (lines-name (length file) name);
      file = refl;
    },
  )

pub file-carried : FileCarried
file-carried plant f boundary h i edge =
    let name = encode_name f.name in
    let body = encode_body f.body in
    let a = accepted plant name body f ((read-exactly plant name body f).1 (record { name_bytes = refl; body_bytes = refl; fields = h })) in
    let t = schedule-read body f i a in
    let few = subst (λ (b : Body). length (encode_body b) < 10 ^ 6) (sym t.is-schedule) (body-small f.name (records_in f.body) t.records) in
    carried-between name body (name-clean f.name) few boundary edge
