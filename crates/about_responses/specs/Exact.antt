-- Bytes are read exactly where they are those of a lawful response.
-- Each statement is proved under its own name in small letters in proofs/Exact.antt.
use Rattle.std.specs.Prelude.{ℕ, ◌≡◌, true, List, ◌↔◌, None, Some}
use Rattle.rules.specs.Response.{Response, lawful_boundary, lawful_response, encode_response, name_of, read_response, parse_response}

-- these bytes are the response r between that boundary
pub record ResponseBytes (boundary s : List ℕ) (r : Response) : Type 0 where
  pub edge : lawful_boundary boundary ≡ true
  pub bytes : s ≡ encode_response boundary r
  pub lawful : lawful_response r ≡ true

-- the reader gives r exactly for the bytes of r, and only if r is lawful
abbrev pub ResponseRead : Type 0
ResponseRead = (boundary s : List ℕ) (r : Response) → (read_response boundary s ≡ Some r) ↔ ResponseBytes boundary s r

-- some lawful response has these bytes, this name and this file
pub record Carried (boundary s n f : List ℕ) : Type 0 where
  pub response : Response
  pub bytes : ResponseBytes boundary s response
  pub name : name_of response ≡ n
  pub file : response.file ≡ f

-- name and file are read exactly where some lawful response has these bytes, and this name and file
abbrev pub ResponseExactly : Type 0
ResponseExactly = (boundary s name file : List ℕ) → (parse_response boundary s ≡ Some (name, file)) ↔ Carried boundary s name file

-- no two lawful responses have the same bytes
abbrev pub OneResponse : Type 0
OneResponse = (boundary s : List ℕ) (r q : Response) → ResponseBytes boundary s r → ResponseBytes boundary s q → r ≡ q

-- the form is broken exactly where no lawful response has these bytes
abbrev pub BrokenExactly : Type 0
BrokenExactly = (boundary s : List ℕ) → (parse_response boundary s ≡ None) ↔ ((r : Response) → ResponseBytes boundary s r → ⊥)
