-- Laws of the whole: what the boundary and the first line make of the bytes.
use Rattle.std.specs.Prelude.{None, Some}
use Prim.Native.Nat.{ℕ}
use mathlib.Core.Path.{◌≡◌, refl}
use mathlib.Core.Bool.{true, false}
use mathlib.Core.List.{List}
use Rattle.rules.specs.Response.{lawful_boundary, opening, strip, read_response, parse_response, headers_in, headers_next, name_and_file}

-- ---- the first line

module _ (b s : List ℕ) where
  pub bad-boundary : lawful_boundary b ≡ false → None ≡ parse_response b s
  unfolding parse_response read_response
  bad-boundary h = rw h refl

  pub not_opened : lawful_boundary b ≡ true → strip (opening b) s ≡ None → None ≡ parse_response b s
  unfolding parse_response read_response
  not_opened h g = rw (h, g) refl

  pub when-opened : lawful_boundary b ≡ true → (t : List ℕ) → strip (opening b) s ≡ Some t → name_and_file (headers_next b (headers_in t)) ≡ parse_response b s
  unfolding parse_response read_response
  when-opened h t g = rw (h, g) refl
