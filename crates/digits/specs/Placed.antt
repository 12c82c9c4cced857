-- Bytes put into a buffer at a place.
use Rattle.std.specs.Prelude.{ℕ, List}
use Rattle.std.proofs.lemmas.List.Edits.{sets}

-- what the buffer holds with bytes at place `at`; those past its end are left out
unfoldable pub placed : List ℕ → ℕ → List ℕ → List ℕ
placed buffer at bytes = sets buffer at bytes
