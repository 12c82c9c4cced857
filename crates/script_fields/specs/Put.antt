-- Answers as text, put into a buffer from a place on. What does not fit is left out whole.
use Rattle.std.specs.Prelude.{ℕ, ◌+◌, Bool, cond, List, length, leb, Option, Some, None}
use Rattle.std.proofs.Math.Seq.{paste}

abbrev pub room_for : List ℕ → ℕ → List ℕ → Bool
room_for out at text = leb (at + length text) (length out)

-- the place behind the text, where there is room for it
unfoldable pub place_after : List ℕ → ℕ → List ℕ → Option ℕ
place_after out at text = cond (room_for out at text) (Some (at + length text)) None

-- the text from the place on, and every other byte as it was
unfoldable pub buffer_after : List ℕ → ℕ → List ℕ → List ℕ
buffer_after out at text = cond (room_for out at text) (paste out at text (length text)) out
