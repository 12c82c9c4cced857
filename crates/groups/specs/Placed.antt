-- A number in groups as the code answers it: read at a place of a slice, and put at one.
use Rattle.std.specs.Prelude.{ℕ, ◌+◌, ◌-◌, Bool, cond, List, [], ◌∷◌, leb, length, drop, Option, None, Some}
use Rattle.std.proofs.Math.Seq.{sets}
use Rattle.rules.specs.Groups.{parse_groups}
use Rattle.groups.specs.declared.Number.{Number}

-- ---- the number at a place of a slice

abbrev pub as_reading : ℕ → Option (ℕ × List ℕ) → Option Number
as_reading n None = None
as_reading n (Some p) = Some (record { value = p.0; next = n - length p.1 })

unfoldable pub reading_at : List ℕ → ℕ → Option Number
reading_at s at = as_reading (length s) (parse_groups (drop at s))

-- ---- bytes put at a place where there is room for all of them, and none of them elsewhere

abbrev pub room : List ℕ → List ℕ → ℕ → Bool
room bytes out at = leb (at + length bytes) (length out)

unfoldable pub bytes_after : List ℕ → List ℕ → ℕ → List ℕ
bytes_after bytes out at = cond (room bytes out at) (sets out at bytes) out

-- how many bytes a number's groups are; none where it has none
abbrev pub size_of : List ℕ → Option ℕ
size_of [] = None
size_of (b ∷ bytes) = Some (length (b ∷ bytes))

-- the place after them, where there are some and room for all of them
unfoldable pub place_after : List ℕ → List ℕ → ℕ → Option ℕ
place_after [] out at = None
place_after (b ∷ bytes) out at = cond (room (b ∷ bytes) out at) (Some (at + length (b ∷ bytes))) None
