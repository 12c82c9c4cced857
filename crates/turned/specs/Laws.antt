-- Turning loses nothing. Each statement is proved under its own name in small letters in proofs/Places.antt.
use Rattle.std.specs.Prelude.{ℕ, ◌+◌, ◌*◌, ◌<◌, ◌≡◌, List, length, get_or}
use Rattle.rules.specs.Turned.{turned, turned_back}

-- the byte of day d and half hour h stands at h * days + d
abbrev pub TurnedAt : Type 0
TurnedAt = (days d h : ℕ) (s : List ℕ) → d < days → h < 48 → get_or (turned days s) (h * days + d) 0 ≡ get_or s (d * 48 + h) 0

-- the two are inverse
abbrev pub TurnedThere : Type 0
TurnedThere = (days : ℕ) (s : List ℕ) → length s ≡ 48 * days → turned_back days (turned days s) ≡ s

abbrev pub TurnedBackThere : Type 0
TurnedBackThere = (days : ℕ) (s : List ℕ) → length s ≡ 48 * days → turned days (turned_back days s) ≡ s

-- and keep the length
abbrev pub TurnedLength : Type 0
TurnedLength = (days : ℕ) (s : List ℕ) → (length (turned days s) ≡ 48 * days) × (length (turned_back days s) ≡ 48 * days)
