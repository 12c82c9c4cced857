-- A month's bytes in the order of a stored form (02, §2): 'rearranged so that all days' first half hours come first, then all second ones, and so on'.
-- The byte of day d and half hour h, both from 0, stands at d * 48 + h in the month's bytes and at h * days + d in the turned ones.
use Rattle.std.specs.Prelude.{ℕ, zero, suc, ◌+◌, ◌*◌, ◌/◌, ◌%◌, List, [], ◌∷◌, get_or}
use Rattle.rules.specs.Calendar.{slots_of_day}

-- the n numbers f i, f (i + 1), ..
unfoldable pub listed : ℕ → ℕ → (ℕ → ℕ) → List ℕ
listed zero i f = []
listed (suc n) i f = f i ∷ listed n (suc i) f

-- where the byte at place j of b rows of a comes from, in a rows of b
abbrev pub source_of : ℕ → ℕ → ℕ → ℕ
source_of a b j = j % a * b + j / a

-- a rows of b, read column by column: b rows of a
unfoldable pub rearranged : ℕ → ℕ → List ℕ → List ℕ
rearranged a b s = listed (a * b) 0 (λ j. get_or s (source_of a b j) 0)

-- a month's bytes turned, and turned ones put back: a row of 48 for each day, and a row of days for each half hour
abbrev pub turned : ℕ → List ℕ → List ℕ
turned days = rearranged days slots_of_day

abbrev pub turned_back : ℕ → List ℕ → List ℕ
turned_back days = rearranged slots_of_day days
