-- Numbers of a stored form (02, §2): 'in groups of seven bits, low group first, top bit set on all groups but the last, shortest form only, at most five groups'.
use Rattle.std.specs.Prelude.{ℕ, zero, suc, ◌+◌, ◌-◌, ◌*◌, ◌/◌, ◌%◌, ◌^◌, cond, List, [], ◌∷◌, ltb, eqb, Option, None, Some}

-- five groups hold the numbers below this
abbrev pub group_limit : ℕ
group_limit = 2 ^ 35

-- ---- a number's bytes

-- n as at most k groups, for n below 128 ^ k
unfoldable pub groups_in : ℕ → ℕ → List ℕ
groups_in zero n = []
groups_in (suc k) n = cond (ltb n 128) (n ∷ []) ((n % 128 + 128) ∷ groups_in k (n / 128))

-- the bytes of a number; a number that five groups don't hold has none
unfoldable pub groups : ℕ → List ℕ
groups n = cond (ltb n group_limit) (groups_in 5 n) []

-- ---- the number that bytes begin with, and the bytes after it

-- `low` and, from `unit` on, the number of the groups that follow; where that is 0 the form isn't the shortest
abbrev pub onto : ℕ → ℕ → Option (ℕ × List ℕ) → Option (ℕ × List ℕ)
onto low unit None = None
onto low unit (Some p) = cond (eqb p.0 0) None (Some (low + unit * p.0, p.1))

-- a number of at most k groups
unfoldable pub parse_in : ℕ → List ℕ → Option (ℕ × List ℕ)
parse_in zero s = None
parse_in (suc k) [] = None
parse_in (suc k) (b ∷ s) = cond (ltb b 128) (Some (b, s)) (cond (ltb b 256) (onto (b - 128) 128 (parse_in k s)) None)

abbrev pub parse_groups : List ℕ → Option (ℕ × List ℕ)
parse_groups = parse_in 5
