-- Reading a number is exact; proved under the statement's name in small letters in proofs/Exact.antt.
use Rattle.std.specs.Prelude.{ℕ, ◌<◌, ◌≤◌, ◌^◌, ◌≡◌, List, ◌++◌, ◌↔◌, length, drop, Some}
use Rattle.rules.specs.Groups.{groups, parse_groups}

-- bytes begin with the number n, and go on with `rest`, exactly when they are n's groups and then `rest`, and n has groups
abbrev pub ParsedExactly : Type 0
ParsedExactly = (s : List ℕ) (n : ℕ) (rest : List ℕ) → (parse_groups s ≡ Some (n, rest)) ↔ ((s ≡ groups n ++ rest) × (n < 2 ^ 35))

-- what a number that was read at a place tells: `number_read` in proofs/Exact.antt
pub record ReadNumber (s : List ℕ) (at n next : ℕ) : Type 0 where
  pub parsed : parse_groups (drop at s) ≡ Some (n, drop next s)
  pub later : at < next
  pub within : next ≤ length s
  pub small : n < 2 ^ 35
