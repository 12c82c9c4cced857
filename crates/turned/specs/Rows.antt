-- A month's bytes turned and put back as the code does it: by the slices' lengths, and the place from which each byte comes.
use Rattle.std.specs.Prelude.{ℕ, ◌+◌, ◌-◌, ◌*◌, ◌/◌, ◌%◌, ◌≤◌, Bool, ◌&&◌, cond, ◌≡◌, List, ltb, leb, eqb, length}
use Rattle.rules.specs.Turned.{turned, turned_back}

-- whether two slices have the length of one month's bytes: 48 times 1 to 31 days
abbrev pub is_month : ℕ → ℕ → Bool
is_month n m = eqb n m && eqb (n % 48) 0 && leb 48 n && leb n 1488

unfoldable pub turned_into : List ℕ → List ℕ → List ℕ
turned_into from to = cond (is_month (length from) (length to)) (turned (length from / 48) from) to

unfoldable pub turned_back_into : List ℕ → List ℕ → List ℕ
turned_back_into from to = cond (is_month (length from) (length to)) (turned_back (length from / 48) from) to

-- the place from which the next byte comes, of n: one row on, or at the top of the next column
abbrev pub stepped : ℕ → ℕ → ℕ → ℕ
stepped p row n = cond (ltb (p + row) n) (p + row) (p + row - (n - 1))

-- n bytes are rows of `row`, as many as a month can have, and there is room for them
pub record Rows (n room row : ℕ) : Type 0 where
  pub fits : room ≡ n
  pub whole : n / row * row ≡ n
  pub few : n ≤ 1488
  pub short : row ≤ 1488
