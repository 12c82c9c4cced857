-- The pool of blocks: which are free, which month a used one holds, and what each call answers.
use Rattle.std.specs.Prelude.{Bool, cond, not, ◌&&◌, ◌||◌, ◌≡◌, List, ℕ, ◌+◌, ◌-◌, ◌<◌, ◌^◌, eqb, ltb, leb, get_or, set, Option, Some, None}
use Rattle.rules.specs.Calendar.{month_count, last_month}
use Rattle.rules.specs.Store.{block_count}
use Rattle.pool.specs.Below.{count_below, all_below, first_below, pairs_below, number, bit}
use Rattle.pool.specs.declared.Pool.{Pool}
use Rattle.pool.specs.declared.Taken.{Taken}

-- the free map has a bit for each block
abbrev pub free_width : ℕ
free_width = block_count

abbrev pub all_free : ℕ
all_free = 2 ^ block_count - 1

-- block b is free
abbrev pub is_free : Pool → ℕ → Bool
is_free p b = bit p.free b

-- the month of block b, where it is used
abbrev pub month_of : Pool → ℕ → ℕ
month_of p b = get_or p.months b 0

-- block b is used and holds month m
abbrev pub holds : Pool → ℕ → ℕ → Bool
holds p m b = not (is_free p b) && eqb (month_of p b) m

unfoldable pub free_count : Pool → ℕ
free_count p = count_below block_count (is_free p)

-- the block of month m
abbrev pub found_at : ℕ → Option ℕ
found_at b = cond (ltb b block_count) (Some b) None

unfoldable pub find_of : Pool → ℕ → Option ℕ
find_of p m = found_at (first_below block_count (holds p m))

-- block b given to month m: no longer free
abbrev pub given : Pool → ℕ → ℕ → Pool
given p m b = record { months = set p.months b m; free = number block_count (λ c. is_free p c && not (eqb c b)) }

-- the lowest free block is given to month m; a pool with none stays as it is
unfoldable pub take_of : Pool → ℕ → Taken
take_of p m =
    let b = first_below block_count (is_free p) in
    cond (ltb b block_count) (record { pool = given p m b; place = Some b }) (record { pool = p; place = None })

-- block b is free, or its month is below floor
abbrev pub free_after : Pool → ℕ → ℕ → Bool
free_after p floor b = is_free p b || ltb (month_of p b) floor

-- the blocks of months below floor are free too
unfoldable pub release_of : Pool → ℕ → Pool
release_of p floor = record { months = p.months; free = number block_count (free_after p floor) }

-- block b is free, or its month is between floor and the last one
abbrev pub in_range : Pool → ℕ → ℕ → Bool
in_range p floor b = is_free p b || leb floor (month_of p b) && leb (month_of p b) last_month

-- the month of block b, or a number past all months where it is free
abbrev pub key_of : Pool → ℕ → ℕ
key_of p b = cond (is_free p b) (month_count + b) (month_of p b)

-- the keys of the blocks
abbrev pub KeysOf : Pool → List ℕ → Type 0
KeysOf p keys = (b : ℕ) → b < block_count → get_or keys b 0 ≡ key_of p b

-- the used blocks' months are between floor and the last one, and no two are the same: each block has its key with itself alone
unfoldable pub sound_of : Pool → ℕ → Bool
sound_of p floor = all_below block_count (in_range p floor) && leb (pairs_below block_count (key_of p)) block_count
