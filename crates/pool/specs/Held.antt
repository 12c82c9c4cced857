-- What is meant by a held month and by a sound pool, in the words of the laws.
use Rattle.std.specs.Prelude.{◌≡◌, Bool, false, cond, ◌&&◌, ℕ, zero, suc, ◌≤◌, ◌<◌}
use mathlib.Core.List.{List, [], ◌∷◌, map, Memᴰ}
use Rattle.rules.specs.Calendar.{last_month}
use Rattle.rules.specs.Store.{Held as HeldMonth, sound_months, sound_blocks, block_count}
use Rattle.pool.specs.Blocks.{is_free, month_of}
use Rattle.pool.specs.declared.Pool.{Pool}

-- block b is used, and its month is m
pub record InBlock (p : Pool) (m b : ℕ) : Type 0 where
  pub below : b < block_count
  pub used : is_free p b ≡ false
  pub month : month_of p b ≡ m

-- some block holds month m
abbrev pub Held : Pool → ℕ → Type 0
Held p m = (b : ℕ) × InBlock p m b

-- held months are between floor and the last month, and each has one block
pub record Sound (p : Pool) (floor : ℕ) : Type 0 where
  pub low : (m b : ℕ) → InBlock p m b → floor ≤ m
  pub high : (m b : ℕ) → InBlock p m b → m ≤ last_month
  pub one : (m a b : ℕ) → InBlock p m a → InBlock p m b → a ≡ b

-- the months of the used blocks below k, the highest block's first
unfoldable pub months_below : ℕ → Pool → List ℕ
months_below zero p = []
months_below (suc k) p = cond (is_free p k) (months_below k p) (month_of p k ∷ months_below k p)

-- the held months, each once in a sound pool
abbrev pub held_months : Pool → List ℕ
held_months p = months_below block_count p

-- no number stands in the list twice
abbrev pub Distinct : List ℕ → Type 0
Distinct [] = Unit {0}
Distinct (x ∷ xs) = (Memᴰ x xs → ⊥) × Distinct xs

-- ---- the pool as 01's soundness speaks of it

-- the held months with their blocks, of the blocks below k
unfoldable pub held_below : ℕ → Pool → List HeldMonth
held_below zero p = []
held_below (suc k) p = cond (is_free p k) (held_below k p) (record { month = month_of p k; block = k } ∷ held_below k p)

abbrev pub held_of : Pool → List HeldMonth
held_of p = held_below block_count p

-- 'held months are distinct and between floor and 1199, their blocks distinct, the other blocks exactly the free ones'
unfoldable pub sound_pool : Pool → ℕ → Bool
sound_pool p floor = sound_months floor (map (λ h. h.month) (held_of p)) && sound_blocks (is_free p) (map (λ h. h.block) (held_of p))
