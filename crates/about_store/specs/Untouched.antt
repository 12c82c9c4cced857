-- What a put leaves as it was: the held months' blocks, and every byte outside the blocks of the months that it covers.
use Rattle.std.specs.Prelude.{ℕ, ◌≤◌, ◌<◌, ◌≡◌, Bool, true, length, get_or}
use Rattle.rules.specs.Store.{block_length, no_rate, block_count}
use Rattle.pool.specs.Held.{InBlock}
use Rattle.pool.specs.declared.Pool.{Pool}
use Rattle.schedule.specs.Stored.{Stored, place}

-- every held month keeps its block
pub record Keeps (p q : Pool) : Type 0 where
  pub long : length q.months ≡ block_count
  pub kept : (m b : ℕ) → InBlock p m b → InBlock q m b

-- from st to u: a byte changes only in the block of a month from floor on that is covered
pub record Untouched (floor : ℕ) (covered : ℕ → Bool) (st u : Stored) : Type 0 where
  pub keeps : Keeps st.pool u.pool
  pub size : length u.store ≡ length st.store
  pub same : (b i : ℕ) → i < block_length → ((m : ℕ) → floor ≤ m → covered m ≡ true → InBlock u.pool m b → ⊥)
      → get_or u.store (place b i) no_rate ≡ get_or st.store (place b i) no_rate
