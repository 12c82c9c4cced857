-- When pool and store agree with the plain machine: the same months are held, and each held month's block has the machine's rates.
use Rattle.std.specs.Prelude.{ℕ, zero, suc, ◌+◌, ◌^◌, ◌≤◌, ◌<◌, ◌≡◌, ◌↔◌, true, cond, List, [], ◌∷◌, ltb, length, get_or, Option, None, Some}
use Rattle.rules.specs.Calendar.{first_slot, slots_of_month, last_month}
use Rattle.rules.specs.Body.{highest_rate}
use Rattle.rules.specs.Store.{block_length, store_length, block_of, no_rate, to_byte, Held as HeldMonth, block_count}
use Rattle.rules.specs.Machine.{Machine, rate_of, is_held}
use Rattle.pool.specs.Held.{InBlock, Held, Sound}
use Rattle.schedule.specs.Stored.{Stored, place}

-- the machine's rate of slot i of month m; none past the month's end
unfoldable pub rate_at : Machine → ℕ → ℕ → Option ℕ
rate_at M m i = cond (ltb i (slots_of_month m)) (rate_of M (first_slot m + i)) None

-- 'byte i is the rate of its slot i, 255 where no file gave one': the bytes that the machine's rates of month m make, k from slot i on
unfoldable pub bytes_from : Machine → ℕ → ℕ → ℕ → List ℕ
bytes_from M m i zero = []
bytes_from M m i (suc k) = to_byte (rate_at M m i) ∷ bytes_from M m (suc i) k

-- a whole block
abbrev pub month_bytes : Machine → ℕ → List ℕ
month_bytes M m = bytes_from M m 0 block_length

-- each held month's block has them
abbrev pub BlocksHave : Machine → List HeldMonth → List ℕ → Type 0
BlocksHave M [] store = Unit {0}
BlocksHave M (h ∷ hs) store = (block_of store h.block ≡ month_bytes M h.month) × BlocksHave M hs store

pub record Agrees (st : Stored) (M : Machine) : Type 0 where
  -- what every pool and store of the code has: a month and a bit for each block, and 01's length
  pub months : length st.pool.months ≡ block_count
  pub bits : st.pool.free < 2 ^ block_count
  pub full : length st.store ≡ store_length
  pub floor : M.floor ≤ last_month
  -- held months are between floor and the last month, and each has one block
  pub sound : Sound st.pool M.floor
  -- they are the machine's
  pub held : (m : ℕ) → Held st.pool m ↔ (is_held M m ≡ true)
  -- each byte of a held month's block is the machine's rate of its slot, and 255 past the month's end
  pub bytes : (m b i : ℕ) → InBlock st.pool m b → i < block_length → get_or st.store (place b i) no_rate ≡ to_byte (rate_at M m i)
  -- no rate reads as 255
  pub rates : (s r : ℕ) → rate_of M s ≡ Some r → r ≤ highest_rate
