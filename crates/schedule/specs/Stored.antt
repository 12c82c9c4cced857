-- The held months' rates: what the pool and the store say of a slot, and what they are after a run of rates is put into them.
use Rattle.std.specs.Prelude.{ℕ, suc, ◌+◌, ◌-◌, ◌*◌, min, max, Bool, cond, ◌&&◌}
use Rattle.std.specs.Prelude.{List, leb, ltb, eqb, length, get_or, take, drop, replicate, Some, None, Option, is_none}
use Rattle.std.proofs.lemmas.List.Edits.{sets}
use Rattle.rules.specs.Calendar.{first_slot, month_of_slot, slot_count, month_count}
use Rattle.rules.specs.Store.{block_length, store_length, no_rate, rate_bytes, from_byte, sound_store}
use Rattle.rules.specs.Machine.{count_below}
use Rattle.pool.specs.Blocks.{find_of, take_of}
use Rattle.pool.specs.Held.{held_of}
use Rattle.pool.specs.declared.Pool.{Pool}

-- the pool and the store together
pub record Stored : Type 0 where
  pub pool : Pool
  pub store : List ℕ

-- a store of 01's length that is sound with the pool
unfoldable pub store_holds : Pool → List ℕ → Bool
store_holds p store = eqb (length store) store_length && sound_store (held_of p) store

-- ---- the rate of a slot

-- the byte of slot i of a month in block b
abbrev pub place : ℕ → ℕ → ℕ
place b i = b * block_length + i

abbrev pub rate_found : Option ℕ → List ℕ → ℕ → Option ℕ
rate_found (Some b) store i = from_byte (get_or store (place b i) no_rate)
rate_found None store i = None

unfoldable pub stored_rate : Pool → List ℕ → ℕ → Option ℕ
stored_rate p store s = rate_found (find_of p (month_of_slot s)) store (s - first_slot (month_of_slot s))

-- ---- rates of consecutive slots of one month, from its slot `from` on

pub record Piece : Type 0 where
  pub month : ℕ
  pub from : ℕ
  pub rates : List ℕ

-- 'A block newly taken is filled with 255 first'
abbrev pub blank : List ℕ
blank = replicate block_length no_rate

abbrev pub opened : Pool → Option ℕ → List ℕ → Stored
opened p (Some b) store = record { pool = p; store = sets store (place b 0) blank }
opened p None store = record { pool = p; store = store }

-- the month has its own block, or a free one that is filled with 255
abbrev pub open_by : Option ℕ → ℕ → Stored → Stored
open_by (Some b) m s = s
open_by None m s = opened (take_of s.pool m).pool (take_of s.pool m).place s.store

unfoldable pub open_month : ℕ → Stored → Stored
open_month m s = open_by (find_of s.pool m) m s

-- 'byte i is the rate of its slot i': rates of the block's slots from `from` on
abbrev pub laid : Option ℕ → ℕ → List ℕ → List ℕ → List ℕ
laid (Some b) from rates store = sets store (place b from) (rate_bytes rates)
laid None from rates store = store

abbrev pub lay_by : Option ℕ → Piece → Stored → Stored
lay_by f q s = record { pool = s.pool; store = laid f q.from q.rates s.store }

unfoldable pub lay_piece : Piece → Stored → Stored
lay_piece q s = lay_by (find_of s.pool q.month) q s

-- 'slots below floor are passed over'; a piece with no rates takes no block
unfoldable pub put_piece : ℕ → Piece → Stored → Stored
put_piece floor q s = cond (leb floor q.month && ltb 0 (length q.rates)) (lay_piece q (open_month q.month s)) s

-- ---- rates of consecutive slots, from slot s on

-- their part in month m
unfoldable pub piece_in : ℕ → ℕ → List ℕ → Piece
piece_in m s rates =
    let low = max s (first_slot m) in
    let high = min (s + length rates) (first_slot (suc m)) in
    record { month = m; from = low - first_slot m; rates = take (high - low) (drop (low - s) rates) }

-- what can be put: a store of 01's length, slots before the end of 2099 that run into the next month at most, as those of a
-- record do (a 201's and a 202's are one month's, a 203's are 7 days at the most)
unfoldable pub can_put : ℕ → List ℕ → Stored → Bool
can_put s rates st =
    eqb (length st.store) store_length
    && leb (s + length rates) slot_count
    && leb (s + length rates) (first_slot (suc (suc (month_of_slot s))))

unfoldable pub put_run : ℕ → ℕ → List ℕ → Stored → Stored
put_run floor s rates st =
    let m = month_of_slot s in
    cond (can_put s rates st)
    (put_piece floor (piece_in (suc m) s rates) (put_piece floor (piece_in m s rates) st))
    st

-- ---- the blocks that a run of n slots from slot s on still needs

-- a slot of the run stands in month m
abbrev pub meets : ℕ → ℕ → ℕ → Bool
meets m s n = ltb (max s (first_slot m)) (min (s + n) (first_slot (suc m)))

-- how many months from floor on have a slot of the run and no block
unfoldable pub missing : Pool → ℕ → ℕ → ℕ → ℕ
missing p floor s n = count_below month_count (λ m. leb floor m && meets m s n && is_none (find_of p m))
