-- What the code's answers are in terms of `Stored`: a rate that may be missing, and values put together.
use Rattle.std.specs.Prelude.{ℕ, suc, ◌+◌, ◌-◌, ◌%◌, ◌<◌, min, ◌≡◌, Bool, cond, ◌&&◌, List, leb, eqb, Some, Option}
use Rattle.rules.specs.Calendar.{first_slot, month_of_slot, slot_count}
use Rattle.rules.specs.Body.{highest_rate}
use Rattle.rules.specs.Store.{store_length, no_rate, block_count}
use Rattle.pool.specs.declared.Pool.{Pool}
use Rattle.schedule.specs.Stored.{Stored, Piece}

-- the pool p with the bytes of the store
abbrev pub stored_of : Pool → List ℕ → Stored
stored_of p store = record { pool = p; store = store }

-- rates of month m from its slot `from` on
abbrev pub piece_of : ℕ → ℕ → List ℕ → Piece
piece_of m from rates = record { month = m; from = from; rates = rates }

-- a block that is found stands in the store
abbrev pub InStore : Option ℕ → Type 0
InStore f = (b : ℕ) → f ≡ Some b → b < block_count

-- `can_put` of n rates from slot s on and a store of so many bytes
abbrev pub can_put_count : ℕ → ℕ → ℕ → Bool
can_put_count s n bytes =
    eqb bytes store_length && leb (s + n) slot_count && leb (s + n) (first_slot (suc (suc (month_of_slot s))))

-- a byte's rank where 255 comes first, before 0
abbrev pub rank_of : ℕ → ℕ
rank_of x = (x + 1) % 256

-- the rank of the highest rate
abbrev pub highest_rank : ℕ
highest_rank = highest_rate + 1

-- a byte past the month's end
abbrev pub blank_byte : ℕ → Bool
blank_byte x = eqb x no_rate

-- the month after the last one that has one of the n slots from slot s on; 0 of no slots
unfoldable pub end_month : ℕ → ℕ → ℕ
end_month s n = cond (eqb n 0) 0 (suc (month_of_slot (min (s + n) slot_count - 1)))
