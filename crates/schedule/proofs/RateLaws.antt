-- Laws of the rate of a slot: a byte as a rate, a rate as a byte, and the place of a slot.
use Rattle.std.specs.Prelude.{Some, None}
use Prim.Native.Nat.{ℕ, ◌-◌, ◌≤◌, ◌<◌}
use mathlib.Core.Path.{◌≡◌, refl, ap}
use mathlib.Core.Bool.{Bool, true, false}
use mathlib.Core.List.{List}
use native.Mathlib.Omega.{arith}
use lib.Dec.{ltb}
use lib.ListN.{length, get_or}
use borrow.Author.Tests.{eq-eqb, ne_eqb, ltb-true, ltb-false}
use Rattle.std.proofs.lemmas.List.{map-id}
use Rattle.rules.specs.Calendar.{first_slot, month_of_slot, slot_count, month_count}
use Rattle.rules.specs.Store.{no_rate, to_byte, rate_bytes, from_byte, block_count}
use Rattle.calendar.proofs.Laws.{slot-month-from, slot-month-past, slot-month-most, first-slot-end}
use Rattle.pool.specs.Blocks.{find_of}
use Rattle.pool.specs.declared.Pool.{Pool}
use Rattle.pool.proofs.Laws.{find_at}
use Rattle.schedule.specs.Stored.{place, stored_rate}
use Rattle.schedule.proofs.Parts.{get_d_in}

pub byte_none : (x : ℕ) → x ≡ no_rate → None ≡ from_byte x
unfolding from_byte
byte_none x e = rw (eq-eqb x no_rate e)

pub byte_some : (x : ℕ) → (x ≡ no_rate → ⊥) → Some x ≡ from_byte x
unfolding from_byte
byte_some x n = rw (ne_eqb x no_rate n)

-- ---- the bytes of rates

-- each rate is its own byte
pub bytes-same : (rates : List ℕ) → rate_bytes rates ≡ rates
unfolding rate_bytes
bytes-same rates = map-id rates

pub bytes-length : (rates : List ℕ) → length (rate_bytes rates) ≡ length rates
bytes-length rates = ap length (bytes-same rates)

pub bytes-at : (rates : List ℕ) (i d : ℕ) → i < length rates → get_or (rate_bytes rates) i d ≡ to_byte (Some (get_or rates i 0))
bytes-at rates i d h = rw bytes-same (get_d_in rates i d 0 h)

-- ---- the place of a slot

-- a slot does not lie before its month
pub slot_from : (s : ℕ) → first_slot (month_of_slot s) ≤ s
slot_from s = go (ltb s slot_count) refl
  where
    go : (t : Bool) → ltb s slot_count ≡ t → first_slot (month_of_slot s) ≤ s
    go true e = slot-month-from s (ltb-true s slot_count e)
    go false e = let l = ltb-false s slot_count e in rw (slot-month-past s l) (omega (arith, first-slot-end))

-- slots past the last one are in the month after it
pub month_most : (s : ℕ) → month_of_slot s ≤ month_count
month_most s = slot-month-most s

-- a found block is one of the blocks
pub find_below : (p : Pool) (m b : ℕ) → find_of p m ≡ Some b → b < block_count
find_below p m b e = (find_at p m b e).below

module _ (p : Pool) (store : List ℕ) (s : ℕ) where
  pub rate_found : (b : ℕ) → find_of p (month_of_slot s) ≡ Some b
      → stored_rate p store s ≡ from_byte (get_or store (place b (s - first_slot (month_of_slot s))) no_rate)
  unfolding stored_rate
  rate_found b e = rw e

  pub rate_nothing : find_of p (month_of_slot s) ≡ None → None ≡ (stored_rate p store s)
  unfolding stored_rate
  rate_nothing e = rw e

-- what the rate of a slot takes
pub ruleset rate_steps = (slot_from, find_below, rate_found, rate_nothing)
