-- The rows of 01's table that the calls of the unit look at, each a test of its own.
use Rattle.std.specs.Prelude.{ℕ, Bool, true, false, not, ◌&&◌, List, ltb, eqb, length, Option, Some, None}
use Rattle.rules.specs.Calendar.{end_of_time, slot_count}
use Rattle.rules.specs.Machine.{is_status}
use Rattle.rules.specs.Store.{store_length, sound_store}
use Rattle.rules.specs.Table.{Row, row}
use Rattle.rules.specs.declared.Cause.{Cause}
use Rattle.pool.specs.Held.{held_of}
use Rattle.unit.specs.Values.{is_sound}
use Rattle.unit.specs.declared.Unit.{Unit}

-- 3: 'store not 23,808 bytes'
abbrev pub length_row : List ℕ → Row
length_row store = row Cause.StoreLength (not (eqb (length store) store_length))

-- 4: 'unit, or a lent store, not sound'
abbrev pub unit_row : Unit → Row
unit_row u = row Cause.Unsound (not (is_sound u))

abbrev pub sound_row : Unit → List ℕ → Row
sound_row u store = row Cause.Unsound (not (is_sound u && sound_store (held_of u.pool) store))

-- 5: 'clock unset'
abbrev pub is_unset : Option ℕ → Bool
is_unset None = true
is_unset (Some t) = false

abbrev pub clock_row : Unit → Row
clock_row u = row Cause.ClockUnset (is_unset u.clock)

-- 6: 'tick not below T; slot not below 1,753,200; status not 0, 100-199 or 300-599'
abbrev pub tick_row : ℕ → Row
tick_row t = row Cause.Range (not (ltb t end_of_time))

abbrev pub slot_row : ℕ → Row
slot_row s = row Cause.Range (not (ltb s slot_count))

abbrev pub status_row : ℕ → Row
status_row x = row Cause.Range (not (is_status x))
