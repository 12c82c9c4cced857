-- Demand 1: every call on every unit and store, sound or not, is answered, or refused with the first cause whose row of 01's table, or of 02, applies, unit and
-- store as they were. Each row has a test of its own; the rows of a file taken are reading's, then 14, and of a response 17 before them.
use Rattle.std.specs.Prelude.{ℕ, ◌≡◌, Bool, true, false, not, ◌&&◌, ◌||◌, List, [], ◌∷◌, ◌++◌, ◌↔◌, ltb, eqb, length, Ok, Err, Option, None, Some}
use Rattle.rules.specs.Calendar.{end_of_time, slot_count}
use Rattle.rules.specs.Name.{parse_name}
use Rattle.rules.specs.Store.{store_length, sound_store}
use Rattle.rules.specs.Causes.{Reply, refused, number_of}
use Rattle.rules.specs.Machine.{Call, tick, clock_lost, file_taken, response_taken, failure, due, ceiling_of, command, free_blocks, is_status}
use Rattle.rules.specs.Table.{Row, row, applies_in, Lowest}
use Rattle.rules.specs.Response.{parse_response}
use Rattle.rules.specs.Rows.{taken_rows, formless}
use Rattle.rules.specs.declared.Cause.{Cause}
use Rattle.pool.specs.Held.{held_of}
use Rattle.unit.specs.Values.{is_sound}
use Rattle.unit.specs.Rows.{is_unset}
use Rattle.taking.specs.Taken.{take_of, response_of}
use Rattle.calls.specs.Step.{State, step}
use Rattle.unit.specs.declared.Unit.{Unit}
use Rattle.about_calls.specs.Theorem.{lent}
use Rattle.about_calls.specs.Full.{full_breaks}

-- 'clock unset (not: tick, clock lost, command, free blocks, request)'
abbrev pub needs_clock : Call → Bool
needs_clock (tick t) = false
needs_clock clock_lost = false
needs_clock (file_taken name body) = true
needs_clock (response_taken boundary bytes) = true
needs_clock (failure kind status) = true
needs_clock due = true
needs_clock (ceiling_of slot) = true
needs_clock command = false
needs_clock free_blocks = false

-- 'tick not below T; slot not below 1,753,200; status not 0, 100-199 or 300-599'
abbrev pub out_of_range : Call → Bool
out_of_range (tick t) = not (ltb t end_of_time)
out_of_range clock_lost = false
out_of_range (file_taken name body) = false
out_of_range (response_taken boundary bytes) = false
out_of_range (failure kind status) = not (is_status status)
out_of_range due = false
out_of_range (ceiling_of slot) = not (ltb slot slot_count)
out_of_range command = false
out_of_range free_blocks = false

-- 7 to 13 are reading's rows for the unit's plant; 14 'more than 16 months would be held'
abbrev pub taking_rows : Unit → List ℕ → List ℕ → List Row
taking_rows u name body = taken_rows u.plant.id name body ++ (row Cause.Full (full_breaks u (parse_name name) body) ∷ [])

-- of the name and file that a response carries; nothing to judge where it carries none
abbrev pub carried_by : Unit → Option (List ℕ × List ℕ) → List Row
carried_by u None = []
carried_by u (Some q) = taking_rows u q.0 q.1

-- no other call than a file or a response taken has these; 17 'A response that breaks this form', 'after 5 and before 7'
abbrev pub of_file : Call → Unit → List Row
of_file (tick t) u = []
of_file clock_lost u = []
of_file (file_taken name body) u = taking_rows u name body
of_file (response_taken boundary bytes) u =
    row Cause.Response (formless (parse_response boundary bytes)) ∷ carried_by u (parse_response boundary bytes)
of_file (failure kind status) u = []
of_file due u = []
of_file (ceiling_of slot) u = []
of_file command u = []
of_file free_blocks u = []

-- the rows of 01's table, and of 02, for a call: 3 'store not 23,808 bytes', 4 'unit, or a lent store, not sound'; 1 and 2 are installing's, 15 and 16 of the calls beside
-- the unit
unfoldable pub call_rows : Call → State → List Row
call_rows c s =
    row Cause.StoreLength (lent c && not (eqb (length s.store) store_length))
    ∷ row Cause.Unsound (not (is_sound s.unit) || lent c && not (sound_store (held_of s.unit.pool) s.store))
    ∷ row Cause.ClockUnset (needs_clock c && is_unset s.unit.clock)
    ∷ row Cause.Range (out_of_range c)
    ∷ of_file c s.unit

-- 'The lowest number that applies is given', in the order of the causes' places
abbrev pub RefusesLowest : Type 0
RefusesLowest = (c : Call) (s : State) (k : Cause) → ((step c s).0 ≡ refused (number_of k)) ↔ Lowest (call_rows c s) k

-- 'unit and store are then exactly as before'
abbrev pub RefusalLeaves : Type 0
RefusalLeaves = (c : Call) (s : State) (n : ℕ) → (step c s).0 ≡ refused n → (step c s).1 ≡ s

abbrev pub is_refused : Reply → Bool
is_refused Reply.accepted = false
is_refused (refused n) = true
is_refused (Reply.ceiling has r p) = false
is_refused Reply.update = false
is_refused (Reply.fixed w) = false
is_refused Reply.nothing = false
is_refused (Reply.parts n) = false
is_refused (Reply.blocks n) = false

-- no refusal exactly where no row applies
abbrev pub AcceptsElse : Type 0
AcceptsElse = (c : Call) (s : State) → (is_refused (step c s).0 ≡ false) ↔ ((k : Cause) → applies_in (call_rows c s) k ≡ false)

-- ---- of a file taken, in the answer that the unit's method gives

abbrev pub file_rows : Unit → List ℕ → List ℕ → List ℕ → List Row
file_rows u store name body = call_rows (file_taken name body) (record { unit = u; store = store })

abbrev pub FileRefuses : Type 0
FileRefuses =
    (u : Unit) (store name body : List ℕ) (k : Cause)
    → ((take_of u store name body).answer ≡ Err k) ↔ Lowest (file_rows u store name body) k

abbrev pub FileAccepts : Type 0
FileAccepts =
    (u : Unit) (store name body : List ℕ)
    → ((take_of u store name body).answer ≡ Ok tt) ↔ ((k : Cause) → applies_in (file_rows u store name body) k ≡ false)

-- ---- of a response taken, in the answer that `take_response` gives

abbrev pub whole_rows : Unit → List ℕ → List ℕ → List ℕ → List Row
whole_rows u store boundary bytes = call_rows (response_taken boundary bytes) (record { unit = u; store = store })

abbrev pub WholeRefuses : Type 0
WholeRefuses =
    (u : Unit) (store boundary bytes : List ℕ) (k : Cause)
    → ((response_of u store boundary bytes).answer ≡ Err k) ↔ Lowest (whole_rows u store boundary bytes) k

abbrev pub WholeAccepts : Type 0
WholeAccepts =
    (u : Unit) (store boundary bytes : List ℕ)
    → ((response_of u store boundary bytes).answer ≡ Ok tt) ↔ ((k : Cause) → applies_in (whole_rows u store boundary bytes) k ≡ false)
