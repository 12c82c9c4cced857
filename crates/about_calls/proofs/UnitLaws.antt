-- What the unit's calls with a store answer, on a unit that is sound with its store: one law for each row that can apply, and one where none does.
use Rattle.std.specs.Prelude.{Ok}
use Prim.Native.Nat.{ℕ}
use mathlib.Core.Path.{◌≡◌}
use mathlib.Core.Bool.{true, false}
use lib.Dec.{ltb, eqb}
use lib.ListN.{length}
use Rattle.rules.specs.Calendar.{end_of_time, slot_count}
use Rattle.rules.specs.File.{File, Outcome, refuse, file}
use Rattle.rules.specs.Store.{store_length, sound_store}
use Rattle.rules.specs.Causes.{accepted, refused, number_of, of_ceiling}
use Rattle.rules.specs.Machine.{tick, ceiling_of}
use Rattle.rules.specs.Table.{first_of}
use Rattle.rules.specs.declared.Cause.{Cause}
use Rattle.plant.specs.Plant.{settings_of}
use Rattle.pool.specs.Held.{held_of}
use Rattle.schedule.specs.Stored.{stored_rate}
use Rattle.ceiling.specs.Ceiling.{slot_ceiling}
use Rattle.unit.specs.Values.{is_sound}
use Rattle.unit.specs.Rows.{is_unset}
use Rattle.unit.specs.Calls.{ticked, tick_of, ceiling_of as ceiling_at}
use Rattle.taking.specs.Taken.{outcome_taken, store_taken, full_row, store_with, with_file}
use Rattle.calls.specs.Step.{State, Step, step_done, step}

-- a refusal: the cause's number, and the state as it was
abbrev pub refusal : Cause → State → Step
refusal c s = (refused (number_of c), s)

-- the step of what was read, as a file or out of a response
abbrev pub taken_step : Outcome → State → Step
taken_step o s = step_done (outcome_taken s.unit s.store o) (store_taken s.unit s.store o)

module _ (s : State) where
  -- ---- 3

  module _ (short : eqb (length s.store) store_length ≡ false) where
    pub tick-length : (t : ℕ) → step (tick t) s ≡ refusal Cause.StoreLength s
    unfolding step tick_of first_of
    tick-length t = rw short

    pub ceiling-length : (slot : ℕ) → step (ceiling_of slot) s ≡ refusal Cause.StoreLength s
    unfolding step ceiling_at first_of
    ceiling-length slot = rw short

    pub take-length : (o : Outcome) → taken_step o s ≡ refusal Cause.StoreLength s
    unfolding outcome_taken store_taken first_of
    take-length o = rw short

  module _ (full : eqb (length s.store) store_length ≡ true) (good : is_sound s.unit ≡ true)
      (bytes : sound_store (held_of s.unit.pool) s.store ≡ true) where
    -- ---- tick

    pub tick-range : (t : ℕ) → ltb t end_of_time ≡ false → step (tick t) s ≡ refusal Cause.Range s
    unfolding step tick_of first_of
    tick-range t e = rw (full, good, bytes, e)

    pub tick-done : (t : ℕ) → ltb t end_of_time ≡ true → step (tick t) s ≡ (accepted, record { unit = ticked s.store t s.unit; store = s.store })
    unfolding step tick_of first_of
    tick-done t e = rw (full, good, bytes, e)

    module _ (unset : is_unset s.unit.clock ≡ true) where
      pub ceiling-unset : (slot : ℕ) → step (ceiling_of slot) s ≡ refusal Cause.ClockUnset s
      unfolding step ceiling_at first_of
      ceiling-unset slot = rw (full, good, bytes, unset)

      pub take-unset : (o : Outcome) → taken_step o s ≡ refusal Cause.ClockUnset s
      unfolding outcome_taken store_taken first_of
      take-unset o = rw (full, good, bytes, unset)

    module _ (set : is_unset s.unit.clock ≡ false) where
      -- ---- ceiling

      pub ceiling-range : (slot : ℕ) → ltb slot slot_count ≡ false → step (ceiling_of slot) s ≡ refusal Cause.Range s
      unfolding step ceiling_at first_of
      ceiling-range slot e = rw (full, good, bytes, set, e)

      pub ceiling-done : (slot : ℕ) → ltb slot slot_count ≡ true
          → step (ceiling_of slot) s ≡ (of_ceiling (Ok (slot_ceiling (settings_of s.unit.plant) (stored_rate s.unit.pool s.store slot))), s)
      unfolding step ceiling_at first_of
      ceiling-done slot e = rw (full, good, bytes, set, e)

      -- ---- what was read, taken

      pub take-refused : (c : Cause) → taken_step (refuse c) s ≡ refusal c s
      unfolding outcome_taken store_taken first_of
      take-refused c = rw (full, good, bytes, set)

      pub take-full : (f : File) → (full_row f s.unit).applies ≡ true → taken_step (file f) s ≡ refusal (full_row f s.unit).cause s
      unfolding outcome_taken store_taken first_of
      take-full f g = rw (full, good, bytes, set, g)

      pub take_done : (f : File) → (full_row f s.unit).applies ≡ false
          → taken_step (file f) s ≡ (accepted, record { unit = with_file f s.store s.unit; store = store_with (file f) s.store s.unit })
      unfolding outcome_taken store_taken first_of
      take_done f g = rw (full, good, bytes, set, g)
