-- What each call of the unit answers and leaves. A refused call leaves unit and store as they were.
use Rattle.std.specs.Prelude.{ℕ, zero, suc, ◌-◌, cond, List, [], ◌∷◌, leb, Some, None, Result, Ok, Err, Option}
use Rattle.rules.specs.Calendar.{slot_of}
use Rattle.rules.specs.Causes.{Answer}
use Rattle.rules.specs.Plant.{last_digit}
use Rattle.rules.specs.Machine.{raised_floor, approach, target, failed}
use Rattle.rules.specs.Table.{first_of}
use Rattle.rules.specs.declared.Cause.{Cause}
use Rattle.rules.specs.declared.Ceiling.{Ceiling}
use Rattle.rules.specs.declared.Due.{Due}
use Rattle.rules.specs.declared.Kind.{Kind}
use Rattle.plant.specs.Plant.{settings_of}
use Rattle.pool.specs.Blocks.{release_of, free_count}
use Rattle.schedule.specs.Stored.{stored_rate}
use Rattle.polling.specs.Requests.{requests_of, requests_from}
use Rattle.polling.specs.Due.{due_for}
use Rattle.ceiling.specs.Ceiling.{slot_ceiling}
use Rattle.unit.specs.Rows.{length_row, unit_row, sound_row, clock_row, tick_row, slot_row, status_row}
use Rattle.unit.specs.declared.Unit.{Unit}
use Rattle.unit.specs.Changed.{Done}

-- the new unit where no row applies, else the old one with the cause
abbrev pub done_by : Option Cause → Unit → Unit → Done
done_by None new old = record { unit = new; answer = Ok tt }
done_by (Some c) new old = record { unit = old; answer = Err c }

abbrev pub refusal : Unit → Cause → Done
refusal u c = record { unit = u; answer = Err c }

-- the answer where no row applies, else the cause
abbrev pub answer_by : {A : Type 0} → Option Cause → A → Result A Cause
answer_by None a = Ok a
answer_by (Some c) a = Err c

-- 3 and 4, which are looked at first where a store is lent
unfoldable pub lent_of : Unit → List ℕ → Answer
lent_of u store = answer_by (first_of (length_row store ∷ sound_row u store ∷ [])) tt

-- ---- tick

-- the clock at t: floor is raised, and blocks of months below it are given back
unfoldable pub set_clock : ℕ → Unit → Unit
set_clock t u = record {
  plant = u.plant;
  pool = release_of u.pool (raised_floor u.floor t);
  requests = u.requests;
  clock = Some t;
  floor = raised_floor u.floor t;
  command = u.command;
}

unfoldable pub with_command : ℕ → Unit → Unit
with_command c u = record {
  plant = u.plant;
  pool = u.pool;
  requests = u.requests;
  clock = u.clock;
  floor = u.floor;
  command = c;
}

-- the second t of a tick: floor first, then the command toward the target of the second's slot
unfoldable pub second : List ℕ → ℕ → Unit → Unit
second store t u =
    let v = set_clock t u in
    with_command (approach (target (settings_of u.plant) (stored_rate v.pool store (slot_of t))) u.command) v

-- the n seconds after second c
unfoldable pub seconds : List ℕ → ℕ → ℕ → Unit → Unit
seconds store zero c u = u
seconds store (suc n) c u = seconds store n (suc c) (second store (suc c) u)

abbrev pub tick_from : List ℕ → ℕ → Option ℕ → Unit → Unit
tick_from store t None u = set_clock t u
tick_from store t (Some c) u = cond (leb t c) (set_clock t u) (seconds store (t - c) c u)

unfoldable pub ticked : List ℕ → ℕ → Unit → Unit
ticked store t u = tick_from store t u.clock u

unfoldable pub tick_of : Unit → List ℕ → ℕ → Done
tick_of u store t = done_by (first_of (length_row store ∷ sound_row u store ∷ tick_row t ∷ [])) (ticked store t u) u

-- ---- clock lost

unfoldable pub lost : Unit → Unit
lost u = record { plant = u.plant; pool = u.pool; requests = u.requests; clock = None; floor = u.floor; command = 0 }

unfoldable pub lost_of : Unit → Done
lost_of u = done_by (first_of (unit_row u ∷ [])) (lost u) u

-- ---- failure reported

abbrev pub clock_time : Option ℕ → ℕ
clock_time None = 0
clock_time (Some t) = t

unfoldable pub with_failure : Kind → ℕ → Unit → Unit
with_failure kind status u = record {
  plant = u.plant;
  pool = u.pool;
  requests = requests_from (failed (settings_of u.plant) (last_digit u.plant.id) kind (clock_time u.clock) status (requests_of u.requests));
  clock = u.clock;
  floor = u.floor;
  command = u.command;
}

unfoldable pub failure_of : Unit → Kind → ℕ → Done
failure_of u kind status = done_by (first_of (unit_row u ∷ clock_row u ∷ status_row status ∷ [])) (with_failure kind status u) u

-- ---- the questions

unfoldable pub due_of : Unit → Result (Option Due) Cause
due_of u =
    answer_by (first_of (unit_row u ∷ clock_row u ∷ []))
    (due_for (settings_of u.plant) (last_digit u.plant.id) (clock_time u.clock) (requests_of u.requests))

unfoldable pub ceiling_of : Unit → List ℕ → ℕ → Result (Option Ceiling) Cause
ceiling_of u store s =
    answer_by (first_of (length_row store ∷ sound_row u store ∷ clock_row u ∷ slot_row s ∷ []))
    (slot_ceiling (settings_of u.plant) (stored_rate u.pool store s))

unfoldable pub command_of : Unit → Result ℕ Cause
command_of u = answer_by (first_of (unit_row u ∷ [])) u.command

unfoldable pub free_of : Unit → Result ℕ Cause
free_of u = answer_by (first_of (unit_row u ∷ [])) (free_count u.pool)
