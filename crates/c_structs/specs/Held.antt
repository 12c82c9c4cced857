-- The unit as C holds it: which unit a struct stands for, and what a call hands back.
use Rattle.std.specs.Option.{unwrap_or}
use Rattle.std.specs.Prelude.{ℕ, Bool, true, cond, ◌&&◌, eqb, Option, Some, None, Ok, Err}
use Rattle.rules.specs.Causes.{Answer, number_of}
use Rattle.rules.specs.Plant.{Settings}
use Rattle.plant.specs.Plant.{kept_from, narrowed, is_kept, settings_of}
use Rattle.unit.specs.declared.Unit.{Unit}
use Rattle.unit.specs.Changed.{Done}
use Rattle.unit.specs.declared.Installed.{Installed}
use Rattle.c_structs.specs.declared.HeldSettings.{HeldSettings}
use Rattle.c_structs.specs.declared.HeldUnit.{HeldUnit}
use Rattle.c_structs.specs.declared.Handed.{Handed}

-- the settings that C gives or holds, and the struct of settings
abbrev pub settings_in : HeldSettings → Settings
settings_in h = record { panel = h.panel; inverter = h.inverter; minutes = h.minutes }

abbrev pub settings_held : Settings → HeldSettings
settings_held s = record { panel = s.panel; inverter = s.inverter; minutes = s.minutes }

-- a clock that is not below T
abbrev pub never : Option ℕ
never = Some 4294967295

-- mark 1: at that second; mark 0 with second 0: unset; else none that is sound
unfoldable pub clock_from : ℕ → ℕ → Option ℕ
clock_from mark second = cond (eqb mark 1) (Some second) (cond (eqb mark 0 && eqb second 0) None never)

abbrev pub mark_of : Option ℕ → ℕ
mark_of None = 0
mark_of (Some t) = 1

abbrev pub second_of : Option ℕ → ℕ
second_of clock = unwrap_or clock 0

-- whether some unit has the clock of these fields
unfoldable pub is_held_clock : ℕ → ℕ → Bool
is_held_clock mark second = cond (eqb mark 1) true (eqb mark 0 && eqb second 0)

-- whether some unit converts to the struct: it has such a clock, and 32 bits hold the settings
unfoldable pub is_held_unit : HeldUnit → Bool
is_held_unit h = is_held_clock h.clock_set h.clock && is_kept (settings_in h.settings)

-- the unit that a struct stands for
unfoldable pub opened : HeldUnit → Unit
opened h = record {
  plant = record { id = h.id; mac = h.mac; settings = kept_from (narrowed (settings_in h.settings)) };
  pool = record { months = h.months; free = h.free };
  requests = record {
    wanted_flag = h.wanted_flag;
    held_flag = h.held_flag;
    failures = h.failures;
    fixed_at = h.fixed_at;
    update_at = h.update_at;
  };
  clock = clock_from h.clock_set h.clock;
  floor = h.floor;
  command = h.command;
}

-- the struct of a unit
unfoldable pub shut_of : Unit → HeldUnit
shut_of u = record {
  id = u.plant.id;
  mac = u.plant.mac;
  wanted_flag = u.requests.wanted_flag;
  held_flag = u.requests.held_flag;
  failures = u.requests.failures;
  clock_set = mark_of u.clock;
  floor = u.floor;
  months = u.pool.months;
  free = u.pool.free;
  clock = second_of u.clock;
  command = u.command;
  fixed_at = u.requests.fixed_at;
  update_at = u.requests.update_at;
  settings = settings_held (settings_of u.plant);
}

-- 0, or the cause's number in 01's table
abbrev pub answer_number : Answer → ℕ
answer_number (Ok tt) = 0
answer_number (Err c) = number_of c

abbrev pub handed_by : Answer → HeldUnit → Unit → Handed
handed_by (Ok tt) h u = record { unit = shut_of u; cause = 0 }
handed_by (Err c) h u = record { unit = h; cause = number_of c }

-- the call's unit, or where it is refused the struct that came in
unfoldable pub handed : HeldUnit → Done → Handed
handed h d = handed_by d.answer h d.unit

-- the unit of installing, and its answer
unfoldable pub newly : Installed → Handed
newly i = record { unit = shut_of i.unit; cause = answer_number i.answer }
