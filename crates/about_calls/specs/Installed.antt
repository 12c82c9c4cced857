-- Installing 'refuses only where cause 1 or 2 applies and otherwise gives the fresh unit of those values'; what it hands back where it refuses, every call
-- refuses. `installed_unit` is the definition in the contract of Unit::install.
use Rattle.std.specs.Prelude.{ℕ, ◌<◌, ◌≡◌, true, false, List, map, ◌↔◌, Ok, Err}
use Rattle.rules.specs.Plant.{Settings}
use Rattle.rules.specs.Store.{Values, block_count, fresh_values}
use Rattle.rules.specs.Machine.{Call}
use Rattle.rules.specs.Table.{applies_in, Lowest}
use Rattle.rules.specs.Writer.{refuse}
use Rattle.rules.specs.Rows.{install_rows}
use Rattle.rules.specs.declared.Cause.{Cause}
use Rattle.plant.specs.Plant.{plant_of, valid_plant}
use Rattle.unit.specs.Values.{values_of, is_sound, fresh_unit, installed_unit}
use Rattle.unit.specs.Request.{request_of}
use Rattle.calls.specs.Step.{replies, after}
use Rattle.about_calls.specs.Theorem.{installed_state, unsound_reply}

abbrev pub InstallRefuses : Type 0
InstallRefuses =
    (id mac : List ℕ) (set : Settings) (k : Cause) → ((installed_unit id mac set).answer ≡ Err k) ↔ Lowest (install_rows id mac set) k

abbrev pub InstallAccepts : Type 0
InstallAccepts =
    (id mac : List ℕ) (set : Settings) → ((installed_unit id mac set).answer ≡ Ok tt) ↔ ((k : Cause) → applies_in (install_rows id mac set) k ≡ false)

-- ---- an accepted install

-- two units have the same values; of the map of free blocks the sixteen count
pub record SameValues (v w : Values) : Type 0 where
  pub plant : v.plant ≡ w.plant
  pub mac : v.mac ≡ w.mac
  pub settings : v.settings ≡ w.settings
  pub clock : v.clock ≡ w.clock
  pub floor : v.floor ≡ w.floor
  pub held : v.held ≡ w.held
  pub free : (b : ℕ) → b < block_count → v.free b ≡ w.free b
  pub requests : v.requests ≡ w.requests
  pub command : v.command ≡ w.command

-- the fresh unit of the caller's values, which are a valid plant: 01's fresh values; it is sound
pub record FreshOf (id mac : List ℕ) (set : Settings) : Type 0 where
  pub unit : (installed_unit id mac set).unit ≡ fresh_unit (plant_of id mac set)
  pub values : SameValues (values_of (installed_unit id mac set).unit) (fresh_values id mac set)
  pub valid : valid_plant (plant_of id mac set) ≡ true
  pub sound : is_sound (installed_unit id mac set).unit ≡ true

abbrev pub InstallFresh : Type 0
InstallFresh = (id mac : List ℕ) (set : Settings) → (installed_unit id mac set).answer ≡ Ok tt → FreshOf id mac set

-- ---- a refused install

-- every list of calls on the unit that it hands back is refused, call by call, with unit and store as they were; and so is every request
abbrev pub RefusedInstall : Type 0
RefusedInstall =
    (id mac : List ℕ) (set : Settings) (k : Cause) → (installed_unit id mac set).answer ≡ Err k
    → (store : List ℕ) (cs : List Call)
    → (replies cs (installed_state id mac set store) ≡ map (unsound_reply store) cs)
    × (after cs (installed_state id mac set store) ≡ installed_state id mac set store)
    × ((segment : List ℕ) (room : ℕ) → request_of (installed_unit id mac set).unit segment room ≡ refuse Cause.Unsound)
