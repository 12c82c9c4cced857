-- The plant that a unit keeps: its settings, whether it is valid, and what installing one gives.
use Rattle.rules.specs.Causes.{Answer}
use Rattle.std.specs.Prelude.{ℕ, min, Bool, ◌&&◌, List, leb, replicate, Ok, Err}
use Rattle.rules.specs.Plant.{Settings, plant_id, mac_address, valid_settings, installing}
use Rattle.rules.specs.declared.Cause.{Cause}
use Rattle.plant.specs.declared.Settings.{Settings as Kept}
use Rattle.plant.specs.declared.GivenSettings.{GivenSettings as Given}
use Rattle.plant.specs.declared.Plant.{Plant}
use Rattle.plant.specs.declared.Installed.{Installed}

-- ---- settings: those that a plant keeps, and those that an installer gives

abbrev pub kept_of : Kept → Settings
kept_of s = record { panel = s.panel; inverter = s.inverter; minutes = s.minutes }

abbrev pub kept_from : Settings → Kept
kept_from s = record { panel = s.panel; inverter = s.inverter; minutes = s.minutes }

abbrev pub given_of : Given → Settings
given_of g = record { panel = g.panel; inverter = g.inverter; minutes = g.minutes }

-- the greatest number of 32 bits: no setting may be it
abbrev pub widest : ℕ
widest = 4294967295

-- what a plant keeps of numbers of any width: one that 32 bits do not hold becomes the widest, so that none is cut to one in range
abbrev pub narrowed : Settings → Settings
narrowed s = record { panel = min s.panel widest; inverter = min s.inverter widest; minutes = min s.minutes widest }

-- whether 32 bits hold each, as they do of every plant
unfoldable pub is_kept : Settings → Bool
is_kept s = leb s.panel widest && leb s.inverter widest && leb s.minutes widest

-- ---- plants

abbrev pub settings_of : Plant → Settings
settings_of p = kept_of p.settings

-- whether installing accepts a plant of these values
unfoldable pub valid_plant : Plant → Bool
valid_plant p = plant_id p.id && mac_address p.mac && valid_settings (settings_of p)

-- the plant of these values
abbrev pub plant_of : List ℕ → List ℕ → Settings → Plant
plant_of id mac s = record { id = id; mac = mac; settings = kept_from s }

-- no plant: zeros, which no installation accepts
abbrev pub no_plant : Plant
no_plant = plant_of (replicate 26 0) (replicate 12 0) (record { panel = 0; inverter = 0; minutes = 0 })

-- the plant that an answer leaves, where p asks to be installed
abbrev pub kept : Answer → Plant → Plant
kept (Ok tt) p = p
kept (Err c) p = no_plant

abbrev pub refusal : Cause → Installed
refusal c = record { answer = Err c; plant = no_plant }

-- what installing gives: 01's answer, and the plant of the caller's values where it is accepted
unfoldable pub installed : List ℕ → List ℕ → Settings → Installed
installed id mac s = record { answer = installing id mac s; plant = kept (installing id mac s) (plant_of id mac s) }
