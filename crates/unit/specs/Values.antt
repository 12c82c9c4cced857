-- The unit's struct in the words of 01: its values, its soundness, and the fresh unit.
use Rattle.std.specs.Prelude.{ℕ, Bool, List, replicate, None}
use Rattle.rules.specs.Plant.{Settings}
use Rattle.rules.specs.Store.{Values, sound_unit, fresh_requests, block_count}
use Rattle.pool.specs.Blocks.{is_free, all_free}
use Rattle.pool.specs.Held.{held_of}
use Rattle.pool.specs.declared.Pool.{Pool}
use Rattle.plant.specs.Plant.{settings_of, installed}
use Rattle.plant.specs.declared.Plant.{Plant}
use Rattle.polling.specs.Requests.{requests_of, requests_from}
use Rattle.unit.specs.declared.Unit.{Unit}
use Rattle.unit.specs.declared.Installed.{Installed}

unfoldable pub values_of : Unit → Values
values_of u = record {
  plant = u.plant.id;
  mac = u.plant.mac;
  settings = settings_of u.plant;
  clock = u.clock;
  floor = u.floor;
  held = held_of u.pool;
  free = is_free u.pool;
  requests = requests_of u.requests;
  command = u.command;
}

unfoldable pub is_sound : Unit → Bool
is_sound u = sound_unit (values_of u)

-- a pool with all blocks free
abbrev pub fresh_pool : Pool
fresh_pool = record { months = replicate block_count 0; free = all_free }

-- 'Fresh values in brackets': clock unset, floor 0, no file, flags none, all else 0
unfoldable pub fresh_unit : Plant → Unit
fresh_unit p = record {
  plant = p;
  pool = fresh_pool;
  requests = requests_from fresh_requests;
  clock = None;
  floor = 0;
  command = 0;
}

-- installing: 01's answer, and the fresh unit of the plant; where it is refused the plant is none, and the unit not sound
unfoldable pub installed_unit : List ℕ → List ℕ → Settings → Installed
installed_unit id mac s = record { answer = (installed id mac s).answer; unit = fresh_unit (installed id mac s).plant }
