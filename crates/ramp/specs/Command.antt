-- The command over the seconds of a tick (01, The plain machine): what the pool and the store before the tick make of it.
use Rattle.std.specs.Prelude.{ℕ, zero, suc, ◌+◌, ◌-◌, ◌*◌, ◌≤◌, ◌<◌, min, max, cond, ◌&&◌, List, leb}
use Rattle.rules.specs.Calendar.{slot_length, slot_of}
use Rattle.rules.specs.Plant.{Settings}
use Rattle.rules.specs.Machine.{target, approach}
use Rattle.plant.specs.Plant.{settings_of}
use Rattle.plant.specs.declared.Plant.{Plant}
use Rattle.pool.specs.declared.Pool.{Pool}
use Rattle.schedule.specs.Stored.{stored_rate}

-- '60 × N × p' of a slot; 'no rate counts as r = 0'
abbrev pub goal_of : Settings → Pool → List ℕ → ℕ → ℕ
goal_of settings pool store slot = target settings (stored_rate pool store slot)

-- the n seconds after second c: 'the command moves toward 60 × N × p of that second's slot by at most 100 and stops there'
unfoldable pub command_over : Settings → Pool → List ℕ → ℕ → ℕ → ℕ → ℕ
command_over settings pool store zero c command = command
command_over settings pool store (suc n) c command =
    command_over settings pool store n (suc c) (approach (goal_of settings pool store (slot_of (suc c))) command)

-- n seconds toward one goal, at once
unfoldable pub moved : ℕ → ℕ → ℕ → ℕ
moved goal n command = cond (leb command goal) (min goal (command + 100 * n)) (max goal (command - 100 * n))

-- the last second of a slot
abbrev pub last_second : ℕ → ℕ
last_second slot = slot_length * slot + (slot_length - 1)

-- values with which a slot's 1,800 seconds reach any target; from and until are seconds or slots
pub record InReach (minutes from until command : ℕ) : Type 0 where
  pub few : minutes ≤ 10
  pub later : from < until
  pub low : command ≤ 180000

-- the command after a tick from clock to until. A sound unit has N at most 10 and a command of at most 60,000 parts; with those
-- and any store a target is at most 152,400 parts, and a slot's 1,800 seconds always reach it. Any other command stays
unfoldable pub command_after : Plant → Pool → List ℕ → ℕ → ℕ → ℕ → ℕ
command_after plant pool store clock until command =
    cond (leb plant.settings.minutes 10 && leb command 60000)
    (command_over (settings_of plant) pool store (until - clock) clock command)
    command
