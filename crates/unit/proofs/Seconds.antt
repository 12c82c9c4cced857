-- The seconds of a tick: all of them at once are what they are one by one, and each leaves a sound unit and a sound store sound.
use Rattle.std.specs.Prelude.{Some}
use Prim.Native.Nat.{ℕ, zero, suc, ◌+◌, ◌-◌, ◌*◌, ◌≤◌, ◌<◌}
use native.Mathlib.Omega.{arith}
use mathlib.Core.Path.{◌≡◌, ◌∙◌, sym, ap, ap₂}
use mathlib.Core.Bool.{true}
use mathlib.Core.List.{List}
use borrow.Author.Tests.{lt-ltb, le-leb, ltb-true, leb-true}
use Rattle.rules.specs.Calendar.{slot_of, end_of_time, month_count}
use Rattle.rules.specs.Plant.{full_command}
use Rattle.rules.specs.Machine.{raised_floor, target, or_zero, approach}
use Rattle.calendar.proofs.Laws.{slot-month-few, month-slot}
use Rattle.plant.specs.Plant.{settings_of}
use Rattle.plant.proofs.Laws.{valid-facts, parts-most}
use Rattle.pool.specs.Blocks.{release_of}
use Rattle.pool.specs.Held.{Sound}
use Rattle.pool.proofs.Laws.{released-sound}
use Rattle.pool.proofs.SoundLaws.{pool-facts, facts-pool}
use Rattle.schedule.specs.Stored.{stored_rate}
use Rattle.ramp.specs.Command.{goal_of, command_over}
use Rattle.ramp.proofs.Laws.{command_over-same, approach-most}
use Rattle.unit.specs.Values.{is_sound}
use Rattle.unit.specs.Calls.{set_clock, with_command, second, seconds}
use Rattle.unit.specs.declared.Unit.{Unit}
use Rattle.unit.proofs.SoundParts.{SoundParts, sound-parts, parts-sound, SoundWith}
use Rattle.unit.proofs.ReleaseLaws.{release_release, floor-again, rate-released, store-released, rate-legal}

-- ---- all at once

-- the unit at second t with a command
abbrev pub jumped : Unit → ℕ → ℕ → Unit
jumped u t command = set_clock t (with_command command u)

module _ (store : List ℕ) where
  -- one second, by the rates before it
  second_is : (c : ℕ) (u : Unit) → Sound u.pool u.floor
      → second store (suc c) u ≡ jumped u (suc c) (approach (goal_of (settings_of u.plant) u.pool store (slot_of (suc c))) u.command)
  unfolding second set_clock with_command
  second_is c u s =
      ap (λ r. with_command (approach (target (settings_of u.plant) r) u.command) (set_clock (suc c) u))
      (rate-released u.pool store u.floor (suc c) (suc c) s (omega arith))

  second-sound : (c : ℕ) (u : Unit) → Sound u.pool u.floor → Sound (second store (suc c) u).pool (second store (suc c) u).floor
  unfolding second set_clock with_command
  second-sound c u s = released-sound u.pool (raised_floor u.floor (suc c)) u.floor s

  -- the next jump does not look at the second before it
  jump_again : (u : Unit) (s t x : ℕ) → s ≤ t → jumped (second store s u) t x ≡ jumped u t x
  unfolding second set_clock with_command
  jump_again u s t x l =
      let low = raised_floor u.floor s in
      let floor = floor-again u.floor s t l in
      let pool = release_release u.pool low (raised_floor low t) (omega arith) ∙ ap (release_of u.pool) floor in
      λ i. record { plant = u.plant; pool = pool i; requests = u.requests; clock = Some t; floor = floor i; command = x }

  -- and the seconds after it move the command by the rates before it
  command-again : (n c : ℕ) (u : Unit) → Sound u.pool u.floor
      → (let v = second store (suc c) u in command_over (settings_of v.plant) v.pool store n (suc c) v.command)
      ≡ command_over (settings_of u.plant) u.pool store (suc n) c u.command
  unfolding second set_clock with_command command_over
  command-again n c u s =
      let v = second store (suc c) u in
      command_over-same (settings_of u.plant) v.pool u.pool store store n (suc c) v.command
      (λ t a b. rate-released u.pool store u.floor (suc c) t s (omega arith))
      ∙ ap (λ r. command_over (settings_of u.plant) u.pool store n (suc c) (approach (target (settings_of u.plant) r) u.command))
      (rate-released u.pool store u.floor (suc c) (suc c) s (omega arith))

  -- n + 1 seconds at once: by the pool and the store before them
  pub seconds-jump : (n c : ℕ) (u : Unit) → Sound u.pool u.floor
      → seconds store (suc n) c u ≡ jumped u (c + suc n) (command_over (settings_of u.plant) u.pool store (suc n) c u.command)
  unfolding seconds command_over
  seconds-jump zero c u s =
      let e : suc c ≡ c + 1 = omega arith in
      second_is c u s ∙ ap (λ (t : ℕ). jumped u t (command_over (settings_of u.plant) u.pool store 1 c u.command)) e
  seconds-jump (suc n) c u s =
      let e : suc c + suc n ≡ c + suc (suc n) = omega arith in
      seconds-jump n (suc c) (second store (suc c) u) (second-sound c u s)
      ∙ ap (jumped (second store (suc c) u) (suc c + suc n)) (command-again (suc n) c u s)
      ∙ jump_again u (suc c) (suc c + suc n) (command_over (settings_of u.plant) u.pool store (suc (suc n)) c u.command) (omega arith)
      ∙ ap (λ (t : ℕ). jumped u t (command_over (settings_of u.plant) u.pool store (suc (suc n)) c u.command)) e

-- ---- of a sound unit

module _ (u : Unit) (good : is_sound u ≡ true) where
  parts : SoundParts u
  parts = sound-parts u good

  pub pool-sound : Sound u.pool u.floor
  pool-sound = pool-facts u.pool u.floor parts.pool

  pub few : u.plant.settings.minutes ≤ 10
  few = (valid-facts u.plant parts.plant).settings.minutes-most

  pub low : u.command ≤ 60000
  low = let h = leb-true u.command (6000 * u.plant.settings.minutes) parts.command in omega (arith, few)

  -- the seconds up to t at once: the clock at t, floor and pool of t, and the command by the pool and the store before them
  pub seconds-once : (store : List ℕ) (c t : ℕ) → c < t
      → seconds store (t - c) c u ≡ jumped u t (command_over (settings_of u.plant) u.pool store (t - c) c u.command)
  seconds-once store c t l =
      let n = t - c - 1 in
      let many : t - c ≡ suc n = omega arith in
      let end : c + suc n ≡ t = omega arith in
      ap (λ (k : ℕ). seconds store k c u) many
      ∙ seconds-jump store n c u pool-sound
      ∙ ap₂ (λ (s k : ℕ). jumped u s (command_over (settings_of u.plant) u.pool store k c u.command)) end (sym many)

-- ---- soundness is kept

module _ (u : Unit) (store : List ℕ) (good : SoundWith u store) where
  -- the clock at any second below T, with a command that is at most 100%
  jumped-sound : (t x : ℕ) → t < end_of_time → x ≤ full_command (settings_of u.plant) → SoundWith (jumped u t x) store
  unfolding set_clock with_command
  jumped-sound t x l h =
      let s = sound-parts u good.unit in
      let floor = ltb-true u.floor month_count s.floor in
      let month = slot-month-few (slot_of t) (omega arith) in
      let m = month-slot t in
      record {
        unit = parts-sound (jumped u t x) (record {
          plant = s.plant;
          floor = lt-ltb (raised_floor u.floor t) month_count (omega arith);
          pool = facts-pool (release_of u.pool (raised_floor u.floor t)) (raised_floor u.floor t)
              (released-sound u.pool (raised_floor u.floor t) u.floor (pool-facts u.pool u.floor s.pool));
          requests = s.requests;
          clock = lt-ltb t end_of_time l;
          command = le-leb x (6000 * u.plant.settings.minutes) h;
        });
        lent = store-released u.pool (raised_floor u.floor t) store good.lent;
      }

  full : u.command ≤ full_command (settings_of u.plant)
  full = leb-true u.command (6000 * u.plant.settings.minutes) (sound-parts u good.unit).command

  pub second-keeps : (c : ℕ) → suc c < end_of_time → SoundWith (second store (suc c) u) store
  second-keeps c l =
      let settings = settings_of u.plant in
      let rate = stored_rate u.pool store (slot_of (suc c)) in
      let legal = rate-legal u.pool store (slot_of (suc c)) (omega arith) good.lent in
      rw (second_is store c u (pool-sound u good.unit))
      (jumped-sound (suc c) (approach (target settings rate) u.command) l
      (approach-most (target settings rate) u.command (full_command settings) (parts-most settings (or_zero rate) legal) full))
