-- A sound unit, as facts one by one; and a unit with its store, both sound.
use Prim.Native.Nat.{ℕ, ◌*◌}
use mathlib.Core.Path.{◌≡◌, ◌∙◌, sym}
use mathlib.Core.Bool.{true, ◌&&◌}
use mathlib.Core.List.{List}
use lib.Dec.{leb, ltb}
use Rattle.rules.specs.Calendar.{month_count}
use Rattle.rules.specs.Store.{sound_requests, sound_clock, sound_store}
use Rattle.laws.proofs.Tests.{both}
use Rattle.plant.specs.Plant.{settings_of, valid_plant}
use Rattle.pool.specs.Held.{held_of, sound_pool}
use Rattle.polling.specs.Requests.{requests_of}
use Rattle.unit.specs.Values.{is_sound}
use Rattle.unit.specs.declared.Unit.{Unit}
use Rattle.unit.proofs.CallLaws.{sound_is}

pub record SoundParts (u : Unit) : Type 0 where
  pub plant : valid_plant u.plant ≡ true
  pub floor : ltb u.floor month_count ≡ true
  pub pool : sound_pool u.pool u.floor ≡ true
  pub requests : sound_requests (settings_of u.plant) (requests_of u.requests) ≡ true
  pub clock : sound_clock (u.clock) ≡ true
  pub command : leb u.command (6000 * u.plant.settings.minutes) ≡ true

pub sound-parts : (u : Unit) → is_sound u ≡ true → SoundParts u
sound-parts u e =
    let v = valid_plant u.plant in
    let f = ltb u.floor month_count in
    let p = sound_pool u.pool u.floor in
    let q = sound_requests (settings_of u.plant) (requests_of u.requests) in
    let k = sound_clock (u.clock) in
    let a = both (v && f && p && q && k) (leb u.command (6000 * u.plant.settings.minutes)) (sym (sound_is u) ∙ e) in
    let b = both (v && f && p && q) k a.0 in
    let d = both (v && f && p) q b.0 in
    let g = both (v && f) p d.0 in
    let h = both v f g.0 in
    record { plant = h.0; floor = h.1; pool = g.1; requests = d.1; clock = b.1; command = a.1 }

pub parts-sound : (u : Unit) → SoundParts u → is_sound u ≡ true
parts-sound u s = sound_is u ∙ rw (s.plant, s.floor, s.pool, s.requests, s.clock, s.command)

-- a sound unit, and a store that is sound with it
pub record SoundWith (u : Unit) (store : List ℕ) : Type 0 where
  pub unit : is_sound u ≡ true
  pub lent : sound_store (held_of u.pool) store ≡ true
