-- Soundness as the code tests it, and what the calls of a sound unit answer: one law for each row that applies, and one for the call that is accepted.
use Rattle.std.specs.Prelude.{Some, None, Ok, Err}
use Prim.Native.Nat.{ℕ, ◌*◌}
use mathlib.Core.Path.{◌≡◌, ap}
use mathlib.Core.Bool.{Bool, true, false, ◌&&◌, and_assoc}
use mathlib.Core.List.{map}
use lib.Dec.{leb, ltb}
use Rattle.rules.specs.Calendar.{month_count}
use Rattle.rules.specs.Plant.{last_digit}
use Rattle.rules.specs.Store.{sound_unit, sound_months, sound_blocks, sound_requests, sound_clock}
use Rattle.rules.specs.Machine.{failed, is_status}
use Rattle.rules.specs.Table.{first_of}
use Rattle.rules.specs.declared.Cause.{Cause}
use Rattle.rules.specs.declared.Kind.{Kind}
use Rattle.plant.specs.Plant.{settings_of, valid_plant}
use Rattle.pool.specs.Blocks.{free_count, is_free}
use Rattle.pool.specs.Held.{held_of, sound_pool}
use Rattle.polling.specs.Requests.{requests_of, requests_from}
use Rattle.polling.specs.Due.{due_for}
use Rattle.polling.specs.declared.Requests.{Requests}
use Rattle.unit.specs.Values.{values_of, is_sound}
use Rattle.unit.specs.Calls.{refusal, lost, lost_of, with_failure, failure_of, due_of, command_of, free_of}
use Rattle.unit.specs.declared.Unit.{Unit}

-- soundness, as the code tests it
pub sound_is : (u : Unit)
    → is_sound u
    ≡ (valid_plant u.plant
    && ltb u.floor month_count
    && sound_pool u.pool u.floor
    && sound_requests (settings_of u.plant) (requests_of u.requests)
    && sound_clock (u.clock)
    && leb u.command (6000 * u.plant.settings.minutes))
unfolding is_sound values_of sound_unit valid_plant sound_pool
sound_is u =
    let months = sound_months u.floor (map (λ h. h.month) (held_of u.pool)) in
    let blocks = sound_blocks (is_free u.pool) (map (λ h. h.block) (held_of u.pool)) in
    let requests = sound_requests (settings_of u.plant) (requests_of u.requests) in
    ap (λ (b : Bool). b && requests && sound_clock (u.clock) && leb u.command (6000 * u.plant.settings.minutes))
    (and_assoc (valid_plant u.plant && ltb u.floor month_count) months blocks)

module _ (u : Unit) where
  module _ (good : is_sound u ≡ true) where
    pub lost-done : lost_of u ≡ record { unit = lost u; answer = Ok tt }
    unfolding lost_of first_of
    lost-done = rw good

    pub command-done : command_of u ≡ Ok u.command
    unfolding command_of first_of
    command-done = rw good

    pub free-done : free_of u ≡ Ok (free_count u.pool)
    unfolding free_of first_of
    free-done = rw good

    pub failure-unset : (kind : Kind) (status : ℕ) → u.clock ≡ None → failure_of u kind status ≡ refusal u Cause.ClockUnset
    unfolding failure_of first_of
    failure-unset kind status e = rw (good, e)

    pub due-unset : u.clock ≡ None → due_of u ≡ Err Cause.ClockUnset
    unfolding due_of first_of
    due-unset e = rw (good, e)

    module _ (t : ℕ) (set : u.clock ≡ Some t) where
      pub failure-status : (kind : Kind) (status : ℕ) → is_status status ≡ false → failure_of u kind status ≡ refusal u Cause.Range
      unfolding failure_of first_of
      failure-status kind status e = rw (good, set, e)

      pub failure-done : (kind : Kind) (status : ℕ) → is_status status ≡ true → (d : ℕ) → d ≡ last_digit u.plant.id → (q : Requests)
          → q ≡ requests_from (failed (settings_of u.plant) d kind t status (requests_of u.requests))
          → failure_of u kind status
          ≡ record {
            unit = record { plant = u.plant; pool = u.pool; requests = q; clock = u.clock; floor = u.floor; command = u.command };
            answer = Ok tt;
          }
      unfolding failure_of first_of with_failure
      failure-done kind status e d h q k = rw (good, set, e, ← h, k)

      pub due-done : (d : ℕ) → d ≡ last_digit u.plant.id → due_of u ≡ Ok (due_for (settings_of u.plant) d t (requests_of u.requests))
      unfolding due_of first_of
      due-done d h = rw (good, set, ← h)
