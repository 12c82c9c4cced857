-- The outcome of each question, of a lost clock and of a reported failure.
use Rattle.std.specs.Prelude.{Some, None, Option, Err, Ok, Result}
use Prim.Native.Nat.{ℕ, ◌-◌}
use mathlib.Core.Path.{◌≡◌, refl, sym, ap, ◌∙◌}
use mathlib.Core.Bool.{Bool, true, false}
use native.Mathlib.Omega.{arith}
use lib.Dec.{ltb}
use borrow.Author.Tests.{ltb-true}
use Rattle.rules.specs.Plant.{last_digit}
use Rattle.rules.specs.Calendar.{first_slot, month_of_slot, slot_count, month_count, end_of_time}
use Rattle.rules.specs.Store.{sound_clock, block_count}
use Rattle.rules.specs.Causes.{Reply, accepted, refused, number_of, of_due, of_ceiling}
use Rattle.rules.specs.Machine.{clock_lost, failure, due, ceiling_of, command, free_blocks, count_below, is_status, failed}
use Rattle.rules.specs.declared.Cause.{Cause}
use Rattle.rules.specs.declared.Due.{Due}
use Rattle.rules.specs.declared.Kind.{Kind}
use Rattle.plant.specs.Plant.{settings_of}
use Rattle.plant.proofs.Laws.{valid-facts}
use Rattle.polling.specs.Requests.{requests_of}
use Rattle.schedule.specs.Stored.{Stored}
use Rattle.about_store.proofs.View.{View, Shows}
use Rattle.about_store.proofs.Shown.{Plain, rate-view, free-view}
use Rattle.ceiling.specs.Ceiling.{slot_ceiling}
use Rattle.unit.specs.Values.{is_sound}
use Rattle.polling.specs.Requests.{requests_from}
use Rattle.polling.specs.Due.{due_for}
use Rattle.unit.specs.Rows.{is_unset}
use Rattle.unit.specs.Calls.{lost}
use Rattle.calls.specs.Step.{step_done, step}
use Rattle.unit.specs.Changed.{Done}
use Rattle.unit.proofs.CallLaws.{lost-done, failure-unset, failure-status, failure-done, due-unset, due-done, command-done, free-done}
use Rattle.about_calls.proofs.UnitLaws as unit
use Rattle.about_calls.proofs.Asks.{asks_facts, facts_asks, failed-asks}
use Rattle.about_alike.proofs.Outcomes.{Beside, Good, unit_of, made, made-sound, made-full, made-lent, Outcome, same-state}

module _ (r : Beside) (v : View) (good : Good r) (plain : Plain v) where
  sound : (st : Stored) → Shows st v → is_sound (unit_of r v st) ≡ true
  sound st h = made-sound r v good plain st h

  -- ---- command, free blocks, due

  pub command-outcome : Outcome command r v
  unfolding step
  command-outcome = same-state command r v good plain (Reply.parts r.command) (λ st h. rw (command-done (unit_of r v st) (sound st h)))

  pub free-outcome : Outcome free_blocks r v
  unfolding step
  free-outcome =
      same-state free_blocks r v good plain (Reply.blocks (block_count - count_below month_count v.held))
      (λ st h. rw (free-done (unit_of r v st) (sound st h), free-view v plain st h))

  pub due-outcome : Outcome due r v
  unfolding step
  due-outcome = go r.clock refl
    where
      go : (c : Option ℕ) → r.clock ≡ c → Outcome due r v
      go None e = same-state due r v good plain (of_due (Err Cause.ClockUnset)) (λ st h. ap (λ (x : Result (Option Due) Cause). (of_due x, made r v st)) (due-unset (unit_of r v st) (sound st h) e))
      go (Some t) e =
          same-state due r v good plain (of_due (Ok (due_for (settings_of r.plant) (last_digit r.plant.id) t (requests_of r.requests))))
          (λ st h. ap (λ (x : Result (Option Due) Cause). (of_due x, made r v st)) (due-done (unit_of r v st) (sound st h) t e (last_digit r.plant.id) refl))

  -- ---- ceiling

  pub ceiling-outcome : (slot : ℕ) → Outcome (ceiling_of slot) r v
  ceiling-outcome slot = by-clock r.clock refl
    where
      in-range : (t : ℕ) → r.clock ≡ Some t → (b : Bool) → ltb slot slot_count ≡ b → Outcome (ceiling_of slot) r v
      in-range t c false e =
          same-state (ceiling_of slot) r v good plain (refused (number_of Cause.Range))
          (λ st h. unit.ceiling-range (made r v st) (made-full r v good plain st h) (sound st h) (made-lent r v good plain st h) (ap is_unset c) slot e)
      in-range t c true e =
          let m = month_of_slot slot in
          same-state (ceiling_of slot) r v good plain (of_ceiling (Ok (slot_ceiling (settings_of r.plant) (v.says m (slot - first_slot m)))))
          (λ st h.
          unit.ceiling-done (made r v st) (made-full r v good plain st h) (sound st h) (made-lent r v good plain st h) (ap is_unset c) slot e
          ∙ ap (λ (o : Option ℕ). (of_ceiling (Ok (slot_ceiling (settings_of r.plant) o)), made r v st)) (rate-view v plain st h slot (ltb-true slot slot_count e)))

      by-clock : (c : Option ℕ) → r.clock ≡ c → Outcome (ceiling_of slot) r v
      by-clock None c =
          same-state (ceiling_of slot) r v good plain (refused (number_of Cause.ClockUnset))
          (λ st h. unit.ceiling-unset (made r v st) (made-full r v good plain st h) (sound st h) (made-lent r v good plain st h) (ap is_unset c) slot)
      by-clock (Some t) c = in-range t c (ltb slot slot_count) refl

  -- ---- clock lost

  pub lost-outcome : Outcome clock_lost r v
  unfolding step lost
  lost-outcome = record {
    reply = accepted;
    beside = record { plant = r.plant; requests = r.requests; clock = None; command = 0 };
    view = v;
    good = record { plant = good.plant; requests = good.requests; clock = refl; command = omega arith };
    plain = plain;
    each = λ st h. record { stored = st; is = ap (λ (d : Done). step_done d st.store) (lost-done (unit_of r v st) (sound st h)); shows = h };
  }

  -- ---- failure reported

  module _ (kind : Kind) (status : ℕ) where
    -- after a failure that was accepted at t
    abbrev reported : ℕ → Beside
    reported t = record {
      plant = r.plant;
      requests = requests_from (failed (settings_of r.plant) (last_digit r.plant.id) kind t status (requests_of r.requests));
      clock = r.clock;
      command = r.command;
    }

    pub failure-outcome : Outcome (failure kind status) r v
    unfolding step
    failure-outcome = go r.clock refl (is_status status) refl
      where
        go : (c : Option ℕ) → r.clock ≡ c → (b : Bool) → is_status status ≡ b → Outcome (failure kind status) r v
        go None e b f =
            same-state (failure kind status) r v good plain (refused (number_of Cause.ClockUnset))
            (λ st h. ap (λ (d : Done). step_done d st.store) (failure-unset (unit_of r v st) (sound st h) kind status e))
        go (Some t) e false f =
            same-state (failure kind status) r v good plain (refused (number_of Cause.Range))
            (λ st h. ap (λ (d : Done). step_done d st.store) (failure-status (unit_of r v st) (sound st h) t e kind status f))
        go (Some t) e true f =
            let time : sound_clock (Some t) ≡ true = ap (λ (c : Option ℕ). sound_clock c) (sym e) ∙ good.clock in
            let range = (valid-facts r.plant good.plant).settings in
            record {
              reply = accepted;
              beside = reported t;
              view = v;
              good = record {
                plant = good.plant;
                requests = facts_asks _ _
                    (failed-asks _ range t (ltb-true t end_of_time time) (requests_of r.requests) (asks_facts _ (requests_of r.requests) good.requests) (last_digit r.plant.id) kind status);
                clock = good.clock;
                command = good.command;
              };
              plain = plain;
              each = λ st h. record {
                stored = st;
                is = ap (λ (d : Done). step_done d st.store) (failure-done (unit_of r v st) (sound st h) t e kind status f (last_digit r.plant.id) refl (reported t).requests refl);
                shows = h;
              };
            }
