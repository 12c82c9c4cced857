-- The outcome of a file, by itself or in a response: there is room for it in all that show one view or in none, and its records are put alike.
use Rattle.std.specs.Prelude.{Option, Some, None}
use Prim.Native.Nat.{ℕ, ◌-◌, ◌<◌}
use mathlib.Core.Path.{◌≡◌, refl, sym, ap, ◌∙◌}
use mathlib.Core.Bool.{Bool, true, false}
use mathlib.Core.List.{List}
use native.Mathlib.Omega.{arith}
use lib.Dec.{ltb}
use borrow.Author.Tests.{ltb-true, ltb-false}
use Rattle.rules.specs.Calendar.{end_of_time, month_count}
use Rattle.rules.specs.Body.{Record}
use Rattle.rules.specs.File.{File, Outcome as Read, refuse, file, take_file, records_in}
use Rattle.rules.specs.Response.{take_response}
use Rattle.rules.specs.Store.{block_count, sound_clock}
use Rattle.rules.specs.Causes.{accepted, refused, number_of}
use Rattle.rules.specs.Machine.{Call, file_taken, response_taken, take_by, count_below}
use Rattle.rules.specs.declared.Cause.{Cause}
use Rattle.about_files.proofs.Accepted.{taken, TakenBy}
use Rattle.polling.specs.Requests.{requests_of}
use Rattle.schedule.specs.Stored.{Stored}
use Rattle.about_store.specs.Run.{RunFrom, run_start, put_records}
use Rattle.about_store.proofs.Laws.{taken-good}
use Rattle.about_store.proofs.View.{View, Shows, count-view}
use Rattle.about_store.proofs.Shown.{Plain, free-view}
use Rattle.about_store.proofs.Rooms.{records-plain, lacking, missing-view, held_more}
use Rattle.about_store.proofs.Records.{records_view, records-floor, records-shows}
use Rattle.polling.specs.Requests.{requests_from}
use Rattle.unit.specs.Rows.{is_unset}
use Rattle.unit.specs.Calls.{clock_time}
use Rattle.taking.specs.Taken.{with_file, store_with, full_row}
use Rattle.calls.specs.Step.{State, step}
use Rattle.about_calls.proofs.UnitLaws as unit
use Rattle.about_calls.proofs.Asks.{asks_facts, facts_asks}
use Rattle.about_calls.proofs.Taking.{file-asks, Carries, from-file, from-response}
use Rattle.about_alike.proofs.Outcomes.{Beside, Good, unit_of, made, made-sound, made-full, made-lent, Outcome, same-state}

clock-low : (c : Option ℕ) → sound_clock (c) ≡ true → clock_time c < end_of_time
clock-low None e = omega arith
clock-low (Some t) e = ltb-true t end_of_time e

module _ (r : Beside) (v : View) (good : Good r) (plain : Plain v) where
  module _ (f : File) (by : TakenBy r.plant.id f) where
    abbrev rs : List Record
    rs = records_in f.body

    run : RunFrom (run_start rs) rs
    run = taken-good r.plant.id by.name by.body f by.read

    -- 14 applies
    abbrev is_full : Bool
    is_full = ltb (block_count - count_below month_count v.held) (lacking v rs run)

    full-view : (st : Stored) → Shows st v → (full_row f (unit_of r v st)).applies ≡ is_full
    unfolding full_row
    full-view st h = rw (free-view v plain st h, missing-view v rs run plain st h)

    full-cause : (st : Stored) → (full_row f (unit_of r v st)).cause ≡ Cause.Full
    unfolding full_row
    full-cause st = refl

    abbrev beside : Beside
    beside = record {
      plant = r.plant;
      requests = requests_from (take_by (clock_time r.clock) f.name.format f.name rs (requests_of r.requests));
      clock = r.clock;
      command = r.command;
    }

    beside-good : Good beside
    beside-good = record {
      plant = good.plant;
      requests = facts_asks _ _
          (file-asks _ (clock_time r.clock) (clock-low r.clock good.clock) by.body f (requests_of r.requests)
          (taken r.plant.id by.name by.body f by.read)
          (asks_facts _ (requests_of r.requests) good.requests));
      clock = good.clock;
      command = good.command;
    }

    -- the state after it
    after_is : (st : Stored) → ◌≡◌ {A = State} (record { unit = with_file f st.store (unit_of r v st); store = store_with (file f) st.store (unit_of r v st) })
        (made beside (records_view rs v) (put_records v.floor rs st))
    unfolding with_file
    after_is st = ap (λ (x : ℕ). record {
      unit = record {
        plant = r.plant;
        pool = (put_records v.floor rs st).pool;
        requests = beside.requests;
        clock = r.clock;
        floor = x;
        command = r.command;
      };
      store = (put_records v.floor rs st).store;
    }) (sym (records-floor rs v))

    put_shows : is_full ≡ false → (st : Stored) → Shows st v → Shows (put_records v.floor rs st) (records_view rs v)
    put_shows e st h =
        let room = ltb-false (block_count - count_below month_count v.held) (lacking v rs run) e in
        records-shows (run_start rs) rs run st v h (omega (arith, held_more v rs run, count-view st v h))

  -- whatever was read, where it is what the call takes
  taken-outcome : (c : Call) (o : Read) → Carries r.plant.id o → ((st : Stored) → step c (made r v st) ≡ unit.taken_step o (made r v st)) → Outcome c r v
  taken-outcome c o from is = by-clock r.clock refl
    where
      by-room : (t : ℕ) → r.clock ≡ Some t → (f : File) → o ≡ file f → (by : TakenBy r.plant.id f) (b : Bool) → is_full f by ≡ b → Outcome c r v
      by-room t k f e by true g =
          same-state c r v good plain (refused (number_of Cause.Full))
          (λ st h. let s = made r v st in
          is st
          ∙ ap (λ (x : Read). unit.taken_step x s) e
          ∙ unit.take-full s (made-full r v good plain st h) (made-sound r v good plain st h) (made-lent r v good plain st h) (ap is_unset k) f
          (full-view f by st h ∙ g)
          ∙ ap (λ x. unit.refusal x s) (full-cause f by st))
      by-room t k f e by false g = record {
        reply = accepted;
        beside = beside f by;
        view = records_view (records_in f.body) v;
        good = beside-good f by;
        plain = records-plain v (records_in f.body) (run f by) plain;
        each = λ st h. let s = made r v st in
            record {
              stored = put_records v.floor (records_in f.body) st;
              is = is st
                  ∙ ap (λ (x : Read). unit.taken_step x s) e
                  ∙ unit.take_done s (made-full r v good plain st h) (made-sound r v good plain st h) (made-lent r v good plain st h) (ap is_unset k) f
                  (full-view f by st h ∙ g)
                  ∙ ap (λ (x : State). (accepted, x)) (after_is f by st);
              shows = put_shows f by g st h;
            };
      }

      by-reading : (t : ℕ) → r.clock ≡ Some t → (x : Read) → o ≡ x → Outcome c r v
      by-reading t k (refuse x) e =
          same-state c r v good plain (refused (number_of x))
          (λ st h. let s = made r v st in
          is st
          ∙ ap (λ (y : Read). unit.taken_step y s) e
          ∙ unit.take-refused s (made-full r v good plain st h) (made-sound r v good plain st h) (made-lent r v good plain st h) (ap is_unset k) x)
      by-reading t k (file f) e = by-room t k f e (from f e) (is_full f (from f e)) refl

      by-clock : (k : Option ℕ) → r.clock ≡ k → Outcome c r v
      by-clock None k =
          same-state c r v good plain (refused (number_of Cause.ClockUnset))
          (λ st h. let s = made r v st in
          is st ∙ unit.take-unset s (made-full r v good plain st h) (made-sound r v good plain st h) (made-lent r v good plain st h) (ap is_unset k) o)
      by-clock (Some t) k = by-reading t k o refl

  pub take-outcome : (name body : List ℕ) → Outcome (file_taken name body) r v
  unfolding step
  take-outcome name body =
      taken-outcome (file_taken name body) (take_file r.plant.id name body) (from-file r.plant.id name body) (λ st. refl)

  pub response-outcome : (boundary bytes : List ℕ) → Outcome (response_taken boundary bytes) r v
  unfolding step
  response-outcome boundary bytes =
      taken-outcome (response_taken boundary bytes) (take_response r.plant.id boundary bytes) (from-response r.plant.id boundary bytes) (λ st. refl)
