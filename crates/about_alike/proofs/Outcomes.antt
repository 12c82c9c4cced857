-- A call on every pool and store that show one view: one reply, and one view afterwards.
use Rattle.std.specs.Prelude.{Option}
use Prim.Native.Nat.{ℕ, ◌*◌, ◌≤◌}
use mathlib.Core.Path.{◌≡◌}
use mathlib.Core.Bool.{true}
use native.Mathlib.Omega.{arith}
use lib.Dec.{eqb}
use lib.ListN.{length}
use borrow.Author.Tests.{lt-ltb, le-leb, eq-eqb}
use Rattle.rules.specs.Calendar.{month_count}
use Rattle.rules.specs.Store.{store_length, sound_requests, sound_clock, sound_store}
use Rattle.rules.specs.Causes.{Reply}
use Rattle.rules.specs.Machine.{Call}
use Rattle.plant.specs.Plant.{settings_of, valid_plant}
use Rattle.plant.specs.declared.Plant.{Plant}
use Rattle.pool.specs.Held.{held_of}
use Rattle.pool.proofs.SoundLaws.{facts-pool}
use Rattle.polling.specs.Requests.{requests_of}
use Rattle.polling.specs.declared.Requests.{Requests}
use Rattle.schedule.specs.Stored.{Stored}
use Rattle.about_store.proofs.View.{View, Shows}
use Rattle.about_store.proofs.Shown.{Plain, store_view}
use Rattle.unit.specs.Values.{is_sound}
use Rattle.calls.specs.Step.{State, Step, step}
use Rattle.unit.specs.declared.Unit.{Unit}
use Rattle.unit.proofs.SoundParts.{parts-sound}

-- what a unit has beside pool and floor
pub record Beside : Type 0 where
  pub plant : Plant
  pub requests : Requests
  pub clock : Option ℕ
  pub command : ℕ

-- all of it is sound
pub record Good (r : Beside) : Type 0 where
  pub plant : valid_plant r.plant ≡ true
  pub requests : sound_requests (settings_of r.plant) (requests_of r.requests) ≡ true
  pub clock : sound_clock (r.clock) ≡ true
  pub command : r.command ≤ 6000 * r.plant.settings.minutes

-- the unit whose pool and store are given, with the view's floor
abbrev pub unit_of : Beside → View → Stored → Unit
unit_of r v st = record { plant = r.plant; pool = st.pool; requests = r.requests; clock = r.clock; floor = v.floor; command = r.command }

abbrev pub made : Beside → View → Stored → State
made r v st = record { unit = unit_of r v st; store = st.store }

-- ---- it is sound with its store

module _ (r : Beside) (v : View) (good : Good r) (plain : Plain v) (st : Stored) (h : Shows st v) where
  pub made-sound : is_sound (unit_of r v st) ≡ true
  made-sound =
      parts-sound (unit_of r v st)
      (record {
        plant = good.plant;
        floor = lt-ltb v.floor month_count (omega (arith, h.low));
        pool = facts-pool st.pool v.floor h.sound;
        requests = good.requests;
        clock = good.clock;
        command = le-leb r.command (6000 * r.plant.settings.minutes) good.command;
      })

  pub made-full : eqb (length st.store) store_length ≡ true
  made-full = eq-eqb (length st.store) store_length h.full

  pub made-lent : sound_store (held_of st.pool) st.store ≡ true
  made-lent = store_view v plain st h

-- ---- the outcome of a call

-- a step that came to the reply, and to what r and v show
pub record Shown (x : Step) (reply : Reply) (r : Beside) (v : View) : Type 0 where
  pub stored : Stored
  pub is : x ≡ (reply, made r v stored)
  pub shows : Shows stored v

-- one for all that show v
pub record Outcome (c : Call) (r : Beside) (v : View) : Type 0 where
  pub reply : Reply
  pub beside : Beside
  pub view : View
  pub good : Good beside
  pub plain : Plain view
  pub each : (st : Stored) → Shows st v → Shown (step c (made r v st)) reply beside view

-- a call that leaves all as it was
pub same-state : (c : Call) (r : Beside) (v : View) → Good r → Plain v → (reply : Reply) → ((st : Stored) → Shows st v → step c (made r v st) ≡ (reply, made r v st)) → Outcome c r v
same-state c r v good plain reply is = record {
  reply = reply;
  beside = r;
  view = v;
  good = good;
  plain = plain;
  each = λ st h. record { stored = st; is = is st h; shows = h };
}
