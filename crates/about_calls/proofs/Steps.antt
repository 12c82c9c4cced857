-- Each call: the unit's reply is the machine's, and the unit goes on following.
use Rattle.rules.specs.declared.Cause.{Cause}
use Rattle.std.specs.Prelude.{Some, None, Option, Result, Ok}
use Prim.Native.Nat.{ℕ, ◌-◌, ◌<◌}
use mathlib.Core.Path.{◌≡◌, refl, sym, ap, ap₂, ◌∙◌, subst₂}
use mathlib.Core.Bool.{Bool, true, false}
use native.Mathlib.Omega.{arith}
use lib.Dec.{ltb, eqb}
use lib.ListN.{length}
use borrow.Author.Tests.{eq-eqb, ne_eqb, ltb-true}
use Rattle.rules.specs.Plant.{last_digit}
use Rattle.rules.specs.Calendar.{end_of_time, slot_count}
use Rattle.rules.specs.Store.{store_length, sound_store, sound_clock, block_count}
use Rattle.rules.specs.Causes.{Reply, of_due, of_ceiling}
use Rattle.rules.specs.Machine.{Machine, Told, tick, clock_lost, failure, due, ceiling_of, command, free_blocks, held_count, is_status, failed, lost_clock, with_requests, ceiling_reply, step as machine_step, Step as MachineStep}
use Rattle.rules.specs.declared.Due.{Due}
use Rattle.rules.specs.declared.Kind.{Kind}
use Rattle.plant.specs.Plant.{valid_plant, settings_of}
use Rattle.plant.specs.declared.Plant.{Plant}
use Rattle.plant.proofs.Laws.{valid-facts}
use Rattle.pool.specs.Below.{sum_below}
use Rattle.pool.specs.Blocks.{free_count}
use Rattle.pool.specs.Held.{held_of}
use Rattle.polling.specs.Requests.{requests_of, requests_from}
use Rattle.polling.proofs.DueLaws.{due-as-machine}
use Rattle.about_store.specs.Agrees.{Agrees}
use Rattle.about_store.proofs.Laws.{same-agrees, store-sound, rate-agrees, free-agrees}
use Rattle.ceiling.specs.Ceiling.{slot_ceiling}
use Rattle.unit.specs.Values.{is_sound, fresh_pool}
use Rattle.unit.specs.Rows.{is_unset}
use Rattle.unit.specs.Calls.{lost}
use Rattle.calls.specs.Step.{State, Step, step_done, step}
use Rattle.unit.specs.declared.Unit.{Unit}
use Rattle.unit.specs.Changed.{Done}
use Rattle.unit.proofs.CallLaws.{lost-done, failure-unset, failure-status, failure-done, due-unset, due-done, command-done, free-done}
use Rattle.about_calls.proofs.Options.{test-same, test_other}
use Rattle.about_calls.proofs.MachineLaws as machine
use Rattle.about_calls.proofs.UnitLaws as unit
use Rattle.about_calls.proofs.Follows.{stored, Kept, agrees, apart, Follows, follows-sound}
use Rattle.about_calls.proofs.Asks.{asks_facts, facts_asks, failed-asks}
use Rattle.about_calls.proofs.Ticking.{agree_of, tick-follows}

-- the same reply, and the machine is followed
abbrev pub Sim : Plant → ℕ → Step → MachineStep → Type 0
Sim p n x y = (x.0 ≡ y.0) × Follows p n x.1 y.1

-- by what both steps come to
pub sim_by : (p : Plant) (n : ℕ) (x x' : Step) (y y' : MachineStep) → x ≡ x' → y ≡ y' → Sim p n x' y' → Sim p n x y
sim_by p n x x' y y' e f k = subst₂ (λ (a : Step) (b : MachineStep). Sim p n a b) (sym e) (sym f) k

-- pool and store stay, and so do the machine's floor and files
pub kept_same : (s t : State) (M N : Machine) → t.unit.pool ≡ s.unit.pool → t.store ≡ s.store → N.floor ≡ M.floor → N.files ≡ M.files
    → (M.clock ≡ None → N.clock ≡ None) → Kept s M → Kept t N
kept_same s t M N q r f g c (agrees e a) = agrees (ap length r ∙ e) (rw (q, r) (same-agrees (stored s) M N f g a))
kept_same s t M N q r f g c (apart e d h k l) = apart (λ z. e (sym (ap length r) ∙ z)) (q ∙ d) (g ∙ h) (f ∙ k) (c l)

fresh-free : free_count fresh_pool ≡ block_count
unfolding free_count sum_below
fresh-free = refl

module _ (p : Plant) (valid : valid_plant p ≡ true) (n : ℕ) where
  abbrev pub w : Told
  w = record { plant = p.id; settings = settings_of p; store_length = n }

  module _ (s : State) (M : Machine) (h : Follows p n s M) where
    abbrev u : Unit
    u = s.unit

    pub good : is_sound u ≡ true
    good = follows-sound p valid n s M h

    -- a clock that is unset, or set, is so in both
    pub clock-none : u.clock ≡ None → M.clock ≡ None
    clock-none e = sym h.clock ∙ e

    pub clock-some : (t : ℕ) → u.clock ≡ Some t → M.clock ≡ Some t
    clock-some t e = sym h.clock ∙ e

    pub time-below : (t : ℕ) → u.clock ≡ Some t → t < end_of_time
    time-below t e = ltb-true t end_of_time (ap sound_clock (sym (clock-some t e)) ∙ h.time)

    digit-same : last_digit p.id ≡ last_digit u.plant.id
    digit-same = ap (λ (q : Plant). last_digit q.id) (sym h.plant)

    -- ---- clock lost

    pub lost-step : Sim p n (step clock_lost s) (machine_step w clock_lost M)
    unfolding step machine_step lost lost_clock
    lost-step =
        rw (lost-done u good) (
          refl,
          record {
            plant = h.plant;
            size = h.size;
            clock = refl;
            floor = h.floor;
            requests = h.requests;
            command = refl;
            time = refl;
            asks = h.asks;
            most = omega arith;
            kept = kept_same s (record { unit = lost u; store = s.store }) M (lost_clock M) refl refl refl refl (λ e. refl) h.kept;
          },
        )

    -- ---- command and free blocks

    pub command-step : Sim p n (step command s) (machine_step w command M)
    unfolding step machine_step
    command-step = rw (command-done u good) (ap Reply.parts h.command, h)

    free-same : Kept s M → free_count u.pool ≡ block_count - held_count M
    free-same (agrees e a) = free-agrees (stored s) M a
    free-same (apart e d g f c) = rw (d, machine.held_none M g) fresh-free

    pub free_step : Sim p n (step free_blocks s) (machine_step w free_blocks M)
    unfolding step machine_step
    free_step = rw (free-done u good) (ap Reply.blocks (free-same h.kept), h)

    -- ---- due

    pub due-step : Sim p n (step due s) (machine_step w due M)
    unfolding step
    due-step = go u.clock refl
      where
        go : (c : Option ℕ) → u.clock ≡ c → Sim p n (step due s) (machine_step w due M)
        go None e =
            sim_by p n _ _ _ _ (ap (λ (a : Result (Option Due) Cause). (of_due a, s)) (due-unset u good e)) (machine.due-unset w M (clock-none e)) (refl, h)
        go (Some t) e =
            let d = last_digit p.id in
            let same = ap₂ (λ (r : Plant) q. Rattle.rules.specs.Machine.due_of (settings_of r) d t q) h.plant h.requests in
            sim_by p n _ _ _ _
            (ap (λ (r : Reply). (r, s)) (ap of_due (due-done u good t e d digit-same) ∙ due-as-machine _ _ t _ ∙ same))
            (machine.due-set w M t (clock-some t e)) (refl, h)

    -- ---- failure reported

    module _ (kind : Kind) (status : ℕ) where
      -- the unit after a failure that was accepted at t
      abbrev reported : ℕ → Unit
      reported t = record {
        plant = u.plant;
        pool = u.pool;
        requests = requests_from (failed (settings_of u.plant) (last_digit p.id) kind t status (requests_of u.requests));
        clock = u.clock;
        floor = u.floor;
        command = u.command;
      }

      reported_follows : (t : ℕ) → u.clock ≡ Some t → let asked = failed (settings_of p) (last_digit p.id) kind t status M.requests in
          Follows p n (record { unit = reported t; store = s.store }) (with_requests asked M)
      unfolding with_requests
      reported_follows t e =
          let d = last_digit p.id in
          let asked = failed-asks _ (valid-facts p valid).settings t (time-below t e) M.requests in
          record {
            plant = h.plant;
            size = h.size;
            clock = h.clock;
            floor = h.floor;
            requests = ap₂ (λ (r : Plant) q. failed (settings_of r) d kind t status q) h.plant h.requests;
            command = h.command;
            time = h.time;
            asks = facts_asks _ _ (asked (asks_facts _ M.requests h.asks) d kind status);
            most = h.most;
            kept = kept_same s _ M _ refl refl refl refl (λ z. z) h.kept;
          }

      pub failure-step : Sim p n (step (failure kind status) s) (machine_step w (failure kind status) M)
      unfolding step
      failure-step = go u.clock refl (is_status status) refl
        where
          go : (c : Option ℕ) → u.clock ≡ c → (b : Bool) → is_status status ≡ b → Sim p n (step (failure kind status) s) (machine_step w (failure kind status) M)
          go None e b f =
              sim_by p n _ _ _ _ (ap (λ (d : Done). step_done d s.store) (failure-unset u good kind status e))
              (machine.failure-unset w M kind status (clock-none e)) (refl, h)
          go (Some t) e false f =
              sim_by p n _ _ _ _ (ap (λ (d : Done). step_done d s.store) (failure-status u good t e kind status f))
              (machine.failure-status w M kind status t (clock-some t e) f) (refl, h)
          go (Some t) e true f =
              sim_by p n _ _ _ _
              (ap (λ (d : Done). step_done d s.store) (failure-done u good t e kind status f (last_digit p.id) digit-same (reported t).requests refl))
              (machine.failure-done w M kind status t (clock-some t e) f)
              (refl, reported_follows t e)

    -- ---- the calls that the store is lent to

    pub short : (n ≡ store_length → ⊥) → eqb (length s.store) store_length ≡ false
    short e = ne_eqb (length s.store) store_length (λ z. e (sym h.size ∙ z))

    module _ (l : n ≡ store_length) where
      pub full : eqb (length s.store) store_length ≡ true
      full = eq-eqb (length s.store) store_length (h.size ∙ l)

      pub agreed : Agrees (stored s) M
      agreed = agree_of s M (h.size ∙ l) h.kept

      pub bytes : sound_store (held_of u.pool) s.store ≡ true
      bytes = store-sound (stored s) M agreed

    -- ---- tick

    pub tick-step : (t : ℕ) → Sim p n (step (tick t) s) (machine_step w (tick t) M)
    tick-step t = go (eqb n store_length) refl
      where
        in-range : (l : n ≡ store_length) → (b : Bool) → ltb t end_of_time ≡ b → Sim p n (step (tick t) s) (machine_step w (tick t) M)
        in-range l false e =
            sim_by p n _ _ _ _ (unit.tick-range s (full l) good (bytes l) t e) (machine.tick-range w M t (eq-eqb n store_length l) e) (refl, h)
        in-range l true e =
            sim_by p n _ _ _ _ (unit.tick-done s (full l) good (bytes l) t e) (machine.tick-done w M t (eq-eqb n store_length l) e)
            (refl, tick-follows p n l s M t (ltb-true t end_of_time e) h)

        go : (b : Bool) → eqb n store_length ≡ b → Sim p n (step (tick t) s) (machine_step w (tick t) M)
        go true e = in-range (test-same n store_length e) (ltb t end_of_time) refl
        go false e =
            sim_by p n _ _ _ _ (unit.tick-length s (short (test_other n store_length e)) t) (machine.tick-length w M t e) (refl, h)

    -- ---- ceiling

    ceiling-same : (a b : Option ℕ) (q : Plant) → q ≡ p → a ≡ b → of_ceiling (Ok (slot_ceiling (settings_of q) a)) ≡ ceiling_reply (settings_of p) b
    ceiling-same a b q e f = rw (e, f) (go b)
      where
        go : (o : Option ℕ) → of_ceiling (Ok (slot_ceiling (settings_of p) o)) ≡ ceiling_reply (settings_of p) o
        go None = refl
        go (Some r) = refl

    pub ceiling-step : (slot : ℕ) → Sim p n (step (ceiling_of slot) s) (machine_step w (ceiling_of slot) M)
    ceiling-step slot = go (eqb n store_length) refl
      where
        in-range : (l : n ≡ store_length) (t : ℕ) → u.clock ≡ Some t → (b : Bool) → ltb slot slot_count ≡ b
            → Sim p n (step (ceiling_of slot) s) (machine_step w (ceiling_of slot) M)
        in-range l t c false e =
            sim_by p n _ _ _ _ (unit.ceiling-range s (full l) good (bytes l) (ap is_unset c) slot e)
            (machine.ceiling-range w M slot (eq-eqb n store_length l) t (clock-some t c) e) (refl, h)
        in-range l t c true e =
            sim_by p n _ _ _ _ (unit.ceiling-done s (full l) good (bytes l) (ap is_unset c) slot e)
            (machine.ceiling-done w M slot (eq-eqb n store_length l) t (clock-some t c) e)
            (ceiling-same _ _ u.plant h.plant (rate-agrees (stored s) M (agreed l) slot (ltb-true slot slot_count e)), h)

        by-clock : (l : n ≡ store_length) (c : Option ℕ) → u.clock ≡ c → Sim p n (step (ceiling_of slot) s) (machine_step w (ceiling_of slot) M)
        by-clock l None c =
            sim_by p n _ _ _ _ (unit.ceiling-unset s (full l) good (bytes l) (ap is_unset c) slot)
            (machine.ceiling-unset w M slot (eq-eqb n store_length l) (clock-none c)) (refl, h)
        by-clock l (Some t) c = in-range l t c (ltb slot slot_count) refl

        go : (b : Bool) → eqb n store_length ≡ b → Sim p n (step (ceiling_of slot) s) (machine_step w (ceiling_of slot) M)
        go true e = by-clock (test-same n store_length e) u.clock refl
        go false e =
            sim_by p n _ _ _ _ (unit.ceiling-length s (short (test_other n store_length e)) slot) (machine.ceiling-length w M slot e) (refl, h)
