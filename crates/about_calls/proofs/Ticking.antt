-- Seconds: the unit's second and the machine's, side by side.
use Rattle.std.specs.Prelude.{Some, None, Option}
use Prim.Native.Nat.{ℕ, zero, suc, ◌+◌, ◌-◌, ◌≤◌, ◌<◌, min, max}
use mathlib.Core.Path.{◌≡◌, refl, ap, ap₂, ◌∙◌}
use mathlib.Core.Bool.{Bool, true, false, cond}
use native.Mathlib.Omega.{arith}
use lib.Dec.{leb}
use lib.ListN.{length}
use borrow.Author.Tests.{lt-ltb, leb-false}
use Rattle.rules.specs.Calendar.{month_of, slot_of, end_of_time, slot_count, month_count}
use Rattle.rules.specs.Plant.{full_command}
use Rattle.rules.specs.Body.{highest_rate}
use Rattle.rules.specs.Store.{store_length}
use Rattle.rules.specs.Machine.{Machine, rate_of, raised_floor, approach, target, move_command, set_clock as machine_set, second as machine_second, seconds as machine_seconds, tick_from as machine_from, ticked as machine_ticked}
use Rattle.calendar.proofs.Laws.{month-slot, slot-month-few}
use Rattle.plant.specs.Plant.{settings_of}
use Rattle.plant.specs.declared.Plant.{Plant}
use Rattle.plant.proofs.Laws.{parts-most}
use Rattle.schedule.specs.Stored.{stored_rate}
use Rattle.about_store.specs.Agrees.{Agrees}
use Rattle.about_store.proofs.Laws.{release_agrees, same-agrees, rate-agrees}
use Rattle.unit.specs.Calls.{set_clock, with_command, second, seconds, tick_from, ticked}
use Rattle.calls.specs.Step.{State}
use Rattle.about_calls.proofs.Options.{none-some, some-none, some_same}
use Rattle.about_calls.proofs.Follows.{stored, Kept, agrees, apart, Follows}

pub agree_of : (s : State) (M : Machine) → length s.store ≡ store_length → Kept s M → Agrees (stored s) M
agree_of s M l (agrees e a) = a
agree_of s M l (apart e q g f c) = absurd (e l)

-- ---- the calendar

pub slot-below : (t : ℕ) → t < end_of_time → slot_of t < slot_count
slot-below t l = omega arith

pub month-below : (t : ℕ) → t < end_of_time → month_of t < month_count
month-below t l = rw month-slot (slot-month-few (slot_of t) (slot-below t l))

-- ---- the ramp

-- a move between two numbers that are at most n stays so
pub approach-most : (n goal c : ℕ) → goal ≤ n → c ≤ n → approach goal c ≤ n
unfolding approach
approach-most n goal c a b = go (leb c goal) refl
  where
    go : (x : Bool) → leb c goal ≡ x → cond x (min goal (c + 100)) (max goal (c - 100)) ≤ n
    go true e = omega arith
    go false e = omega arith

-- a state with another unit
abbrev with-clock : ℕ → State → State
with-clock t s = record { unit = set_clock t s.unit; store = s.store }

abbrev with_second : ℕ → State → State
with_second t s = record { unit = second s.store t s.unit; store = s.store }

module _ (p : Plant) (n : ℕ) (full : n ≡ store_length) where
  -- the clock is set
  set-follows : (s : State) (M : Machine) (t : ℕ) → t < end_of_time → Follows p n s M → Follows p n (with-clock t s) (machine_set t M)
  unfolding set_clock machine_set
  set-follows s M t l h =
      let a : Agrees (stored s) M = agree_of s M (h.size ∙ full) h.kept in
      let b : month_of t < month_count = month-below t l in
      record {
        plant = h.plant;
        size = h.size;
        clock = refl;
        floor = ap (λ (f : ℕ). raised_floor f t) h.floor;
        requests = h.requests;
        command = h.command;
        time = lt-ltb t end_of_time l;
        asks = h.asks;
        most = h.most;
        kept = agrees (h.size ∙ full)
            (rw h.floor (release_agrees (stored s) M (machine_set t M) (raised_floor M.floor t) refl refl (omega arith) (omega (arith, a.floor)) a));
      }

  -- the target of a rate of the machine is a command that the unit may have
  goal-most : (M : Machine) → ((s r : ℕ) → rate_of M s ≡ Some r → r ≤ highest_rate) → (s : ℕ) → target (settings_of p) (rate_of M s) ≤ full_command (settings_of p)
  goal-most M low s = go (rate_of M s) refl
    where
      go : (o : Option ℕ) → rate_of M s ≡ o → target (settings_of p) o ≤ full_command (settings_of p)
      go None e = parts-most (settings_of p) 0 (omega arith)
      go (Some r) e = parts-most (settings_of p) r (low s r e)

  -- a second passes
  second-follows : (s : State) (M : Machine) (t : ℕ) → t < end_of_time → Follows p n s M → Follows p n (with_second t s) (machine_second (settings_of p) t M)
  unfolding second machine_second with_command move_command machine_set
  second-follows s M t l h =
      let v : State = with-clock t s in
      let N : Machine = machine_set t M in
      let g : Follows p n v N = set-follows s M t l h in
      let a : Agrees (stored v) N = agree_of v N (g.size ∙ full) g.kept in
      let own : Option ℕ = stored_rate v.unit.pool s.store (slot_of t) in
      let rate : own ≡ rate_of N (slot_of t) = rate-agrees (stored v) N a (slot_of t) (slot-below t l) in
      let move : approach (target (settings_of s.unit.plant) own) s.unit.command
      ≡ approach (target (settings_of p) (rate_of N (slot_of t))) N.command =
      ap₂ approach (ap₂ (λ (q : Plant) (o : Option ℕ). target (settings_of q) o) h.plant rate) (same-command s M t h) in
      record {
        plant = g.plant;
        size = g.size;
        clock = g.clock;
        floor = g.floor;
        requests = g.requests;
        command = move;
        time = g.time;
        asks = g.asks;
        most = approach-most _ _ _ (goal-most N a.rates (slot_of t)) g.most;
        kept = agrees (g.size ∙ full) (same-agrees (stored v) N (machine_second (settings_of p) t M) refl refl a);
      }
    where
      same-command : (s : State) (M : Machine) (t : ℕ) → Follows p n s M → s.unit.command ≡ (machine_set t M).command
      same-command s M t h = h.command

  seconds-follow : (k c : ℕ) (s : State) (M : Machine) → c + k < end_of_time → Follows p n s M
      → Follows p n (record { unit = seconds s.store k c s.unit; store = s.store }) (machine_seconds (settings_of p) k c M)
  unfolding seconds machine_seconds
  seconds-follow zero c s M l h = h
  seconds-follow (suc k) c s M l h =
      seconds-follow k (suc c) (with_second (suc c) s) (machine_second (settings_of p) (suc c) M) (omega arith) (second-follows s M (suc c) (omega arith) h)

  -- a tick to t
  pub tick-follows : (s : State) (M : Machine) (t : ℕ) → t < end_of_time → Follows p n s M
      → Follows p n (record { unit = ticked s.store t s.unit; store = s.store }) (machine_ticked (settings_of p) t M)
  unfolding ticked machine_ticked
  tick-follows s M t l h = go s.unit.clock M.clock h.clock
    where
      later : (c : ℕ) (x : Bool) → leb t c ≡ x
          → Follows p n (record { unit = cond x (set_clock t s.unit) (seconds s.store (t - c) c s.unit); store = s.store })
          (cond x (machine_set t M) (machine_seconds (settings_of p) (t - c) c M))
      later c true e = set-follows s M t l h
      later c false e = seconds-follow (t - c) c s M (omega (arith, leb-false t c e)) h

      go : (c : Option ℕ) (o : Option ℕ) → c ≡ o
          → Follows p n (record { unit = tick_from s.store t c s.unit; store = s.store }) (machine_from (settings_of p) t o M)
      go None None e = set-follows s M t l h
      go None (Some d) e = absurd (none-some d e)
      go (Some c) None e = absurd (some-none c e)
      go (Some c) (Some d) e = rw (← some_same c d e) (later c (leb t c) refl)
