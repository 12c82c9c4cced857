-- What the machine asks for stays sound: after a failure, a yearly file and an update.
use Prim.Native.Nat.{ℕ, ◌+◌, ◌-◌, ◌≤◌, ◌<◌}
use mathlib.Core.Path.{◌≡◌, refl}
use mathlib.Core.Bool.{Bool, true, false, cond, not, ◌&&◌}
use native.Mathlib.Omega.{arith}
use lib.Dec.{leb, ltb, eqb}
use borrow.Author.Tests.{lt-ltb, le-leb, leb-true, ltb-true, ltb-false}
use Rattle.rules.specs.Calendar.{time_of_day, day_length, end_of_time}
use Rattle.rules.specs.Plant.{Settings}
use Rattle.rules.specs.Store.{Requests, retries, sound_requests, longest_wait}
use Rattle.rules.specs.Machine.{update_time, take_update, take_year, failed_update, failed_fixed, failed, is_client_error, fixed_wait, update_wait, refused_wait, window_start, next_window}
use Rattle.rules.specs.declared.Kind.{Kind}
use Rattle.laws.proofs.Tests.{both}
use Rattle.plant.proofs.Laws.{InRange}

-- 'flags 0 to 10, failures 0 to 5, f and u below T + 172,800', as facts
pub record Asks (s : Settings) (q : Requests) : Type 0 where
  pub wanted : q.wanted_flag ≤ 10
  pub held : q.held_flag ≤ 10
  pub failures : q.failures ≤ retries s
  pub fixed : q.fixed_at < end_of_time + longest_wait
  pub update : q.update_at < end_of_time + longest_wait

pub asks_facts : (s : Settings) (q : Requests) → sound_requests s q ≡ true → Asks s q
unfolding sound_requests
asks_facts s q e =
    let a = leb q.wanted_flag 10 in
    let b = leb q.held_flag 10 in
    let c = leb q.failures (retries s) in
    let d = ltb q.fixed_at (end_of_time + longest_wait) in
    let f = ltb q.update_at (end_of_time + longest_wait) in
    let e₄ = both (a && b && c && d) f e in
    let e₃ = both (a && b && c) d e₄.0 in
    let e₂ = both (a && b) c e₃.0 in
    let e₁ = both a b e₂.0 in
    record {
      wanted = leb-true _ _ e₁.0;
      held = leb-true _ _ e₁.1;
      failures = leb-true _ _ e₂.1;
      fixed = ltb-true _ _ e₃.1;
      update = ltb-true _ _ e₄.1;
    }

pub facts_asks : (s : Settings) (q : Requests) → Asks s q → sound_requests s q ≡ true
unfolding sound_requests
facts_asks s q a =
    rw (
      le-leb q.wanted_flag 10 a.wanted,
      le-leb q.held_flag 10 a.held,
      le-leb q.failures (retries s) a.failures,
      lt-ltb q.fixed_at (end_of_time + longest_wait) a.fixed,
      lt-ltb q.update_at (end_of_time + longest_wait) a.update,
    )

-- ---- a failure

window-below : (d : ℕ) → window_start d < day_length
unfolding window_start
window-below d = omega arith

next-below : (d t : ℕ) → next_window d t ≤ t + day_length
unfolding next_window
next-below d t = go (ltb t (t - time_of_day t + window_start d)) refl
  where
    go : (x : Bool) → ltb t (t - time_of_day t + window_start d) ≡ x
        → cond x (t - time_of_day t + window_start d) (t - time_of_day t + window_start d + day_length) ≤ t + day_length
    go true e = omega (arith, window-below d)
    go false e = omega (arith, ltb-false t (t - time_of_day t + window_start d) e)

wait-most : (s : Settings) → InRange s → (x : Bool) → cond x (refused_wait s) (update_wait s) ≤ longest_wait
wait-most s range true = range.refused-wait-most
wait-most s range false = range.update-wait-most

module _ (s : Settings) (range : InRange s) (t : ℕ) (below : t < end_of_time) (q : Requests) (a : Asks s q) where
  pub update-asks : (status : ℕ) → Asks s (failed_update s t status q)
  unfolding failed_update
  update-asks status = record {
    wanted = a.wanted;
    held = a.held;
    failures = a.failures;
    fixed = a.fixed;
    update = omega (arith, wait-most s range (is_client_error status));
  }

  pub fixed-asks : (d status : ℕ) → Asks s (failed_fixed s d t status q)
  unfolding failed_fixed
  fixed-asks d status = go (not (is_client_error status)) (ltb q.failures (retries s)) refl
    where
      go : (x y : Bool) → ltb q.failures (retries s) ≡ y
          → Asks s (cond (x && y)
          (record { wanted_flag = q.wanted_flag; held_flag = q.held_flag; failures = q.failures + 1; fixed_at = t + fixed_wait s; update_at = q.update_at })
          (record { wanted_flag = q.wanted_flag; held_flag = q.held_flag; failures = 0; fixed_at = next_window d t; update_at = q.update_at }))
      go true true e = record {
        wanted = a.wanted;
        held = a.held;
        failures = omega (arith, ltb-true q.failures (retries s) e);
        fixed = omega arith;
        update = a.update;
      }
      go true false e = record { wanted = a.wanted; held = a.held; failures = omega arith; fixed = omega (arith, next-below d t); update = a.update }
      go false y e = record { wanted = a.wanted; held = a.held; failures = omega arith; fixed = omega (arith, next-below d t); update = a.update }

  pub failed-asks : (d : ℕ) (kind : Kind) (status : ℕ) → Asks s (failed s d kind t status q)
  failed-asks d Kind.Update status = update-asks status
  failed-asks d Kind.Fixed status = fixed-asks d status

-- ---- a file

time-most : (clock next : ℕ) → clock < end_of_time → next < end_of_time → update_time clock next < end_of_time + longest_wait
unfolding update_time
time-most clock next a b = omega arith

module _ (s : Settings) (q : Requests) (a : Asks s q) where
  pub year-asks : (digit : ℕ) → digit ≤ 9 → Asks s (take_year digit q)
  unfolding take_year
  year-asks digit l = record { wanted = a.wanted; held = omega arith; failures = omega arith; fixed = omega arith; update = a.update }

  pub taken-asks : (clock flag next : ℕ) → clock < end_of_time → flag ≤ 9 → next < end_of_time → Asks s (take_update clock flag next q)
  unfolding take_update
  taken-asks clock flag next low l b = go (eqb flag q.wanted_flag)
    where
      u : ℕ
      u = update_time clock next

      until : u < end_of_time + longest_wait
      until = time-most clock next low b

      go : (x : Bool)
          → Asks s (cond x
          (record { wanted_flag = q.wanted_flag; held_flag = q.held_flag; failures = q.failures; fixed_at = q.fixed_at; update_at = u })
          (record { wanted_flag = flag; held_flag = q.held_flag; failures = 0; fixed_at = 0; update_at = u }))
      go true = record { wanted = a.wanted; held = a.held; failures = a.failures; fixed = a.fixed; update = until }
      go false = record { wanted = omega arith; held = a.held; failures = omega arith; fixed = omega arith; update = until }
