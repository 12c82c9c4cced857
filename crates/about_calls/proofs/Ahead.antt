-- The machine's floor is never behind its clock's month by more than one.
use Rattle.std.specs.Prelude.{Option, None, Some}
use Prim.Native.Nat.{ℕ, zero, suc, ◌-◌, ◌≤◌}
use mathlib.Core.Path.{◌≡◌}
use mathlib.Core.Bool.{Bool, true, false, cond}
use mathlib.Core.List.{List, [], ◌∷◌}
use native.Mathlib.Omega.{arith}
use lib.Dec.{leb, ltb, eqb}
use Rattle.rules.specs.Calendar.{month_of, end_of_time, slot_count}
use Rattle.rules.specs.Plant.{Settings, last_digit}
use Rattle.rules.specs.File.{File, Outcome, refuse, file, take_file}
use Rattle.rules.specs.Response.{take_response}
use Rattle.rules.specs.Store.{Requests, store_length, block_count}
use Rattle.rules.specs.Causes.{accepted}
use Rattle.rules.specs.Machine.{Machine, Told, Call, tick, clock_lost, file_taken, response_taken, failure, due, ceiling_of, command, free_blocks, fresh_machine, set_clock, move_command, second, seconds, tick_from, ticked, lost_clock, with_file, with_requests, check, at_clock, take_outcome, take_step, held_count, is_status, failed, due_of, ceiling_reply, rate_of, Step, step, after}
use Rattle.rules.specs.declared.Cause.{Cause}
use Rattle.about_calls.proofs.Options.{none-some, some_same}

abbrev pub Ahead : Machine → Type 0
Ahead M = (t : ℕ) → M.clock ≡ Some t → month_of t - 1 ≤ M.floor

set-ahead : (t : ℕ) (M : Machine) → Ahead (set_clock t M)
unfolding set_clock
set-ahead t M c e = rw (← some_same t c e) (omega arith)

second-ahead : (s : Settings) (t : ℕ) (M : Machine) → Ahead (second s t M)
unfolding second move_command
second-ahead s t M = set-ahead t M

seconds-ahead : (s : Settings) (n c : ℕ) (M : Machine) → Ahead M → Ahead (seconds s n c M)
unfolding seconds
seconds-ahead s zero c M h = h
seconds-ahead s (suc n) c M h = seconds-ahead s n (suc c) (second s (suc c) M) (second-ahead s (suc c) M)

tick-ahead : (s : Settings) (t : ℕ) (M : Machine) → Ahead M → Ahead (ticked s t M)
unfolding ticked
tick-ahead s t M h = go M.clock
  where
    later : (c : ℕ) (b : Bool) → Ahead (cond b (set_clock t M) (seconds s (t - c) c M))
    later c true = set-ahead t M
    later c false = seconds-ahead s (t - c) c M h

    go : (o : Option ℕ) → Ahead (tick_from s t o M)
    go None = set-ahead t M
    go (Some c) = later c (leb t c)

-- ---- a step

check-ahead : (b : Bool) (c : Cause) (next : Step) (M : Machine) → Ahead next.1 → Ahead M → Ahead (check b c next M).1
check-ahead true c next M h k = h
check-ahead false c next M h k = k

clock-ahead : (o : Option ℕ) (next : ℕ → Step) (M : Machine) → ((t : ℕ) → Ahead (next t).1) → Ahead M → Ahead (at_clock o next M).1
clock-ahead None next M h k = k
clock-ahead (Some t) next M h k = h t

file-ahead : (t : ℕ) (f : File) (M : Machine) → Ahead M → Ahead (with_file t f M)
unfolding with_file
file-ahead t f M h = h

take-ahead : (t : ℕ) (o : Outcome) (M : Machine) → Ahead M → Ahead (take_outcome t o M).1
take-ahead t (refuse c) M h = h
take-ahead t (file f) M h = check-ahead (leb (held_count (with_file t f M)) block_count) Cause.Full (accepted, with_file t f M) M (file-ahead t f M h) h

taken-ahead : (w : Told) (o : Outcome) (M : Machine) → Ahead M → Ahead (take_step w o M).1
taken-ahead w o M h =
    let done : ℕ → Step = λ t. take_outcome t o M in
    check-ahead (eqb w.store_length store_length) Cause.StoreLength (at_clock M.clock done M) M
    (clock-ahead M.clock done M (λ t. take-ahead t o M h) h) h

requests-ahead : (q : Requests) (M : Machine) → Ahead M → Ahead (with_requests q M)
unfolding with_requests
requests-ahead q M h = h

lost-ahead : (M : Machine) → Ahead (lost_clock M)
unfolding lost_clock
lost-ahead M t e = absurd (none-some t e)

step-ahead : (w : Told) (c : Call) (M : Machine) → Ahead M → Ahead (step w c M).1
unfolding step
step-ahead w (tick t) M h =
    let done : Step = (accepted, ticked w.settings t M) in
    check-ahead (eqb w.store_length store_length) Cause.StoreLength (check (ltb t end_of_time) Cause.Range done M) M
    (check-ahead (ltb t end_of_time) Cause.Range done M (tick-ahead w.settings t M h) h) h
step-ahead w clock_lost M h = lost-ahead M
step-ahead w (file_taken name body) M h = taken-ahead w (take_file w.plant name body) M h
step-ahead w (response_taken boundary bytes) M h = taken-ahead w (take_response w.plant boundary bytes) M h
step-ahead w (failure kind status) M h =
    let done : ℕ → Step = λ t. (accepted, with_requests (failed w.settings (last_digit w.plant) kind t status M.requests) M) in
    clock-ahead M.clock (λ t. check (is_status status) Cause.Range (done t) M) M
    (λ t. check-ahead (is_status status) Cause.Range (done t) M (requests-ahead _ M h) h) h
step-ahead w due M h = clock-ahead M.clock (λ t. (due_of w.settings (last_digit w.plant) t M.requests, M)) M (λ t. h) h
step-ahead w (ceiling_of s) M h =
    let done : ℕ → Step = λ t. check (ltb s slot_count) Cause.Range (ceiling_reply w.settings (rate_of M s), M) M in
    check-ahead (eqb w.store_length store_length) Cause.StoreLength (at_clock M.clock done M) M
    (clock-ahead M.clock done M (λ t. check-ahead (ltb s slot_count) Cause.Range (ceiling_reply w.settings (rate_of M s), M) M h h) h) h
step-ahead w command M h = h
step-ahead w free_blocks M h = h

pub list_ahead : (w : Told) (cs : List Call) (M : Machine) → Ahead M → Ahead (after w cs M)
unfolding after
list_ahead w [] M h = h
list_ahead w (c ∷ cs) M h = list_ahead w cs (step w c M).1 (step-ahead w c M h)

pub fresh-ahead : Ahead fresh_machine
unfolding fresh_machine
fresh-ahead t e = absurd (none-some t e)
