-- The plain machine (01, The plain machine): no blocks, all accepted files kept whole, and its answers to every list of calls.
use Rattle.std.specs.Prelude.{ℕ, zero, suc, ◌+◌, ◌-◌, ◌*◌, min, max, Bool, true, false, cond, not, ◌&&◌, ◌||◌, List, [], ◌∷◌, ◌++◌, length, get_or, leb, ltb, eqb, Option, None, Some}
use Rattle.rules.specs.Calendar.{first_slot, month_of_slot, month_of, slot_of, time_of_day, day_length, slot_count, end_of_time, month_count}
use Rattle.rules.specs.Plant.{Settings, percent, parts_of, last_digit}
use Rattle.rules.specs.Name.{Name, segment_digit}
use Rattle.rules.specs.Body.{Record}
use Rattle.rules.specs.File.{File, Outcome, refuse, file, take_file, records_in, start_of, flag_of, next_access}
use Rattle.rules.specs.Response.{take_response}
use Rattle.rules.specs.Causes.{number_of, Reply, accepted, refused, ceiling, update, fixed, nothing, parts, blocks}
use Rattle.rules.specs.Store.{block_count, store_length, Requests, no_flag, retries, fresh_requests}
use Rattle.rules.specs.declared.Cause.{Cause}
use Rattle.rules.specs.declared.Kind.{Kind}
use Rattle.rules.specs.declared.Format.{Format}
use Rattle.rules.specs.declared.Format.TheVariants.{F201, F202, F203, F301}

-- 'It is told the plant ID, the settings, the store's length'
pub record Told : Type 0 where
  pub plant : List ℕ
  pub settings : Settings
  pub store_length : ℕ

-- 'and, call by call, the values that the call was given besides unit and store'
pub data Call : Type 0 where
  tick : ℕ → Call
  clock_lost : Call
  file_taken : List ℕ → List ℕ → Call  -- name, body
  response_taken : List ℕ → List ℕ → Call  -- boundary, bytes
  failure : Kind → ℕ → Call  -- kind, status
  due : Call
  ceiling_of : ℕ → Call  -- slot
  command : Call
  free_blocks : Call

-- 'The machine has: clock, floor month, the list of accepted files, w, h, k, f, u, command'
pub record Machine : Type 0 where
  pub clock : Option ℕ
  pub floor : ℕ
  pub files : List File
  pub requests : Requests
  pub command : ℕ

unfoldable pub fresh_machine : Machine
fresh_machine = record { clock = None; floor = 0; files = []; requests = fresh_requests; command = 0 }

-- ---- rate of a slot

-- 'A file covers the n slots from the start of each of its records, with their rates in order'
abbrev pub covers : ℕ → Record → Bool
covers s r = leb (start_of r) s && ltb s (start_of r + length r.rates)

unfoldable pub rate_in : ℕ → List Record → Option ℕ
rate_in s [] = None
rate_in s (r ∷ rs) =
    let rest = rate_in s rs in
    cond (covers s r) (Some (get_or r.rates (s - start_of r) 0)) rest

-- the second where the first gives none
abbrev pub or_else : Option ℕ → Option ℕ → Option ℕ
or_else None other = other
or_else (Some r) other = Some r

-- 'from the last file in the list covering s'; `found` where none does
unfoldable pub last_rate : ℕ → List File → Option ℕ → Option ℕ
last_rate s [] found = found
last_rate s (f ∷ fs) found = last_rate s fs (or_else (rate_in s (records_in f.body)) found)

-- 'none if its month is below floor; else from the last file in the list covering s; else none'
unfoldable pub rate_of : Machine → ℕ → Option ℕ
rate_of M s = cond (ltb (month_of_slot s) M.floor) None (last_rate s M.files None)

-- ---- months held

-- the record covers a slot of month m: its slots and the month's meet
abbrev pub touches : ℕ → Record → Bool
touches m r = ltb (max (start_of r) (first_slot m)) (min (start_of r + length r.rates) (first_slot (suc m)))

unfoldable pub any_record : ℕ → List Record → Bool
any_record m [] = false
any_record m (r ∷ rs) = touches m r || any_record m rs

unfoldable pub any_file : ℕ → List File → Bool
any_file m [] = false
any_file m (f ∷ fs) = any_record m (records_in f.body) || any_file m fs

-- 'A month is held if it is at or above floor and some listed file covers a slot of it'
unfoldable pub is_held : Machine → ℕ → Bool
is_held M m = leb M.floor m && any_file m M.files

abbrev pub one : Bool → ℕ
one true = 1
one false = 0

-- how many numbers below k pass
unfoldable pub count_below : ℕ → (ℕ → Bool) → ℕ
count_below zero p = 0
count_below (suc k) p = count_below k p + one (p k)

unfoldable pub held_count : Machine → ℕ
held_count M = count_below month_count (is_held M)

-- ---- tick

-- 'floor first becomes the greater of itself and the clock's month - 1'
abbrev pub floor_lag : ℕ
floor_lag = 1

abbrev pub raised_floor : ℕ → ℕ → ℕ
raised_floor floor t = max floor (month_of t - floor_lag)

-- 'clock becomes t; the command stays'
unfoldable pub set_clock : ℕ → Machine → Machine
set_clock t M = record {
  clock = Some t;
  floor = raised_floor M.floor t;
  files = M.files;
  requests = M.requests;
  command = M.command;
}

-- 'no rate counts as r = 0'
abbrev pub or_zero : Option ℕ → ℕ
or_zero None = 0
or_zero (Some r) = r

-- '60 × N × p of that second's slot'
abbrev pub target : Settings → Option ℕ → ℕ
target s r = parts_of s (percent s (or_zero r))

-- 'moves toward .. by at most 100 and stops there'
unfoldable pub approach : ℕ → ℕ → ℕ
approach goal c = cond (leb c goal) (min goal (c + 100)) (max goal (c - 100))

unfoldable pub move_command : ℕ → Machine → Machine
move_command goal M = record {
  clock = M.clock;
  floor = M.floor;
  files = M.files;
  requests = M.requests;
  command = approach goal M.command;
}

-- the second t of a tick: floor first, then the command
unfoldable pub second : Settings → ℕ → Machine → Machine
second s t M =
    let N = set_clock t M in
    move_command (target s (rate_of N (slot_of t))) N

-- the n seconds after second c
unfoldable pub seconds : Settings → ℕ → ℕ → Machine → Machine
seconds s zero c M = M
seconds s (suc n) c M = seconds s n (suc c) (second s (suc c) M)

-- 'clock unset or t ≤ clock: ..; otherwise, for each second from clock + 1 to t, ..'
abbrev pub tick_from : Settings → ℕ → Option ℕ → Machine → Machine
tick_from s t None M = set_clock t M
tick_from s t (Some c) M = cond (leb t c) (set_clock t M) (seconds s (t - c) c M)

unfoldable pub ticked : Settings → ℕ → Machine → Machine
ticked s t M = tick_from s t M.clock M

-- 'Clock lost: clock unset, command 0'
unfoldable pub lost_clock : Machine → Machine
lost_clock M = record { clock = None; floor = M.floor; files = M.files; requests = M.requests; command = 0 }

-- ---- file taken

-- 'u becomes the next access', whatever the clock
unfoldable pub update_time : ℕ → ℕ → ℕ
update_time clock next = next

-- '203: if its flag differs from w, w becomes it, k = f = 0; u becomes the next access'
unfoldable pub take_update : ℕ → ℕ → ℕ → Requests → Requests
take_update clock flag next q =
    let u = update_time clock next in
    cond (eqb flag q.wanted_flag)
    (record { wanted_flag = q.wanted_flag; held_flag = q.held_flag; failures = q.failures; fixed_at = q.fixed_at; update_at = u })
    (record { wanted_flag = flag; held_flag = q.held_flag; failures = 0; fixed_at = 0; update_at = u })

-- '201: h becomes the segment's last digit, k = f = 0'
unfoldable pub take_year : ℕ → Requests → Requests
take_year digit q = record { wanted_flag = q.wanted_flag; held_flag = digit; failures = 0; fixed_at = 0; update_at = q.update_at }

-- '202: nothing more'
abbrev pub take_by : ℕ → Format → Name → List Record → Requests → Requests
take_by clock F201 n rs q = take_year (segment_digit n.segment) q
take_by clock F202 n rs q = q
take_by clock F203 n rs q = take_update clock (flag_of rs) (next_access rs) q
take_by clock F301 n rs q = q

-- the machine with a file that was taken at that clock
unfoldable pub with_file : ℕ → File → Machine → Machine
with_file clock f M = record {
  clock = M.clock;
  floor = M.floor;
  files = M.files ++ (f ∷ []);
  requests = take_by clock f.name.format f.name (records_in f.body) M.requests;
  command = M.command;
}

-- ---- failure reported

-- 'u = clock + 1,800; for 400-499 clock + 86,400', 'f = clock + 300', whatever the settings
abbrev pub update_wait : Settings → ℕ
update_wait s = 1800

abbrev pub refused_wait : Settings → ℕ
refused_wait s = 86400

abbrev pub fixed_wait : Settings → ℕ
fixed_wait s = 300

-- 'status not 0, 100-199 or 300-599' is cause 6
abbrev pub is_status : ℕ → Bool
is_status x = eqb x 0 || leb 100 x && leb x 199 || leb 300 x && leb x 599

abbrev pub is_client_error : ℕ → Bool
is_client_error x = leb 400 x && leb x 499

-- 'Window for check digit d: 20 minutes from 21:10:00 + 30 × d minutes, past midnight from d = 6'
abbrev pub window_length : Settings → ℕ
window_length s = 1200

unfoldable pub window_start : ℕ → ℕ
window_start d = time_of_day (21 * 3600 + 10 * 60 + 1800 * d)

-- the time of day less the window's start, modulo a day: a window that passes midnight goes on into the next day
unfoldable pub in_window : Settings → ℕ → ℕ → Bool
in_window s d t = ltb (time_of_day (time_of_day t + (day_length - window_start d))) (window_length s)

-- 'the first window start later than clock': today's where it is still to come, else tomorrow's
unfoldable pub next_window : ℕ → ℕ → ℕ
next_window d t =
    let today = t - time_of_day t + window_start d in
    cond (ltb t today) today (today + day_length)

unfoldable pub failed_update : Settings → ℕ → ℕ → Requests → Requests
failed_update s t status q = record {
  wanted_flag = q.wanted_flag;
  held_flag = q.held_flag;
  failures = q.failures;
  fixed_at = q.fixed_at;
  update_at = t + cond (is_client_error status) (refused_wait s) (update_wait s);
}

-- 'if status isn't 400-499 and k < 5, k rises by 1 and f = clock + 300; else k = 0 and f is the first window start later than clock'
unfoldable pub failed_fixed : Settings → ℕ → ℕ → ℕ → Requests → Requests
failed_fixed s d t status q =
    cond (not (is_client_error status) && ltb q.failures (retries s))
    (record { wanted_flag = q.wanted_flag; held_flag = q.held_flag; failures = q.failures + 1; fixed_at = t + fixed_wait s; update_at = q.update_at })
    (record { wanted_flag = q.wanted_flag; held_flag = q.held_flag; failures = 0; fixed_at = next_window d t; update_at = q.update_at })

abbrev pub failed : Settings → ℕ → Kind → ℕ → ℕ → Requests → Requests
failed s d Kind.Update t status q = failed_update s t status q
failed s d Kind.Fixed t status q = failed_fixed s d t status q

unfoldable pub with_requests : Requests → Machine → Machine
with_requests q M = record { clock = M.clock; floor = M.floor; files = M.files; requests = q; command = M.command }

-- ---- the questions

-- 'update if clock ≥ u; else fixed with w if w isn't none, w ≠ h, clock ≥ f, and k > 0 or the time of day is in the window; else nothing'
unfoldable pub due_of : Settings → ℕ → ℕ → Requests → Reply
due_of s d t q =
    cond (leb q.update_at t)
    update
    (cond
    (not (eqb q.wanted_flag no_flag)
    && not (eqb q.wanted_flag q.held_flag)
    && leb q.fixed_at t
    && (ltb 0 q.failures || in_window s d t))
    (fixed q.wanted_flag)
    nothing)

-- 'whether it has a rate, r, p; both 0 where no rate'
abbrev pub ceiling_reply : Settings → Option ℕ → Reply
ceiling_reply s None = ceiling false 0 0
ceiling_reply s (Some r) = ceiling true r (percent s r)

-- ---- the calls

-- an answer, and the machine after it
abbrev pub Step : Type 0
Step = Reply × Machine

-- 'A refused call leaves it as it was and is answered with its cause's number'
abbrev pub refusal : Cause → Machine → Step
refusal c M = (refused (number_of c), M)

abbrev pub check : Bool → Cause → Step → Machine → Step
check true c next M = next
check false c next M = refusal c M

-- '3 by the store's length in the calls that it is lent to'
abbrev pub check_store : Told → Step → Machine → Step
check_store w next M = check (eqb w.store_length store_length) Cause.StoreLength next M

-- '5 by the machine's clock'
abbrev pub at_clock : Option ℕ → (ℕ → Step) → Machine → Step
at_clock None next M = refusal Cause.ClockUnset M
at_clock (Some t) next M = next t

-- '14 by the months that it would hold with the file added'
abbrev pub take_outcome : ℕ → Outcome → Machine → Step
take_outcome t (refuse c) M = refusal c M
take_outcome t (file f) M = check (leb (held_count (with_file t f M)) block_count) Cause.Full (accepted, with_file t f M) M

-- 3, 5, then what was read: 'Taking a response is then taking that name and file, and counts as such in the plain machine'
abbrev pub take_step : Told → Outcome → Machine → Step
take_step w o M = check_store w (at_clock M.clock (λ t. take_outcome t o M) M) M

unfoldable pub step : Told → Call → Machine → Step
step w (tick t) M = check_store w (check (ltb t end_of_time) Cause.Range (accepted, ticked w.settings t M) M) M
step w clock_lost M = (accepted, lost_clock M)
step w (file_taken name body) M = take_step w (take_file w.plant name body) M
step w (response_taken boundary s) M = take_step w (take_response w.plant boundary s) M
step w (failure kind status) M =
    at_clock M.clock
    (λ t. check (is_status status) Cause.Range (accepted, with_requests (failed w.settings (last_digit w.plant) kind t status M.requests) M) M)
    M
step w due M = at_clock M.clock (λ t. (due_of w.settings (last_digit w.plant) t M.requests, M)) M
step w (ceiling_of s) M =
    check_store w
    (at_clock M.clock (λ t. check (ltb s slot_count) Cause.Range (ceiling_reply w.settings (rate_of M s), M) M) M)
    M
step w command M = (parts M.command, M)
step w free_blocks M = (blocks (block_count - held_count M), M)

-- ---- lists of calls

-- the replies to a list of calls, and the machine after it
unfoldable pub replies : Told → List Call → Machine → List Reply
replies w [] M = []
replies w (c ∷ cs) M = (step w c M).0 ∷ replies w cs (step w c M).1

unfoldable pub after : Told → List Call → Machine → Machine
after w [] M = M
after w (c ∷ cs) M = after w cs (step w c M).1
