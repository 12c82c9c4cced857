-- A file taken, by itself or in a response: the flags and times that it brings are sound, the unit's reply is the machine's, and the unit goes on following.
use Rattle.std.specs.Prelude.{Option, Some, None}
use Prim.Native.Nat.{ℕ, ◌≤◌, ◌<◌}
use mathlib.Core.Path.{◌≡◌, refl, sym, ap, ap₂, ◌∙◌, subst}
use mathlib.Core.Bool.{Bool, true, false, not}
use mathlib.Core.List.{List, [], ◌∷◌}
use native.Mathlib.Omega.{arith}
use lib.Dec.{leb, eqb}
use lib.ListN.{length}
use borrow.Author.Tests.{eq-eqb, leb-true}
use Rattle.rules.specs.Calendar.{exists, start_slot, end_of_time}
use Rattle.rules.specs.Name.{segment_digit}
use Rattle.rules.specs.Body.{form_of_record, every, Record}
use Rattle.rules.specs.File.{File, Outcome, refuse, file, take_file, record_dates, update_dates, in_time, records_in, flag_of, next_access}
use Rattle.rules.specs.Response.{take_response}
use Rattle.rules.specs.Store.{Requests, store_length, block_count}
use Rattle.rules.specs.Machine.{Machine, held_count, file_taken, response_taken, take_by, with_file as machine_with, take_step, step as machine_step}
use Rattle.rules.specs.declared.Format.{Format}
use Rattle.rules.specs.declared.Format.TheVariants.{F201, F202, F203, F301}
use Rattle.calendar.proofs.DateLaws.{exists_below}
use Rattle.rules.specs.Plant.{Settings}
use Rattle.laws.proofs.Tests.{both, below-is}
use Rattle.laws.proofs.Bytes.{at-most-at}
use Rattle.plant.specs.Plant.{valid_plant}
use Rattle.plant.specs.declared.Plant.{Plant}
use Rattle.about_files.proofs.Record.{form-facts}
use Rattle.about_files.proofs.Accepted.{Taken, taken, TakenBy}
use Rattle.about_responses.proofs.Refusals.{response-taken}
use Rattle.pool.specs.Blocks.{free_count}
use Rattle.schedule.specs.Stored.{missing}
use Rattle.about_store.specs.Agrees.{Agrees}
use Rattle.about_store.specs.Run.{put_records, run_start, run_length}
use Rattle.about_store.proofs.Laws.{put_agrees, taken-good, room-agrees}
use Rattle.unit.specs.Rows.{is_unset}
use Rattle.unit.specs.Calls.{clock_time}
use Rattle.taking.specs.Taken.{with_file, store_with, full_row}
use Rattle.calls.specs.Step.{State, step}
use Rattle.unit.specs.declared.Unit.{Unit}
use Rattle.about_calls.proofs.Options.{test-same, test_other}
use Rattle.about_calls.proofs.MachineLaws as machine
use Rattle.about_calls.proofs.UnitLaws as unit
use Rattle.about_calls.proofs.Follows.{stored, agrees, Follows}
use Rattle.about_calls.proofs.Asks.{Asks, asks_facts, facts_asks, year-asks, taken-asks}
use Rattle.about_calls.proofs.Steps.{Sim, sim_by, w, good, clock-none, clock-some, time-below, short, full, agreed, bytes}

-- ---- what a file that is taken brings

-- the flag of an update
flag-low : (rs : List Record) → every (form_of_record F203) rs ≡ true → flag_of rs ≤ 9
unfolding every
flag-low [] e = omega arith
flag-low (r ∷ rs) e =
    let form = form-facts F203 r (both (form_of_record F203 r) (every (form_of_record F203) rs) e).0 in
    at-most-at 9 r.flag 0 form.flag.each

-- its next access
next_low : (rs : List Record) → every update_dates rs ≡ true → next_access rs < end_of_time
unfolding every update_dates
next_low [] e = omega arith
next_low (r ∷ rs) e =
    let dates = (both (update_dates r) (every update_dates rs) e).0 in
    exists_below r.next (both (in_time (length r.rates) (start_slot r.start)) (exists r.next) dates).1

pub file-asks : (s : Settings) (t : ℕ) → t < end_of_time → (body : List ℕ) (f : File) (q : Requests) → Taken body f → Asks s q
    → Asks s (take_by t f.name.format f.name (records_in f.body) q)
file-asks s t low body f q k a = go f.name.format k.records.form k.records.dates
  where
    rs : List Record
    rs = records_in f.body

    go : (x : Format) → every (form_of_record x) rs ≡ true → record_dates f.name x rs ≡ true → Asks s (take_by t x f.name rs q)
    go F201 e d = year-asks s q a (segment_digit f.name.segment) (at-most-at 9 f.name.segment 3 k.name.segment.each)
    go F202 e d = a
    go F203 e d = taken-asks s q a t (flag_of rs) (next_access rs) low (flag-low rs e) (next_low rs d)
    go F301 e d = a

-- ---- what is carried

-- what was read is a file that a unit of the plant takes, if it is one
abbrev pub Carries : List ℕ → Outcome → Type 0
Carries plant o = (f : File) → o ≡ file f → TakenBy plant f

pub from-file : (plant name body : List ℕ) → Carries plant (take_file plant name body)
from-file plant name body f e = record { name = name; body = body; read = e }

pub from-response : (plant boundary bytes : List ℕ) → Carries plant (take_response plant boundary bytes)
from-response plant boundary bytes f e = (response-taken plant boundary bytes f e).taken

-- ---- the step

module _ (p : Plant) (valid : valid_plant p ≡ true) (n : ℕ) (s : State) (M : Machine) (h : Follows p n s M) where
  abbrev u : Unit
  u = s.unit

  -- the state after the file was taken
  abbrev after : File → State
  after f = record { unit = with_file f s.store u; store = store_with (file f) s.store u }

  module _ (l : n ≡ store_length) (t : ℕ) (set : u.clock ≡ Some t) (f : File) (by : TakenBy p.id f) where
    -- 14 applies on both sides or on neither
    full-same : (full_row f u).applies ≡ not (leb (held_count (machine_with t f M)) block_count)
    unfolding full_row
    full-same =
        let rs = records_in f.body in
        below-is (free_count u.pool) (missing u.pool u.floor (run_start rs) (run_length rs))
        ∙ ap (λ (x : ℕ). not (leb (missing u.pool x (run_start rs) (run_length rs)) (free_count u.pool))) h.floor
        ∙ ap not (room-agrees (stored s) M (agreed p valid n s M h l) t f (taken-good p.id by.name by.body f by.read))

    taken-agrees : held_count (machine_with t f M) ≤ block_count → Agrees (stored (after f)) (machine_with t f M)
    unfolding with_file
    taken-agrees few =
        subst (λ (x : ℕ). Agrees (put_records x (records_in f.body) (stored s)) (machine_with t f M)) (sym h.floor)
        (put_agrees (stored s) M t f (taken-good p.id by.name by.body f by.read) few (agreed p valid n s M h l))

    taken-follows : held_count (machine_with t f M) ≤ block_count → Follows p n (after f) (machine_with t f M)
    unfolding with_file machine_with
    taken-follows few =
        let a = taken-agrees few in
        let asked = file-asks _ t (time-below p valid n s M h t set) by.body f M.requests (taken p.id by.name by.body f by.read) in
        record {
          plant = h.plant;
          size = a.full ∙ sym l;
          clock = h.clock;
          floor = h.floor;
          requests = ap₂ (λ c q. take_by c f.name.format f.name (records_in f.body) q) (ap clock_time set) h.requests;
          command = h.command;
          time = h.time;
          asks = facts_asks _ _ (asked (asks_facts _ M.requests h.asks));
          most = h.most;
          kept = agrees a.full a;
        }

  full-cause : (f : File) → (full_row f u).cause ≡ Rattle.rules.specs.declared.Cause.Cause.Full
  unfolding full_row
  full-cause f = refl

  -- whatever was read
  taken_step_lem : (o : Outcome) → Carries p.id o → Sim p n (unit.taken_step o s) (take_step (w p valid n) o M)
  taken_step_lem o from = go (eqb n store_length) refl
    where
      by-room : (l : n ≡ store_length) (t : ℕ) → u.clock ≡ Some t → (f : File) → TakenBy p.id f
          → (b : Bool) → leb (held_count (machine_with t f M)) block_count ≡ b → Sim p n (unit.taken_step (file f) s) (take_step (w p valid n) (file f) M)
      by-room l t c f by false g =
          sim_by p n _ _ _ _
          (unit.take-full s (full p valid n s M h l) (good p valid n s M h) (bytes p valid n s M h l) (ap is_unset c) f (full-same l t c f by ∙ ap not g)
          ∙ ap (λ x. unit.refusal x s) (full-cause f))
          (machine.take-full (w p valid n) M (eq-eqb n store_length l) t (clock-some p valid n s M h t c) f g)
          (refl, h)
      by-room l t c f by true g =
          sim_by p n _ _ _ _
          (unit.take_done s (full p valid n s M h l) (good p valid n s M h) (bytes p valid n s M h l) (ap is_unset c) f (full-same l t c f by ∙ ap not g))
          (machine.take_done (w p valid n) M (eq-eqb n store_length l) t (clock-some p valid n s M h t c) f g)
          (refl, taken-follows l t c f by (leb-true (held_count (machine_with t f M)) block_count g))

      by_outcome : (l : n ≡ store_length) (t : ℕ) → u.clock ≡ Some t → (x : Outcome) → Carries p.id x
          → Sim p n (unit.taken_step x s) (take_step (w p valid n) x M)
      by_outcome l t c (refuse x) k =
          sim_by p n _ _ _ _
          (unit.take-refused s (full p valid n s M h l) (good p valid n s M h) (bytes p valid n s M h l) (ap is_unset c) x)
          (machine.take-outcome (w p valid n) M (refuse x) (eq-eqb n store_length l) t (clock-some p valid n s M h t c))
          (refl, h)
      by_outcome l t c (file f) k = by-room l t c f (k f refl) (leb (held_count (machine_with t f M)) block_count) refl

      by-clock : (l : n ≡ store_length) (c : Option ℕ) → u.clock ≡ c → Sim p n (unit.taken_step o s) (take_step (w p valid n) o M)
      by-clock l None c =
          sim_by p n _ _ _ _ (unit.take-unset s (full p valid n s M h l) (good p valid n s M h) (bytes p valid n s M h l) (ap is_unset c) o)
          (machine.take-unset (w p valid n) M o (eq-eqb n store_length l) (clock-none p valid n s M h c)) (refl, h)
      by-clock l (Some t) c = by_outcome l t c o from

      go : (b : Bool) → eqb n store_length ≡ b → Sim p n (unit.taken_step o s) (take_step (w p valid n) o M)
      go true e = by-clock (test-same n store_length e) u.clock refl
      go false e =
          sim_by p n _ _ _ _ (unit.take-length s (short p valid n s M h (test_other n store_length e)) o)
          (machine.take-length (w p valid n) M o e) (refl, h)

  -- the unit's plant is the machine's, and reads the same
  same-plant : (read : List ℕ → Outcome) → Carries p.id (read p.id)
      → Sim p n (unit.taken_step (read u.plant.id) s) (take_step (w p valid n) (read p.id) M)
  same-plant read from =
      subst (λ (q : Plant). Sim p n (unit.taken_step (read q.id) s) (take_step (w p valid n) (read p.id) M)) (sym h.plant)
      (taken_step_lem (read p.id) from)

  pub take_step_lem : (name body : List ℕ) → Sim p n (step (file_taken name body) s) (machine_step (w p valid n) (file_taken name body) M)
  unfolding step machine_step
  take_step_lem name body = same-plant (λ x. take_file x name body) (from-file p.id name body)

  pub response-step : (boundary bytes : List ℕ) → Sim p n (step (response_taken boundary bytes) s) (machine_step (w p valid n) (response_taken boundary bytes) M)
  unfolding step machine_step
  response-step boundary bytes = same-plant (λ x. take_response x boundary bytes) (from-response p.id boundary bytes)
