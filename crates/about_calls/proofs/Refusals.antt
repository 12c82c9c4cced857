-- A call is refused with the lowest number whose row applies, and leaves unit and store as they were.
use Rattle.laws.proofs.Options.{none-ne-some, some-ne-none}
use Rattle.std.specs.Prelude.{Ok, Err, Option, None, Some}
use Prim.Native.Nat.{ℕ}
use mathlib.Core.Path.{◌≡◌, refl, sym, ap, ◌∙◌}
use mathlib.Core.Bool.{Bool, true, false, cond, not, ◌&&◌, ◌||◌, false≢true, or-false}
use mathlib.Core.List.{List, [], ◌∷◌}
use mathlib.Core.Logic.Iff
use mathlib.Core.Logic.{◌↔◌}
use lib.Dec.{leb, ltb}
use Rattle.rules.specs.Causes.{Answer}
use Rattle.rules.specs.Name.{Name, parse_name}
use Rattle.rules.specs.Body.{Body}
use Rattle.rules.specs.File.{File, Outcome, refuse, file, take_file}
use Rattle.rules.specs.Store.{Requests, sound_store, block_count}
use Rattle.rules.specs.Causes.{refused, number_of, of_due, of_ceiling, of_command, of_free_blocks}
use Rattle.rules.specs.Plant.{Settings, last_digit}
use Rattle.pool.specs.Blocks.{free_count}
use Rattle.pool.specs.Held.{held_of}
use Rattle.rules.specs.Machine.{Call, tick, clock_lost, file_taken, response_taken, failure, due, ceiling_of, command, free_blocks}
use Rattle.rules.specs.Table.{Row, row, first_of, applies_in, Lowest}
use Rattle.rules.specs.Response.{parse_response, take_parsed, take_response}
use Rattle.rules.specs.Rows.{taken_rows, formless}
use Rattle.rules.specs.declared.Cause.{Cause}
use Rattle.rules.specs.declared.Due.{Due}
use Rattle.about_files.specs.ReadRefusals.{Parsed}
use Rattle.about_files.proofs.Causes.{same-cause}
use Rattle.about_files.proofs.Table.{rising_from, rising, first-lowest, first-none, first-before, first-after, answer-refuses, answer-given}
use Rattle.about_files.proofs.ReadRefusals.{cause_of, take-first, take-accepts}
use Rattle.plant.specs.Plant.{settings_of}
use Rattle.schedule.specs.Stored.{stored_rate}
use Rattle.about_store.proofs.Laws.{taken-good}
use Rattle.polling.specs.Requests.{requests_of}
use Rattle.polling.specs.Due.{asks_fixed, due_for}
use Rattle.ceiling.specs.Ceiling.{slot_ceiling}
use Rattle.unit.specs.Values.{is_sound}
use Rattle.unit.specs.Rows.{length_row, unit_row, sound_row, clock_row, tick_row, slot_row, status_row}
use Rattle.unit.specs.Calls.{done_by, ticked, tick_of, lost, lost_of, with_failure, failure_of, answer_by, due_of, clock_time, ceiling_of as ceiling_at, command_of, free_of}
use Rattle.taking.specs.Taken.{outcome_rows, outcome_taken, store_taken, taken, outcome_row, store_by, store_with, take_of, response_of}
use Rattle.calls.specs.Step.{State, step_done, step}
use Rattle.unit.specs.declared.Unit.{Unit}
use Rattle.about_calls.specs.Acceptance.{together}
use Rattle.about_calls.specs.Full.{crowds, full_breaks}
use Rattle.about_calls.specs.Refusals.{taking_rows, carried_by, of_file, call_rows, is_refused, RefusesLowest, RefusalLeaves, AcceptsElse, FileRefuses, FileAccepts, WholeRefuses, WholeAccepts}
use Rattle.about_calls.proofs.Full.{answer_of, cause_in, done-answer, full_is, full-cause}
use Rattle.about_calls.proofs.UnitLaws.{taken_step}

-- the rows that each call's own definition looks at, one after the other
abbrev pub rows_of : Call → State → List Row
rows_of (tick t) s = length_row s.store ∷ sound_row s.unit s.store ∷ tick_row t ∷ []
rows_of clock_lost s = unit_row s.unit ∷ []
rows_of (file_taken name body) s = outcome_rows s.unit s.store (take_file s.unit.plant.id name body)
rows_of (response_taken boundary bytes) s = outcome_rows s.unit s.store (take_response s.unit.plant.id boundary bytes)
rows_of (failure kind status) s = unit_row s.unit ∷ clock_row s.unit ∷ status_row status ∷ []
rows_of due s = unit_row s.unit ∷ clock_row s.unit ∷ []
rows_of (ceiling_of slot) s = length_row s.store ∷ sound_row s.unit s.store ∷ clock_row s.unit ∷ slot_row slot ∷ []
rows_of command s = unit_row s.unit ∷ []
rows_of free_blocks s = unit_row s.unit ∷ []

-- ---- they come to the same cause as the rows of 01's table

-- a file: reading's rows, then 14
module _ (u : Unit) (name body : List ℕ) where
  full-row : (x : File) → Parsed name body x → full_breaks u (parse_name name) body ≡ ltb block_count (together u x)
  full-row x p = ap (λ (o : Option Name). full_breaks u o body) p.name_is ∙ ap (λ (o : Option Body). crowds u x.name o) p.body_is

  outcome-first : is_sound u ≡ true → (o : Outcome) → take_file u.plant.id name body ≡ o
      → first_of (outcome_row o u ∷ []) ≡ first_of (taking_rows u name body)
  unfolding first_of
  outcome-first good (refuse c) e =
      sym (first-before (taken_rows u.plant.id name body) _ c (sym (take-first u.plant.id name body) ∙ ap cause_of e))
  outcome-first good (file x) e =
      let parsed = ((take-accepts u.plant.id name body x).0 e).1 in
      let full = row Cause.Full (full_breaks u (parse_name name) body) in
      rw (
        first-after (taken_rows u.plant.id name body) (full ∷ []) (sym (take-first u.plant.id name body) ∙ ap cause_of e),
        full-row x parsed,
        full_is u good x (taken-good u.plant.id name body x e),
        full-cause x u,
      ) refl

-- a response: 17, or the rows of what it carries
parsed-first : (u : Unit) → is_sound u ≡ true → (q : Option (List ℕ × List ℕ))
    → first_of (outcome_row (take_parsed u.plant.id q) u ∷ []) ≡ first_of (row Cause.Response (formless q) ∷ carried_by u q)
unfolding first_of
parsed-first u good None = refl
parsed-first u good (Some q) = outcome-first u q.0 q.1 good (take_file u.plant.id q.0 q.1) refl

response-first : (u : Unit) (boundary bytes : List ℕ) → is_sound u ≡ true
    → first_of (outcome_row (take_response u.plant.id boundary bytes) u ∷ []) ≡ first_of (of_file (response_taken boundary bytes) u)
unfolding take_response
response-first u boundary bytes good = parsed-first u good (parse_response boundary bytes)

-- 4 of a unit with a store
lent_row : (s : State) → (not (is_sound s.unit) || not (sound_store (held_of s.unit.pool) s.store)) ≡ (sound_row s.unit s.store).applies
lent_row s = not-both (is_sound s.unit) (sound_store (held_of s.unit.pool) s.store)
  where
    not-both : (x y : Bool) → (not x || not y) ≡ not (x && y)
    not-both true y = refl
    not-both false y = refl

-- what follows 4 counts only where the unit is sound
where-sound : (x y : Bool) {o p : Option Cause} → (x ≡ true → o ≡ p) → cond (not (x && y)) (Some Cause.Unsound) o ≡ cond (not (x && y)) (Some Cause.Unsound) p
where-sound true true e = e refl
where-sound true false e = refl
where-sound false y e = refl

-- 3, 4 and 5, then what follows them
taken-same : (s : State) (o : Outcome) (after : Option Cause) → (is_sound s.unit ≡ true → first_of (outcome_row o s.unit ∷ []) ≡ after)
    → first_of (outcome_rows s.unit s.store o)
    ≡ cond (length_row s.store).applies (Some Cause.StoreLength)
    (cond (not (is_sound s.unit) || not (sound_store (held_of s.unit.pool) s.store)) (Some Cause.Unsound)
    (cond (clock_row s.unit).applies (Some Cause.ClockUnset) after))
unfolding first_of
taken-same s o after same =
    rw (lent_row s)
    (ap (λ (x : Option Cause). cond (length_row s.store).applies (Some Cause.StoreLength) x)
    (where-sound (is_sound s.unit) (sound_store (held_of s.unit.pool) s.store) (λ good.
    ap (λ (x : Option Cause). cond (clock_row s.unit).applies (Some Cause.ClockUnset) x) (same good))))

pub rows_same : (c : Call) (s : State) → first_of (rows_of c s) ≡ first_of (call_rows c s)
unfolding first_of call_rows
rows_same (tick t) s = rw (lent_row s) refl
rows_same clock_lost s = rw (or-false (not (is_sound s.unit))) refl
rows_same (file_taken name body) s =
    taken-same s (take_file s.unit.plant.id name body) (first_of (taking_rows s.unit name body))
    (λ good. outcome-first s.unit name body good (take_file s.unit.plant.id name body) refl)
rows_same (response_taken boundary bytes) s =
    taken-same s (take_response s.unit.plant.id boundary bytes) (first_of (of_file (response_taken boundary bytes) s.unit))
    (response-first s.unit boundary bytes)
rows_same (failure kind status) s = rw (or-false (not (is_sound s.unit))) refl
rows_same due s = rw (or-false (not (is_sound s.unit))) refl
rows_same (ceiling_of slot) s = rw (lent_row s) refl
rows_same command s = rw (or-false (not (is_sound s.unit))) refl
rows_same free_blocks s = rw (or-false (not (is_sound s.unit))) refl

-- in the order of their places
rows_rise : (c : Call) (s : State) → rising (call_rows c s) ≡ true
unfolding call_rows taken_rows
rows_rise (tick t) s = refl
rows_rise clock_lost s = refl
rows_rise (file_taken name body) s = refl
rows_rise (response_taken boundary bytes) s = carried-rise (parse_response boundary bytes)
  where
    carried-rise : (q : Option (List ℕ × List ℕ)) → rising_from 61 (row Cause.Response (formless q) ∷ carried_by s.unit q) ≡ true
    carried-rise None = refl
    carried-rise (Some q) = refl
rows_rise (failure kind status) s = refl
rows_rise due s = refl
rows_rise (ceiling_of slot) s = refl
rows_rise command s = refl
rows_rise free_blocks s = refl

-- ---- where a row applies

taken-refuses : (o : Outcome) (s : State) (k : Cause) → first_of (outcome_rows s.unit s.store o) ≡ Some k → taken_step o s ≡ (refused (number_of k), s)
unfolding outcome_taken store_taken
taken-refuses o s k e =
    ap (λ (x : Option Cause). step_done (done_by x (taken o s.store s.unit) s.unit) (store_by x (store_with o s.store s.unit) s.store)) e

pub step-refuses : (c : Call) (s : State) (k : Cause) → first_of (rows_of c s) ≡ Some k → step c s ≡ (refused (number_of k), s)
unfolding step tick_of lost_of failure_of due_of ceiling_at command_of free_of
step-refuses (tick t) s k e = ap (λ (o : Option Cause). step_done (done_by o (ticked s.store t s.unit) s.unit) s.store) e
step-refuses clock_lost s k e = ap (λ (o : Option Cause). step_done (done_by o (lost s.unit) s.unit) s.store) e
step-refuses (file_taken name body) s k e = taken-refuses (take_file s.unit.plant.id name body) s k e
step-refuses (response_taken boundary bytes) s k e = taken-refuses (take_response s.unit.plant.id boundary bytes) s k e
step-refuses (failure kind status) s k e = ap (λ (o : Option Cause). step_done (done_by o (with_failure kind status s.unit) s.unit) s.store) e
step-refuses due s k e =
    let u = s.unit in
    let due = due_for (settings_of u.plant) (last_digit u.plant.id) (clock_time u.clock) (requests_of u.requests) in
    ap (λ (o : Option Cause). (of_due (answer_by o due), s)) e
step-refuses (ceiling_of slot) s k e =
    ap (λ (o : Option Cause).
    (of_ceiling (answer_by o (slot_ceiling (settings_of s.unit.plant) (stored_rate s.unit.pool s.store slot))), s)) e
step-refuses command s k e = ap (λ (o : Option Cause). (of_command (answer_by o s.unit.command), s)) e
step-refuses free_blocks s k e =
    ap (λ (o : Option Cause). (of_free_blocks (answer_by o (free_count s.unit.pool)), s)) e

-- ---- where no row applies

due-answers : (s : Settings) (d t : ℕ) (q : Requests) → is_refused (of_due (Ok (due_for s d t q))) ≡ false
unfolding due_for
due-answers s d t q = go (leb q.update_at t) (asks_fixed s d t q)
  where
    go : (x y : Bool) → is_refused (of_due (Ok (cond x (Some Due.Update) (cond y (Some (Due.Fixed q.wanted_flag)) None)))) ≡ false
    go true y = refl
    go false true = refl
    go false false = refl

ceiling-answers : (o : Option ℕ) (s : Settings) → is_refused (of_ceiling (Ok (slot_ceiling s o))) ≡ false
ceiling-answers None s = refl
ceiling-answers (Some r) s = refl

taken-answers : (o : Outcome) (s : State) → first_of (outcome_rows s.unit s.store o) ≡ None → is_refused (taken_step o s).0 ≡ false
unfolding outcome_taken
taken-answers o s e = ap (λ (x : Option Cause). is_refused (step_done (done_by x (taken o s.store s.unit) s.unit) s.store).0) e

step-answers : (c : Call) (s : State) → first_of (rows_of c s) ≡ None → is_refused (step c s).0 ≡ false
unfolding step tick_of lost_of failure_of due_of ceiling_at command_of free_of
step-answers (tick t) s e = ap (λ (o : Option Cause). is_refused (step_done (done_by o (ticked s.store t s.unit) s.unit) s.store).0) e
step-answers clock_lost s e = ap (λ (o : Option Cause). is_refused (step_done (done_by o (lost s.unit) s.unit) s.store).0) e
step-answers (file_taken name body) s e = taken-answers (take_file s.unit.plant.id name body) s e
step-answers (response_taken boundary bytes) s e = taken-answers (take_response s.unit.plant.id boundary bytes) s e
step-answers (failure kind status) s e =
    ap (λ (o : Option Cause). is_refused (step_done (done_by o (with_failure kind status s.unit) s.unit) s.store).0) e
step-answers due s e =
    let u = s.unit in
    let due = due_for (settings_of u.plant) (last_digit u.plant.id) (clock_time u.clock) (requests_of u.requests) in
    ap (λ (o : Option Cause). is_refused (of_due (answer_by o due))) e
    ∙ due-answers _ _ _ _
step-answers (ceiling_of slot) s e =
    ap (λ (o : Option Cause). is_refused (of_ceiling (answer_by o (slot_ceiling (settings_of s.unit.plant) (stored_rate s.unit.pool s.store slot))))) e
    ∙ ceiling-answers (stored_rate s.unit.pool s.store slot) (settings_of s.unit.plant)
step-answers command s e = ap (λ (o : Option Cause). is_refused (of_command (answer_by o s.unit.command))) e
step-answers free_blocks s e = ap (λ (o : Option Cause). is_refused (of_free_blocks (answer_by o (free_count s.unit.pool)))) e

-- ---- the theorems

module _ (c : Call) (s : State) where
  -- by the first row that applies
  refused-first : (k : Cause) (o : Option Cause) → first_of (rows_of c s) ≡ o → ((step c s).0 ≡ refused (number_of k)) ↔ (o ≡ Some k)
  refused-first k None e = (λ x. absurd (false≢true (sym (step-answers c s e) ∙ ap is_refused x)), λ x. absurd (none-ne-some k x))
  refused-first k (Some d) e = (
    λ x.
        let given : refused (number_of d) ≡ refused (number_of k) = sym (ap (λ r. r.0) (step-refuses c s d e)) ∙ x in
        let number : number_of d ≡ number_of k = cc in
        ap Some (same-cause d k number),
    λ x. ap (λ r. r.0) (step-refuses c s k (e ∙ x)),
  )

  left-first : (n : ℕ) (o : Option Cause) → first_of (rows_of c s) ≡ o → (step c s).0 ≡ refused n → (step c s).1 ≡ s
  left-first n None e x = absurd (false≢true (sym (step-answers c s e) ∙ ap is_refused x))
  left-first n (Some d) e x = ap (λ r. r.1) (step-refuses c s d e)

  answered-first : (o : Option Cause) → first_of (rows_of c s) ≡ o → (is_refused (step c s).0 ≡ false) ↔ (o ≡ None)
  answered-first None e = (λ x. refl, λ x. step-answers c s e)
  answered-first (Some d) e =
      (λ x. absurd (false≢true (sym x ∙ ap (λ r. is_refused r.0) (step-refuses c s d e))), λ x. absurd (some-ne-none d x))

pub refuses-lowest : RefusesLowest
refuses-lowest c s k = Iff.trans (refused-first c s k (first_of (call_rows c s)) (rows_same c s)) (first-lowest (call_rows c s) (rows_rise c s) k)

pub refusal-leaves : RefusalLeaves
refusal-leaves c s n x = left-first c s n (first_of (rows_of c s)) refl x

pub accepts_else : AcceptsElse
accepts_else c s = Iff.trans (answered-first c s (first_of (call_rows c s)) (rows_same c s)) (first-none (call_rows c s))

-- ---- a file or a response taken, by the answer of its own function

pub taken-answer : (u : Unit) (store : List ℕ) (o : Outcome) → (outcome_taken u store o).answer ≡ answer_of (first_of (outcome_rows u store o))
unfolding outcome_taken
taken-answer u store o = done-answer (first_of (outcome_rows u store o)) (taken o store u) u

module _ (c : Call) (s : State) (answer : Answer) (is : answer ≡ answer_of (first_of (rows_of c s))) where
  by_rows : answer ≡ answer_of (first_of (call_rows c s))
  by_rows = is ∙ ap answer_of (rows_same c s)

  refuses_by : (k : Cause) → (answer ≡ Err k) ↔ Lowest (call_rows c s) k
  refuses_by k = rw by_rows (answer-refuses Err (Ok tt) cause_in (λ x. refl) refl (call_rows c s) (rows_rise c s) k)

  accepts_by : (answer ≡ Ok tt) ↔ ((k : Cause) → applies_in (call_rows c s) k ≡ false)
  accepts_by = rw by_rows (answer-given Err (Ok tt) cause_in (λ x. refl) refl (call_rows c s))

pub file-refuses : FileRefuses
file-refuses u store name body k =
    refuses_by (file_taken name body) (record { unit = u; store = store }) (take_of u store name body).answer
    (taken-answer u store (take_file u.plant.id name body)) k

pub file-accepts : FileAccepts
file-accepts u store name body =
    accepts_by (file_taken name body) (record { unit = u; store = store }) (take_of u store name body).answer
    (taken-answer u store (take_file u.plant.id name body))

pub whole-refuses : WholeRefuses
whole-refuses u store boundary bytes k =
    refuses_by (response_taken boundary bytes) (record { unit = u; store = store }) (response_of u store boundary bytes).answer
    (taken-answer u store (take_response u.plant.id boundary bytes)) k

pub whole-accepts : WholeAccepts
whole-accepts u store boundary bytes =
    accepts_by (response_taken boundary bytes) (record { unit = u; store = store }) (response_of u store boundary bytes).answer
    (taken-answer u store (take_response u.plant.id boundary bytes))
