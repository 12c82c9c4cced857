-- A list of calls from C is the unit's own: call by call, then over the list.
use Rattle.std.specs.Prelude.{Result, Ok, Err, Option, None, Some}
use Prim.Native.Nat.{ℕ}
use mathlib.Core.Path.{◌≡◌, refl, sym, ap, ◌∙◌}
use mathlib.Core.Bool.{Bool, true, false, false≢true}
use mathlib.Core.List.{List, [], ◌∷◌}
use native.Mathlib.Omega.{arith}
use borrow.Author.Tests.{ne_eqb}
use Rattle.rules.specs.Causes.{Reply, accepted, refused, number_of, of_due, of_ceiling, of_command, of_free_blocks}
use Rattle.rules.specs.Machine.{Call, tick, clock_lost, file_taken, response_taken, failure, due, ceiling_of, command, free_blocks}
use Rattle.rules.specs.File.{Outcome, take_file}
use Rattle.rules.specs.Response.{take_response}
use Rattle.rules.specs.Table.{first_of}
use Rattle.rules.specs.declared.Cause.{Cause}
use Rattle.rules.specs.declared.Ceiling.{Ceiling}
use Rattle.rules.specs.declared.Due.{Due}
use Rattle.about_files.proofs.Causes.{numbered}
use Rattle.plant.specs.Plant.{is_kept, settings_of}
use Rattle.unit.specs.Values.{is_sound}
use Rattle.unit.specs.Rows.{length_row, unit_row, sound_row, clock_row, tick_row, status_row}
use Rattle.unit.specs.Calls.{ticked, lost, with_failure, done_by, tick_of, lost_of, failure_of, due_of, ceiling_of as ceiling_at, command_of, free_of}
use Rattle.taking.specs.Taken.{taken, outcome_rows, outcome_taken, store_taken}
use Rattle.calls.specs.Step.{State, step_done, step, replies, after}
use Rattle.unit.specs.declared.Unit.{Unit}
use Rattle.c_structs.specs.Held.{opened, shut_of, handed}
use Rattle.c_answers.specs.Answers.{due_numbers, ceiling_numbers, command_number, blocks_number}
use Rattle.about_calls_c.specs.Lists.{as_refused, due_means, ceiling_means, command_means, blocks_means, handed_step, held_step, held_replies, held_after, shut_state, SameFromC}
use Rattle.c_structs.proofs.Handing.{unit-back, no-unit, sound-kept, wide-held}
use Rattle.about_calls.proofs.Unsound.{unsound-step}
use Rattle.about_calls_c.proofs.Unsound.{step-refused}

-- ---- the answers

-- no cause has the number 0
pub cause-refused : (c : Cause) (r : Reply) → as_refused (number_of c) r ≡ refused (number_of c)
cause-refused c r = let n = (numbered c).0 in rw (ne_eqb (number_of c) 0 (λ e. omega arith)) refl

ceiling-means : (a : Result (Option Ceiling) Cause) → ceiling_means (ceiling_numbers a) ≡ of_ceiling a
ceiling-means (Ok (Some c)) = refl
ceiling-means (Ok None) = refl
ceiling-means (Err c) = cause-refused c _

command-means : (a : Result ℕ Cause) → command_means (command_number a) ≡ of_command a
command-means (Ok n) = refl
command-means (Err c) = cause-refused c _

blocks-means : (a : Result ℕ Cause) → blocks_means (blocks_number a) ≡ of_free_blocks a
blocks-means (Ok n) = refl
blocks-means (Err c) = cause-refused c _

due-means : (a : Result (Option Due) Cause) → due_means (due_numbers a) ≡ of_due a
due-means (Ok (Some Due.Update)) = refl
due-means (Ok (Some (Due.Fixed w))) = refl
due-means (Ok None) = refl
due-means (Err c) = cause-refused c _

-- ---- a call

-- an accepted call hands out the struct of its unit, a refused one the struct that came in
done-same : (o : Option Cause) (new old : Unit) (store : List ℕ) → handed_step (handed (shut_of old) (done_by o new old)) store
    ≡ ((step_done (done_by o new old) store).0, shut_state (step_done (done_by o new old) store).1)
unfolding handed
done-same None new old store = refl
done-same (Some c) new old store = ap (λ (r : Reply). (r, record { unit = shut_of old; store = store })) (cause-refused c accepted)

-- where 32 bits hold the settings, the struct stands for the unit
module _ (s : State) (kept : is_kept (settings_of s.unit.plant) ≡ true) where
  abbrev u : Unit
  u = s.unit

  back : opened (shut_of u) ≡ u
  back = unit-back u kept

  taken-same : (o : Outcome) → let after = step_done (outcome_taken u s.store o) (store_taken u s.store o) in
      handed_step (handed (shut_of u) (outcome_taken u s.store o)) (store_taken u s.store o) ≡ (after.0, shut_state after.1)
  unfolding outcome_taken
  taken-same o = done-same (first_of (outcome_rows u s.store o)) (taken o s.store u) u (store_taken u s.store o)

  kept_same : (c : Call) → held_step c (shut_state s) ≡ ((step c s).0, shut_state (step c s).1)
  unfolding held_step step tick_of lost_of failure_of
  kept_same (tick t) =
      let rows = length_row s.store ∷ sound_row u s.store ∷ tick_row t ∷ [] in
      rw back (done-same (first_of rows) (ticked s.store t u) u s.store)
  kept_same clock_lost = rw back (done-same (first_of (unit_row u ∷ [])) (lost u) u s.store)
  kept_same (file_taken name body) = rw back (taken-same (take_file u.plant.id name body))
  kept_same (response_taken boundary bytes) = rw back (taken-same (take_response u.plant.id boundary bytes))
  kept_same (failure kind status) =
      let rows = unit_row u ∷ clock_row u ∷ status_row status ∷ [] in
      rw back (done-same (first_of rows) (with_failure kind status u) u s.store)
  kept_same due = rw back (ap (λ (r : Reply). (r, shut_state s)) (due-means (due_of u)))
  kept_same (ceiling_of slot) = rw back (ap (λ (r : Reply). (r, shut_state s)) (ceiling-means (ceiling_at u s.store slot)))
  kept_same command = rw back (ap (λ (r : Reply). (r, shut_state s)) (command-means (command_of u)))
  kept_same free_blocks = rw back (ap (λ (r : Reply). (r, shut_state s)) (blocks-means (free_of u)))

-- elsewhere neither the unit nor what the struct stands for is sound
module _ (s : State) (wide : is_kept (settings_of s.unit.plant) ≡ false) where
  wide-unit : is_sound s.unit ≡ false
  wide-unit = go (is_sound s.unit) refl
    where
      go : (t : Bool) → is_sound s.unit ≡ t → is_sound s.unit ≡ false
      go false e = e
      go true e = absurd (false≢true (sym wide ∙ sound-kept s.unit e))

  wide_struct : is_sound (opened (shut_of s.unit)) ≡ false
  wide_struct = no-unit (shut_of s.unit) (wide-held s.unit wide)

  wide-same : (c : Call) → held_step c (shut_state s) ≡ ((step c s).0, shut_state (step c s).1)
  wide-same c = rw (step-refused (shut_of s.unit) wide_struct s.store c, unsound-step s wide-unit c)

step_same : (c : Call) (s : State) → held_step c (shut_state s) ≡ ((step c s).0, shut_state (step c s).1)
step_same c s = go (is_kept (settings_of s.unit.plant)) refl
  where
    go : (t : Bool) → is_kept (settings_of s.unit.plant) ≡ t → held_step c (shut_state s) ≡ ((step c s).0, shut_state (step c s).1)
    go true kept = kept_same s kept c
    go false wide = wide-same s wide c

-- ---- a list of them

pub same-from-c : SameFromC
unfolding held_replies held_after replies after
same-from-c [] s = (refl, refl)
same-from-c (c ∷ cs) s =
    let rest = same-from-c cs (step c s).1 in
    rw (step_same c s) (ap (λ (rs : List Reply). (step c s).0 ∷ rs) rest.0, rest.1)
