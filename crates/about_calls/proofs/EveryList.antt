-- The theorem about every list of calls, by induction over the list.
use Prim.Native.Nat.{ℕ}
use mathlib.Core.Path.{◌≡◌, refl, ap₂}
use mathlib.Core.Bool.{Bool, true, false}
use mathlib.Core.List.{List, [], ◌∷◌}
use native.Mathlib.Omega.{arith}
use lib.Dec.{eqb}
use lib.ListN.{length}
use Rattle.rules.specs.Store.{store_length, sound_requests}
use Rattle.rules.specs.Causes.{Reply}
use Rattle.rules.specs.Machine.{Machine, Call, tick, clock_lost, file_taken, response_taken, failure, due, ceiling_of, command, free_blocks, fresh_machine, step as machine_step, replies as machine_replies, after as machine_after}
use Rattle.plant.specs.Plant.{valid_plant}
use Rattle.plant.specs.declared.Plant.{Plant}
use Rattle.about_store.proofs.Laws.{fresh-agrees}
use Rattle.unit.specs.Values.{fresh_pool, fresh_unit}
use Rattle.calls.specs.Step.{State, step, replies, after}
use Rattle.about_calls.specs.Theorem.{fresh, told, EveryList}
use Rattle.about_calls.proofs.Options.{test-same, test_other}
use Rattle.about_calls.proofs.Follows.{Kept, agrees, apart, Follows, follows-holds}
use Rattle.about_calls.proofs.Steps.{Sim, w, lost-step, command-step, free_step, due-step, failure-step, tick-step, ceiling-step}
use Rattle.about_calls.proofs.Taking.{take_step_lem, response-step}

module _ (p : Plant) (valid : valid_plant p ≡ true) where
  -- the fresh unit follows the fresh machine
  fresh_kept : (store : List ℕ) → Kept (fresh p store) fresh_machine
  unfolding fresh_unit fresh_machine
  fresh_kept store = go (eqb (length store) store_length) refl
    where
      go : (b : Bool) → eqb (length store) store_length ≡ b → Kept (fresh p store) fresh_machine
      go true e = agrees (test-same _ _ e) (fresh-agrees fresh_pool store refl refl (test-same _ _ e))
      go false e = apart (test_other _ _ e) refl refl refl refl

  pub fresh-follows : (store : List ℕ) → Follows p (length store) (fresh p store) fresh_machine
  unfolding fresh_unit fresh_machine sound_requests
  fresh-follows store = record {
    plant = refl;
    size = refl;
    clock = refl;
    floor = refl;
    requests = refl;
    command = refl;
    time = refl;
    asks = refl;
    most = omega arith;
    kept = fresh_kept store;
  }

  -- every call
  pub call_step : (n : ℕ) (s : State) (M : Machine) → Follows p n s M → (c : Call) → Sim p n (step c s) (machine_step (w p valid n) c M)
  call_step n s M h (tick t) = tick-step p valid n s M h t
  call_step n s M h clock_lost = lost-step p valid n s M h
  call_step n s M h (file_taken name body) = take_step_lem p valid n s M h name body
  call_step n s M h (response_taken boundary bytes) = response-step p valid n s M h boundary bytes
  call_step n s M h (failure kind status) = failure-step p valid n s M h kind status
  call_step n s M h due = due-step p valid n s M h
  call_step n s M h (ceiling_of slot) = ceiling-step p valid n s M h slot
  call_step n s M h command = command-step p valid n s M h
  call_step n s M h free_blocks = free_step p valid n s M h

  -- every list, from any state that follows
  pub list_follows : (n : ℕ) (cs : List Call) (s : State) (M : Machine) → Follows p n s M
      → (replies cs s ≡ machine_replies (w p valid n) cs M) × Follows p n (after cs s) (machine_after (w p valid n) cs M)
  unfolding replies machine_replies after machine_after
  list_follows n [] s M h = (refl, h)
  list_follows n (c ∷ cs) s M h =
      let k = call_step n s M h c in
      let r = list_follows n cs (step c s).1 (machine_step (w p valid n) c M).1 k.1 in
      (ap₂ {C = List Reply} ◌∷◌ k.0 r.0, r.1)

-- the theorem
pub every-list : EveryList
every-list p valid store cs =
    let r = list_follows p valid (length store) cs (fresh p store) fresh_machine (fresh-follows p valid store) in
    (r.0, follows-holds p valid (length store) (after cs (fresh p store)) (machine_after (told p store) cs fresh_machine) r.1)
