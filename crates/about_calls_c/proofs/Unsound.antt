-- A struct that stands for a unit that is not sound: every call is refused, with struct and store as they were.
use Prim.Native.Nat.{ℕ}
use mathlib.Core.Path.{◌≡◌, refl, ap}
use mathlib.Core.Bool.{Bool, true, false}
use mathlib.Core.List.{List, [], ◌∷◌, map}
use lib.Dec.{eqb}
use lib.ListN.{length}
use Rattle.rules.specs.Store.{store_length}
use Rattle.rules.specs.Table.{first_of}
use Rattle.rules.specs.Causes.{Reply}
use Rattle.rules.specs.Machine.{Call, tick, clock_lost, file_taken, response_taken, failure, due, ceiling_of, command, free_blocks}
use Rattle.unit.specs.Values.{is_sound}
use Rattle.unit.specs.Calls.{tick_of, lost_of, failure_of, due_of, ceiling_of as ceiling_at, command_of, free_of}
use Rattle.unit.specs.Request.{request_of}
use Rattle.taking.specs.Taken.{outcome_taken, store_taken}
use Rattle.c_structs.specs.Held.{opened, handed}
use Rattle.c_structs.specs.declared.HeldUnit.{HeldUnit}
use Rattle.about_calls_c.specs.Lists.{HeldState, held_step, held_replies, held_after}
use Rattle.about_calls_c.specs.FromC.{AllRefused}
use Rattle.about_calls.specs.Theorem.{unsound_reply}

module _ (u : HeldUnit) (bad : is_sound (opened u) ≡ false) (store : List ℕ) where
  abbrev s : HeldState
  s = record { unit = u; store = store }

  pub step-refused : (c : Call) → held_step c s ≡ (unsound_reply store c, s)
  unfolding held_step tick_of lost_of outcome_taken store_taken failure_of due_of ceiling_at command_of free_of first_of handed
  step-refused (tick t) = go (eqb (length store) store_length) refl
    where
      go : (b : Bool) → eqb (length store) store_length ≡ b → held_step (tick t) s ≡ (unsound_reply store (tick t), s)
      go true e = rw (e, bad)
      go false e = rw e
  step-refused clock_lost = rw bad
  step-refused (file_taken name body) = go (eqb (length store) store_length) refl
    where
      go : (b : Bool) → eqb (length store) store_length ≡ b → held_step (file_taken name body) s ≡ (unsound_reply store (file_taken name body), s)
      go true e = rw (e, bad)
      go false e = rw e
  step-refused (response_taken boundary bytes) = go (eqb (length store) store_length) refl
    where
      go : (b : Bool) → eqb (length store) store_length ≡ b → held_step (response_taken boundary bytes) s ≡ (unsound_reply store (response_taken boundary bytes), s)
      go true e = rw (e, bad)
      go false e = rw e
  step-refused (failure kind status) = rw bad
  step-refused due = rw bad
  step-refused (ceiling_of slot) = go (eqb (length store) store_length) refl
    where
      go : (b : Bool) → eqb (length store) store_length ≡ b → held_step (ceiling_of slot) s ≡ (unsound_reply store (ceiling_of slot), s)
      go true e = rw (e, bad)
      go false e = rw e
  step-refused command = rw bad
  step-refused free_blocks = rw bad

  list-refused : (cs : List Call) → (held_replies cs s ≡ map (unsound_reply store) cs) × (held_after cs s ≡ s)
  unfolding held_replies held_after
  list-refused [] = (refl, refl)
  list-refused (c ∷ cs) =
      let rest = list-refused cs in
      rw (step-refused c) (ap (λ (rs : List Reply). unsound_reply store c ∷ rs) rest.0, rest.1)

  pub all-refused : AllRefused s
  unfolding request_of
  all-refused = (list-refused, λ segment room. rw bad refl)
