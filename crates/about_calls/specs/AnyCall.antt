-- Any call of the unit given as a value, as the program `replay` gives it: what the contract of `calls::step` says of its result is the step that the lists of
-- the theorem run. `Learnt` is the contract as a caller gets it: the `ensures` lines of crates/calls/src/lib.rt themselves, and no copy of them.
use Rattle.std.specs.Prelude.{ℕ, ◌≡◌, List}
use denote.Triple.Clauses.{Lasts, at_exit}
use Rattle.unit.specs.declared.Unit.{Unit}
use Rattle.calls.specs.Step.{State, step}
use Rattle.calls.specs.Stepping.{call_of, reply_of}
use Rattle.calls.specs.declared.Call.{Call}
use Rattle.calls.specs.declared.Stepped.{Stepped}
use Rattle.calls.specs.contracts.step as stepping
use Rattle.calls.proofs.step.Reads as calls-step

abbrev pub unit_with : Unit → List ℕ → State
unit_with u store = record { unit = u; store = store }

-- it asks nothing of its caller (`Asked`, the contract's `requires`); and where the contract holds of what it is given and of what it returns (r), with the last
-- value of the store that it is lent (w) as a caller sees it afterwards (e), these are the step's
abbrev pub StepSays : Type 0
StepSays =
    ((κs : _) (a : _) → calls-step.Asked κs a)
    × ((κs : _) (u : Unit) (call : Call) (label bytes store : _) (r : Stepped) (w : Lasts stepping.ended κs (u, (call, (label, (bytes, (store, tt))))))
    → let e = at_exit stepping.ended κs (u, (call, (label, (bytes, (store, tt))))) w in
    calls-step.Learnt κs (u, (call, (label, (bytes, (store, tt))))) r e
    → (reply_of r.reply, unit_with r.unit e.1.1.1.1.0.now) ≡ step (call_of call label.now bytes.now) (unit_with u store.now))
