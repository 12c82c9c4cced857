-- The contract of `calls::step` is the unit's step: where that contract is changed, this is refused.
use Prim.Native.Nat.{ℕ}
use mathlib.Core.Path.{ap₂, ◌∙◌}
use mathlib.Core.List.{List}
use Rattle.calls.specs.Stepping.{reply_of}
use Rattle.calls.specs.declared.Stepped.{Stepped}
use Rattle.calls.proofs.StepLaws.{steps_agree}
use Rattle.about_calls.specs.AnyCall.{unit_with, StepSays}

pub step-says : StepSays
step-says = (
  λ κs a. tt,
  λ κs u call name body store r w said.
      ap₂ (λ (s : Stepped) (after : List ℕ). (reply_of s.reply, unit_with s.unit after)) said.0 said.1
      ∙ steps_agree u call name.now body.now store.now,
)
