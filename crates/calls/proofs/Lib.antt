pub mod StepLaws  -- what `step` returns is what the call's own method returns
