-- `error_file::utf8::step` meets its contract where a byte is asked for: the walk after x answers of what is left as the walk before it does of
-- x and what is left.
use mathlib.Core.Path.{◌∙◌}
use native.Mathlib.Omega.{arith}
use Rattle.error_file.proofs.Text.{follows, walked}
use Rattle.error_file.proofs.utf8.step.Goals as goal

pub returns : goal.returns
returns c xs =
    let a = c.args in
    rw c.then_some-2.ensures (follows a.walk.low a.walk.high a.x xs a.walk.asked (λ e. omega arith) ∙ walked _ _ xs)
