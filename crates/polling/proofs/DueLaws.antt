-- What is due is what the machine replies: by the two tests.
use Rattle.std.specs.Prelude.{Some, None, Ok}
use Prim.Native.Nat.{ℕ}
use mathlib.Core.Path.{◌≡◌, refl}
use mathlib.Core.Bool.{Bool, true, false, cond}
use lib.Dec.{leb}
use Rattle.rules.specs.Causes.{update, fixed, nothing, of_due}
use Rattle.rules.specs.Machine.{due_of}
use Rattle.rules.specs.declared.Due.{Due}
use Rattle.polling.specs.Due.{asks_fixed, due_for, DueAsMachine}

picked : (a b : Bool) (w : ℕ) → of_due (Ok (cond a (Some Due.Update) (cond b (Some (Due.Fixed w)) None))) ≡ cond a update (cond b (fixed w) nothing)
picked true b w = refl
picked false true w = refl
picked false false w = refl

pub due-as-machine : DueAsMachine
unfolding due_for due_of
due-as-machine s d t q = picked (leb q.update_at t) (asks_fixed s d t q) q.wanted_flag
