-- What is looked at before anything is taken: where it passes, unit and store are sound and the clock is set.
use Rattle.std.specs.Prelude.{Some, None, Ok}
use Prim.Native.Nat.{ℕ}
use mathlib.Core.Path.{◌≡◌, refl}
use mathlib.Core.Bool.{Bool, true, false, cond, not, ◌&&◌}
use mathlib.Core.List.{List}
use native.Mathlib.Omega.{arith}
use lib.Dec.{eqb}
use lib.ListN.{length}
use borrow.Author.Tests.{eqb-true}
use Rattle.rules.specs.Causes.{Answer}
use Rattle.rules.specs.Store.{store_length, sound_store}
use Rattle.rules.specs.Table.{first_of}
use Rattle.rules.specs.declared.Cause.{Cause}
use Rattle.pool.specs.Held.{held_of}
use Rattle.unit.specs.Values.{is_sound}
use Rattle.unit.specs.Rows.{is_unset}
use Rattle.unit.specs.Calls.{answer_by}
use Rattle.unit.specs.declared.Unit.{Unit}
use Rattle.taking.specs.Ready.{ready_of, Checked}

pub checked : (u : Unit) (store : List ℕ) → ready_of u store ≡ Ok tt → Checked u store
unfolding ready_of first_of
checked u store e = go (eqb (length store) store_length) refl (is_sound u && sound_store (held_of u.pool) store) refl (is_unset u.clock) refl e
  where
    cause : (x y z : Bool) → Answer
    cause x y z = answer_by (cond (not x) (Some Cause.StoreLength) (cond (not y) (Some Cause.Unsound) (cond z (Some Cause.ClockUnset) None))) tt

    go : (x : Bool) → eqb (length store) store_length ≡ x → (y : Bool) → (is_sound u && sound_store (held_of u.pool) store) ≡ y
        → (z : Bool) → is_unset u.clock ≡ z → cause x y z ≡ Ok tt → Checked u store
    go true x true y false z q = record { long = eqb-true (length store) store_length x; good = y; set = z }
    go true x true y true z q = let w : ◌≡◌ {A = ℕ} 0 1 = cc in absurd (omega arith)
    go true x false y k h q = let w : ◌≡◌ {A = ℕ} 0 1 = cc in absurd (omega arith)
    go false x y l k h q = let w : ◌≡◌ {A = ℕ} 0 1 = cc in absurd (omega arith)
