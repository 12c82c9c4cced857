-- The rows that a call looks at first where a store is lent to it: its length, and the soundness of unit and store.
use Rattle.std.specs.Prelude.{None, Some, Err}
use Prim.Native.Nat.{ℕ}
use mathlib.Core.Path.{◌≡◌, refl}
use mathlib.Core.Bool.{Bool, true, false, cond, not, ◌&&◌}
use mathlib.Core.List.{List}
use lib.Dec.{eqb}
use lib.ListN.{length}
use borrow.Author.Tests.{eq-eqb, eqb-true}
use Rattle.rules.specs.Causes.{Answer}
use Rattle.rules.specs.Table.{first_of}
use Rattle.rules.specs.declared.Cause.{Cause}
use Rattle.rules.specs.Store.{store_length, sound_store}
use Rattle.pool.specs.Held.{held_of}
use Rattle.schedule.specs.Stored.{store_holds}
use Rattle.unit.specs.Values.{is_sound}
use Rattle.unit.specs.Calls.{answer_by, lent_of}
use Rattle.unit.specs.declared.Unit.{Unit}

-- of a store of 01's length the code's test is the row's
pub lent_row : (u : Unit) (store : List ℕ) (t : Bool) → length store ≡ store_length → (is_sound u && store_holds u.pool store) ≡ t
    → (is_sound u && sound_store (held_of u.pool) store) ≡ t
unfolding store_holds
lent_row u store t long e = rw (eq-eqb (length store) store_length long) at e

-- where neither row applies both tests hold
pub record Lent (u : Unit) (store : List ℕ) : Type 0 where
  pub long : length store ≡ store_length
  pub good : (is_sound u && sound_store (held_of u.pool) store) ≡ true

pub lent-good : (u : Unit) (store : List ℕ) (r : Answer) → r ≡ lent_of u store → ((c : Cause) → r ≡ Err c → ⊥) → Lent u store
unfolding lent_of first_of
lent-good u store r e n = go (eqb (length store) store_length) refl (is_sound u && sound_store (held_of u.pool) store) refl e
  where
    go : (x : Bool) → eqb (length store) store_length ≡ x → (y : Bool) → (is_sound u && sound_store (held_of u.pool) store) ≡ y
        → r ≡ answer_by (cond (not x) (Some Cause.StoreLength) (cond (not y) (Some Cause.Unsound) None)) tt → Lent u store
    go true x true y q = record { long = eqb-true (length store) store_length x; good = y }
    go true x false y q = absurd (n Cause.Unsound q)
    go false x y h q = absurd (n Cause.StoreLength q)
