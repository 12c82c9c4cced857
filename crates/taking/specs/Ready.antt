-- What is looked at before anything is taken: 3, 4 and 5.
use Rattle.std.specs.Prelude.{ℕ, ◌≡◌, true, false, ◌&&◌, List, length}
use Rattle.rules.specs.Store.{store_length, sound_store}
use Rattle.rules.specs.Table.{first_of}
use Rattle.rules.specs.Causes.{Answer}
use Rattle.pool.specs.Held.{held_of}
use Rattle.unit.specs.Values.{is_sound}
use Rattle.unit.specs.Rows.{is_unset}
use Rattle.unit.specs.Calls.{answer_by}
use Rattle.unit.specs.declared.Unit.{Unit}
use Rattle.taking.specs.Taken.{ready_rows}

unfoldable pub ready_of : Unit → List ℕ → Answer
ready_of u store = answer_by (first_of (ready_rows u store)) tt

-- none of them applies
pub record Checked (u : Unit) (store : List ℕ) : Type 0 where
  pub long : length store ≡ store_length
  pub good : (is_sound u && sound_store (held_of u.pool) store) ≡ true
  pub set : is_unset u.clock ≡ false
