-- Cause 14 both ways: 'more than 16 months would be held', and 14 'comes for no other reason'.
use Rattle.std.specs.Prelude.{ℕ, ◌≤◌, ◌<◌, ◌≡◌, Bool, true, false, List, ◌↔◌, ltb, length, Some, Ok, Err, Option, None}
use Rattle.rules.specs.Name.{Name, encode_name}
use Rattle.rules.specs.Body.{Body, parse_body, encode_body, is_schedule}
use Rattle.rules.specs.File.{File, lawful}
use Rattle.rules.specs.Store.{block_count, store_length, sound_store}
use Rattle.rules.specs.declared.Cause.{Cause}
use Rattle.pool.specs.Held.{held_of}
use Rattle.unit.specs.Values.{is_sound}
use Rattle.taking.specs.Taken.{take_of}
use Rattle.unit.specs.declared.Unit.{Unit}
use Rattle.about_calls.specs.Acceptance.{together}

-- on a sound unit with a sound store and a set clock a lawful file for the plant is refused with 14 exactly when more than 16 months would be held, and
-- accepted exactly when they would not
abbrev pub FullExactly : Type 0
FullExactly =
    (u : Unit) (store : List ℕ) (t : ℕ) (f : File)
    → is_sound u ≡ true
    → length store ≡ store_length
    → sound_store (held_of u.pool) store ≡ true
    → u.clock ≡ Some t
    → lawful (Some u.plant.id) f ≡ true
    → is_schedule f.name.format ≡ true
    → (((take_of u store (encode_name f.name) (encode_body f.body)).answer ≡ Err Cause.Full) ↔ (block_count < together u f))
    × (((take_of u store (encode_name f.name) (encode_body f.body)).answer ≡ Ok tt) ↔ (together u f ≤ block_count))

-- ---- the row of 14, on any unit

-- 14: 'more than 16 months would be held', with what name and body parse as; nothing to judge where one of them did not parse
abbrev pub crowds : Unit → Name → Option Body → Bool
crowds u n None = false
crowds u n (Some b) = ltb block_count (together u (record { name = n; body = b }))

abbrev pub full_breaks : Unit → Option Name → List ℕ → Bool
full_breaks u None body = false
full_breaks u (Some n) body = crowds u n (parse_body n.format body)
