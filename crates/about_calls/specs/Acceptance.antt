-- Demand 1: on a sound unit with a sound store and a set clock every lawful file for the plant that fits is accepted.
use Rattle.std.specs.Prelude.{ℕ, ◌≤◌, ◌≡◌, Bool, true, ◌&&◌, ◌||◌, List, map, leb, length, Some, Ok}
use Rattle.rules.specs.Calendar.{month_count}
use Rattle.rules.specs.Name.{encode_name}
use Rattle.rules.specs.Body.{encode_body, is_schedule}
use Rattle.rules.specs.File.{File, lawful, records_in}
use Rattle.rules.specs.Store.{block_count, store_length, member, sound_store}
use Rattle.rules.specs.Machine.{any_record, count_below}
use Rattle.pool.specs.Held.{held_of}
use Rattle.unit.specs.Values.{is_sound}
use Rattle.taking.specs.Taken.{take_of}
use Rattle.unit.specs.declared.Unit.{Unit}

-- month m is held
abbrev pub holds_month : Unit → ℕ → Bool
holds_month u m = member m (map (λ h. h.month) (held_of u.pool))

-- the months held, and those that the file covers from floor on, each once
unfoldable pub together : Unit → File → ℕ
together u f = count_below month_count (λ m. leb u.floor m && any_record m (records_in f.body) || holds_month u m)

abbrev pub AcceptsLawful : Type 0
AcceptsLawful =
    (u : Unit) (store : List ℕ) (t : ℕ) (f : File)
    → is_sound u ≡ true
    → length store ≡ store_length
    → sound_store (held_of u.pool) store ≡ true
    → u.clock ≡ Some t
    → lawful (Some u.plant.id) f ≡ true
    → is_schedule f.name.format ≡ true
    → together u f ≤ block_count
    → (take_of u store (encode_name f.name) (encode_body f.body)).answer ≡ Ok tt
