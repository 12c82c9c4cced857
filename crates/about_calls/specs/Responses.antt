-- 02, §1: 'Taking a response is then taking that name and file, and counts as such in the plain machine', and what follows for a unit.
use Rattle.std.specs.Prelude.{ℕ, ◌≤◌, ◌≡◌, true, List, ◌↔◌, length, Some, Ok, Err}
use Rattle.rules.specs.Name.{encode_name}
use Rattle.rules.specs.Body.{encode_body, is_schedule}
use Rattle.rules.specs.File.{File, file, lawful, records_in}
use Rattle.rules.specs.Response.{Response, take_response}
use Rattle.rules.specs.Store.{block_count, store_length, sound_store}
use Rattle.rules.specs.Causes.{refused}
use Rattle.rules.specs.Machine.{Machine, Told, file_taken, response_taken, any_record, step as machine_step}
use Rattle.rules.specs.declared.Cause.{Cause}
use Rattle.about_responses.specs.Exact.{ResponseBytes, Carried}
use Rattle.pool.specs.Held.{held_of}
use Rattle.about_store.specs.Untouched.{Untouched}
use Rattle.unit.specs.Values.{is_sound}
use Rattle.taking.specs.Taken.{take_of, store_after_take, response_of, store_after_response}
use Rattle.unit.specs.declared.Unit.{Unit}
use Rattle.about_calls.specs.Acceptance.{together}

-- on every unit and store, sound or not, a response that carries a name and file answers and leaves what these do, in the words of both functions' contracts
abbrev pub ResponseAsFile : Type 0
ResponseAsFile =
    (u : Unit) (store boundary bytes name body : List ℕ)
    → Carried boundary bytes name body
    → (response_of u store boundary bytes ≡ take_of u store name body) × (store_after_response u store boundary bytes ≡ store_after_take u store name body)

-- and in the plain machine, whatever it is told
abbrev pub ResponseCounts : Type 0
ResponseCounts =
    (w : Told) (M : Machine) (boundary bytes name body : List ℕ)
    → Carried boundary bytes name body
    → machine_step w (response_taken boundary bytes) M ≡ machine_step w (file_taken name body) M

-- '.. by the machine as well': where its store has the length and its clock is set
abbrev pub BrokenCounts : Type 0
BrokenCounts =
    (w : Told) (M : Machine) (t : ℕ) (boundary bytes : List ℕ)
    → w.store_length ≡ store_length
    → M.clock ≡ Some t
    → ((r : Response) → ResponseBytes boundary bytes r → ⊥)
    → machine_step w (response_taken boundary bytes) M ≡ (refused 17, M)

-- 'A response that breaks this form is refused with 17', and no other: on a sound unit with a sound store and a set clock 17 is the answer exactly where no
-- lawful response has these bytes. The order, on every unit, is that of `WholeRefuses`
abbrev pub BrokenRefused : Type 0
BrokenRefused =
    (u : Unit) (store : List ℕ) (t : ℕ) (boundary bytes : List ℕ)
    → is_sound u ≡ true
    → length store ≡ store_length
    → sound_store (held_of u.pool) store ≡ true
    → u.clock ≡ Some t
    → ((response_of u store boundary bytes).answer ≡ Err Cause.Response) ↔ ((r : Response) → ResponseBytes boundary bytes r → ⊥)

-- there a lawful response with a lawful file for the plant that fits is accepted
abbrev pub AcceptsResponse : Type 0
AcceptsResponse =
    (u : Unit) (store : List ℕ) (t : ℕ) (f : File) (boundary bytes : List ℕ)
    → is_sound u ≡ true
    → length store ≡ store_length
    → sound_store (held_of u.pool) store ≡ true
    → u.clock ≡ Some t
    → lawful (Some u.plant.id) f ≡ true
    → is_schedule f.name.format ≡ true
    → together u f ≤ block_count
    → Carried boundary bytes (encode_name f.name) (encode_body f.body)
    → (response_of u store boundary bytes).answer ≡ Ok tt

-- a response that is accepted changes no byte outside the blocks of months from floor on that its file covers
abbrev pub ResponseUntouched : Type 0
ResponseUntouched =
    (u : Unit) (store boundary bytes : List ℕ) (f : File)
    → length u.pool.months ≡ block_count
    → take_response u.plant.id boundary bytes ≡ file f
    → (response_of u store boundary bytes).answer ≡ Ok tt
    → Untouched u.floor (λ m. any_record m (records_in f.body))
    (record { pool = u.pool; store = store })
    (record { pool = (response_of u store boundary bytes).unit.pool; store = store_after_response u store boundary bytes })
