-- The records that the functions of `records` speak of are those that reading has, and their fields stand at the places that `locate` gives.
-- Proved in proofs/Records.antt: `same-records`, `places-found` and `places-hold`.
use Rattle.std.specs.Prelude.{ℕ, ◌≡◌, List, length, Ok, Option, Some, slice_get}
use Rattle.rules.specs.Digits.{part}
use Rattle.rules.specs.Body.{Record}
use Rattle.rules.specs.File.{File, file, read_file, records_in}
use Rattle.rules.specs.declared.Format.{Format}
use Rattle.rules.specs.declared.Format.TheVariants.{F203}
use Rattle.records.specs.Locating.{locate}
use Rattle.records.specs.Reading.{record_in}
use Rattle.records.specs.declared.Places.{Places}

-- record i, as `locate` and `field_part` have it, is record i of the file that is read, for a plant or for none
abbrev pub SameRecords : Type 0
SameRecords =
    (plant : Option (List ℕ)) (name body : List ℕ) (f : File) (i : ℕ)
    → read_file plant name body ≡ file f → record_in f.name.format body i ≡ slice_get (records_in f.body) i

-- n bytes of a body, at a place that there is
abbrev pub StandsAt : List ℕ → Option ℕ → ℕ → List ℕ → Type 0
StandsAt body place n bytes = (at : ℕ) × (place ≡ Some at) × (part body at n ≡ bytes)

-- the record r stands at the places p of a body
pub record FieldsAt (f : Format) (body : List ℕ) (p : Places) (r : Record) : Type 0 where
  pub schedule : part body p.schedule 10 ≡ r.schedule
  pub plant : part body p.plant 26 ≡ r.plant
  pub start : part body p.start 12 ≡ r.start
  pub rates : part body p.rates p.count ≡ r.rates
  pub count : p.count ≡ length r.rates
  pub checksum : part body p.checksum 2 ≡ r.checksum
  pub flag : f ≡ F203 → StandsAt body p.flag 1 r.flag
  pub next : f ≡ F203 → StandsAt body p.next 14 r.next

-- each record of a body is located
abbrev pub PlacesFound : Type 0
PlacesFound = (f : Format) (body : List ℕ) (i : ℕ) (r : Record) → record_in f body i ≡ Some r → (p : Places) × (locate f body i ≡ Ok p)

-- and what is located is that record
abbrev pub PlacesHold : Type 0
PlacesHold =
    (f : Format) (body : List ℕ) (i : ℕ) (p : Places)
    → locate f body i ≡ Ok p → (r : Record) × (record_in f body i ≡ Some r) × FieldsAt f body p r
