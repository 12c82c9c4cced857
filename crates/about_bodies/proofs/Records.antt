-- The records that `locate` and `field_part` speak of are those that reading has.
use Rattle.std.specs.Prelude.{Result, Ok, Err, None, Some}
use Prim.Native.Nat.{ℕ}
use mathlib.Core.Path.{◌≡◌, ◌∙◌, refl, sym, ap}
use mathlib.Core.List.{List}
use native.Mathlib.Omega.{arith}
use lib.ListN.{length, drop}
use Rattle.rules.specs.Digits.{part}
use Rattle.rules.specs.Body.{Record, record_at}
use Rattle.rules.specs.declared.Format.{Format}
use Rattle.rules.specs.declared.Format.TheVariants.{F203}
use Rattle.rules.specs.declared.Cause.{Cause}
use Rattle.form.specs.Walk.{record_start}
use Rattle.form.proofs.Standing.{rates-full, record-whole}
use Rattle.about_files.proofs.Accepted.{accepted}
use Rattle.records.specs.Locating.{locate, from, size}
use Rattle.records.specs.Reading.{field_of, record_in}
use Rattle.records.specs.declared.Places.{Places}
use Rattle.records.specs.declared.Field.{Field}
use Rattle.records.specs.declared.Field.TheVariants.{Schedule, Plant, Start, Rates, Flag, Checksum, Next}
use Rattle.records.proofs.Bodies.{stands_facts}
use Rattle.records.proofs.Finding.{FoundAt, found-facts, record-found, record-missing, part-is}
use Rattle.about_bodies.specs.Records.{SameRecords, StandsAt, FieldsAt, PlacesFound, PlacesHold}

pub same-records : SameRecords
unfolding record_in
same-records plant name body f i e = rw (accepted plant name body f e).parses refl

-- ---- places

pub places-found : PlacesFound
places-found f body i r e = go (locate f body i) refl
  where
    go : (o : Result Places Cause) → locate f body i ≡ o → (p : Places) × (locate f body i ≡ Ok p)
    go (Ok p) q = (p, q)
    go (Err c) q = let z : None ≡ Some r = sym (record-missing f body i (sym q)) ∙ e in let y : ◌≡◌ {A = ℕ} 0 1 = cc in absurd (omega arith)

-- the record at the places p
module _ (f : Format) (body : List ℕ) (i : ℕ) (p : Places) (a : FoundAt f body i p) where
  abbrev at : ℕ
  at = record_start f body i

  abbrev r : Record
  r = record_at f (drop at body)

  is : (x : Field) → part body (from x p) (size x f p) ≡ field_of x r
  is x = rw a.places (part-is body at x f)

  counts : p.count ≡ length r.rates
  unfolding record_at
  counts =
      ap (λ (q : Places). q.count) a.places
      ∙ sym (rates-full f (drop at body) (record-whole f body (stands_facts f body a.stands).records i a.inside))

  flag_is : f ≡ F203 → StandsAt body p.flag 1 r.flag
  flag_is k =
      let e : size Flag f p ≡ 1 = rw k refl in
      let there : p.flag ≡ Some (from Flag p) = rw (a.places, k) refl in
      (from Flag p, there, rw e at (is Flag))

  next-is : f ≡ F203 → StandsAt body p.next 14 r.next
  next-is k =
      let e : size Next f p ≡ 14 = rw k refl in
      let there : p.next ≡ Some (from Next p) = rw (a.places, k) refl in
      (from Next p, there, rw e at (is Next))

  fields_at : FieldsAt f body p r
  fields_at = record {
    schedule = is Schedule;
    plant = is Plant;
    start = is Start;
    rates = is Rates;
    count = counts;
    checksum = is Checksum;
    flag = flag_is;
    next = next-is;
  }

pub places-hold : PlacesHold
places-hold f body i p e =
    let a = found-facts f body i (sym e) in
    (record_at f (drop (record_start f body i) body), record-found f body i a, fields_at f body i p a)
