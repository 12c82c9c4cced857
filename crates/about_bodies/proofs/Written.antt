-- What `write_body` wrote, read and taken apart, is the fields that it was given.
use Rattle.std.specs.Prelude.{Ok, Option, None, Some, slice_get}
use Prim.Native.Nat.{ℕ, zero, suc, ◌≤◌, ◌<◌}
use mathlib.Core.Path.{◌≡◌, ◌∙◌, refl, sym, ap, subst}
use mathlib.Core.Bool.{true}
use mathlib.Core.List.{List, [], ◌∷◌}
use native.Mathlib.Omega.{arith}
use lib.ListN.{length, take, drop}
use lib.Seq.{take_at, drop_at}
use borrow.Author.Tests.{le-leb}
use Rattle.rules.specs.Digits.{same_bytes}
use Rattle.rules.specs.Name.{Name, format_of, encode_name}
use Rattle.rules.specs.Body.{Record, schedule, parse_body, every, is_schedule}
use Rattle.rules.specs.File.{file, read_file}
use Rattle.rules.specs.Writer.{Fields, Output, refuse, bytes, written_of, buffer_after, update_record, field_records, write_body}
use Rattle.rules.specs.declared.Format.{Format}
use Rattle.rules.specs.declared.Format.TheVariants.{F203}
use Rattle.rules.specs.Reading.{summary_of, reading_of}
use Rattle.laws.proofs.Tests.{both}
use Rattle.laws.proofs.Bytes.{same-equal}
use Rattle.about_files.specs.Writing.{end_to_end, first_start, first_next, NameFor, file_for, ReadsBack}
use Rattle.about_files.proofs.Written.{Fit, Good, written-facts, fields-good, written-reads}
use Rattle.about_files.proofs.Accepted.{accepted}
use Rattle.plan.specs.Fields.{fields_of}
use Rattle.records.specs.Reading.{field_of, field_in, record_in, rates_output}
use Rattle.records.specs.declared.Field.{Field}
use Rattle.records.specs.declared.Field.TheVariants.{Schedule, Plant, Start, Flag, Next}
use Rattle.about_bodies.specs.Written.{Holds, FieldsRead, WrittenFields}

-- ---- outputs

-- an answer with a length is the answer of bytes of that length
pub record Bytes (o : Output) (k : ℕ) : Type 0 where
  pub these : List ℕ
  pub are : o ≡ bytes these
  pub long : length these ≡ k

pub bytes_of : (o : Output) (k : ℕ) → written_of o ≡ Ok k → Bytes o k
bytes_of (refuse c) k e = let z : ◌≡◌ {A = ℕ} 0 1 = cc in absurd (omega arith)
bytes_of (bytes b) k e = record { these = b; are = refl; long = cc }

pub holds-bytes : {o : Output} (buffer b : List ℕ) → o ≡ bytes b → Holds o buffer b
holds-bytes buffer b e = record { answer = ap written_of e; bytes = ap (λ (o : Output). buffer_after o buffer) e }

pub first-bytes : (o : Output) (buffer b : List ℕ) → Holds o buffer b → take (length b) (buffer_after o buffer) ≡ b
first-bytes o buffer b h = ap (take (length b)) h.bytes ∙ take_at b (drop (length b) buffer) (length b) refl

pub last-bytes : (o : Output) (buffer b : List ℕ) → Holds o buffer b → drop (length b) (buffer_after o buffer) ≡ drop (length b) buffer
last-bytes o buffer b h = ap (drop (length b)) h.bytes ∙ drop_at b (drop (length b) buffer) (length b) refl

-- the rates of records that a body parses as
pub rates-output : (f : Format) (body : List ℕ) (rs : List Record) (space : List ℕ) → is_schedule f ≡ true → parse_body f body ≡ Some (schedule rs)
    → length (end_to_end rs) ≤ length space → rates_output f body (length space) ≡ bytes (end_to_end rs)
unfolding rates_output
rates-output f body rs space i e h = rw (i, e, le-leb (length (end_to_end rs)) (length space) h) refl

-- ---- records

-- a field that all records have
every-field : (x : Field) (v : List ℕ) (rs : List Record) (i : ℕ) → every (λ r. same_bytes (field_of x r) v) rs ≡ true → i < length rs
    → field_in x (slice_get rs i) ≡ v
unfolding every
every-field x v [] i e h = absurd (omega arith)
every-field x v (r ∷ rs) zero e h = same-equal (field_of x r) v (both (same_bytes (field_of x r) v) (every (λ q. same_bytes (field_of x q) v) rs) e).0
every-field x v (r ∷ rs) (suc i) e h =
    every-field x v rs i (both (same_bytes (field_of x r) v) (every (λ q. same_bytes (field_of x q) v) rs) e).1 (omega arith)

first-start : (rs : List Record) → field_in Start (slice_get rs 0) ≡ first_start rs
first-start [] = refl
first-start (r ∷ rs) = refl

first_next_lem : (rs : List Record) → field_in Next (slice_get rs 0) ≡ first_next rs
first_next_lem [] = refl
first_next_lem (r ∷ rs) = refl

first-flag : (f : Format) (w : Fields) → f ≡ F203 → field_in Flag (slice_get (field_records f w) 0) ≡ w.flag ∷ []
unfolding field_records update_record
first-flag f w e = rw e refl

-- ---- what is read of a body that was written
module _ (w : Fields) (room : ℕ) (b : List ℕ) (f : Format) (n : Name) (e : write_body w room ≡ bytes b)
    (q : format_of w.format ≡ Some f) (h : NameFor f w n) where
  abbrev rs : List Record
  rs = field_records f w

  back : ReadsBack f w n b
  back = written-reads w room b f n e q h

  fit : Fit f w
  fit = (written-facts w room f q b e).0

  good : Good f w rs
  good = fields-good f w q fit

  parses : parse_body f b ≡ Some (schedule rs)
  parses = subst (λ (g : Format). parse_body g b ≡ Some (schedule rs)) h.format (accepted None (encode_name n) b (file_for f w n) back.read).parses

  record_is : (i : ℕ) → record_in f b i ≡ slice_get rs i
  unfolding record_in
  record_is i = rw parses refl

  of_record : (x : Field) (i : ℕ) → field_in x (record_in f b i) ≡ field_in x (slice_get rs i)
  of_record x i = ap (field_in x) (record_is i)

  read_is : (plant : Option (List ℕ)) → read_file plant (encode_name n) b ≡ file (file_for f w n)
      → reading_of (read_file plant (encode_name n) b) ≡ Ok (summary_of (file_for f w n))
  unfolding reading_of
  read_is plant r = ap reading_of r

  rates-are : (space : List ℕ) → length w.rates ≤ length space → Holds (rates_output f b (length space)) space w.rates
  rates-are space l =
      let same = good.carried.rates in
      let o = rates-output f b rs space fit.scheduled parses (rw same l) in
      holds-bytes space w.rates (o ∙ ap bytes same)

  pub fields_read : FieldsRead f w n b
  fields_read = record {
    read = read_is None back.read;
    read_for = read_is (Some w.plant) back.read_with_plant;
    records = record_is;
    schedule = λ i l. of_record Schedule i ∙ every-field Schedule w.schedule rs i good.carried.schedules (let c = good.count in omega arith);
    plant = λ i l. of_record Plant i ∙ every-field Plant w.plant rs i good.carried.plants (let c = good.count in omega arith);
    start = of_record Start 0 ∙ first-start rs ∙ good.carried.start;
    rates = rates-are;
    flag = λ k. of_record Flag 0 ∙ first-flag f w k;
    next = λ k. of_record Next 0 ∙ first_next_lem rs ∙ good.carried.next k;
  }

pub written-fields : WrittenFields
written-fields format plant ident start next rates flag out k f n e q h =
    let w = fields_of format plant ident start next rates flag in
    let o = write_body w (length out) in
    let b = bytes_of o k e in
    let held = holds-bytes out b.these b.are in
    rw (sym b.long) (
      subst (λ (x : List ℕ). FieldsRead f w n x) (sym (first-bytes o out b.these held)) (fields_read w (length out) b.these f n b.are q h),
      last-bytes o out b.these held,
    )
