-- A body read, taken apart and written again is itself.
use Rattle.std.specs.Prelude.{Ok, Option, None, Some, slice_get}
use Prim.Native.Nat.{ℕ, suc, ◌≤◌, ◌<◌}
use mathlib.Core.Path.{◌≡◌, ◌∙◌, refl, sym, ap, subst}
use mathlib.Core.Bool.{true}
use mathlib.Core.List.{List, [], ◌∷◌}
use native.Mathlib.Omega.{arith}
use lib.ListN.{length, get_or}
use Rattle.rules.specs.Digits.{same_bytes}
use Rattle.rules.specs.Name.{format_number}
use Rattle.rules.specs.Body.{Record, schedule, count_of, flag_digits, parse_body, form_of_record, every, is_schedule}
use Rattle.rules.specs.File.{File, file, read_file, records_in, flag_of}
use Rattle.rules.specs.Lister.{record_count, rate_count}
use Rattle.rules.specs.Writer.{Fields, bytes, written_of, write_body}
use Rattle.rules.specs.declared.Format.{Format}
use Rattle.rules.specs.declared.Format.TheVariants.{F201, F202, F203, F301}
use Rattle.rules.specs.Reading.{update_of, summary_of}
use Rattle.rules.specs.declared.Summary.{Summary}
use Rattle.laws.proofs.Tests.{both, join}
use Rattle.laws.proofs.Bytes.{equal-same}
use Rattle.about_files.specs.Writing.{end_to_end, shared_schedule, fields_of as fields_in}
use Rattle.about_files.proofs.Record.{form-facts}
use Rattle.about_files.proofs.Rewritten.{none_left, read-written, read-written-with-plant}
use Rattle.about_files.proofs.Accepted.{Taken, schedule-read, accepted, file-read}
use Rattle.plan.specs.Fields.{fields_of}
use Rattle.records.specs.Reading.{field_in, record_in, rates_output}
use Rattle.records.specs.declared.Field.TheVariants.{Schedule, Plant, Start, Next}
use Rattle.records.proofs.Joined.{joined_length}
use Rattle.about_bodies.specs.Written.{Holds}
use Rattle.about_bodies.specs.Again.{an_id, copied, flag_again, fields_again, Shared, BodyAgain}
use Rattle.about_bodies.proofs.Written.{holds-bytes, first-bytes, rates-output}

-- ---- the records share a schedule ID

all_same : (v : List ℕ) (rs : List Record) → ((i : ℕ) → i < length rs → field_in Schedule (slice_get rs i) ≡ v)
    → every (λ r. same_bytes r.schedule v) rs ≡ true
unfolding every
all_same v [] h = refl
all_same v (r ∷ rs) h = join (equal-same (h 0 (omega arith))) (all_same v rs (λ i l. h (suc i) (omega arith)))

shares : (rs : List Record) → ((i : ℕ) → i < length rs → field_in Schedule (slice_get rs i) ≡ field_in Schedule (slice_get rs 0)) → shared_schedule rs ≡ true
shares [] h = refl
shares (r ∷ rs) h = all_same r.schedule rs (λ i l. h (suc i) (omega arith))

-- ---- the fields that are handed over are those of the records

same-fields : (f : Format) (rs : List Record)
    → let first = slice_get rs 0 in
    fields_of (format_number f) (field_in Plant first) (field_in Schedule first) (field_in Start first) (field_in Next first) (end_to_end rs) (flag_of rs)
    ≡ fields_in f rs
same-fields f [] = refl
same-fields f (r ∷ rs) = refl

-- no format but 203 has a flag
no-flag : (f : Format) (rs : List Record) → flag_digits f ≡ 0 → every (form_of_record f) rs ≡ true → 0 ≡ flag_of rs
unfolding every
no-flag f [] e h = refl
no-flag f (r ∷ rs) e h = ap (λ (s : List ℕ). get_or s 0 0) (none_left r.flag ((form-facts f r (both _ _ h).0).flag.long ∙ e))

flag-again : (f : Format) (rs : List Record) → every (form_of_record f) rs ≡ true → flag_again (update_of f rs) ≡ flag_of rs
flag-again F201 rs h = no-flag F201 rs refl h
flag-again F202 rs h = no-flag F202 rs refl h
flag-again F203 rs h = refl
flag-again F301 rs h = no-flag F301 rs refl h

-- ---- the body

module _ (plant : Option (List ℕ)) (name body space out : List ℕ) (f : File) (e : read_file plant name body ≡ file f)
    (i : is_schedule f.name.format ≡ true) where
  abbrev fmt : Format
  fmt = f.name.format

  abbrev rs : List Record
  rs = records_in f.body

  the-file : Taken body f
  the-file = schedule-read body f i (accepted plant name body f e)

  parses : parse_body fmt body ≡ Some (schedule rs)
  parses = the-file.parses ∙ ap Some the-file.is-schedule

  pub count-is : length rs ≡ count_of fmt
  count-is = the-file.records.count

  pub record-count : record_count f.body ≡ count_of fmt
  record-count = ap record_count the-file.is-schedule ∙ count-is

  pub record_is : (k : ℕ) → record_in fmt body k ≡ slice_get rs k
  unfolding record_in
  record_is k = rw parses refl

  rates-count : rate_count f.body ≡ length (end_to_end rs)
  rates-count = ap rate_count the-file.is-schedule ∙ sym (joined_length rs)

  shared_is : Shared fmt body → shared_schedule rs ≡ true
  shared_is s = shares rs (λ k l. ap (field_in Schedule) (sym (record_is k)) ∙ s k (let c = count-is in omega arith) ∙ ap (field_in Schedule) (record_is 0))

  written : (id : an_id plant ≡ true) → Shared fmt body → length body ≤ length out → write_body (fields_in fmt rs) (length out) ≡ bytes body
  written id s h = go plant e id
    where
      go : (o : Option (List ℕ)) → read_file o name body ≡ file f → an_id o ≡ true → write_body (fields_in fmt rs) (length out) ≡ bytes body
      go None q k = read-written name body f rs (length out) q the-file.is-schedule (shared_is s) h
      go (Some p) q k = read-written-with-plant p name body f rs (length out) k q the-file.is-schedule (shared_is s) h

  module _ (x : Summary) (x≡ : x ≡ summary_of f) (room : x.rates ≤ length space) where
    format-is : x.format ≡ fmt
    unfolding summary_of
    format-is = ap (λ (y : Summary). y.format) x≡

    rates-is : x.rates ≡ length (end_to_end rs)
    unfolding summary_of
    rates-is = ap (λ (y : Summary). y.rates) x≡ ∙ rates-count

    flag_is : flag_again x.update ≡ flag_of rs
    unfolding summary_of
    flag_is = ap (λ (y : Summary). flag_again y.update) x≡ ∙ flag-again fmt rs the-file.records.form

    rates-held : Holds (rates_output fmt body (length space)) space (end_to_end rs)
    rates-held = holds-bytes space (end_to_end rs) (rates-output fmt body rs space i parses (let r = rates-is in omega arith))

    copied_is : copied fmt body x.rates space ≡ end_to_end rs
    copied_is = rw rates-is (first-bytes (rates_output fmt body (length space)) space (end_to_end rs) rates-held)

    fields-are : fields_again body x space ≡ fields_in fmt rs
    fields-are = rw (format-is, copied_is, flag_is, record_is 0) (same-fields fmt rs)

pub format-of : (x : Summary) (f : File) → x ≡ summary_of f → x.format ≡ f.name.format
unfolding summary_of
format-of x f e = ap (λ (y : Summary). y.format) e

pub body-again : BodyAgain
body-again plant name body space out x e id i s room h =
    let r = file-read (read_file plant name body) x e in
    let f = r.the-file in
    let fm = format-of x f r.summary in
    let i' : is_schedule f.name.format ≡ true = subst (λ (g : Format). is_schedule g ≡ true) fm i in
    let s' : Shared f.name.format body = subst (λ (g : Format). Shared g body) fm s in
    let copied = rates-held plant name body space out f r.is i' x r.summary room in
    let again = fields-are plant name body space out f r.is i' x r.summary room in
    let n = rates-is plant name body space out f r.is i' x r.summary room in (
      ap (λ (g : Format). written_of (rates_output g body (length space))) fm ∙ copied.answer ∙ ap (λ (k : ℕ). Ok k) (sym n),
      holds-bytes out body (ap (λ (w : Fields). write_body w (length out)) again ∙ written plant name body space out f r.is i' id s' h),
    )
