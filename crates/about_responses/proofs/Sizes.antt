-- The body of a lawful schedule has fewer than 1,000,000 bytes: six digits say how many.
use Prim.Native.Nat.{ℕ, suc, ◌+◌, ◌*◌, ◌^◌, ◌≤◌, ◌<◌}
use mathlib.Core.Path.{◌≡◌}
use mathlib.Core.Bool.{true, false≢true}
use mathlib.Core.List.{List, [], ◌∷◌}
use native.Mathlib.Nat.{suc-mul}
use native.Mathlib.Omega.{arith}
use lib.ListN.{length, length-append}
use Rattle.rules.specs.Digits.{decimal}
use Rattle.rules.specs.Calendar.{slots_of_day}
use Rattle.rules.specs.Name.{Name}
use Rattle.rules.specs.Body.{Record, schedule, count_of, tail_digits, encode_record, encode_records, encode_body, form_of_record, every, is_schedule}
use Rattle.rules.specs.File.{whole_month, months_from, first_month, record_dates}
use Rattle.rules.specs.declared.Format.{Format}
use Rattle.rules.specs.declared.Format.TheVariants.{F201, F202, F203, F301}
use Rattle.laws.proofs.Tests.{both}
use Rattle.laws.proofs.Bytes.{length-decimal}
use Rattle.laws.proofs.Facts.{month-facts}
use Rattle.about_files.proofs.Record.{form-facts, bytes-long}
use Rattle.about_files.proofs.Calendar.{days-most}
use Rattle.about_files.proofs.Accepted.{Scheduled, bounded}

-- records of whole months, each of 32 days at the most, whatever the format says of their rates
months-bytes : (f : Format) (m : ℕ) (rs : List Record) → every (form_of_record f) rs ≡ true → months_from m rs ≡ true
    → length (encode_records rs) ≤ length rs * (53 + slots_of_day * 32 + tail_digits f)
unfolding every months_from encode_records
months-bytes f m [] e d = omega arith
months-bytes f m (r ∷ rs) e d =
    let p = both (form_of_record f r) (every (form_of_record f) rs) e in
    let q = both (whole_month m r) (months_from (suc m) rs) d in
    let long = bytes-long f r (form-facts f r p.0) [] in
    let full = (month-facts m r q.0).full in
    let days = days-most m in
    let rest = months-bytes f (suc m) rs p.1 q.1 in
    rw (length-append (encode_record r) (encode_records rs), suc-mul) (omega arith)

-- with the six digits of their count
records-small : (n : Name) (f : Format) (rs : List Record) → is_schedule f ≡ true → length rs ≡ count_of f → every (form_of_record f) rs ≡ true
    → record_dates n f rs ≡ true → 6 + length (encode_records rs) < 10 ^ 6
records-small n F201 rs i c e d = let b = months-bytes F201 (first_month rs) rs e d in omega (arith, rw c at b)
records-small n F202 rs i c e d = let b = (bounded F202 rs e).bytes in omega (arith, rw c at b)
records-small n F203 rs i c e d = let b = (bounded F203 rs e).bytes in omega (arith, rw c at b)
records-small n F301 rs i c e d = absurd (false≢true i)

pub body-small : (n : Name) (rs : List Record) → Scheduled n rs → length (encode_body (schedule rs)) < 10 ^ 6
unfolding encode_body
body-small n rs g =
    let a = length-append (decimal 6 (length rs)) (encode_records rs) in
    let b = length-decimal 6 (length rs) in
    let c = records-small n n.format rs g.kind g.count g.form g.dates in
    omega arith
