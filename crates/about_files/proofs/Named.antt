-- Every body that is written has a name to be read with, and its length is known from the format and the rates.
use Prim.Native.Nat.{ℕ, ◌+◌, ◌*◌, ◌/◌, ◌%◌, ◌<◌}
use mathlib.Core.Path.{◌≡◌, ◌∙◌, refl, sym, ap, ap₂}
use mathlib.Core.Bool.{true, false≢true}
use mathlib.Core.List.{List, [], ◌∷◌, ◌++◌}
use native.Mathlib.Nat.{suc-mul, add_assoc}
use native.Mathlib.Omega.{arith}
use lib.ListN.{length, length-append}
use lib.Seq.{take_all}
use borrow.Author.Tests.{le-leb}
use Rattle.rules.specs.Digits.{part, all_at_most, digits, value_from, value, decimal}
use Rattle.rules.specs.Calendar.{month_at, month_count}
use Rattle.rules.specs.Name.{segment_fits, segment_month}
use Rattle.rules.specs.Body.{Record, count_of, tail_digits, form_of_record, every, encode_record, encode_records, encode_body}
use Rattle.rules.specs.Writer.{Fields, field_records, months_fit}
use Rattle.rules.specs.declared.Format.{Format}
use Rattle.rules.specs.declared.Format.TheVariants.{F201, F202, F203, F301}
use Rattle.laws.proofs.Tests.{both, join}
use Rattle.laws.proofs.Bytes.{length-decimal}
use Rattle.about_files.specs.Writing.{end_to_end, NameExists, WrittenLength}
use Rattle.about_files.proofs.Numerals.{all_append, digits_decimal, value-decimal, facts-digits}
use Rattle.about_files.proofs.Pieces.{here, skip}
use Rattle.about_files.proofs.Record.{form-facts, bytes-long}
use Rattle.about_files.proofs.MonthStart.{at_small}
use Rattle.about_files.proofs.Written.{Fit, written-facts, digits-parts, fields-good}

-- ---- the segment
module _ (w : Fields) (a : Fit F202 w) where
  abbrev m : ℕ
  m = month_at w.start

  abbrev segment : List ℕ
  segment = decimal 2 (m / 12) ++ decimal 2 (m % 12 + 1)

  month-small : m < month_count
  unfolding months_fit
  month-small = at_small w.start (digits-parts F202 w a.digits).1 (both _ _ (both _ _ (both _ _ a.dates).0).0).0

  year-is : value (part segment 0 2) ≡ m / 12
  year-is =
      let h = month-small in
      ap value (here (decimal 2 (m / 12)) (decimal 2 (m % 12 + 1)) (length-decimal 2 (m / 12))) ∙ value-decimal 2 (m / 12) (omega arith)

  month-is : value (part segment 2 2) ≡ m % 12 + 1
  month-is =
      let tail = decimal 2 (m % 12 + 1) in
      let whole : part tail 0 2 ≡ tail = take_all 2 tail (omega (arith, length-decimal 2 (m % 12 + 1))) in
      ap value (skip (decimal 2 (m / 12)) tail (length-decimal 2 (m / 12)) 0 2 ∙ whole) ∙ value-decimal 2 (m % 12 + 1) (omega arith)

  segment-digits : digits 4 segment ≡ true
  segment-digits =
      let x = length-decimal 2 (m / 12) in
      let y = length-decimal 2 (m % 12 + 1) in
      facts-digits 4 segment (simp length-append (omega arith))
      (all_append 9 (decimal 2 (m / 12)) (decimal 2 (m % 12 + 1)) ∙ join (digits_decimal 2 (m / 12)) (digits_decimal 2 (m % 12 + 1)))

  segment-fits : segment_fits F202 segment ≡ true
  unfolding segment_fits
  segment-fits = rw month-is (join (le-leb 1 (m % 12 + 1) (omega arith)) (le-leb (m % 12 + 1) 12 (omega arith)))

  segment-month : segment_month segment ≡ m
  segment-month = rw (year-is, month-is) (omega arith)

pub name-exists : NameExists
unfolding segment_fits all_at_most value_from
name-exists w room b F201 digit created e q d c x = record {
  format = refl;
  plant = refl;
  segment = join refl (join refl (join refl (join refl (join (le-leb digit 9 d) refl))));
  fits = refl;
  month = λ z. let y : ◌≡◌ {A = ℕ} 0 1 = cc in absurd (omega arith);
  created = c;
  date = x;
}
name-exists w room b F202 digit created e q d c x =
    let a = (written-facts w room F202 q b e).0 in
    record {
      format = refl;
      plant = refl;
      segment = segment-digits w a;
      fits = segment-fits w a;
      month = λ z. segment-month w a;
      created = c;
      date = x;
    }
name-exists w room b F203 digit created e q d c x = record {
  format = refl;
  plant = refl;
  segment = refl;
  fits = refl;
  month = λ z. let y : ◌≡◌ {A = ℕ} 0 1 = cc in absurd (omega arith);
  created = c;
  date = x;
}
name-exists w room b F301 digit created e q d c x = absurd (false≢true (written-facts w room F301 q b e).0.scheduled)

-- ---- the length
records-long : (f : Format) (rs : List Record) → every (form_of_record f) rs ≡ true
    → length (encode_records rs) ≡ length rs * (53 + tail_digits f) + length (end_to_end rs)
unfolding encode_records every
records-long f [] e = omega arith
records-long f (r ∷ rs) e =
    let p = both (form_of_record f r) (every (form_of_record f) rs) e in
    let a = length-append (encode_record r) (encode_records rs) in
    let b = bytes-long f r (form-facts f r p.0) [] in
    let c = records-long f rs p.1 in
    let d = length-append r.rates (end_to_end rs) in
    rw suc-mul (omega arith)

pub written-length : WrittenLength
unfolding encode_body
written-length w room b f e q =
    let p = written-facts w room f q b e in
    let g = fields-good f w q p.0 in
    let rs = field_records f w in
    let l = records-long f rs g.form in
    let n = length-append (decimal 6 (length rs)) (encode_records rs) in
    let k = length-decimal 6 (length rs) in
    let c = ap (λ (x : ℕ). x * (53 + tail_digits f)) g.count in
    let r = ap length g.carried.rates in
    ap length p.1 ∙ n ∙ ap₂ ◌+◌ k (l ∙ ap₂ ◌+◌ c r) ∙ sym (add_assoc 6 (count_of f * (53 + tail_digits f)) (length w.rates))
