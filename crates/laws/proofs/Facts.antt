-- What the tests of `rules` on names, bodies and dates say, fact by fact.
use Prim.Native.Nat.{ℕ, ◌+◌, ◌≤◌, ◌<◌}
use mathlib.Core.Path.{◌≡◌}
use mathlib.Core.Bool.{true}
use mathlib.Core.List.{List}
use lib.Dec.{eqb, lit≤}
use lib.ListN.{length}
use borrow.Author.Tests.{leb-true, ltb-true, eqb-true, eq-eqb}
use Rattle.rules.specs.Digits.{part, all_digits, digits, all_ascii}
use Rattle.rules.specs.Calendar.{days_of_month, slots_of_month, year_in, month_in, day_in, hour_in, minute_in, second_in, month_at, exists, whole_minute}
use Rattle.rules.specs.Name.{Name, segment_fits, lawful_name, underscore, dot_data, name_length, name_shape}
use Rattle.rules.specs.Body.{Record, most_rates, tail_digits, rates_of, size_of, record_shape}
use Rattle.rules.specs.File.{month_begins, whole_month}
use Rattle.rules.specs.declared.Format.{Format}
use Rattle.rules.specs.declared.Format.TheVariants.{F201, F202, F203, F301}
use Rattle.laws.proofs.Tests.{both, join}
use Rattle.laws.proofs.Bytes.{same-equal}

-- ---- k digits

pub record Digits (k : ℕ) (s : List ℕ) : Type 0 where
  pub long : length s ≡ k
  pub each : all_digits s ≡ true

pub digits_of : (k : ℕ) (s : List ℕ) → digits k s ≡ true → Digits k s
digits_of k s e = let p = both (eqb (length s) k) (all_digits s) e in record { long = eqb-true (length s) k p.0; each = p.1 }

pub of-digits : (k : ℕ) (s : List ℕ) → Digits k s → digits k s ≡ true
of-digits k s d = join (eq-eqb (length s) k d.long) d.each

-- ---- a date

pub record Date (s : List ℕ) : Type 0 where
  pub from2000 : 2000 ≤ year_in s
  pub to2099 : year_in s ≤ 2099
  pub month1 : 1 ≤ month_in s
  pub month12 : month_in s ≤ 12
  pub day1 : 1 ≤ day_in s
  pub day_last : day_in s ≤ days_of_month (month_at s)
  pub hour : hour_in s < 24
  pub minute : minute_in s < 60
  pub second : second_in s < 60

pub date-facts : (s : List ℕ) → exists s ≡ true → Date s
unfolding exists
date-facts s e =
    let e₈ = both _ _ e in
    let e₇ = both _ _ e₈.0 in
    let e₆ = both _ _ e₇.0 in
    let e₅ = both _ _ e₆.0 in
    let e₄ = both _ _ e₅.0 in
    let e₃ = both _ _ e₄.0 in
    let e₂ = both _ _ e₃.0 in
    let e₁ = both _ _ e₂.0 in
    record {
      from2000 = leb-true _ _ e₁.0;
      to2099 = leb-true _ _ e₁.1;
      month1 = leb-true _ _ e₂.1;
      month12 = leb-true _ _ e₃.1;
      day1 = leb-true _ _ e₄.1;
      day_last = leb-true _ _ e₅.1;
      hour = ltb-true _ _ e₆.1;
      minute = ltb-true _ _ e₇.1;
      second = ltb-true _ _ e₈.1;
    }

-- ---- a name

pub record NameShape (s : List ℕ) : Type 0 where
  pub long : length s ≡ name_length
  pub format : all_ascii (part s 0 3) ≡ true
  pub mark₁ : part s 3 1 ≡ underscore
  pub segment : all_ascii (part s 4 4) ≡ true
  pub mark₂ : part s 8 1 ≡ underscore
  pub plant : all_ascii (part s 9 26) ≡ true
  pub mark₃ : part s 35 1 ≡ underscore
  pub created : all_ascii (part s 36 14) ≡ true
  pub ending : part s 50 5 ≡ dot_data

pub name-shape : (s : List ℕ) → name_shape s ≡ true → NameShape s
unfolding name_shape
name-shape s e =
    let e₈ = both _ _ e in
    let e₇ = both _ _ e₈.0 in
    let e₆ = both _ _ e₇.0 in
    let e₅ = both _ _ e₆.0 in
    let e₄ = both _ _ e₅.0 in
    let e₃ = both _ _ e₄.0 in
    let e₂ = both _ _ e₃.0 in
    let e₁ = both _ _ e₂.0 in
    record {
      long = eqb-true _ _ e₁.0;
      format = e₁.1;
      mark₁ = same-equal _ _ e₂.1;
      segment = e₃.1;
      mark₂ = same-equal _ _ e₄.1;
      plant = e₅.1;
      mark₃ = same-equal _ _ e₆.1;
      created = e₇.1;
      ending = same-equal _ _ e₈.1;
    }

pub record LawfulName (n : Name) : Type 0 where
  pub segment : Digits 4 n.segment
  pub fits : segment_fits n.format n.segment ≡ true
  pub plant : Digits 26 n.plant
  pub created : Digits 14 n.created
  pub date : exists n.created ≡ true

pub name-facts : (n : Name) → lawful_name n ≡ true → LawfulName n
unfolding lawful_name
name-facts n e =
    let e₄ = both _ _ e in
    let e₃ = both _ _ e₄.0 in
    let e₂ = both _ _ e₃.0 in
    let e₁ = both _ _ e₂.0 in
    record {
      segment = digits_of 4 n.segment e₁.0;
      fits = e₁.1;
      plant = digits_of 26 n.plant e₂.1;
      created = digits_of 14 n.created e₃.1;
      date = e₄.1;
    }

-- ---- a record

pub most-bound : (f : Format) → most_rates f ≤ 99999
most-bound F201 = lit≤ tt
most-bound F202 = lit≤ tt
most-bound F203 = lit≤ tt
most-bound F301 = lit≤ tt

-- a record stands at the front of s
pub record RecordShape (f : Format) (s : List ℕ) : Type 0 where
  pub room : 53 ≤ length s
  pub head : all_digits (part s 0 48) ≡ true
  pub count : all_digits (part s 48 5) ≡ true
  pub most : rates_of s ≤ most_rates f
  pub size : size_of f s ≤ length s
  pub tail : all_digits (part s (53 + rates_of s) (tail_digits f)) ≡ true

pub record-shape : (f : Format) (s : List ℕ) → record_shape f s ≡ true → RecordShape f s
unfolding record_shape
record-shape f s e =
    let e₅ = both _ _ e in
    let e₄ = both _ _ e₅.0 in
    let e₃ = both _ _ e₄.0 in
    let e₂ = both _ _ e₃.0 in
    let e₁ = both _ _ e₂.0 in
    record {
      room = leb-true _ _ e₁.0;
      head = e₁.1;
      count = e₂.1;
      most = leb-true _ _ e₃.1;
      size = leb-true _ _ e₄.1;
      tail = e₅.1;
    }

-- a record of the whole month m
pub record WholeMonth (m : ℕ) (r : Record) : Type 0 where
  pub date : exists (whole_minute r.start) ≡ true
  pub month : month_at r.start ≡ m
  pub begins : month_begins r.start ≡ true
  pub full : length r.rates ≡ slots_of_month m

pub month-facts : (m : ℕ) (r : Record) → whole_month m r ≡ true → WholeMonth m r
unfolding whole_month
month-facts m r e =
    let e₃ = both _ _ e in
    let e₂ = both _ _ e₃.0 in
    let e₁ = both _ _ e₂.0 in
    record { date = e₁.0; month = eqb-true _ _ e₁.1; begins = e₂.1; full = eqb-true _ _ e₃.1 }
