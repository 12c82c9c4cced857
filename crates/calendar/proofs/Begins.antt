-- Laws of a start that begins a month: its date exists where its month does.
use Rattle.std.specs.Prelude.{Some, None, cond}
use Prim.Native.Nat.{ℕ, ◌+◌, ◌≤◌, ◌<◌}
use mathlib.Core.Path.{◌≡◌, ◌∙◌, refl, sym, ap}
use mathlib.Core.Bool.{Bool, true, false, ◌&&◌, and-false, and-true}
use mathlib.Core.List.{List, [], ◌∷◌}
use native.Mathlib.Omega.{arith}
use lib.Dec.{lit≤}
use lib.ListN.{length, take}
use lib.Seq.{drop_at}
use borrow.Author.Tests.{le-leb, eq-eqb}
use Rattle.rules.specs.Digits.{part, all_digits, digits, value_from, value}
use Rattle.rules.specs.Calendar.{month_count, days_of_month}
use Rattle.rules.specs.Calendar.{year_in, month_in, day_in, hour_in, minute_in, second_in, month_at, exists, whole_minute, half_hour}
use Rattle.rules.specs.File.{month_begins}
use Rattle.laws.proofs.Tests.{both}
use Rattle.laws.proofs.Bytes.{same-equal, part-front}
use Rattle.digits.proofs.Parts.{part-part, digits-length}
use Rattle.calendar.specs.Moments.{month_begun, month_exists}
use Rattle.calendar.proofs.Laws.{days-range}
use Rattle.calendar.proofs.DateLaws.{month-facts, exists_is}

-- the digits from the day on
module _ (s : List ℕ) (b : month_begins s ≡ true) where
  first : part s 6 6 ≡ 0 ∷ 1 ∷ 0 ∷ 0 ∷ 0 ∷ 0 ∷ []
  first = same-equal (part s 6 6) (0 ∷ 1 ∷ 0 ∷ 0 ∷ 0 ∷ 0 ∷ []) b

  pairs : (i : ℕ) → i + 2 ≤ 6 → part s (6 + i) 2 ≡ part (0 ∷ 1 ∷ 0 ∷ 0 ∷ 0 ∷ 0 ∷ []) i 2
  pairs i h = sym (part-part s 6 6 i 2 h) ∙ ap (λ (l : List ℕ). part l i 2) first

  -- a month begins on a half hour
  pub begins-half : half_hour s ≡ true
  unfolding value_from
  begins-half = rw (pairs 4 (lit≤ tt)) refl

module _ (s : List ℕ) (full : length s ≡ 12) where
  year-whole : year_in (whole_minute s) ≡ year_in s
  year-whole = rw (part-front s (0 ∷ 0 ∷ []) 0 4 (omega arith)) refl

  month-whole : month_in (whole_minute s) ≡ month_in s
  month-whole = rw (part-front s (0 ∷ 0 ∷ []) 4 2 (omega arith)) refl

  -- day 01, 00:00 exists where its month does
  begins-exists : month_begins s ≡ true → exists (whole_minute s) ≡ month_exists (year_in s) (month_in s)
  unfolding value_from
  begins-exists b =
      let w = whole_minute s in
      let day : day_in w ≡ 1 = ap value (part-front s (0 ∷ 0 ∷ []) 6 2 (omega arith) ∙ pairs s b 0 (lit≤ tt)) in
      let hour : hour_in w ≡ 0 = ap value (part-front s (0 ∷ 0 ∷ []) 8 2 (omega arith) ∙ pairs s b 2 (lit≤ tt)) in
      let minute : minute_in w ≡ 0 = ap value (part-front s (0 ∷ 0 ∷ []) 10 2 (omega arith) ∙ pairs s b 4 (lit≤ tt)) in
      let second : second_in w ≡ 0 = ap (λ (l : List ℕ). value (take 2 l)) (drop_at s (0 ∷ 0 ∷ []) 12 full) in
      let days : 1 ≤ days_of_month (month_at w) = omega (arith, (days-range (month_at w)).0) in
      exists_is w
      ∙ rw (day, hour, minute, second, le-leb 1 (days_of_month (month_at w)) days, year-whole, month-whole) (and-true (month_exists (year_in s) (month_in s)))

  -- what `month_begun` tests
  pub begun_is : (digits 12 s && exists (whole_minute s) && month_begins s) ≡ (all_digits s && month_exists (year_in s) (month_in s) && month_begins s)
  begun_is = rw (eq-eqb (length s) 12 full) (go (month_begins s) refl)
    where
      go : (b : Bool) → month_begins s ≡ b
          → (all_digits s && exists (whole_minute s) && b) ≡ (all_digits s && month_exists (year_in s) (month_in s) && b)
      go true e = rw (begins-exists e) refl
      go false e = and-false (all_digits s && exists (whole_minute s)) ∙ sym (and-false (all_digits s && month_exists (year_in s) (month_in s)))

-- ---- what its answer says

-- s is 12 digits and begins month m
pub record Begins (s : List ℕ) (m : ℕ) : Type 0 where
  pub form : digits 12 s ≡ true
  pub there : exists (whole_minute s) ≡ true
  pub first : month_begins s ≡ true
  pub month : m ≡ month_at s
  pub few : m < month_count

pub begun-facts : (s : List ℕ) (m : ℕ) → Some m ≡ month_begun s → Begins s m
unfolding month_begun
begun-facts s m e = go (digits 12 s && exists (whole_minute s) && month_begins s) refl e
  where
    go : (b : Bool) → (digits 12 s && exists (whole_minute s) && month_begins s) ≡ b → Some m ≡ cond b (Some (month_at s)) None → Begins s m
    go true t e =
        let b₂ = both (digits 12 s && exists (whole_minute s)) (month_begins s) t in
        let b₁ = both (digits 12 s) (exists (whole_minute s)) b₂.0 in
        let full = digits-length 12 s b₁.0 in
        let f = month-facts (year_in s) (month_in s) (sym (begins-exists s full b₂.1) ∙ b₁.1) in
        let m≡ : m ≡ month_at s = cc in
        record { form = b₁.0; there = b₁.1; first = b₂.1; month = m≡; few = omega (arith, f.from, f.until, f.first, f.last) }
    go false t e = let z : ◌≡◌ {A = ℕ} 0 1 = cc in absurd (omega arith)

pub begun-none : (s : List ℕ) → None ≡ month_begun s → (digits 12 s && exists (whole_minute s) && month_begins s) ≡ false
unfolding month_begun
begun-none s e = go (digits 12 s && exists (whole_minute s) && month_begins s) e
  where
    go : (b : Bool) → None ≡ cond b (Some (month_at s)) None → b ≡ false
    go true e = let z : ◌≡◌ {A = ℕ} 0 1 = cc in absurd (omega arith)
    go false e = refl
