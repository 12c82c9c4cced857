-- Laws of starts and next accesses: what the calendar's answers say of them, the months of segments, and the tests of whole months and of a 203.
use Rattle.std.specs.Prelude.{Option, Some, None}
use Rattle.std.specs.Option.{MatchOption, is_some}
use Prim.Native.Nat.{ℕ, ◌+◌, ◌-◌, ◌*◌, ◌/◌, ◌%◌}
use mathlib.Core.Path.{◌≡◌, ◌∙◌, refl, sym}
use mathlib.Core.Bool.{Bool, true, false, cond, ◌&&◌}
use mathlib.Core.List.{List}
use native.Mathlib.Omega.{arith}
use lib.Dec.{leb, eqb}
use borrow.Author.Tests.{eqb-true}
use Rattle.rules.specs.Digits.{digits, value_from, decimal}
use Rattle.rules.specs.Calendar.{slots_of_day, slot_count, days_of_month, slots_of_month, month_at, exists}
use Rattle.rules.specs.Calendar.{seconds_of, moment, whole_minute, half_hour, slot_of, start_slot}
use Rattle.rules.specs.Name.{segment_month}
use Rattle.rules.specs.File.{month_begins, in_time}
use Rattle.laws.proofs.Tests.{both}
use Rattle.calendar.specs.Moments.{month_begun}
use Rattle.calendar.proofs.Begins.{begun-facts, begun-none}
use Rattle.layout.specs.Dates.{month_holds, update_holds}

cond-some : (b : Bool) (x : ℕ) {t : ℕ} → cond b (Some x) None ≡ Some t → b ≡ true
cond-some true x e = refl
cond-some false x e = let z : ◌≡◌ {A = ℕ} 0 1 = cc in absurd (omega arith)

-- the month of a segment, from its two pairs
pub segment-month-is : (n b : ℕ) → b ≡ n % 100 - 1 → 12 * (n / 100 % 100) + b ≡ segment_month (decimal 4 n)
unfolding decimal value_from
segment-month-is n b e =
    let high : (0 * 10 + n / 10 / 10 / 10 % 10) * 10 + n / 10 / 10 % 10 ≡ n / 100 % 100 = omega arith in
    let low : (0 * 10 + n / 10 % 10) * 10 + n % 10 ≡ n % 100 = omega arith in
    rw (high, low) (omega arith)

-- a start that is a slot's
module _ (t : List ℕ) where
  pub is-start : {k : ℕ} → start_slot t ≡ Some k → (digits 12 t ≡ true) × (exists (whole_minute t) ≡ true) × (half_hour t ≡ true)
  unfolding start_slot
  is-start e =
      let r = cond-some (digits 12 t && exists (whole_minute t) && half_hour t) (slot_of (seconds_of (whole_minute t))) e in
      let b = both (digits 12 t && exists (whole_minute t)) (half_hour t) r in
      let a = both (digits 12 t) (exists (whole_minute t)) b.0 in
      (a.0, a.1, b.1)

  pub start-some : digits 12 t ≡ true → exists (whole_minute t) ≡ true → half_hour t ≡ true
      → start_slot t ≡ Some (slot_of (seconds_of (whole_minute t)))
  unfolding start_slot
  start-some d e h = rw (d, e, h) refl

-- ---- a next access

module _ (u : List ℕ) where
  -- whether the calendar reads it
  pub moment-is : {o : Option ℕ} → o ≡ moment u → is_some o ≡ (digits 14 u && exists u)
  unfolding moment
  moment-is e = rw e (go (digits 14 u && exists u))
    where
      go : (b : Bool) → is_some (cond b (Some (seconds_of u)) None) ≡ b
      go true = refl
      go false = refl

  pub moment-some : digits 14 u ≡ true → exists u ≡ true → moment u ≡ Some (seconds_of u)
  unfolding moment
  moment-some d e = rw (d, e) refl

-- ---- a whole month

module _ (m n : ℕ) (t : List ℕ) where
  -- the test, as `month_begun` and then month and rates decide it
  month-test : month_holds m t n ≡ ((digits 12 t && exists (whole_minute t) && month_begins t) && (eqb (month_at t) m && eqb n (slots_of_month m)))
  unfolding month_holds
  month-test = go (digits 12 t) (exists (whole_minute t)) (month_begins t) (eqb (month_at t) m) (eqb n (slots_of_month m))
    where
      go : (f a b c d : Bool) → (f && a && c && b && d) ≡ ((f && a && b) && (c && d))
      go false a b c d = refl
      go true false b c d = refl
      go true true false true d = refl
      go true true false false d = refl
      go true true true true d = refl
      go true true true false d = refl

  no-month : None ≡ month_begun t → month_holds m t n ≡ false
  no-month e = month-test ∙ rw (begun-none t e) refl

  -- k is the month of the start, y its days
  is-month : (k y : ℕ) → Some k ≡ month_begun t → y ≡ days_of_month k → (eqb k m && eqb n (slots_of_day * y)) ≡ month_holds m t n
  is-month k y e y≡ =
      let f = begun-facts t k e in
      sym (month-test ∙ rw (f.form, f.there, f.first, ← f.month, y≡) (sym (go (eqb k m) refl)))
    where
      go : (v : Bool) → eqb k m ≡ v → (v && eqb n (slots_of_day * days_of_month k)) ≡ (v && eqb n (slots_of_day * days_of_month m))
      go true e = rw (eqb-true k m e) refl
      go false e = refl

  -- b is false where the start begins no month, and else says whether both are the month's
  pub month-is : {o : Option ℕ} {b : Bool} {Q : ℕ → Type 0} → o ≡ month_begun t → MatchOption o (b ≡ false) Q
      → ((k : ℕ) → Q k → b ≡ (eqb k m && eqb n (slots_of_day * days_of_month k))) → b ≡ month_holds m t n
  month-is {o = None} e b≡ h = b≡ ∙ sym (no-month e)
  month-is {o = Some k} e q h = h k q ∙ is-month k (days_of_month k) e refl

-- ---- the dates of a 203

module _ (n : ℕ) (t : List ℕ) where
  -- b is false where the start is no slot's, and else says whether the rates are in time
  pub time-is : {o : Option ℕ} {b : Bool} {Q : ℕ → Type 0} → o ≡ start_slot t → MatchOption o (b ≡ false) Q
      → ((k : ℕ) → Q k → b ≡ leb (k + n) slot_count) → b ≡ in_time n (start_slot t)
  time-is {o = None} e b≡ h = rw (sym e) b≡
  time-is {o = Some k} e q h = rw (sym e) (h k q)

  pub update-is : (u : List ℕ) {a b : Bool} → a ≡ in_time n (start_slot t) → b ≡ (digits 14 u && exists u) → (a && b) ≡ update_holds t n u
  unfolding update_holds
  update-is u a≡ b≡ = rw (a≡, b≡) refl
