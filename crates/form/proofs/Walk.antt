-- Laws of a walk over records: what their form says, one record on, and that form and fields together are `parse_records`.
use Rattle.std.specs.Prelude.{None, Some, option_map}
use Prim.Native.Nat.{ℕ, zero, suc, ◌+◌, ◌-◌, ◌≤◌, ◌<◌}
use mathlib.Core.Path.{◌≡◌, ◌∙◌, refl, sym, ap}
use mathlib.Core.Bool.{Bool, true, false, ◌&&◌, cond, and-false, false≢true}
use mathlib.Core.List.{List, [], ◌∷◌}
use native.Mathlib.Omega.{arith}
use lib.Dec.{leb, eqb, lit≤}
use lib.ListN.{length, take, drop}
use borrow.Author.Tests.{leb-true, le-leb, lt-leb}
use Rattle.rules.specs.Digits.{part, all_digits}
use Rattle.rules.specs.Body.{Record, schedule, count_of, most_rates, tail_digits, rates_of, size_of, record_shape, record_at, before, parse_records, parse_rest, is_schedule}
use Rattle.rules.specs.declared.Format.{Format}
use Rattle.rules.specs.declared.Format.TheVariants.{F201, F202, F203, F301}
use Rattle.laws.proofs.Tests.{both}
use Rattle.laws.proofs.Bytes.{part-rest}
use Rattle.laws.proofs.Facts.{most-bound, record-shape}
use Rattle.layout.specs.Records.{count_at, size_at}
use Rattle.layout.proofs.Counts.{count-is}
use Rattle.form.specs.Walk.{shaped, records_from, Whole, Sized}

pub count-bound : (f : Format) → count_of f ≤ 13
count-bound F201 = lit≤ tt
count-bound F202 = lit≤ tt
count-bound F203 = lit≤ tt
count-bound F301 = lit≤ tt

pub count-positive : (f : Format) → 0 < count_of f
count-positive F201 = lit≤ tt
count-positive F202 = lit≤ tt
count-positive F203 = lit≤ tt
count-positive F301 = lit≤ tt

-- what `record_shape` says, as far as a walk needs it
pub whole : (f : Format) (s : List ℕ) → record_shape f s ≡ true → Whole f s
unfolding size_of
whole f s e =
    let w = record-shape f s e in
    record { few = omega (arith, w.most, most-bound f); room = w.size; head = w.head; tail = w.tail }

-- ---- the numbers of a record at the front of s, as a walk reads them

pub rates-here : (f : Format) (s : List ℕ) {n : ℕ} → n ≡ count_at s → Whole f s → n ≡ rates_of s
rates-here f s n≡ w = n≡ ∙ count-is s (omega (arith, w.room))

module _ (f : Format) (s : List ℕ) {n t : ℕ} (n≡ : n ≡ count_at s) (t≡ : t ≡ tail_digits f) where
  pub sized : n ≤ 2833305 → Sized f s n (53 + n + t)
  sized few = record { rates = n≡; size = rw t≡ refl; few = few }

  pub size-here : Whole f s → 53 + n + t ≡ size_of f s
  unfolding size_of
  size-here w = omega (arith, rates-here f s n≡ w)

pub size_is : (f : Format) (s : List ℕ) {z : ℕ} → z ≡ size_at f s → Whole f s → z ≡ size_of f s
size_is f s z≡ w = z≡ ∙ size-here f s refl refl w

-- ---- the tests of `record_stands`: n is the rate count, z the size, m the format's greatest count

no_third : (a b c e g : Bool) → (a && b && c && false && e && g) ≡ false
no_third false b c e g = refl
no_third true false c e g = refl
no_third true true false e g = refl
no_third true true true e g = refl

no-fourth : (a b c d g : Bool) → (a && b && c && d && false && g) ≡ false
no-fourth a b c d g = rw (and-false (a && b && c && d)) refl

module _ (f : Format) (s : List ℕ) {n z : ℕ} (k : Sized f s n z) where
  pub too_short : length s < z → false ≡ record_shape f s
  unfolding record_shape size_of
  too_short h = go (leb 53 (length s)) refl
    where
      go : (b : Bool) → leb 53 (length s) ≡ b → false ≡ record_shape f s
      go false e = rw e refl
      go true e =
          let n≡ = k.rates ∙ count-is s (leb-true 53 (length s) e) in
          let r : leb (53 + rates_of s + tail_digits f) (length s) ≡ false = rw (← n≡, ← k.size) (lt-leb z (length s) h) in
          rw r
          (sym
          (no-fourth (leb 53 (length s)) (all_digits (part s 0 48)) (all_digits (part s 48 5)) (leb (rates_of s) (most_rates f))
          (all_digits (part s (53 + rates_of s) (tail_digits f)))))

  module _ (room : z ≤ length s) where
    enough : 53 ≤ length s
    enough = omega (arith, k.size)

    rates-are : n ≡ rates_of s
    rates-are = k.rates ∙ count-is s enough

    pub too_many : {m : ℕ} → m ≡ most_rates f → m < n → false ≡ record_shape f s
    unfolding record_shape
    too_many {m} m≡ h =
        let r : leb (rates_of s) (most_rates f) ≡ false = rw (← rates-are, ← m≡) (lt-leb n m h) in
        rw r
        (sym
        (no_third (leb 53 (length s)) (all_digits (part s 0 48)) (all_digits (part s 48 5)) (leb (size_of f s) (length s))
        (all_digits (part s (53 + rates_of s) (tail_digits f)))))

    pub the-digits : {m : ℕ} {a b c : Bool} → m ≡ most_rates f → n ≤ m → a ≡ all_digits (part s 0 48) → b ≡ all_digits (part s 48 5)
        → c ≡ all_digits (part s (53 + n) (z - (53 + n))) → (a && b && c) ≡ record_shape f s
    unfolding record_shape size_of
    the-digits {m} {a} {b} {c} m≡ h a≡ b≡ c≡ =
        let r : leb (rates_of s) (most_rates f) ≡ true = rw (← rates-are, ← m≡) (le-leb n m h) in
        let q : leb (53 + rates_of s + tail_digits f) (length s) ≡ true = rw (← rates-are, ← k.size) (le-leb z (length s) room) in
        let t : z - (53 + n) ≡ tail_digits f = omega (arith, k.size) in
        let c≡' : c ≡ all_digits (part s (53 + rates_of s) (tail_digits f)) = c≡ ∙ rw (t, rates-are) refl in
        rw (le-leb 53 (length s) enough, r, q, ← c≡', ← a≡, ← b≡) (go a b c)
      where
        go : (a b c : Bool) → (a && b && c) ≡ (true && a && b && true && true && c)
        go false b c = refl
        go true false c = refl
        go true true c = refl

-- ---- one record on: t is what is left, `left` how many records, k how many after the first, z the first one's size

module _ (f : Format) (t : List ℕ) where
  pub shape-end : (left : ℕ) → left ≤ 0 → shaped f left t ≡ eqb (length t) 0
  unfolding shaped
  shape-end zero h = refl
  shape-end (suc k) h = absurd (omega arith)

  pub shape-step : (left : ℕ) {k z : ℕ} {b : Bool} → left ≡ suc k → z ≡ size_of f t → b ≡ record_shape f t
      → shaped f left t ≡ (b && shaped f k (take (length t - z) (drop z t)))
  unfolding shaped
  shape-step left {k} {z} left≡ z≡ b≡ = rw (left≡, b≡, part-rest t z, z≡) refl

  pub shape_stop : (left : ℕ) → 0 < left → record_shape f t ≡ false → shaped f left t ≡ false
  unfolding shaped
  shape_stop zero h e = absurd (omega arith)
  shape_stop (suc k) h e = rw e refl

  pub records-step : (left : ℕ) {k z : ℕ} → left ≡ suc k → z ≡ size_of f t
      → records_from f left t ≡ record_at f t ∷ records_from f k (take (length t - z) (drop z t))
  unfolding records_from
  records-step left {k} {z} left≡ z≡ = rw (left≡, part-rest t z, z≡) refl

  -- the first of the records that are left, and the others
  pub shaped-first : (left : ℕ) → 0 < left → shaped f left t ≡ true → record_shape f t ≡ true
  unfolding shaped
  shaped-first zero h e = absurd (omega arith)
  shaped-first (suc k) h e = (both (record_shape f t) (shaped f k (drop (size_of f t) t)) e).0

  pub whole-first : (left : ℕ) → 0 < left → shaped f left t ≡ true → Whole f t
  whole-first left h e = whole f t (shaped-first left h e)

pub whole-start : (f : Format) (s : List ℕ) → shaped f (count_of f) s ≡ true → Whole f s
whole-start f s e = whole-first f s (count_of f) (count-positive f) e

-- the record ends within what is left
pub within : (f : Format) (t : List ℕ) {z : ℕ} → Whole f t → z ≡ size_of f t → z ≤ length t
unfolding size_of
within f t w z≡ = omega (arith, w.room)

-- form and fields are what `parse_records` gives
parse_is : (f : Format) (k : ℕ) (s : List ℕ) → parse_records f k s ≡ cond (shaped f k s) (Some (records_from f k s)) None
unfolding parse_records shaped records_from
parse_is f zero s = refl
parse_is f (suc k) s =
    rw (parse_is f k (drop (size_of f s) s))
    (go (record_shape f s) (shaped f k (drop (size_of f s) s)) (record_at f s) (records_from f k (drop (size_of f s) s)))
  where
    go : (a b : Bool) (r : Record) (rs : List Record)
        → cond a (before r (cond b (Some rs) None)) None ≡ cond (a && b) (Some (r ∷ rs)) None
    go false b r rs = refl
    go true false r rs = refl
    go true true r rs = refl

pub rest-is : (f : Format) (s : List ℕ) → is_schedule f ≡ true
    → parse_rest f s ≡ option_map schedule (cond (shaped f (count_of f) s) (Some (records_from f (count_of f) s)) None)
rest-is F201 s i = ap (option_map schedule) (parse_is F201 13 s)
rest-is F202 s i = ap (option_map schedule) (parse_is F202 1 s)
rest-is F203 s i = ap (option_map schedule) (parse_is F203 1 s)
rest-is F301 s i = absurd (false≢true i)
