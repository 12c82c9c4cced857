-- A stage over all records of a body of right form: what it computes of a record's parts is what the rule says of its fields.
use Prim.Native.Nat.{ℕ, zero, suc, ◌+◌, ◌≤◌}
use mathlib.Core.Path.{◌≡◌, ◌∙◌, refl, ap}
use mathlib.Core.Bool.{Bool, true}
use mathlib.Core.List.{List, []}
use native.Mathlib.Numerals.{add-one}
use native.Mathlib.Omega.{arith}
use lib.Dec.{eqb}
use lib.ListN.{drop}
use Rattle.std.specs.List.{list_all, zip, range_with_len}
use Rattle.rules.specs.Digits.{part, value}
use Rattle.rules.specs.Body.{Record, count_of, rates_of, size_of, record_shape, record_at, every}
use Rattle.rules.specs.File.{whole_month, months_from, update_dates, record_dates}
use Rattle.rules.specs.declared.Format.{Format}
use Rattle.rules.specs.declared.Format.TheVariants.{F203}
use Rattle.laws.proofs.Tests.{both}
use Rattle.layout.specs.Dates.{month_holds, update_holds}
use Rattle.layout.proofs.Counts.{checksum-is}
use Rattle.layout.specs.declared.walk.Records.{Records}
use Rattle.form.specs.Walk.{shaped, records_from, shaped_left, records_left, Whole}
use Rattle.form.proofs.Walk.{whole, count-bound}
use Rattle.form.proofs.Turns.{all-whole, begins-shaped, begins-records}
use Rattle.form.proofs.Standing.{start-digits, rates-full}
use Rattle.body.specs.Records.{Formed, checksum_holds, checksum_fits, month_fits, update_fits}
use Rattle.body.specs.Reading.{name_of}
use Rattle.body.proofs.Starts.{next-digits}

-- ---- of one record that is whole

module _ (f : Format) (s : List ℕ) (w : Whole f s) where
  pub checksum-same : checksum_holds (record_at f s) ≡ checksum_fits (record_at f s)
  unfolding record_at
  checksum-same = ap (eqb (value (record_at f s).checksum)) (checksum-is (part s 36 12) (part s 53 (rates_of s)) (rw (rates-full f s w) w.few))

  pub month-same : (m : ℕ) → month_fits m (record_at f s) ≡ whole_month m (record_at f s)
  unfolding month_holds whole_month record_at
  month-same m = rw (start-digits f s w) refl

pub update-same : (s : List ℕ) → Whole F203 s → update_fits (record_at F203 s) ≡ update_dates (record_at F203 s)
unfolding update_holds update_dates record_at
update-same s w = rw (next-digits s w (rates_of s) refl) refl

-- ---- of all

module _ (f : Format) where
  first-whole : (k : ℕ) (s : List ℕ) → shaped f (suc k) s ≡ true → Whole f s × (shaped f k (drop (size_of f s) s) ≡ true)
  unfolding shaped
  first-whole k s e = let b = both (record_shape f s) (shaped f k (drop (size_of f s) s)) e in (whole f s b.0, b.1)

  -- a test p that says what q does of records that are whole
  pub every-along : (p q : Record → Bool) → ((s : List ℕ) → Whole f s → p (record_at f s) ≡ q (record_at f s))
      → (k : ℕ) (s : List ℕ) → shaped f k s ≡ true → list_all p (records_from f k s) ≡ every q (records_from f k s)
  unfolding records_from every
  every-along p q h zero s e = refl
  every-along p q h (suc k) s e =
      let w = first-whole k s e in
      rw (h s w.0, every-along p q h k (drop (size_of f s) s) w.1) refl

  -- months from m on beside the records, n at least
  months-along : (n k m : ℕ) (s : List ℕ) → k ≤ n → shaped f k s ≡ true
      → list_all (λ p. month_fits p.0 p.1) (zip (range_with_len m n) (records_from f k s)) ≡ months_from m (records_from f k s)
  unfolding records_from months_from
  months-along zero zero m s h e = refl
  months-along (suc n) zero m s h e = refl
  months-along zero (suc k) m s h e = absurd (omega arith)
  months-along (suc n) (suc k) m s h e =
      let w = first-whole k s e in
      rw (month-same f s w.0 m, months-along n k (m + 1) (drop (size_of f s) s) (omega arith) w.1, add-one m) refl

-- ---- a walk over records of right form

module _ (w : Records) (e : shaped_left w ≡ true) where
  these : records_left w ≡ records_from w.format w.left w.rest.now
  these = all-whole w.format w.left w.rest.now e

  pub months-left : (n m : ℕ) → w.left ≤ n
      → list_all (λ p. month_fits p.0 p.1) (zip (range_with_len m n) (records_left w)) ≡ months_from m (records_left w)
  months-left n m h = rw these (months-along w.format n w.left m w.rest.now h e)

  pub dates-203 : (segment : ℕ) → w.format ≡ F203
      → list_all update_fits (records_left w) ≡ record_dates (name_of w.format segment []) w.format (records_left w)
  dates-203 segment f≡ = rw these (go w.format w.left w.rest.now f≡ e)
    where
      go : (f : Format) (k : ℕ) (s : List ℕ) → f ≡ F203 → shaped f k s ≡ true
          → list_all update_fits (records_from f k s) ≡ record_dates (name_of f segment []) f (records_from f k s)
      go f k s f≡ e = rw f≡ (every-along F203 update_fits update_dates update-same k s (rw f≡ at e))

-- ---- a walk that begins at a body's records

module _ (f : Format) (s : List ℕ) (e : shaped f (count_of f) s ≡ true) (w : Records) (f≡ : w.format ≡ f) (k≡ : w.left ≡ count_of f) (s≡ : w.rest.now ≡ s) where
  pub formed : Formed w
  formed = record { stand = begins-shaped w f≡ k≡ s≡ ∙ e; few = omega (arith, k≡, count-bound f) }

  left-are : records_left w ≡ records_from f (count_of f) s
  left-are = begins-records w f≡ k≡ s≡ e

  pub stage : (p q : Record → Bool) → ((t : List ℕ) → Whole f t → p (record_at f t) ≡ q (record_at f t))
      → list_all p (records_left w) ≡ every q (records_from f (count_of f) s)
  stage p q h = ap (list_all p) left-are ∙ every-along f p q h (count_of f) s e

  pub dates-are : (segment : ℕ)
      → record_dates (name_of w.format segment []) w.format (records_left w) ≡ record_dates (name_of f segment []) f (records_from f (count_of f) s)
  dates-are segment = rw (left-are, f≡) refl
