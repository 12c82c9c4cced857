-- Laws of the numbers of a record: its rate count, its length, and the checksum of its rates.
use Prim.Native.Nat.{ℕ, zero, suc, ◌+◌, ◌*◌, ◌%◌, ◌≤◌, ◌<◌}
use mathlib.Core.Path.{◌≡◌, ◌∙◌, refl, sym}
use mathlib.Core.List.{List}
use native.Mathlib.Nat.{mod-zero}
use native.Mathlib.Omega.{arith}
use Rattle.std.specs.Option.{SomeIff, unwrap_or}
use Rattle.std.specs.Prelude.{Option, Some, None}
use lib.ListN.{length, get_or}
use borrow.Author.Tests.{le-leb, lt-leb}
use Rattle.rules.specs.Digits.{value_from}
use Rattle.rules.specs.Calendar.{month_in, day_in}
use Rattle.rules.specs.Body.{rates_of}
use Rattle.rules.specs.File.{checksum_of}
use Rattle.laws.proofs.Bytes.{at_next}
use Rattle.digits.specs.Decimal.{rates_sum}
use Rattle.layout.specs.Records.{count_at, checksum_for}

-- too few bytes, and enough
pub count-short : (s : List ℕ) → length s < 53 → 0 ≡ count_at s
unfolding count_at
count-short s h = rw (lt-leb 53 (length s) h) refl

pub count-is : (s : List ℕ) → 53 ≤ length s → count_at s ≡ rates_of s
unfolding count_at
count-is s h = rw (le-leb 53 (length s) h) refl

-- the five digits that `rate_count` reads
pub count-read : (s : List ℕ) → 53 ≤ length s
    → 10000 * get_or s 48 0 + 1000 * get_or s 49 0 + 100 * get_or s 50 0 + 10 * get_or s 51 0 + get_or s 52 0 ≡ count_at s
unfolding rates_of value_from
count-read s h =
    let h₀ : 48 < length s = omega arith in
    let h₁ : 49 < length s = omega arith in
    let h₂ : 50 < length s = omega arith in
    let h₃ : 51 < length s = omega arith in
    let h₄ : 52 < length s = omega arith in
    sym (count-is s h ∙ rw (at_next s 48 h₀, at_next s 49 h₁, at_next s 50 h₂, at_next s 51 h₃, at_next s 52 h₄) (omega arith))

-- the checksum as it is computed: r is the remainder, if the modulus is not 0
pub checksum-read : (start rates : List ℕ) (r : Option ℕ) {sum m d : ℕ} → sum ≡ rates_sum rates → m ≡ month_in start → d ≡ day_in start
    → SomeIff r (0 < m + d) (sum % (m + d)) → unwrap_or r sum ≡ checksum_for start rates
unfolding checksum_for
checksum-read start rates None {sum = sum} {m = m} {d = d} sum≡ m≡ d≡ none =
    let zero : month_in start + day_in start ≡ 0 = rw (m≡, d≡) at (zero-of (m + d) none) in
    rw (zero, sum≡) (sym (mod-zero (rates_sum rates)))
  where
    zero-of : (k : ℕ) → (0 < k → ⊥) → k ≡ 0
    zero-of zero h = refl
    zero-of (suc k) h = absurd (h (omega arith))
checksum-read start rates (Some x) sum≡ m≡ d≡ both = both.1 ∙ rw (sum≡, m≡, d≡) refl

-- of as many rates as a record can have
pub checksum-is : (start rates : List ℕ) → length rates ≤ 99999 → checksum_for start rates ≡ checksum_of start rates
unfolding checksum_for checksum_of rates_sum
checksum-is start rates h = rw (le-leb (length rates) 99999 h) refl
