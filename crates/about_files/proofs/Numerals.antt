-- `decimal` and `value` are inverse to each other, and digits in ASCII are read back as they were.
use Prim.Native.Nat.{ℕ, zero, suc, ◌+◌, ◌-◌, ◌*◌, ◌/◌, ◌%◌, ◌^◌, ◌≤◌, ◌<◌}
use mathlib.Core.Path.{◌≡◌, ◌∙◌, refl, sym, ap, ap₂}
use mathlib.Core.Bool.{Bool, true, ◌&&◌, and_assoc}
use mathlib.Core.List.{List, [], ◌∷◌, ◌++◌}
use native.Mathlib.Nat.{pow-suc}
use native.Mathlib.Omega.{arith}
use lib.Dec.{leb}
use lib.ListN.{length}
use borrow.Author.Tests.{le-leb, leb-true}
use Rattle.rules.specs.Digits.{all_at_most, all_digits, digits, value_from, value, decimal, all_ascii, to_ascii, from_ascii}
use Rattle.laws.proofs.Tests.{both, join}
use Rattle.laws.proofs.Bytes.{length-decimal, value-small}
use Rattle.laws.proofs.Facts.{of-digits}

pub all_append : (m : ℕ) (s t : List ℕ) → all_at_most m (s ++ t) ≡ (all_at_most m s && all_at_most m t)
unfolding all_at_most
all_append m [] t = refl
all_append m (x ∷ s) t = ap (λ (b : Bool). leb x m && b) (all_append m s t) ∙ sym (and_assoc (leb x m) (all_at_most m s) (all_at_most m t))

value-snoc : (s : List ℕ) (acc d : ℕ) → value_from acc (s ++ (d ∷ [])) ≡ value_from acc s * 10 + d
unfolding value_from
value-snoc [] acc d = refl
value-snoc (x ∷ s) acc d = value-snoc s (acc * 10 + x) d

pub digits_decimal : (k n : ℕ) → all_digits (decimal k n) ≡ true
unfolding decimal all_at_most
digits_decimal zero n = refl
digits_decimal (suc k) n =
    all_append 9 (decimal k (n / 10)) (n % 10 ∷ []) ∙ rw (digits_decimal k (n / 10), le-leb (n % 10) 9 (omega arith)) refl

-- k digits of a number below 10^k say that number
pub value-decimal : (k n : ℕ) → n < 10 ^ k → value (decimal k n) ≡ n
unfolding decimal value_from
value-decimal zero n h = omega arith
value-decimal (suc k) n h =
    let h' : n < 10 ^ k * 10 = rw pow-suc at h in
    value-snoc (decimal k (n / 10)) 0 (n % 10) ∙ rw (value-decimal k (n / 10) (omega arith)) (omega arith)

-- two lists of digits of one length and one value are the same
same-value : (s t : List ℕ) (a b : ℕ) → length s ≡ length t → all_digits s ≡ true → all_digits t ≡ true → value_from a s ≡ value_from b t
    → (a ≡ b) × (s ≡ t)
unfolding value_from all_at_most
same-value [] [] a b l p q e = (e, refl)
same-value [] (y ∷ t) a b l p q e = absurd (omega arith)
same-value (x ∷ s) [] a b l p q e = absurd (omega arith)
same-value (x ∷ s) (y ∷ t) a b l p q e =
    let p' = both (leb x 9) (all_digits s) p in
    let q' = both (leb y 9) (all_digits t) q in
    let x≤ : x ≤ 9 = leb-true x 9 p'.0 in
    let y≤ : y ≤ 9 = leb-true y 9 q'.0 in
    let r = same-value s t (a * 10 + x) (b * 10 + y) (omega arith) p'.1 q'.1 e in
    let r₀ : a * 10 + x ≡ b * 10 + y = r.0 in
    let x≡ : x ≡ y = omega arith in
    (omega arith, ap₂ (λ (z : ℕ) (zs : List ℕ). z ∷ zs) x≡ r.1)

-- k digits are what their value is written as
pub decimal-value : (s : List ℕ) (k : ℕ) → length s ≡ k → all_digits s ≡ true → decimal k (value s) ≡ s
decimal-value s k l p =
    (same-value (decimal k (value s)) s 0 0 (length-decimal k (value s) ∙ sym l) (digits_decimal k (value s)) p
    (value-decimal k (value s) (value-small s k l p))).1

-- ---- the test for k digits
pub facts-digits : (k : ℕ) (s : List ℕ) → length s ≡ k → all_digits s ≡ true → digits k s ≡ true
facts-digits k s l p = of-digits k s (record { long = l; each = p })

pub decimal-digits : (k n : ℕ) → digits k (decimal k n) ≡ true
decimal-digits k n = facts-digits k (decimal k n) (length-decimal k n) (digits_decimal k n)

-- ---- digits in ASCII
pub from-to : (s : List ℕ) → from_ascii (to_ascii s) ≡ s
from-to [] = refl
from-to (x ∷ s) = let h : x + 48 - 48 ≡ x = omega arith in rw (h, from-to s) refl

pub to-from : (s : List ℕ) → all_ascii s ≡ true → to_ascii (from_ascii s) ≡ s
unfolding all_ascii
to-from [] e = refl
to-from (x ∷ s) e =
    let p = both (leb 48 x && leb x 57) (all_ascii s) e in
    let l = leb-true 48 x (both (leb 48 x) (leb x 57) p.0).0 in
    let h : x - 48 + 48 ≡ x = omega arith in
    rw (h, to-from s p.1) refl

pub digits-ascii : (s : List ℕ) → all_digits s ≡ true → all_ascii (to_ascii s) ≡ true
unfolding all_ascii all_at_most
digits-ascii [] e = refl
digits-ascii (x ∷ s) e =
    let p = both (leb x 9) (all_digits s) e in
    let l = leb-true x 9 p.0 in
    join (join (le-leb 48 (x + 48) (omega arith)) (le-leb (x + 48) 57 (omega arith))) (digits-ascii s p.1)
