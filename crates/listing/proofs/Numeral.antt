-- Laws of a numeral: the digits of a number, with no zeros before it, one digit at a time, and how many there are.
use Prim.Native.Nat.{ℕ, zero, suc, ◌+◌, ◌*◌, ◌/◌, ◌%◌, ◌^◌, ◌≤◌, ◌<◌}
use mathlib.Core.Path.{◌≡◌, ◌∙◌, refl, sym, ap}
use mathlib.Core.Bool.{Bool, true, false, cond}
use mathlib.Core.List.{List, [], ◌∷◌, ◌++◌, map}
use native.Mathlib.Nat.{pow-suc, pow-le-pow_right, lt_of_lt_of_le}
use native.Mathlib.Omega.{arith}
use borrow.Author.Tests.{eqb-true, eqb-false, ne_eqb}
use lib.Dec.{eqb, lit<}
use lib.ListN.{length, length-append, length-map}
use Rattle.rules.specs.Digits.{decimal, to_ascii}
use Rattle.rules.specs.File.{sum}
use Rattle.rules.specs.Lister.{trim, numeral}
use Rattle.laws.proofs.Bytes.{length-decimal}

-- a digit more than a number needs is a zero before it
lead : (k n : ℕ) → n < 10 ^ k → decimal (suc k) n ≡ 0 ∷ decimal k n
unfolding decimal
lead zero n h = let z : n ≡ 0 = omega arith in rw z refl
lead (suc k) n h =
    let h' : n < 10 ^ k * 10 = rw pow-suc at h in
    let q : n / 10 < 10 ^ k = omega arith in
    rw (lead k (n / 10) q) refl

-- it goes, unless it is the only digit
trim-zero : (s : List ℕ) → 0 < length s → trim (0 ∷ s) ≡ trim s
unfolding trim
trim-zero [] h = absurd (omega arith)
trim-zero (x ∷ s) h = refl

-- so the numeral is the same from any count of digits that suffices
trim-lead : (k n : ℕ) → n < 10 ^ suc k → trim (decimal (suc (suc k)) n) ≡ trim (decimal (suc k) n)
trim-lead k n h = rw (lead (suc k) n h) (trim-zero (decimal (suc k) n) (rw length-decimal (omega arith)))

pub trim-enough : (j k n : ℕ) → n < 10 ^ suc k → trim (decimal (j + suc k) n) ≡ trim (decimal (suc k) n)
trim-enough zero k n h = rw (zero-plus (suc k)) refl
  where
    zero-plus : (m : ℕ) → zero + m ≡ m
    zero-plus m = omega arith
trim-enough (suc j) k n h =
    let e : suc j + suc k ≡ suc (suc (j + k)) = omega arith in
    let e' : j + suc k ≡ suc (j + k) = omega arith in
    let m : n < 10 ^ suc (j + k) = lt_of_lt_of_le h (pow-le-pow_right (lit< tt) (omega arith)) in
    rw (e, trim-lead (j + k) n m) (rw e' at (trim-enough j k n h))

-- a digit behind a number that is not 0
trim-behind : (s : List ℕ) (d : ℕ) → 0 < sum s → trim (s ++ (d ∷ [])) ≡ trim s ++ (d ∷ [])
unfolding trim sum
trim-behind [] d h = absurd (omega arith)
trim-behind (x ∷ []) d h = rw (ne_eqb x 0 (omega arith)) refl
trim-behind (x ∷ y ∷ s) d h = go (eqb x 0) refl (λ p. trim-behind (y ∷ s) d p)
  where
    go : (b : Bool) → eqb x 0 ≡ b → (0 < sum (y ∷ s) → trim ((y ∷ s) ++ (d ∷ [])) ≡ trim (y ∷ s) ++ (d ∷ []))
        → trim ((x ∷ y ∷ s) ++ (d ∷ [])) ≡ trim (x ∷ y ∷ s) ++ (d ∷ [])
    go true e ih = let z : x ≡ 0 = eqb-true x 0 e in rw e (ih (omega arith))
    go false e ih = rw e refl

sum-behind : (s : List ℕ) (d : ℕ) → sum (s ++ (d ∷ [])) ≡ sum s + d
unfolding sum
sum-behind [] d = omega arith
sum-behind (x ∷ s) d = rw (sum-behind s d) (omega arith)

-- some digit of a number above 0 is above 0
sum-above : (k n : ℕ) → n < 10 ^ k → 0 < n → 0 < sum (decimal k n)
unfolding decimal sum
sum-above zero n h p = absurd (omega arith)
sum-above (suc k) n h p =
    rw (sum-behind (decimal k (n / 10)) (n % 10))
    (go (eqb (n % 10) 0) refl (λ q. sum-above k (n / 10) (omega (arith, rw pow-suc at h)) q))
  where
    go : (b : Bool) → eqb (n % 10) 0 ≡ b → (0 < n / 10 → 0 < sum (decimal k (n / 10))) → 0 < sum (decimal k (n / 10)) + n % 10
    go true e ih = let z : n % 10 ≡ 0 = eqb-true (n % 10) 0 e in let t = ih (omega arith) in omega arith
    go false e ih = let z = eqb-false (n % 10) 0 e in omega arith

map-append : (f : ℕ → ℕ) (s t : List ℕ) → map f (s ++ t) ≡ map f s ++ map f t
map-append f [] t = refl
map-append f (x ∷ s) t = ap (λ (l : List ℕ). f x ∷ l) (map-append f s t)

pub numeral_one : (n : ℕ) → n < 10 → numeral n ≡ (n % 10 + 48) ∷ []
unfolding decimal trim
numeral_one n h = ap to_ascii (trim-enough 19 0 n h)

pub numeral-more : (n : ℕ) → 10 ≤ n → n < 10 ^ 20 → numeral n ≡ numeral (n / 10) ++ ((n % 10 + 48) ∷ [])
unfolding decimal
numeral-more n h l =
    let q : n / 10 < 10 ^ 19 = omega arith in
    ap to_ascii (trim-behind (decimal 19 (n / 10)) (n % 10) (sum-above 19 (n / 10) q (omega arith))
    ∙ ap (λ (s : List ℕ). s ++ (n % 10 ∷ [])) (sym (trim-enough 1 18 (n / 10) q)))
    ∙ map-append (λ d. d + 48) (trim (decimal 20 (n / 10))) (n % 10 ∷ [])

pub digits_more : (n : ℕ) → 10 ≤ n → n < 10 ^ 20 → length (numeral n) ≡ length (numeral (n / 10)) + 1
digits_more n h l = ap length (numeral-more n h l) ∙ length-append (numeral (n / 10)) ((n % 10 + 48) ∷ [])

length-trim : (s : List ℕ) → length (trim s) ≤ length s
unfolding trim
length-trim [] = omega arith
length-trim (x ∷ []) = omega arith
length-trim (x ∷ y ∷ s) = go (eqb x 0) (length-trim (y ∷ s))
  where
    go : (b : Bool) → length (trim (y ∷ s)) ≤ length (y ∷ s) → length (cond b (trim (y ∷ s)) (x ∷ y ∷ s)) ≤ length (x ∷ y ∷ s)
    go true h = omega arith
    go false h = omega arith

-- a number below 10 ^ (k + 1) has at most k + 1 digits
pub numeral-short : (j k n : ℕ) → j + suc k ≡ 20 → n < 10 ^ suc k → length (numeral n) ≤ suc k
numeral-short j k n e h =
    let m : length (trim (decimal (suc k) n)) ≤ suc k = omega (arith, length-trim (decimal (suc k) n), length-decimal (suc k) n) in
    rw (length-map (trim (decimal 20 n)) (λ d. d + 48), sym e, trim-enough j k n h) m

-- as many digits as the numbers of a line have, and as any u64 has
pub numeral_two : (n : ℕ) → n < 100 → length (numeral n) ≤ 2
numeral_two n h = numeral-short 18 1 n refl h

pub numeral_three : (n : ℕ) → n < 1000 → length (numeral n) ≤ 3
numeral_three n h = numeral-short 17 2 n refl h

pub numeral_five : (n : ℕ) → n < 100000 → length (numeral n) ≤ 5
numeral_five n h = numeral-short 15 4 n refl h

pub numeral_wide : (n : ℕ) → n < 18446744073709551616 → length (numeral n) ≤ 20
numeral_wide n h = numeral-short 0 19 n refl (omega arith)
