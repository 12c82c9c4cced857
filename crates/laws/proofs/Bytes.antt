-- Laws of lists of bytes: their parts and places, equal ones, digits and the numbers that they stand for.
use Prim.Native.Nat.{ℕ, zero, suc, ◌+◌, ◌-◌, ◌*◌, ◌/◌, ◌%◌, ◌^◌, ◌≤◌, ◌<◌, min}
use mathlib.Core.Path.{◌≡◌, ◌∙◌, refl, sym, ap}
use mathlib.Core.Bool.{Bool, true, false, ◌&&◌, false≢true}
use mathlib.Core.List.{List, [], ◌∷◌, ◌++◌}
use native.Mathlib.Nat.{pow-suc, add-zero, min-eq_left}
use native.Mathlib.Numerals.{add-one}
use native.Mathlib.Omega.{arith}
use lib.Dec.{leb, eqb, lit<}
use lib.ListN.{length, get_or, drop, length-append, length-drop, drop_of_length-le, take}
use lib.Pointwise.{pointwise}
use lib.Seq.{drop-cons, drop-length, length-take-le, drop-append-le, take-append-le, take_all}
use borrow.Author.Tests.{leb-true, leb-false, le-leb, eqb-true, eq-eqb}
use Rattle.rules.specs.Digits.{part, all_at_most, all_digits, all_ascii, from_ascii, value_from, value, decimal, same_bytes}
use Rattle.laws.proofs.Tests.{both, join}

-- ---- places

-- the rest from i on is the element at i and the rest from i + 1 on
pub at_next : (s : List ℕ) (i : ℕ) → i < length s → drop i s ≡ get_or s i 0 ∷ drop (i + 1) s
at_next s i h = rw add-one (drop-cons s i 0 h)

pub part_length : (s : List ℕ) (i k : ℕ) → i + k ≤ length s → length (part s i k) ≡ k
part_length s i k h = length-take-le k (drop i s) (simp length-drop (omega arith))

-- a part of the front
pub part-front : (s t : List ℕ) (i n : ℕ) → i + n ≤ length s → part (s ++ t) i n ≡ part s i n
part-front s t i n h =
    let l = length-drop i s in
    rw (drop-append-le i s t (omega arith), take-append-le n (drop i s) t (omega arith)) refl

-- `&s[a..]` is the rest from a on
pub part-rest : (s : List ℕ) (a : ℕ) → take (length s - a) (drop a s) ≡ drop a s
part-rest s a = take_all (length s - a) (drop a s) (simp length-drop (omega arith))

-- no more can be dropped than there is
pub drop-most : (k : ℕ) (x : List ℕ) → drop (min k (length x)) x ≡ drop k x
drop-most k x = go (leb k (length x)) refl
  where
    go : (t : Bool) → leb k (length x) ≡ t → drop (min k (length x)) x ≡ drop k x
    go true h = ap (λ (j : ℕ). drop j x) (min-eq_left (leb-true k (length x) h))
    go false h =
        let l : length x < k = leb-false k (length x) h in
        let m : min k (length x) ≡ length x = omega arith in
        let n : length x ≤ k = omega arith in
        ap (λ (j : ℕ). drop j x) m ∙ drop-length x ∙ sym (drop_of_length-le x n)

-- ---- every byte

-- past the end get_or is 0, so that this holds at every place
pub at-most-at : (m : ℕ) (s : List ℕ) (i : ℕ) → all_at_most m s ≡ true → get_or s i 0 ≤ m
unfolding all_at_most
at-most-at m [] i e = omega arith
at-most-at m (x ∷ s) zero e = leb-true x m (both (leb x m) (all_at_most m s) e).0
at-most-at m (x ∷ s) (suc i) e = at-most-at m s i (both (leb x m) (all_at_most m s) e).1

-- ---- the same bytes

pub same-equal : (s t : List ℕ) → same_bytes s t ≡ true → s ≡ t
unfolding same_bytes
same-equal [] [] e = refl
same-equal [] (y ∷ t) e = absurd (false≢true e)
same-equal (x ∷ s) [] e = absurd (false≢true e)
same-equal (x ∷ s) (y ∷ t) e =
    let p = both (eqb x y) (same_bytes s t) e in
    rw (eqb-true x y p.0, same-equal s t p.1) refl

-- what `==` says of slices
pub pointwise-same : (s t : List ℕ) → pointwise eqb s t ≡ same_bytes s t
unfolding same_bytes
pointwise-same [] [] = refl
pointwise-same [] (y ∷ t) = refl
pointwise-same (x ∷ s) [] = refl
pointwise-same (x ∷ s) (y ∷ t) = ap (λ (b : Bool). eqb x y && b) (pointwise-same s t)

pub same_self : (s : List ℕ) → same_bytes s s ≡ true
unfolding same_bytes
same_self [] = refl
same_self (x ∷ s) = rw (eq-eqb x x refl) (same_self s)

pub equal-same : {s t : List ℕ} → s ≡ t → same_bytes s t ≡ true
equal-same {s} {t} e = rw e (same_self t)

-- ---- digits

pub ascii-digits : (s : List ℕ) → all_ascii s ≡ true → all_digits (from_ascii s) ≡ true
unfolding all_ascii all_at_most
ascii-digits [] e = refl
ascii-digits (x ∷ s) e =
    let p = both (leb 48 x && leb x 57) (all_ascii s) e in
    let l = leb-true x 57 (both (leb 48 x) (leb x 57) p.0).1 in
    join (le-leb (x - 48) 9 (omega arith)) (ascii-digits s p.1)

pub length-decimal : (k n : ℕ) → length (decimal k n) ≡ k
unfolding decimal
length-decimal zero n = refl
length-decimal (suc k) n = length-append (decimal k (n / 10)) (n % 10 ∷ []) ∙ ap (λ (m : ℕ). m + 1) (length-decimal k (n / 10)) ∙ add-one k

-- a value of i digits, and one digit more
pub more-digits : (v d i : ℕ) → v < 10 ^ i → d ≤ 9 → v * 10 + d < 10 ^ (i + 1)
more-digits v d i h l = rw (add-one i, pow-suc 10 i) (omega arith)

value-bound : (s : List ℕ) (acc i : ℕ) → acc < 10 ^ i → all_digits s ≡ true → value_from acc s < 10 ^ (i + length s)
unfolding value_from all_at_most
value-bound [] acc i h p = rw add-zero h
value-bound (x ∷ s) acc i h p =
    let p' = both (leb x 9) (all_digits s) p in
    let b = value-bound s (acc * 10 + x) (i + 1) (more-digits acc x i h (leb-true x 9 p'.0)) p'.1 in
    let e : i + suc (length s) ≡ i + 1 + length s = omega arith in
    rw e b

-- the value of k digits
pub value-small : (s : List ℕ) (k : ℕ) → length s ≡ k → all_digits s ≡ true → value s < 10 ^ k
value-small s k l p =
    let e : 0 + length s ≡ k = omega arith in
    rw (sym e) (value-bound s 0 0 (lit< tt) p)
