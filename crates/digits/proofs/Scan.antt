-- Laws of a loop that goes through a list by an index: what the rest from i on is, at i + 1 and at the end.
use Prim.Native.Nat.{ℕ, suc, ◌+◌, ◌≤◌, ◌<◌, ◌-◌, ◌%◌, ◌^◌, max}
use mathlib.Core.Path.{◌≡◌, ◌∙◌, refl, sym, ap}
use mathlib.Core.Bool.{Bool, true, false, ◌&&◌, and_assoc, and-true, and-false}
use mathlib.Core.List.{List, [], ◌∷◌, ◌++◌, map}
use native.Mathlib.Nat.{sub-zero, pow-le-pow_right, lt_of_lt_of_le}
use native.Mathlib.Omega.{arith}
use borrow.Author.Tests.{le-leb, lt-leb, leb-true, leb-false}
use lib.Dec.{leb, eqb, lit<}
use lib.ListN.{length, get_or, drop, drop_of_length-le, length-append}
use lib.Seq.{drop-drop}
use Rattle.std.proofs.lemmas.List.{drop_at}
use Rattle.rules.specs.Digits.{all_at_most, all_ascii, same_bytes}
use Rattle.rules.specs.File.{sum}
use Rattle.digits.specs.Decimal.{decimal_of, ascii_of, all_from, number_from}
use Rattle.laws.proofs.Bytes.{at_next}

-- the greater of two numbers is at most m where both are
pub max-at-most : (a b m : ℕ) → leb (max a b) m ≡ (leb a m && leb b m)
max-at-most a b m = go (leb a m) refl (leb b m) refl
  where
    go : (s : Bool) → leb a m ≡ s → (t : Bool) → leb b m ≡ t → leb (max a b) m ≡ (s && t)
    go true e true f = let h = leb-true a m e in let k = leb-true b m f in le-leb (max a b) m (omega arith)
    go true e false f = let k = leb-false b m f in lt-leb (max a b) m (omega arith)
    go false e t f = let h = leb-false a m e in lt-leb (max a b) m (omega arith)

-- ---- a test of each byte, for any test: the flag b says that the bytes below i passed
module _ (test : ℕ → Bool) (all : List ℕ → Bool) (none : all [] ≡ true)
    (more : (x : ℕ) (xs : List ℕ) → all (x ∷ xs) ≡ (test x && all xs)) where
  pub all-step : (s : List ℕ) (i : ℕ) (b : Bool) → i < length s → (b && all (drop i s)) ≡ ((b && test (get_or s i 0)) && all (drop (i + 1) s))
  all-step s i b h =
      rw (at_next s i h, more (get_or s i 0) (drop (i + 1) s)) (sym (and_assoc b (test (get_or s i 0)) (all (drop (i + 1) s))))

  pub all_end : (s : List ℕ) (i : ℕ) (b : Bool) → length s ≤ i → (b && all (drop i s)) ≡ b
  all_end s i b h = rw (drop_of_length-le s h, none) (and-true b)

  -- the same by the worst value v of the bytes below i, which is at most m where all passed
  module _ (value : ℕ → ℕ) (m : ℕ) where
    pub worst-step : (s : List ℕ) (i v : ℕ) → i < length s → test (get_or s i 0) ≡ leb (value (get_or s i 0)) m
        → (leb v m && all (drop i s)) ≡ (leb (max v (value (get_or s i 0))) m && all (drop (i + 1) s))
    worst-step s i v h e = rw (max-at-most v (value (get_or s i 0)) m, sym e) (all-step s i (leb v m) h)

module _ (s : List ℕ) (i v m : ℕ) where
  pub greatest_step : i < length s → (leb v m && all_at_most m (drop i s)) ≡ (leb (max v (get_or s i 0)) m && all_at_most m (drop (i + 1) s))
  unfolding all_at_most
  greatest_step h = worst-step (λ x. leb x m) (all_at_most m) refl (λ x xs. refl) (λ x. x) m s i v h refl

module _ (s : List ℕ) (i : ℕ) (b : Bool) where
  pub flag_step : (m : ℕ) → i < length s → (b && all_at_most m (drop i s)) ≡ ((b && leb (get_or s i 0) m) && all_at_most m (drop (i + 1) s))
  unfolding all_at_most
  flag_step m = all-step (λ x. leb x m) (all_at_most m) refl (λ x xs. refl) s i b

  pub flag_end : (m : ℕ) → length s ≤ i → (b && all_at_most m (drop i s)) ≡ b
  unfolding all_at_most
  flag_end m = all_end (λ x. leb x m) (all_at_most m) refl (λ x xs. refl) s i b

  pub ascii_step : i < length s
      → (b && all_ascii (drop i s)) ≡ ((b && (leb 48 (get_or s i 0) && leb (get_or s i 0) 57)) && all_ascii (drop (i + 1) s))
  unfolding all_ascii
  ascii_step = all-step (λ x. leb 48 x && leb x 57) all_ascii refl (λ x xs. refl) s i b

  pub ascii_end : length s ≤ i → (b && all_ascii (drop i s)) ≡ b
  unfolding all_ascii
  ascii_end = all_end (λ x. leb 48 x && leb x 57) all_ascii refl (λ x xs. refl) s i b

-- two lists: the first byte of each, and their ends
module _ (b : Bool) {s t : List ℕ} where
  pub same_next : {x y : ℕ} {s' t' : List ℕ} → s ≡ x ∷ s' → t ≡ y ∷ t' → (b && same_bytes s t) ≡ ((b && eqb x y) && same_bytes s' t')
  unfolding same_bytes
  same_next {x} {y} {s'} {t'} e f = rw (e, f) (sym (and_assoc b (eqb x y) (same_bytes s' t')))

  pub same_none : s ≡ [] → t ≡ [] → (b && same_bytes s t) ≡ b
  unfolding same_bytes
  same_none e f = rw (e, f) (and-true b)

-- lists of two lengths are not the same
pub same_length : (s t : List ℕ) → (length s ≡ length t → ⊥) → same_bytes s t ≡ false
unfolding same_bytes
same_length [] [] h = absurd (h refl)
same_length [] (y ∷ t) h = refl
same_length (x ∷ s) [] h = refl
same_length (x ∷ s) (y ∷ t) h = rw (same_length s t (λ e. h (ap suc e))) (and-false (eqb x y))

-- a digit more, and a byte that is no digit, where the byte `first` is the digit 0
module _ (first : ℕ) (s : List ℕ) (i : ℕ) (h : i < length s) where
  pub digit-step : first ≤ get_or s i 0 → get_or s i 0 - first ≤ 9 → all_from first (drop i s) ≡ all_from first (drop (i + 1) s)
  unfolding all_from
  digit-step l m = rw (at_next s i h) (rw (le-leb first (get_or s i 0) l, le-leb (get_or s i 0) (first + 9) (omega arith)) refl)

  pub digit-stop : (first ≤ get_or s i 0 → first + 9 < get_or s i 0) → all_from first (drop i s) ≡ false
  unfolding all_from
  digit-stop l = rw (at_next s i h) (go (leb first (get_or s i 0)) refl)
    where
      go : (t : Bool) → leb first (get_or s i 0) ≡ t → (t && leb (get_or s i 0) (first + 9) && all_from first (drop (i + 1) s)) ≡ false
      go true e = rw (lt-leb (get_or s i 0) (first + 9) (l (leb-true first (get_or s i 0) e))) refl
      go false e = refl

-- bytes of value 0 to 9
from-0 : (s : List ℕ) → all_from 0 s ≡ all_at_most 9 s
unfolding all_from all_at_most
from-0 [] = refl
from-0 (x ∷ s) = rw (le-leb 0 x (omega arith), from-0 s) refl

less-0 : (s : List ℕ) → map (λ x. x - 0) s ≡ s
less-0 [] = refl
less-0 (x ∷ s) = rw (sub-zero, less-0 s) refl

pub digits_from : (s : List ℕ) → number_from 0 s ≡ decimal_of s
unfolding number_from decimal_of
digits_from s = rw (from-0 s, less-0 s) refl

-- ASCII digits
from-48 : (s : List ℕ) → all_from 48 s ≡ all_ascii s
unfolding all_from all_ascii
from-48 [] = refl
from-48 (x ∷ s) = rw (from-48 s) refl

pub ascii_from : (s : List ℕ) → number_from 48 s ≡ ascii_of s
unfolding number_from ascii_of
ascii_from s = rw (from-48 s) refl

-- at most 14 digits fit
pub fits-digits : (v i : ℕ) → v < 10 ^ i → i ≤ 14 → v < 10 ^ 14
fits-digits v i h l = lt_of_lt_of_le h (pow-le-pow_right (lit< tt) l)

-- a list is summed by its two parts
pub sum-append : (s t : List ℕ) → sum (s ++ t) ≡ sum s + sum t
unfolding sum
sum-append [] t = omega arith
sum-append (x ∷ s) t = let e = sum-append s t in omega arith

-- what whole stretches of 256 bytes leave of a list: they leave as much of it without its first
abbrev pub remainder : List ℕ → List ℕ
remainder s = drop (length s - length s % 256) s

pub remainder-next : {s : List ℕ} (a t : List ℕ) → s ≡ a ++ t → length a ≡ 256 → remainder t ≡ remainder s
remainder-next {s} a t e h =
    let long = simp length-append at (ap length e) in
    let rest : length s - length s % 256 ≡ 256 + (length t - length t % 256) = omega arith in
    sym (rw rest (sym (drop-drop (length t - length t % 256) 256 s) ∙ ap (drop (length t - length t % 256)) (ap (drop 256) e ∙ drop_at a t 256 h)))

-- a stretch's sum: its byte at i, and the rest
pub sum_step : (s : List ℕ) (i : ℕ) → i < length s → sum (drop i s) ≡ get_or s i 0 + sum (drop (i + 1) s)
unfolding sum
sum_step s i h = rw (at_next s i h) refl

pub sum_end : (s : List ℕ) (i : ℕ) → length s ≤ i → sum (drop i s) ≡ 0
unfolding sum
sum_end s i h = rw (drop_of_length-le s h) refl
