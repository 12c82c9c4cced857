-- Laws of parts of a list of bytes: their lengths, parts of parts, and what holds of every byte.
use Prim.Native.Nat.{ℕ, zero, suc, ◌+◌, ◌-◌, ◌≤◌}
use mathlib.Core.Path.{◌≡◌, ◌∙◌, refl, sym, ap}
use mathlib.Core.Bool.{true}
use mathlib.Core.List.{List, [], ◌∷◌}
use native.Mathlib.Nat.{add-sub_cancel_left}
use native.Mathlib.Omega.{arith}
use lib.Dec.{leb, eqb}
use lib.ListN.{length, take, drop}
use lib.Seq.{take-take, drop-drop}
use borrow.Author.Tests.{eqb-true}
use Rattle.rules.specs.Digits.{part, all_at_most, all_digits, digits}
use Rattle.laws.proofs.Tests.{both}

take_in : (i k n : ℕ) (l : List ℕ) → i + k ≤ n → take k (drop i (take n l)) ≡ take k (drop i l)
take_in zero k n l h = take-take k n l (omega arith)
take_in (suc i) k zero l h = absurd (omega arith)
take_in (suc i) k (suc n) [] h = refl
take_in (suc i) k (suc n) (x ∷ l) h = take_in i k n l (omega arith)

-- a part of a part
pub part-part : (s : List ℕ) (m n i k : ℕ) → i + k ≤ n → part (part s m n) i k ≡ part s (m + i) k
part-part s m n i k h = take_in i k n (drop m s) h ∙ ap (take k) (drop-drop i m s)

-- `&s[a..a + n]` is the n bytes from a on
pub part-to : (s : List ℕ) (a n : ℕ) → part s a (a + n - a) ≡ part s a n
part-to s a n = ap (λ (k : ℕ). part s a k) (add-sub_cancel_left a n)

-- what holds of each byte holds of each byte of a part
module _ (m : ℕ) where
  at-most-take : (k : ℕ) (s : List ℕ) → all_at_most m s ≡ true → all_at_most m (take k s) ≡ true
  unfolding all_at_most
  at-most-take zero s e = refl
  at-most-take (suc k) [] e = refl
  at-most-take (suc k) (x ∷ s) e =
      let b = both (leb x m) (all_at_most m s) e in
      rw b.0 (at-most-take k s b.1)

  at-most-drop : (i : ℕ) (s : List ℕ) → all_at_most m s ≡ true → all_at_most m (drop i s) ≡ true
  unfolding all_at_most
  at-most-drop zero s e = e
  at-most-drop (suc i) [] e = refl
  at-most-drop (suc i) (x ∷ s) e = at-most-drop i s (both (leb x m) (all_at_most m s) e).1

  pub at-most-part : (s : List ℕ) (a n i k : ℕ) → i + k ≤ n → all_at_most m (part s a n) ≡ true → all_at_most m (part s (a + i) k) ≡ true
  at-most-part s a n i k h e = rw (sym (part-part s a n i k h)) (at-most-take k (drop i (part s a n)) (at-most-drop i (part s a n) e))

pub digits-length : (k : ℕ) (s : List ℕ) → digits k s ≡ true → length s ≡ k
digits-length k s e = eqb-true (length s) k (both (eqb (length s) k) (all_digits s) e).0
