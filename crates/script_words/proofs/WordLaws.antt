-- Laws of words: the first place of a byte as `std`'s chain says it, spaces counted step by step, and the rest behind a word as a part of a slice.
use Prim.Native.Nat.{ℕ, zero, suc, ◌+◌, ◌-◌, ◌≤◌, ◌<◌, min}
use mathlib.Core.Path.{◌≡◌, ◌∙◌, refl, ap}
use mathlib.Core.List.{List}
use native.Mathlib.Numerals.{add-one}
use native.Mathlib.Omega.{arith}
use borrow.Author.Tests.{eq-eqb, ne_eqb}
use lib.ListN.{length, get_or, take, drop, drop_of_length-le}
use Rattle.std.specs.List.{AllWithin, HoldsAt}
use Rattle.std.specs.Option.{MatchOption, unwrap_or}
use Rattle.std.proofs.Common.{Option, ◌≢◌}
use Rattle.std.proofs.lemmas.Iterator.{index_from_first}
use Rattle.laws.proofs.Bytes.{at_next, drop-most, part-rest}
use Rattle.script_words.specs.Words.{place_of, space, spaces, after_word, word_at}

-- ---- what the chains of `std` say

-- as `position` says it: no byte of x is b, or the one at i is the first
abbrev pub IsFirst : ℕ → List ℕ → Option ℕ → Type 0
IsFirst b x r =
    let none : ℕ → Type 0 = λ n. AllWithin (λ y. y ≢ b) x 0 n in
    MatchOption r (none (length x)) (λ i. (i < length x) × HoldsAt (λ y. y ≡ b) x i × none i)

pub first-place : (b : ℕ) (x : List ℕ) (r : Option ℕ) → IsFirst b x r → place_of b x ≡ unwrap_or r (length x)
unfolding place_of
first-place b =
    index_from_first (place_of b) (λ y. y ≡ b) (λ y. y ≢ b) refl
    (λ y s e. rw (eq-eqb y b e) refl)
    (λ y s ne. rw (ne_eqb y b ne, add-one) refl)

-- ---- spaces counted step by step

module _ (x : List ℕ) (i n : ℕ) where
  pub space-more : i < length x → get_or x i 0 ≡ 32 → n + spaces (drop i x) ≡ n + 1 + spaces (drop (i + 1) x)
  unfolding spaces
  space-more h e = rw (at_next x i h) (rw (eq-eqb (get_or x i 0) 32 e) (omega arith))

  pub space-other : i < length x → (get_or x i 0 ≡ 32 → ⊥) → n + spaces (drop i x) ≡ n + spaces (drop (i + 1) x)
  unfolding spaces
  space-other h ne = rw (at_next x i h) (rw (ne_eqb (get_or x i 0) 32 ne) refl)

  pub space-ends : length x ≤ i → n + spaces (drop i x) ≡ n
  unfolding spaces
  space-ends h = rw drop_of_length-le (omega arith)

-- ---- a word more

-- the rest behind the first word and its space, as a part of a slice
pub after-part : (t : List ℕ) (p k : ℕ) → p ≡ place_of space t → k ≡ min (p + 1) (length t) → take (length t - k) (drop k t) ≡ after_word t
after-part t p k e f =
    part-rest t k
    ∙ ap (λ (j : ℕ). drop j t) f
    ∙ drop-most (p + 1) t
    ∙ ap (λ (j : ℕ). drop (j + 1) t) e

pub word_more : (k i : ℕ) (t u : List ℕ) → i < k → u ≡ after_word t → word_at (k - i) t ≡ word_at (k - (i + 1)) u
unfolding word_at
word_more k i t u h e =
    let m : k - i ≡ suc (k - (i + 1)) = omega arith in
    rw (m, e) refl

pub word-ends : (n : ℕ) (t : List ℕ) (p : ℕ) → n ≤ 0 → p ≡ place_of space t → word_at n t ≡ take p t
unfolding word_at
word-ends zero t p h e = rw e refl
word-ends (suc n) t p h e = absurd (omega arith)
