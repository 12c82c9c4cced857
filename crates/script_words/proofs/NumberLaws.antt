-- Laws of a number read digit by digit.
use Rattle.std.specs.Prelude.{Some, None}
use Prim.Native.Nat.{ℕ, ◌+◌, ◌≤◌, ◌<◌}
use mathlib.Core.Path.{◌≡◌, ◌∙◌, refl, ap}
use mathlib.Core.List.{List, [], ◌∷◌}
use native.Mathlib.Omega.{arith}
use lib.ListN.{length, get_or, drop, drop_of_length-le}
use Rattle.laws.proofs.Bytes.{at_next}
use Rattle.script_words.specs.Number.{decimal_step, decimal_from, number_of}

-- ---- the digits one after another

pub broken-stays : (s : List ℕ) → decimal_from s None ≡ None
unfolding decimal_from
broken-stays [] = refl
broken-stays (x ∷ s) = broken-stays s

pub none-given : (s : List ℕ) → length s ≡ 0 → number_of s ≡ None
unfolding number_of
none-given [] h = refl
none-given (x ∷ s) h = absurd (omega arith)

pub some-given : (s : List ℕ) → (length s ≡ 0 → ⊥) → number_of s ≡ decimal_from s (Some 0)
unfolding number_of
some-given [] h = absurd (h refl)
some-given (x ∷ s) h = refl

module _ (s : List ℕ) (i n : ℕ) where
  pub digit-more : {m : ℕ} → i < length s → decimal_step n (get_or s i 0) ≡ Some m
      → decimal_from (drop i s) (Some n) ≡ decimal_from (drop (i + 1) s) (Some m)
  unfolding decimal_from
  digit-more h e = rw (at_next s i h) (ap (decimal_from (drop (i + 1) s)) e)

  pub digit-none : i < length s → decimal_step n (get_or s i 0) ≡ None → decimal_from (drop i s) (Some n) ≡ None
  unfolding decimal_from
  digit-none h e = rw (at_next s i h) (ap (decimal_from (drop (i + 1) s)) e ∙ broken-stays (drop (i + 1) s))

  pub digit-last : length s ≤ i → decimal_from (drop i s) (Some n) ≡ Some n
  unfolding decimal_from
  digit-last h = rw drop_of_length-le refl
