-- Laws of the plant's loops: what the part from i on gives, at i + 1 and at the end.
use Prim.Native.Nat.{ℕ, zero, suc, ◌+◌, ◌*◌, ◌%◌, ◌≤◌, ◌<◌}
use mathlib.Core.Path.{◌≡◌, ◌∙◌, refl, ap}
use mathlib.Core.Logic.{◌⊎◌, inl, inr}
use mathlib.Core.Bool.{Bool, true, false, ◌&&◌, false≢true}
use mathlib.Core.List.{List, [], ◌∷◌}
use native.Mathlib.Numerals.{add-one}
use native.Mathlib.Omega.{arith}
use native.Mathlib.Nat.{mul-le-mul_left, le_trans, le_of_suc-le-suc, eq-or-lt_of_le}
use borrow.Author.Tests.{eqb-true, leb-true}
use lib.Dec.{eqb, leb}
use lib.ListN.{length, get_or, drop}
use Rattle.rules.specs.Store.{all_below}
use Rattle.rules.specs.Plant.{weights, weighted_sum, all_hex, hex_byte}
use Rattle.laws.proofs.Bytes.{at_next}
use Rattle.laws.proofs.Tests.{both}
use Rattle.rules.specs.Digits.{all_at_most}
use Rattle.digits.proofs.Scan.{all-step, all_end}

pub hex_step : (s : List ℕ) (i : ℕ) (good : Bool) → i < length s
    → (good && all_hex (drop i s)) ≡ ((good && hex_byte (get_or s i 0)) && all_hex (drop (i + 1) s))
unfolding all_hex
hex_step = all-step hex_byte all_hex refl (λ x xs. refl)

pub hex_end : (s : List ℕ) (i : ℕ) (good : Bool) → length s ≤ i → (good && all_hex (drop i s)) ≡ good
unfolding all_hex
hex_end = all_end hex_byte all_hex refl (λ x xs. refl)

-- ---- the weighted sum

-- each number below n passes
all-at : (n : ℕ) (test : ℕ → Bool) → all_below n test ≡ true → (k : ℕ) → k < n → test k ≡ true
unfolding all_below
all-at zero test e k l = absurd (omega arith)
all-at (suc n) test e k l = go (λ r h. all-at n test r k h) (test n) refl e (eq-or-lt_of_le (le_of_suc-le-suc l))
  where
    go : (all_below n test ≡ true → k < n → test k ≡ true)
        → (b : Bool) → test n ≡ b → (b && all_below n test) ≡ true → (k ≡ n) ⊎ (k < n) → test k ≡ true
    go before true f r (inl s) = ap test s ∙ f
    go before true f r (inr h) = before r h
    go before false f r s = absurd (false≢true r)

-- the code's table has the weights of the 25 places: one computed test of it
abbrev pub weight_table : List ℕ
weight_table =
    1 ∷ 3 ∷ 5 ∷ 7 ∷ 9 ∷ 1 ∷ 3 ∷ 5 ∷ 7 ∷ 9 ∷ 1 ∷ 3 ∷ 5 ∷ 7 ∷ 9 ∷ 1 ∷ 3 ∷ 5 ∷ 7 ∷ 9 ∷ 1 ∷ 3 ∷ 5 ∷ 7 ∷ 9 ∷ []

right : ℕ → Bool
right k = eqb (get_or weight_table k 0) (get_or weights (k % 5) 0)

pub weight_is : (k : ℕ) → k < 25 → get_or weight_table k 0 ≡ get_or weights (k % 5) 0
unfolding all_below right
weight_is k l = eqb-true (get_or weight_table k 0) (get_or weights (k % 5) 0) (all-at 25 right refl k l)

-- digits times weights, summed, as far as both go
pub weigh : List ℕ → List ℕ → ℕ
weigh [] b = 0
weigh (x ∷ a) [] = 0
weigh (x ∷ a) (y ∷ b) = x * y + weigh a b

weigh-from : (i : ℕ) (s : List ℕ) → length s + i ≤ 25 → weighted_sum i s ≡ weigh s (drop i weight_table)
unfolding weighted_sum weigh
weigh-from i [] h = refl
weigh-from i (x ∷ s) h =
    let here : i < 25 = omega arith in
    rw (at_next weight_table i here, weight_is i here, add-one i, weigh-from (suc i) s (omega arith)) refl

pub weigh_all : (s : List ℕ) → length s ≤ 25 → weighted_sum 0 s ≡ weigh s weight_table
weigh_all s h = weigh-from 0 s (omega arith)

pub weights_most : all_at_most 9 weight_table ≡ true
unfolding all_at_most
weights_most = refl

-- a digit and its weight more: nine at most is the weight
module _ {a b a' b' : List ℕ} {x y : ℕ} (e : a ≡ x ∷ a') (f : b ≡ y ∷ b') where
  pub weigh-next : weigh a b ≡ x * y + weigh a' b'
  unfolding weigh
  weigh-next = rw (e, f) refl

  pub weights-next : all_at_most 9 b ≡ true → (y ≤ 9) × (all_at_most 9 b' ≡ true)
  unfolding all_at_most
  weights-next h = let p = both (leb y 9) (all_at_most 9 b') (rw f at h) in (leb-true y 9 p.0, p.1)

pub weigh-end : (a b : List ℕ) → (a ≡ []) ⊎ (b ≡ []) → weigh a b ≡ 0
unfolding weigh
weigh-end [] b e = refl
weigh-end (x ∷ a) b (inl e) = rw e refl
weigh-end (x ∷ a) b (inr e) = rw e refl

-- a byte times a weight
pub weighted-most : (x y : ℕ) → x < 256 → y ≤ 9 → x * y ≤ 2295
weighted-most x y h k =
    let a : x ≤ 255 = omega arith in
    le_trans (mul-le-mul_left x k) (omega arith)
