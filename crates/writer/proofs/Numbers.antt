-- Laws of a number that is put into a buffer as digits, the last one first.
use Prim.Native.Nat.{ℕ, suc, ◌+◌, ◌-◌, ◌/◌, ◌%◌, ◌≤◌, ◌<◌}
use mathlib.Core.Path.{◌≡◌, ◌∙◌, refl, sym}
use mathlib.Core.Logic.{◌≢◌}
use mathlib.Core.List.{List, [], ◌∷◌}
use native.Mathlib.Omega.{arith}
use lib.ListN.{length, set}
use lib.Seq.{sets, set_comm}
use Rattle.rules.specs.Digits.{decimal}
use Rattle.laws.proofs.Bytes.{length-decimal}
use Rattle.digits.specs.Placed.{placed}
use Rattle.digits.proofs.Placing.{sets-append}

-- a store past a run, before it or after it
sets-set : (a l : List ℕ) (i j x : ℕ) → i + length a ≤ j → sets (set l j x) i a ≡ set (sets l i a) j x
sets-set [] l i j x h = refl
sets-set (y ∷ a) l i j x h =
    let other : j ≢ i = λ e. omega arith in
    rw (set_comm l j i x y other) (sets-set a (set l i y) (suc i) j x (omega arith))

-- the last of k + 1 digits is put, and then the others
last-digit : (l : List ℕ) (at k n : ℕ) → placed l at (decimal (suc k) n) ≡ placed (set l (at + k) (n % 10)) at (decimal k (n / 10))
unfolding placed decimal
last-digit l at k n =
    let d = decimal k (n / 10) in
    let long = length-decimal k (n / 10) in
    sets-append d (n % 10 ∷ []) l at ∙ rw long (sym (sets-set d l at (at + k) (n % 10) (omega arith)))

-- the same at the place i after the last digit
pub digit_step : (l : List ℕ) (at i n : ℕ) → at < i
    → placed l at (decimal (i - at) n) ≡ placed (set l (i - 1) (n % 10)) at (decimal (i - 1 - at) (n / 10))
digit_step l at i n h =
    let k : i - at ≡ suc (i - 1 - at) = omega arith in
    let j : at + (i - 1 - at) ≡ i - 1 = omega arith in
    rw k (last-digit l at (i - 1 - at) n ∙ rw j refl)

-- no digits are left
pub digits_end : (l : List ℕ) (at i n : ℕ) → i ≤ at → placed l at (decimal (i - at) n) ≡ l
unfolding placed decimal
digits_end l at i n h = let e : i - at ≡ 0 = omega arith in rw e refl
