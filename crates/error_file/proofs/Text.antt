-- One step of the walk over a text, and its end.
use Prim.Native.Nat.{ℕ, zero, suc, ◌-◌, ◌≤◌}
use mathlib.Core.Path.{◌≡◌, refl, sym}
use mathlib.Core.Bool.{Bool, true, false, ◌&&◌}
use mathlib.Core.List.{List, [], ◌∷◌}
use native.Mathlib.Numerals.{sub-one}
use native.Mathlib.Omega.{arith}
use lib.Dec.{eqb}
use lib.ListN.{length, drop, drop_of_length-le}
use borrow.Author.Tests.{ne_eqb}
use Rattle.std.specs.Prelude.{Some}
use Rattle.std.specs.Bool.{then_some}
use Rattle.rules.specs.ErrorFile.{within, utf8_from}
use Rattle.error_file.specs.declared.utf8.Walk.{Walk}
use Rattle.error_file.specs.Walk.{rest}

-- ---- a step
module _ (low high x : ℕ) (xs : List ℕ) where
  -- a byte is asked for: x is that one
  pub follows : (k : ℕ) → (k ≡ 0 → ⊥) → utf8_from k low high (x ∷ xs) ≡ (within low high x && utf8_from (k - 1) 0x80 0xBF xs)
  unfolding utf8_from
  follows zero h = absurd (h refl)
  follows (suc k) h = rw (sub-one (suc k)) refl

-- a walk that goes on where b holds
pub walked : (b : Bool) (w : Walk) (xs : List ℕ) → (b && rest (Some w) xs) ≡ rest (then_some b w) xs
walked true w xs = refl
walked false w xs = refl

-- at the end no byte may be asked for
ends : (k low high : ℕ) → utf8_from k low high [] ≡ eqb k 0
unfolding utf8_from
ends zero low high = refl
ends (suc k) low high = sym (ne_eqb (suc k) 0 (λ e. omega arith))

pub at_end : (k low high i : ℕ) (s : List ℕ) → length s ≤ i → utf8_from k low high (drop i s) ≡ eqb k 0
at_end k low high i s h = rw (drop_of_length-le s h) (ends k low high)
