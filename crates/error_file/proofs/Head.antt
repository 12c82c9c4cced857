-- The six bytes before the text: their tests byte by byte, and the code they hold.
use Prim.Native.Nat.{ℕ, suc, ◌+◌, ◌-◌, ◌*◌, ◌≤◌, ◌<◌}
use mathlib.Core.Path.{◌≡◌, ◌∙◌, refl, ap}
use mathlib.Core.Bool.{true, ◌&&◌, ◌||◌, and-true, and_assoc}
use mathlib.Core.List.{List, [], ◌∷◌}
use mathlib.Core.Logic.{⊎_elim}
use native.Mathlib.Omega.{arith}
use lib.Dec.{leb, eqb}
use lib.ListN.{length, get_or}
use lib.Seq.{drop-cons}
use borrow.Author.Tests.{leb-true, eqb-true}
use Rattle.rules.specs.Digits.{part, all_ascii, value_from}
use Rattle.laws.proofs.Tests.{both, either}
use Rattle.std.specs.Char.{is_ascii_digit}
use Rattle.error_file.specs.Head.{Digit}
use Rattle.error_file.specs.Code.{code_in}

-- a part, its first byte taken off
part-cons : (s : List ℕ) (i n : ℕ) → i < length s → part s i (suc n) ≡ get_or s i 0 ∷ part s (suc i) n
part-cons s i n h = rw (drop-cons s i 0 h) refl

module _ (s : List ℕ) (room : 6 ≤ length s) where
  serial-part : part s 2 3 ≡ get_or s 2 0 ∷ get_or s 3 0 ∷ get_or s 4 0 ∷ []
  serial-part =
      part-cons s 2 2 (omega arith)
      ∙ ap (λ (l : List ℕ). get_or s 2 0 ∷ l)
      (part-cons s 3 1 (omega arith) ∙ ap (λ (l : List ℕ). get_or s 3 0 ∷ l) (part-cons s 4 0 (omega arith)))

  code-part : part s 1 4 ≡ get_or s 1 0 ∷ get_or s 2 0 ∷ get_or s 3 0 ∷ get_or s 4 0 ∷ []
  code-part = part-cons s 1 3 (omega arith) ∙ ap (λ (l : List ℕ). get_or s 1 0 ∷ l) serial-part

  -- the three digits, tested one by one
  pub three : all_ascii (part s 2 3) ≡ (is_ascii_digit (get_or s 2 0) && is_ascii_digit (get_or s 3 0) && is_ascii_digit (get_or s 4 0))
  unfolding all_ascii
  three = rw serial-part (simp (and-true, and_assoc))

  -- what `code_in` computes
  pub code_is : {a b d e : ℕ} → a ≡ get_or s 1 0 - 48 → b ≡ get_or s 2 0 - 48 → d ≡ get_or s 3 0 - 48 → e ≡ get_or s 4 0 - 48
      → a * 1000 + b * 100 + d * 10 + e ≡ code_in s
  unfolding code_in value_from
  code_is a≡ b≡ d≡ e≡ = rw code-part (omega arith)

-- ---- what a passed test says
pub is_digit : (x : ℕ) → is_ascii_digit x ≡ true → Digit x
is_digit x e = let b = both (leb 48 x) (leb x 57) e in record { low = leb-true _ _ b.0; high = leb-true _ _ b.1 }

pub zero-or-one : (x : ℕ) → (eqb x 48 || eqb x 49) ≡ true → Digit x
zero-or-one x e =
    ⊎_elim
    (λ h. let q = eqb-true x 48 h in record { low = omega arith; high = omega arith })
    (λ h. let q = eqb-true x 49 h in record { low = omega arith; high = omega arith })
    (either (eqb x 48) (eqb x 49) e)
