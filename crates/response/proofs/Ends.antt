-- Laws of the boundary, and of what closes the file.
use Rattle.std.specs.Prelude.{Option, None, Some, is_some}
use Prim.Native.Nat.{ℕ, ◌+◌, ◌<◌, ◌≤◌}
use mathlib.Core.Path.{◌≡◌, ◌∙◌, refl, sym, ap, ap₂}
use mathlib.Core.Bool.{Bool, true, false, cond, ◌&&◌, ◌||◌, and_assoc, and-true, and-false}
use mathlib.Core.List.{List, [], ◌∷◌, ◌++◌, append-nil}
use native.Mathlib.Omega.{arith}
use borrow.Author.Tests.{le-leb, lt-leb}
use Rattle.std.proofs.lemmas.Bool.{ne_eqb}
use lib.Dec.{leb, eqb}
use lib.ListN.{length, get_or, drop}
use Rattle.rules.specs.Digits.{same_bytes}
use Rattle.rules.specs.Response.{letter_or_digit, all_letters, lawful_boundary, line_end, begins, closing, strip, end_in}
use Rattle.digits.proofs.Scan.{all-step, all_end}

-- ---- a boundary

module _ (s : List ℕ) (i : ℕ) (b : Bool) where
  pub letters-step : i < length s → (b && all_letters (drop i s)) ≡ ((b && letter_or_digit (get_or s i 0)) && all_letters (drop (i + 1) s))
  unfolding all_letters
  letters-step = all-step letter_or_digit all_letters refl (λ x xs. refl) s i b

  pub letters-end : length s ≤ i → (b && all_letters (drop i s)) ≡ b
  unfolding all_letters
  letters-end = all_end letter_or_digit all_letters refl (λ x xs. refl) s i b

pub boundary-long : (s : List ℕ) → 70 < length s → lawful_boundary s ≡ false
unfolding lawful_boundary
boundary-long s h = rw (lt-leb (length s) 70 h, and-false (leb 1 (length s))) refl

pub boundary-is : (s : List ℕ) (b : Bool) → length s ≤ 70 → all_letters s ≡ b → (leb 1 (length s) && b) ≡ lawful_boundary s
unfolding lawful_boundary
boundary-is s b h e = rw (le-leb (length s) 70 h, e, and-true (leb 1 (length s))) refl

-- ---- the end

same-parts : (p e s : List ℕ) → same_bytes s (p ++ e) ≡ (begins p s && same_bytes (drop (length p) s) e)
unfolding same_bytes begins
same-parts [] e s = refl
same-parts (x ∷ p) e [] = refl
same-parts (x ∷ p) e (y ∷ s) = ap (λ (t : Bool). eqb y x && t) (same-parts p e s) ∙ sym (and_assoc (eqb y x) (begins p s) (same_bytes (drop (length p) s) e))

same-nothing : (s : List ℕ) → same_bytes s [] ≡ eqb (length s) 0
unfolding same_bytes
same-nothing [] = refl
same-nothing (x ∷ s) = sym (ne_eqb (length (x ∷ s)) 0 (λ e. omega (arith, e)))

-- what may stand behind that which closes a file
abbrev pub ends : Option (List ℕ) → Bool
ends None = false
ends (Some t) = eqb (length t) 0 || same_bytes t line_end

pub ends-by : (b s : List ℕ) → ends (strip (closing b) s) ≡ is_some (end_in b s)
unfolding strip end_in
ends-by b s =
    go (begins (closing b) s) (drop (length (closing b)) s)
    ∙ ap₂ (λ (x y : Bool). is_some (cond {A = Option Bool} x (Some false) (cond y (Some true) None)))
    (ap (λ (t : Bool). begins (closing b) s && t) (sym (same-nothing (drop (length (closing b)) s))) ∙ sym (same-parts (closing b) [] s) ∙ ap (same_bytes s) (append-nil (closing b)))
    (sym (same-parts (closing b) line_end s))
  where
    two : (x y : Bool) → (x || y) ≡ is_some (cond {A = Option Bool} x (Some false) (cond y (Some true) None))
    two true y = refl
    two false true = refl
    two false false = refl

    go : (t : Bool) (u : List ℕ) → ends (cond t (Some u) None)
        ≡ is_some (cond {A = Option Bool} (t && eqb (length u) 0) (Some false) (cond (t && same_bytes u line_end) (Some true) None))
    go false u = refl
    go true u = two (eqb (length u) 0) (same_bytes u line_end)
