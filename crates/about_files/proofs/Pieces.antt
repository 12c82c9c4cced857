-- Parts of a byte string: where they begin and end, and how they join.
use Prim.Native.Nat.{ℕ, ◌+◌}
use mathlib.Core.Path.{◌≡◌, ◌∙◌, refl, sym, ap, subst}
use mathlib.Core.Bool.{true}
use mathlib.Core.List.{List, ◌++◌}
use lib.ListN.{length, take, drop, take-append-drop}
use lib.Seq.{take-add, drop-drop, take_at, drop-append-add}
use Rattle.rules.specs.Digits.{part, all_digits}
use Rattle.laws.proofs.Tests.{both}
use Rattle.about_files.proofs.Numerals.{all_append}

pub chop : (s : List ℕ) (i k : ℕ) {x : List ℕ} → drop (i + k) s ≡ x → drop i s ≡ part s i k ++ x
chop s i k e = sym (take-append-drop k (drop i s)) ∙ ap (λ (r : List ℕ). part s i k ++ r) (drop-drop k i s ∙ e)

pub piece : (s : List ℕ) (i k : ℕ) {x y : List ℕ} → part s i k ≡ y → drop (i + k) s ≡ x → drop i s ≡ y ++ x
piece s i k {x} p e = chop s i k e ∙ ap (λ (q : List ℕ). q ++ x) p

part-add : (s : List ℕ) (i a b : ℕ) → part s i (a + b) ≡ part s i a ++ part s (i + a) b
part-add s i a b = take-add a b (drop i s) ∙ ap (λ (r : List ℕ). part s i a ++ take b r) (drop-drop a i s)

pub digits-apart : (s : List ℕ) (i a b : ℕ) → all_digits (part s i (a + b)) ≡ true → (all_digits (part s i a) ≡ true) × (all_digits (part s (i + a) b) ≡ true)
digits-apart s i a b h = both _ _ (sym (all_append 9 (part s i a) (part s (i + a) b)) ∙ ap all_digits (sym (part-add s i a b)) ∙ h)

pub digits-joined : (s : List ℕ) (i a b : ℕ) → all_digits (part s i a) ≡ true → all_digits (part s (i + a) b) ≡ true → all_digits (part s i (a + b)) ≡ true
digits-joined s i a b p q = ap all_digits (part-add s i a b) ∙ all_append 9 (part s i a) (part s (i + a) b) ∙ rw (p, q) refl

-- the part at the front, and parts behind it
pub here : (a b : List ℕ) {k : ℕ} → length a ≡ k → part (a ++ b) 0 k ≡ a
here a b {k} l = take_at a b k l

pub skip : (a b : List ℕ) {m : ℕ} → length a ≡ m → (i k : ℕ) → part (a ++ b) (m + i) k ≡ part b i k
skip a b {m} l i k = subst (λ (n : ℕ). part (a ++ b) (n + i) k ≡ part b i k) l (ap (take k) (drop-append-add a b i))
