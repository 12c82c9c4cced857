-- Laws of the split at the first 0A: where the name ends, and what stands before and behind that place.
use Prim.Native.Nat.{ℕ, suc, ◌+◌, ◌-◌, ◌≤◌, min}
use mathlib.Core.Path.{◌≡◌, ◌∙◌, refl, sym, ap}
use mathlib.Core.Bool.{Bool, true, false, cond}
use mathlib.Core.List.{List, [], ◌∷◌}
use native.Mathlib.Numerals.{add-one}
use native.Mathlib.Omega.{arith}
use borrow.Author.Tests.{ltb-false}
use lib.Dec.{eqb, ltb}
use lib.ListN.{length, take, drop, length-take}
use Rattle.rules.specs.Lister.{name_part, body_part}
use Rattle.laws.proofs.Bytes.{drop-most, part-rest}
use Rattle.std.specs.List.{position, position_or_len}
use Rattle.std.specs.Option.{unwrap_or}
use Rattle.std.proofs.Common.{Some, None}
use Rattle.std.proofs.lemmas.List.Recursion.{is_position_or_len}

-- ---- the place of the first 0A, or the length where there is none

name-place : (x : List ℕ) → length (name_part x) ≡ position_or_len (λ (b : ℕ). eqb b 10) x
unfolding name_part
name-place = is_position_or_len (λ (x : List ℕ). length (name_part x)) (λ (b : ℕ). eqb b 10) refl (λ b x. go (eqb b 10) b x)
  where
    go : (t : Bool) (b : ℕ) (x : List ℕ) → length (cond t [] (b ∷ name_part x)) ≡ cond t 0 (1 + length (name_part x))
    go true b x = refl
    go false b x = omega arith

-- ---- the parts by that place

pub name_before : (x : List ℕ) → name_part x ≡ take (length (name_part x)) x
unfolding name_part
name_before [] = refl
name_before (b ∷ x) = go (eqb b 10) (name_before x)
  where
    go : (t : Bool) → name_part x ≡ take (length (name_part x)) x
        → cond t [] (b ∷ name_part x) ≡ take (length (cond t [] (b ∷ name_part x))) (b ∷ x)
    go true h = refl
    go false h = ap (λ (s : List ℕ). b ∷ s) h

pub body_behind : (x : List ℕ) → body_part x ≡ drop (length (name_part x) + 1) x
unfolding name_part body_part
body_behind [] = refl
body_behind (b ∷ x) = rw add-one (go (eqb b 10) (rw add-one at (body_behind x)))
  where
    go : (t : Bool) → body_part x ≡ drop (suc (length (name_part x))) x
        → cond t x (body_part x) ≡ drop (suc (length (cond t [] (b ∷ name_part x)))) (b ∷ x)
    go true h = refl
    go false h = h

pub name_within : (x : List ℕ) → length (name_part x) ≤ length x
name_within x = omega (arith, ap length (name_before x), length-take (length (name_part x)) x)

pub name_found : (x : List ℕ) → unwrap_or (position (λ (b : ℕ). eqb b 10) x) (length x) ≡ length (name_part x)
name_found x = rw (sym (name-place x)) (go (ltb (length (name_part x)) (length x)) refl)
  where
    go : (t : Bool) → ltb (length (name_part x)) (length x) ≡ t
        → unwrap_or (cond t (Some (length (name_part x))) None) (length x) ≡ length (name_part x)
    go true e = refl
    go false e = omega (arith, ltb-false (length (name_part x)) (length x) e, name_within x)

-- ---- the body as a part of a slice: from past the 0A on, or nothing where there is none

pub body-part : (x : List ℕ) (k : ℕ) → k ≡ min (length (name_part x) + 1) (length x) → take (length x - k) (drop k x) ≡ body_part x
body-part x k e =
    part-rest x k
    ∙ ap (λ (j : ℕ). drop j x) e
    ∙ drop-most (length (name_part x) + 1) x
    ∙ sym (body_behind x)
