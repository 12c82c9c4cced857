-- Bytes without 0D have no end of a line in them, and digits in ASCII and names are such.
use Prim.Native.Nat.{ℕ, ◌+◌}
use mathlib.Core.Path.{◌≡◌, refl, ap}
use mathlib.Core.Bool.{Bool, true, false, not, ◌&&◌}
use mathlib.Core.List.{List, [], ◌∷◌, ◌++◌}
use native.Mathlib.Omega.{arith}
use borrow.Author.Tests.{eqb-true, not-true}
use lib.Dec.{eqb}
use Rattle.rules.specs.Digits.{decimal, to_ascii}
use Rattle.rules.specs.Name.{Name, format_number, dot_data, encode_name}
use Rattle.rules.specs.Response.{pair_at, no_pair}
use Rattle.laws.proofs.Tests.{both, join, isnt}

-- whether no byte is 0D
unfoldable pub no_return : List ℕ → Bool
no_return [] = true
no_return (x ∷ s) = not (eqb x 13) && no_return s

-- where it does not begin with 0D, the pair is not at the front
pair-not-here : (x : ℕ) (s : List ℕ) → eqb x 13 ≡ false → pair_at (x ∷ s) ≡ false
pair-not-here x [] e = refl
pair-not-here x (y ∷ s) e = ap (λ (b : Bool). b && eqb y 10) e

pub pair_nowhere : (s : List ℕ) → no_return s ≡ true → no_pair s ≡ true
unfolding no_return no_pair
pair_nowhere [] e = refl
pair_nowhere (x ∷ s) e =
    let p = both (not (eqb x 13)) (no_return s) e in
    join {a = not (pair_at (x ∷ s))} {b = no_pair s} (ap not (pair-not-here x s (not-true (eqb x 13) p.0))) (pair_nowhere s p.1)

-- digits in ASCII, with such bytes behind them
pub digits-clean : (s t : List ℕ) → no_return t ≡ true → no_return (to_ascii s ++ t) ≡ true
unfolding no_return
digits-clean [] t e = e
digits-clean (x ∷ s) t e =
    join {a = not (eqb (x + 48) 13)} {b = no_return (to_ascii s ++ t)}
    (ap not (isnt (λ q. let h : x + 48 ≡ 13 = eqb-true (x + 48) 13 q in omega arith)))
    (digits-clean s t e)

pub name-clean : (n : Name) → no_return (encode_name n) ≡ true
unfolding encode_name no_return
name-clean n =
    digits-clean (decimal 3 (format_number n.format)) _
    (digits-clean n.segment _ (digits-clean n.plant _ (digits-clean n.created dot_data refl)))
