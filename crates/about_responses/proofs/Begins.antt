-- What bytes begin with: what begins with p is p and what follows it, and what `strip` takes off is there.
use Rattle.laws.proofs.Options.{some-injective}
use Rattle.std.specs.Prelude.{Option, None, Some}
use Prim.Native.Nat.{ℕ, ◌≤◌, ◌<◌}
use mathlib.Core.Path.{◌≡◌, ◌∙◌, refl, sym, ap}
use mathlib.Core.Bool.{Bool, true, false, cond, ◌&&◌, and_assoc}
use mathlib.Core.List.{List, [], ◌∷◌, ◌++◌}
use native.Mathlib.Omega.{arith}
use lib.Dec.{eqb}
use lib.ListN.{length, take, drop, length-append, take-append-drop}
use lib.Seq.{take-append_seam, drop-append_seam}
use Rattle.rules.specs.Digits.{same_bytes}
use Rattle.rules.specs.Response.{begins, strip}
use Rattle.laws.proofs.Tests.{isnt, no-some}
use Rattle.laws.proofs.Bytes.{same-equal, same_self}

pub begins-made : (p s : List ℕ) → begins p s ≡ true → s ≡ p ++ drop (length p) s
unfolding begins
begins-made p s e =
    sym (take-append-drop (length p) s) ∙ ap (λ (l : List ℕ). l ++ drop (length p) s) (same-equal (take (length p) s) p e)

pub begins-itself : (p s : List ℕ) → begins p (p ++ s) ≡ true
unfolding begins
begins-itself p s = ap (λ (l : List ℕ). same_bytes l p) (take-append_seam p s) ∙ same_self p

pub begins-fits : (p s : List ℕ) → begins p s ≡ true → length p ≤ length s
begins-fits p s e =
    let f : length s ≡ length (p ++ drop (length p) s) = ap length (begins-made p s e) in
    omega (arith, f, length-append p (drop (length p) s))

-- what begins with two parts
pub begins-parts : (p q s : List ℕ) → begins (p ++ q) s ≡ (begins p s && begins q (drop (length p) s))
unfolding begins same_bytes
begins-parts [] q s = refl
begins-parts (x ∷ p) q [] = refl
begins-parts (x ∷ p) q (y ∷ s) = rw (begins-parts p q s) (sym (and_assoc (eqb y x) (begins p s) (begins q (drop (length p) s))))

-- ---- what is taken off

pub strip-made : (p s t : List ℕ) → strip p s ≡ Some t → s ≡ p ++ t
unfolding strip
strip-made p s t e = go (begins p s) refl e
  where
    go : (c : Bool) → begins p s ≡ c → cond {A = Option (List ℕ)} c (Some (drop (length p) s)) None ≡ Some t → s ≡ p ++ t
    go true f g = begins-made p s f ∙ ap (λ (l : List ℕ). p ++ l) (some-injective (drop (length p) s) t g)
    go false f g = no-some g

pub strip-back : (p t : List ℕ) → strip p (p ++ t) ≡ Some t
unfolding strip
strip-back p t = rw (begins-itself p t, drop-append_seam p t) refl
