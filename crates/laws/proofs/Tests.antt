-- Laws of tests: what tests joined say, when two tests are the same; and that nothing is not something.
use Rattle.std.specs.Prelude.{Option, None, Some}
use Prim.Native.Nat.{ℕ}
use mathlib.Core.Path.{◌≡◌, refl, sym}
use mathlib.Core.Logic.{◌⊎◌, inl, inr}
use mathlib.Core.Bool.{Bool, true, false, not, ◌&&◌, ◌||◌, true≢false, false≢true}
use native.Mathlib.Omega.{arith}
use lib.Dec.{leb, ltb}
use borrow.Author.Tests.{leb-true, leb-false, lt-ltb, le-ltb}

pub both : (a b : Bool) → (a && b) ≡ true → (a ≡ true) × (b ≡ true)
both true b e = (refl, e)
both false b e = absurd (false≢true e)

pub join : {a b : Bool} → a ≡ true → b ≡ true → (a && b) ≡ true
join p q = rw (p, q) refl

pub either : (a b : Bool) → (a || b) ≡ true → (a ≡ true) ⊎ (b ≡ true)
either true b e = inl refl
either false b e = inr e

pub neither : (a b : Bool) → (a || b) ≡ false → (a ≡ false) × (b ≡ false)
neither true b e = absurd (true≢false e)
neither false b e = (refl, e)

pub same : {a b : Bool} → (a ≡ true → b ≡ true) → (b ≡ true → a ≡ true) → a ≡ b
same {a = true} {b = true} f g = refl
same {a = true} {b = false} f g = sym (f refl)
same {a = false} {b = true} f g = g refl
same {a = false} {b = false} f g = refl

pub isnt : {b : Bool} → (b ≡ true → ⊥) → b ≡ false
isnt {b = true} h = absurd (h refl)
isnt {b = false} h = refl

-- below is not at least
pub below-is : (a b : ℕ) → ltb a b ≡ not (leb b a)
below-is a b = go (leb b a) refl
  where
    go : (t : Bool) → leb b a ≡ t → ltb a b ≡ not t
    go true e = le-ltb a b (leb-true b a e)
    go false e = lt-ltb a b (leb-false b a e)

pub no-some : {A X : Type 0} {a : A} → ◌≡◌ {A = Option A} None (Some a) → X
no-some e = let z : ◌≡◌ {A = ℕ} 0 1 = cc in absurd (omega arith)
