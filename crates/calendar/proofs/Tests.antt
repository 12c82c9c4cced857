-- Tests that are computed at every number below a bound.
use Prim.Native.Nat.{ℕ, zero, suc, ◌<◌}
use mathlib.Core.Path.{◌≡◌, refl}
use mathlib.Core.Bool.{Bool, true, false}
use native.Mathlib.Nat.{not-suc-le-zero}
use native.Mathlib.Omega.{arith}
use lib.Dec.{eqb}
use borrow.Author.Tests.{eqb-true, eqb-false}
use Rattle.laws.proofs.Tests.{both}
use Rattle.calendar.specs.Cycle.{every}

pub every-at : (n : ℕ) (f : ℕ → Bool) → every n f ≡ true → (k : ℕ) → k < n → f k ≡ true
unfolding every
every-at zero f e k l = absurd (not-suc-le-zero l)
every-at (suc n) f e k l = let b = both (f n) (every n f) e in go (eqb k n) refl b.0 (every-at n f b.1 k)
  where
    go : (t : Bool) → eqb k n ≡ t → f n ≡ true → (k < n → f k ≡ true) → f k ≡ true
    go true h top rest = rw (eqb-true k n h) top
    go false h top rest = let d = eqb-false k n h in rest (omega arith)
