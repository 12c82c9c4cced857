-- Numbers from one up to another, and runs of slots that meet.
use mathlib.Core.Path.{◌≡◌, refl, sym}
use mathlib.Core.Bool.{Bool, true, false, not, ◌&&◌}
use Prim.Native.Nat.{ℕ, ◌≤◌, ◌<◌, min, max}
use native.Mathlib.Omega.{arith}
use lib.Dec.{leb, ltb}
use borrow.Author.Tests.{ltb-true, ltb-false, lt-ltb, leb-true, le-leb, lt-leb}
use Rattle.laws.proofs.Tests.{both}

pub ltb-leb : (a b : ℕ) → not (ltb a b) ≡ leb b a
ltb-leb a b = go (ltb a b) refl
  where
    go : (t : Bool) → ltb a b ≡ t → not t ≡ leb b a
    go true e = sym (lt-leb b a (ltb-true a b e))
    go false e = sym (le-leb b a (ltb-false a b e))

-- a number from a up to b
pub between : (a i b : ℕ) → leb a i && ltb i b ≡ true → (a ≤ i) × (i < b)
between a i b e = let w = both (leb a i) (ltb i b) e in (leb-true a i w.0, ltb-true i b w.1)

pub is-between : (a i b : ℕ) → a ≤ i → i < b → leb a i && ltb i b ≡ true
is-between a i b l h = rw (le-leb a i l, lt-ltb i b h)

-- two runs of slots, from x up to z and from y up to w, meet
pub record Overlap (x y z w : ℕ) : Type 0 where
  pub xz : x < z
  pub xw : x < w
  pub yz : y < z
  pub yw : y < w

pub meet_facts : (x y z w : ℕ) → ltb (max x y) (min z w) ≡ true → Overlap x y z w
meet_facts x y z w e =
    let h : max x y < min z w = ltb-true (max x y) (min z w) e in
    record { xz = omega arith; xw = omega arith; yz = omega arith; yw = omega arith }

pub facts_meet : (x y z w : ℕ) → Overlap x y z w → ltb (max x y) (min z w) ≡ true
facts_meet x y z w o = lt-ltb (max x y) (min z w) (omega arith)
