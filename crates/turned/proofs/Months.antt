-- Laws of a month's length: as rows of 48, and as 48 rows.
use Prim.Native.Nat.{ℕ, ◌/◌, ◌%◌, ◌≤◌}
use mathlib.Core.Path.{◌≡◌, refl, sym}
use mathlib.Core.Bool.{Bool, true, false, ◌&&◌, false≢true}
use mathlib.Core.List.{List}
use native.Mathlib.Nat.{div-eq_of_eq-mul_right}
use native.Mathlib.Omega.{arith}
use borrow.Author.Tests.{eqb-true, leb-true}
use lib.Dec.{leb, eqb}
use lib.ListN.{length}
use Rattle.rules.specs.Turned.{rearranged}
use Rattle.turned.specs.Rows.{Rows, is_month, turned_into, turned_back_into}

both : (a b : Bool) → (a && b) ≡ true → (a ≡ true) × (b ≡ true)
both true b e = (refl, e)
both false b e = absurd (false≢true e)

module _ (n m : ℕ) (month : is_month n m ≡ true) where
  record Length : Type 0 where
    fits : m ≡ n
    whole : n % 48 ≡ 0
    some : 48 ≤ n
    few : n ≤ 1488

  lengths : Length
  lengths =
      let p = both (eqb n m && eqb (n % 48) 0 && leb 48 n) (leb n 1488) month in
      let q = both (eqb n m && eqb (n % 48) 0) (leb 48 n) p.0 in
      let r = both (eqb n m) (eqb (n % 48) 0) q.0 in
      record {
        fits = sym (eqb-true n m r.0);
        whole = eqb-true (n % 48) 0 r.1;
        some = leb-true 48 n q.1;
        few = leb-true n 1488 p.1;
      }

  -- as many rows as half hours
  pub half-hours : n / (n / 48) ≡ 48
  half-hours =
      let l = lengths in
      div-eq_of_eq-mul_right {n = n / 48} {m = n} {k = 48} (omega arith) (omega arith)

  pub half-hour-rows : Rows n m (n / 48)
  half-hour-rows =
      let l = lengths in record { fits = l.fits; whole = rw half-hours (omega arith); few = l.few; short = omega arith }

-- ---- what the functions leave

module _ (from to : List ℕ) where
  pub turned-month : is_month (length from) (length to) ≡ true → rearranged (length from / 48) 48 from ≡ turned_into from to
  unfolding turned_into
  turned-month e = rw e refl

  pub turned_none : is_month (length from) (length to) ≡ false → to ≡ turned_into from to
  unfolding turned_into
  turned_none e = rw e refl

  pub back-month : is_month (length from) (length to) ≡ true
      → rearranged (length from / (length from / 48)) (length from / 48) from ≡ turned_back_into from to
  unfolding turned_back_into
  back-month e = rw (e, half-hours (length from) (length to) e) refl

  pub back_none : is_month (length from) (length to) ≡ false → to ≡ turned_back_into from to
  unfolding turned_back_into
  back_none e = rw e refl
