-- Laws of the record count at the front of a body, from what `number` says of it.
use Rattle.std.specs.Prelude.{Some, None}
use Prim.Native.Nat.{ℕ, ◌≤◌, ◌<◌}
use mathlib.Core.Path.{◌≡◌, ◌∙◌, refl}
use mathlib.Core.Bool.{Bool, true, false, cond}
use mathlib.Core.List.{List}
use native.Mathlib.Omega.{arith}
use lib.Dec.{leb, eqb}
use lib.ListN.{length}
use borrow.Author.Tests.{le-leb, lt-leb, leb-true}
use Rattle.rules.specs.Digits.{part, all_digits, value}
use Rattle.rules.specs.Body.{count_of, counted}
use Rattle.rules.specs.declared.Format.{Format}
use Rattle.laws.proofs.Tests.{both}
use Rattle.laws.proofs.Bytes.{part_length}
use Rattle.digits.specs.Decimal.{decimal_of}

is_number : (b : Bool) (v : ℕ) {n : ℕ} → Some n ≡ cond b (Some v) None → (b ≡ true) × (v ≡ n)
is_number true v e = (refl, (cc))
is_number false v e = let z : ◌≡◌ {A = ℕ} 0 1 = cc in absurd (omega arith)

is-broken : (b : Bool) (v : ℕ) → None ≡ cond b (Some v) None → b ≡ false
is-broken true v e = let z : ◌≡◌ {A = ℕ} 0 1 = cc in absurd (omega arith)
is-broken false v e = refl

pub count_room : (f : Format) (s : List ℕ) → counted f s ≡ true → 6 ≤ length s
unfolding counted
count_room f s e = leb-true 6 (length s) (both (leb 6 (length s)) (all_digits (part s 0 6)) (both _ _ e).0).0

pub count-missing : (f : Format) (s : List ℕ) → length s < 6 → false ≡ counted f s
unfolding counted
count-missing f s h = rw (lt-leb 6 (length s) h) refl

module _ (f : Format) (s : List ℕ) (h : 6 ≤ length s) where
  decimal-is : decimal_of (part s 0 6) ≡ cond (all_digits (part s 0 6)) (Some (value (part s 0 6))) None
  unfolding decimal_of
  decimal-is = rw (part_length s 0 6 h) refl

  pub count-number : {n m : ℕ} → Some n ≡ decimal_of (part s 0 6) → m ≡ count_of f → eqb n m ≡ counted f s
  unfolding counted
  count-number e m≡ =
      let q = is_number (all_digits (part s 0 6)) (value (part s 0 6)) (e ∙ decimal-is) in
      rw (le-leb 6 (length s) h, q.0, q.1, m≡) refl

  pub count-broken : None ≡ decimal_of (part s 0 6) → false ≡ counted f s
  unfolding counted
  count-broken e =
      rw (le-leb 6 (length s) h, is-broken (all_digits (part s 0 6)) (value (part s 0 6)) (e ∙ decimal-is)) refl
