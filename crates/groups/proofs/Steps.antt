-- Laws of one group more: of a number's bytes, and of the number that bytes begin with.
use Rattle.std.specs.Prelude.{Option, None, Some}
use Prim.Native.Nat.{ℕ, zero, suc, ◌+◌, ◌-◌, ◌*◌, ◌/◌, ◌%◌, ◌^◌, ◌≤◌, ◌<◌}
use mathlib.Core.Path.{◌≡◌, ◌∙◌, refl, ap}
use mathlib.Core.Bool.{Bool, true, false, cond}
use mathlib.Core.List.{List, [], ◌∷◌}
use native.Mathlib.Nat.{pow-suc, pow-le-pow_right, lt_of_lt_of_le, mul-add, mul_assoc}
use native.Mathlib.Omega.{arith}
use borrow.Author.Tests.{lt-ltb, le-ltb, ne_eqb, eqb-false}
use lib.Dec.{eqb, lit<}
use Rattle.rules.specs.Groups.{groups, groups_in, onto, parse_in}

-- ---- a number's bytes

pub groups-in : (n : ℕ) → n < 2 ^ 35 → groups n ≡ groups_in 5 n
unfolding groups
groups-in n h = rw (lt-ltb n (2 ^ 35) h) refl

pub no-groups : (n : ℕ) → 2 ^ 35 ≤ n → groups n ≡ []
unfolding groups
no-groups n h = rw (le-ltb n (2 ^ 35) h) refl

module _ (k n : ℕ) where
  pub last-group : n < 128 → groups_in (suc k) n ≡ n ∷ []
  unfolding groups_in
  last-group h = rw (lt-ltb n 128 h) refl

  pub next-group : 128 ≤ n → groups_in (suc k) n ≡ (n % 128 + 128) ∷ groups_in k (n / 128)
  unfolding groups_in
  next-group h = rw (le-ltb n 128 h) refl

-- one group fewer holds what is left
pub fewer : (k n : ℕ) → n < 128 ^ suc k → n / 128 < 128 ^ k
fewer k n h = let e = pow-suc 128 k in omega arith

pub more : (k v g : ℕ) → v < 128 ^ k → g < 128 → g + 128 * v < 128 ^ suc k
more k v g h l = let e = pow-suc 128 k in omega arith

pub one_holds : (k n : ℕ) → n < 128 → n < 128 ^ suc k
one_holds k n h = lt_of_lt_of_le h (pow-le-pow_right {n = 128} (lit< tt) {i = 1} {j = suc k} (omega arith))

-- ---- the number that bytes begin with

module _ (k b : ℕ) (s : List ℕ) where
  pub parse-last : b < 128 → parse_in (suc k) (b ∷ s) ≡ Some (b, s)
  unfolding parse_in
  parse-last h = rw (lt-ltb b 128 h) refl

  pub parse-more : 128 ≤ b → b < 256 → parse_in (suc k) (b ∷ s) ≡ onto (b - 128) 128 (parse_in k s)
  unfolding parse_in
  parse-more h l = rw (le-ltb b 128 h, lt-ltb b 256 l) refl

pub onto-some : (low unit v : ℕ) (s : List ℕ) → 0 < v → onto low unit (Some (v, s)) ≡ Some (low + unit * v, s)
onto-some low unit v s h = rw (ne_eqb v 0 (λ e. omega arith)) refl

-- what is not 0 is above it
pub not-zero : (v : ℕ) → eqb v 0 ≡ false → 0 < v
not-zero zero e = absurd (eqb-false 0 0 e refl)
not-zero (suc v) e = omega arith

distributed : (a u g v : ℕ) → a + u * (g + 128 * v) ≡ a + u * g + u * 128 * v
distributed a u g v = rw (mul-add u g (128 * v), mul_assoc u 128 v) (omega arith)

-- two groups below what follows are one of both
pub onto-onto : (a u g : ℕ) (o : Option (ℕ × List ℕ)) → onto a u (onto g 128 o) ≡ onto (a + u * g) (u * 128) o
onto-onto a u g None = refl
onto-onto a u g (Some p) = go (eqb p.0 0) refl
  where
    go : (t : Bool) → eqb p.0 0 ≡ t → onto a u (cond t None (Some (g + 128 * p.0, p.1))) ≡ cond t None (Some (a + u * g + u * 128 * p.0, p.1))
    go true e = refl
    go false e =
        let f = not-zero p.0 e in
        let l : 0 < g + 128 * p.0 = omega arith in
        onto-some a u (g + 128 * p.0) p.1 l
        ∙ ap (λ (n : ℕ). Some (n, p.1)) (distributed a u g p.0)
