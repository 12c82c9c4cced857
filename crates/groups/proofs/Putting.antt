-- Laws of a number's bytes as they are counted and put.
use Rattle.std.specs.Prelude.{Option, None, Some, unwrap_or}
use Prim.Native.Nat.{ℕ, zero, suc, ◌+◌, ◌-◌, ◌/◌, ◌%◌, ◌^◌, ◌≤◌, ◌<◌}
use mathlib.Core.Path.{◌≡◌, ◌∙◌, refl, sym, ap}
use mathlib.Core.Bool.{Bool, true, false, cond}
use mathlib.Core.List.{List, [], ◌∷◌}
use native.Mathlib.Numerals.{add-one}
use native.Mathlib.Omega.{arith}
use borrow.Author.Tests.{le-leb, lt-leb, ltb-true, ltb-false}
use lib.Dec.{ltb}
use lib.ListN.{length, set}
use lib.Seq.{sets}
use Rattle.rules.specs.Groups.{groups, groups_in}
use Rattle.laws.proofs.Options.{some-injective}
use Rattle.laws.proofs.Tests.{no-some}
use Rattle.groups.specs.Placed.{room, size_of, bytes_after, place_after}
use Rattle.groups.proofs.Steps.{groups-in, no-groups, last-group, next-group, fewer}

-- ---- how many there are

count-one : (k n : ℕ) → n < 128 → length (groups_in (suc k) n) ≡ 1
count-one k n h = rw (last-group k n h) refl

count-more : (k n m : ℕ) → 128 ≤ n → length (groups_in k (n / 128)) ≡ m → length (groups_in (suc k) n) ≡ suc m
count-more k n m h e = rw (next-group k n h) (ap suc e)

-- a list with an element says its length
counted : (s : List ℕ) (k : ℕ) → length s ≡ suc k → Some (suc k) ≡ size_of s
counted [] k e = absurd (omega arith)
counted (b ∷ s) k e = ap Some (sym e)

-- none is a length of 0
pub as_length : (s : List ℕ) → unwrap_or (size_of s) 0 ≡ length s
as_length [] = refl
as_length (b ∷ s) = refl

module _ (n : ℕ) where
  pub one_byte : n < 2 ^ 7 → Some 1 ≡ size_of (groups n)
  one_byte h = counted (groups n) 0 (rw (groups-in n (omega arith)) (count-one 4 n h))

  pub two_bytes : 2 ^ 7 ≤ n → n < 2 ^ 14 → Some 2 ≡ size_of (groups n)
  two_bytes l h = counted (groups n) 1 (rw (groups-in n (omega arith)) (count-more 4 n 1 l (count-one 3 (n / 128) (omega arith))))

  pub three-bytes : 2 ^ 14 ≤ n → n < 2 ^ 21 → Some 3 ≡ size_of (groups n)
  three-bytes l h =
      counted (groups n) 2
      (rw (groups-in n (omega arith))
      (count-more 4 n 2 (omega arith) (count-more 3 (n / 128) 1 (omega arith) (count-one 2 (n / 128 / 128) (omega arith)))))

  pub four_bytes : 2 ^ 21 ≤ n → n < 2 ^ 28 → Some 4 ≡ size_of (groups n)
  four_bytes l h =
      counted (groups n) 3
      (rw (groups-in n (omega arith))
      (count-more 4 n 3 (omega arith)
      (count-more 3 (n / 128) 2 (omega arith)
      (count-more 2 (n / 128 / 128) 1 (omega arith) (count-one 1 (n / 128 / 128 / 128) (omega arith))))))

  pub five-bytes : 2 ^ 28 ≤ n → n < 2 ^ 35 → Some 5 ≡ size_of (groups n)
  five-bytes l h =
      counted (groups n) 4
      (rw (groups-in n h)
      (count-more 4 n 4 (omega arith)
      (count-more 3 (n / 128) 3 (omega arith)
      (count-more 2 (n / 128 / 128) 2 (omega arith)
      (count-more 1 (n / 128 / 128 / 128) 1 (omega arith) (count-one 0 (n / 128 / 128 / 128 / 128) (omega arith)))))))

  pub no_bytes : 2 ^ 35 ≤ n → None ≡ size_of (groups n)
  no_bytes h = rw (no-groups n h) refl

-- ---- one after the other, the group at place i of those from place `at` on

two_left : (k left : ℕ) → 128 ≤ left → left < 128 ^ k → 1 < k
two_left zero left l h = absurd (omega arith)
two_left (suc zero) left l h = absurd (omega arith)
two_left (suc (suc k)) left l h = omega arith

module _ (at i left : ℕ) (l : 128 ≤ left) (h : left < 128 ^ (at + 5 - i)) where
  pub not_last : i + 1 < at + 5
  not_last = let two = two_left (at + 5 - i) left l h in omega arith

  one_less : at + 5 - i ≡ suc (at + 5 - (i + 1))
  one_less = let t = not_last in omega arith

  pub less_left : left / 128 < 128 ^ (at + 5 - (i + 1))
  less_left = fewer (at + 5 - (i + 1)) left (rw one_less at h)

  pub put_group : (out : List ℕ)
      → sets out i (groups_in (at + 5 - i) left) ≡ sets (set out i (left % 128 + 128)) (i + 1) (groups_in (at + 5 - (i + 1)) (left / 128))
  put_group out = rw (one_less, next-group (at + 5 - (i + 1)) left l, add-one i) refl

  pub count-group : i + length (groups_in (at + 5 - i) left) ≡ i + 1 + length (groups_in (at + 5 - (i + 1)) (left / 128))
  count-group = rw (one_less, next-group (at + 5 - (i + 1)) left l) (omega arith)

module _ (at i left : ℕ) (l : left < 128) (h : i < at + 5) where
  last_one : groups_in (at + 5 - i) left ≡ left ∷ []
  last_one = let e : at + 5 - i ≡ suc (at + 5 - (i + 1)) = omega arith in rw e (last-group (at + 5 - (i + 1)) left l)

  pub put_last : (out : List ℕ) → sets out i (groups_in (at + 5 - i) left) ≡ set out i left
  put_last out = rw last_one refl

  pub count-last : i + length (groups_in (at + 5 - i) left) ≡ i + 1
  count-last = rw last_one refl

-- ---- where there is room for bytes, where there is none, and where there are no bytes

module _ (bytes out : List ℕ) (at : ℕ) where
  pub bytes_fit : at + length bytes ≤ length out → bytes_after bytes out at ≡ sets out at bytes
  unfolding bytes_after
  bytes_fit h = rw (le-leb (at + length bytes) (length out) h) refl

  pub bytes-stay : length out < at + length bytes → bytes_after bytes out at ≡ out
  unfolding bytes_after
  bytes-stay h = rw (lt-leb (at + length bytes) (length out) h) refl

-- what `put` answers, and what it leaves
abbrev pub Put : List ℕ → List ℕ → ℕ → Option ℕ → List ℕ → Type 0
Put bytes out at next after = (next ≡ place_after bytes out at) × (after ≡ bytes_after bytes out at)

pub none-put : (bytes out : List ℕ) (at : ℕ) → None ≡ size_of bytes → Put bytes out at None out
unfolding place_after bytes_after
none-put [] out at e = (refl, go (room [] out at))
  where
    go : (t : Bool) → out ≡ cond t out out
    go true = refl
    go false = refl
none-put (b ∷ bytes) out at e = no-some e

pub short-put : (bytes out : List ℕ) (at : ℕ) → length out < at + length bytes → Put bytes out at None out
unfolding place_after
short-put [] out at h = (refl, sym (bytes-stay [] out at h))
short-put (b ∷ bytes) out at h = (rw (lt-leb (at + length (b ∷ bytes)) (length out) h) refl, sym (bytes-stay (b ∷ bytes) out at h))

pub all-put : (bytes out : List ℕ) (at : ℕ) {k next : ℕ} {after : List ℕ} → Some k ≡ size_of bytes → next ≡ at + length bytes → after ≡ sets out at bytes
    → at + length bytes ≤ length out → Put bytes out at (Some next) after
unfolding place_after
all-put [] out at e f g h = no-some (sym e)
all-put (b ∷ bytes) out at e f g h = (rw (le-leb (at + length (b ∷ bytes)) (length out) h) (ap Some f), g ∙ sym (bytes_fit (b ∷ bytes) out at h))

-- what has a size has that length, and is a number below 2 ^ 35
pub sized : (bytes : List ℕ) {k : ℕ} → Some k ≡ size_of bytes → k ≡ length bytes
sized [] e = no-some (sym e)
sized (b ∷ bytes) e = some-injective _ _ e

pub has-groups : (n : ℕ) {k : ℕ} → Some k ≡ size_of (groups n) → n < 2 ^ 35
has-groups n e = go (ltb n (2 ^ 35)) refl
  where
    go : (t : Bool) → ltb n (2 ^ 35) ≡ t → n < 2 ^ 35
    go true f = ltb-true n (2 ^ 35) f
    go false f = no-some (sym (e ∙ ap size_of (no-groups n (ltb-false n (2 ^ 35) f))))
