-- Laws of the loop that reads a number: what the groups from place i on give the whole.
use Rattle.std.specs.Prelude.{Option, None, Some}
use Prim.Native.Nat.{ℕ, zero, suc, ◌+◌, ◌-◌, ◌*◌, ◌^◌, ◌≤◌, ◌<◌, min}
use mathlib.Core.Path.{◌≡◌, ◌∙◌, refl, sym, ap, ap₂}
use mathlib.Core.Bool.{Bool, true, false}
use mathlib.Core.List.{List, [], ◌∷◌}
use native.Mathlib.Nat.{pow-suc, pow-le-pow_right, mul-le-mul_left, mul-add}
use native.Mathlib.Numerals.{add-one}
use native.Mathlib.Omega.{arith}
use borrow.Author.Tests.{leb-true, leb-false}
use lib.Dec.{leb, lit<}
use lib.ListN.{length, get_or, take, drop, drop_of_length-le, length-drop}
use Rattle.std.proofs.lemmas.List.{get_or-take, get_or-drop}
use Rattle.laws.proofs.Bytes.{at_next}
use Rattle.rules.specs.Groups.{onto, parse_in}
use Rattle.groups.specs.Placed.{as_reading, reading_at}
use Rattle.groups.specs.declared.Number.{Number}
use Rattle.groups.proofs.Steps.{parse-last, parse-more, onto-some, onto-onto}

-- ---- the unit after k groups, and what fits

pub unit-next : (k : ℕ) → 128 ^ k * 128 ≡ 128 ^ (k + 1)
unit-next k = sym (rw (add-one k) (pow-suc 128 k))

pub unit-most : (k : ℕ) → k < 5 → 128 ^ k ≤ 2 ^ 28
unit-most k h = pow-le-pow_right {n = 128} (lit< tt) {i = k} {j = 4} (omega arith)

pub below_next : (v u g : ℕ) → v < u → g < 128 → v + u * g < u * 128
below_next v u g h l =
    let p : u * (g + 1) ≤ u * 128 = mul-le-mul_left u (omega arith) in
    let q : u * (g + 1) ≡ u * g + u * 1 = mul-add u g 1 in
    omega arith

-- a group's bits, where another follows
pub low_bits : {b : ℕ} → b < 256 → b - 128 < 128
low_bits h = omega arith

-- what is read so far, with the group after the first k
pub next-fits : {v u g : ℕ} (k : ℕ) → u ≡ 128 ^ k → k < 5 → v < u → g < 128 → v + u * g < 2 ^ 35
next-fits {v} {u} {g} k e h l m = omega (arith, below_next v u g l m, unit-most k h, e)

parse_empty : (k : ℕ) → parse_in k [] ≡ None
unfolding parse_in
parse_empty zero = refl
parse_empty (suc k) = refl

parse_no_group : (s : List ℕ) → parse_in 0 s ≡ None
unfolding parse_in
parse_no_group s = refl

-- ---- before the loop

module _ (s : List ℕ) (at : ℕ) where
  pub none-there : length s ≤ at → reading_at s at ≡ None
  unfolding reading_at parse_in
  none-there h = rw (drop_of_length-le s h) refl

  -- a number whose last group is the one before place i
  pub found : (v i : ℕ) → i ≤ length s → as_reading (length s) (Some (v, drop i s)) ≡ Some (record { value = v; next = i })
  found v i h = let e : length s - (length s - i) ≡ i = omega arith in rw (length-drop i s, e) refl

  -- the answer, from the first k groups and those after them
  abbrev pub Left : ℕ → ℕ → ℕ → Option Number
  Left value unit k = as_reading (length s) (onto value unit (parse_in (5 - k) (drop (at + k) s)))

  module _ {b : ℕ} (h : at < length s) (is : b ≡ get_or s at 0) where
    first : drop at s ≡ b ∷ drop (at + 1) s
    first = at_next s at h ∙ ap (λ (c : ℕ). c ∷ drop (at + 1) s) (sym is)

    pub one-group : b < 128 → reading_at s at ≡ Some (record { value = b; next = at + 1 })
    unfolding reading_at
    one-group l = rw (first, parse-last 4 b (drop (at + 1) s) l) (found b (at + 1) (omega arith))

    pub groups-follow : 128 ≤ b → b < 256 → reading_at s at ≡ Left (b - 128) 128 1
    unfolding reading_at
    groups-follow l m = rw (first, parse-more 4 b (drop (at + 1) s) l m) refl

  -- ---- in the loop: b is the group after the first k

  -- the groups after the first, as a part of the bytes
  pub group-at : (n i : ℕ) → i < n → get_or (take n (drop (at + 1) s)) i 0 ≡ get_or s (at + (i + 1)) 0
  group-at n i h = let e : at + 1 + i ≡ at + (i + 1) = omega arith in get_or-take n (drop (at + 1) s) i 0 h ∙ rw (get_or-drop, e) refl

  module _ (v u k : ℕ) {b : ℕ} (is : b ≡ get_or s (at + k) 0) (few : k < 5) (h : at + k < length s) where
    rest : List ℕ
    rest = drop (at + (k + 1)) s

    here : parse_in (5 - k) (drop (at + k) s) ≡ parse_in (suc (5 - (k + 1))) (b ∷ rest)
    unfolding rest
    here =
        let e : 5 - k ≡ suc (5 - (k + 1)) = omega arith in
        let f : at + k + 1 ≡ at + (k + 1) = omega arith in
        ap₂ parse_in e (at_next s (at + k) h ∙ ap₂ (λ (c i : ℕ). c ∷ drop i s) (sym is) f)

    pub zero-last : b ≡ 0 → Left v u k ≡ None
    zero-last e =
        let last : parse_in (suc (5 - (k + 1))) (b ∷ rest) ≡ Some (0, rest) =
        parse-last (5 - (k + 1)) b rest (omega arith) ∙ ap {B = Option (ℕ × List ℕ)} (λ (c : ℕ). Some (c, rest)) e in
        rw (here, last) refl

    pub last-there : {n : ℕ} → (b ≡ 0 → ⊥) → b < 128 → n ≡ at + (k + 1) → Left v u k ≡ Some (record { value = v + u * b; next = n })
    unfolding rest
    last-there {n} e l f =
        let pos : 0 < b = omega arith in
        rw (here, parse-last (5 - (k + 1)) b rest l, onto-some v u b rest pos, f) (found (v + u * b) (at + (k + 1)) (omega arith))

    pub more-there : 128 ≤ b → b < 256 → Left v u k ≡ Left (v + u * (b - 128)) (u * 128) (k + 1)
    unfolding rest
    more-there l m = rw (here, parse-more (5 - (k + 1)) b rest l m, onto-onto v u (b - 128) (parse_in (5 - (k + 1)) rest)) refl

  pub too_far : (v u k : ℕ) → min (length s) (at + 5) ≤ at + k → Left v u k ≡ None
  too_far v u k h = go (leb (length s) (at + k)) refl
    where
      go : (t : Bool) → leb (length s) (at + k) ≡ t → Left v u k ≡ None
      go true e = rw (drop_of_length-le s (leb-true (length s) (at + k) e), parse_empty (5 - k)) refl
      go false e =
          let l = leb-false (length s) (at + k) e in
          let z : 5 - k ≡ 0 = omega arith in
          rw (z, parse_no_group (drop (at + k) s)) refl
