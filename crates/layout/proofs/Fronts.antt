-- Laws of the record at the front of bytes: its parts, cut off one after the other, and what follows it.
use Prim.Native.Nat.{ℕ, ◌+◌, ◌≤◌, ◌<◌}
use mathlib.Core.Path.{◌≡◌, ◌∙◌, refl, ap}
use mathlib.Core.List.{List}
use native.Mathlib.Omega.{arith}
use lib.Dec.{lit≤}
use lib.ListN.{length, take, drop, length-drop}
use lib.Seq.{drop-drop}
use Rattle.rules.specs.Digits.{part}
use Rattle.rules.specs.Body.{flag_digits, next_digits, tail_digits, rates_of, size_of, record_at}
use Rattle.rules.specs.declared.Format.{Format}
use Rattle.digits.proofs.Parts.{part-part}
use Rattle.layout.specs.Records.{count_at}
use Rattle.layout.specs.Walk.{Front, record_of}
use Rattle.layout.specs.declared.walk.Parts.{Parts}
use Rattle.layout.proofs.Counts.{count-is}

-- n is the rate count, t the digits after the rates
module _ (f : Format) (s : List ℕ) {n t : ℕ} (n≡ : n ≡ count_at s) (t≡ : t ≡ tail_digits f) where
  pub front-short : length s < 53 → length s < size_of f s
  unfolding size_of
  front-short h = omega arith

  module _ (h : 53 ≤ length s) where
    pub front-is : n ≡ rates_of s
    front-is = n≡ ∙ count-is s h

    pub front-few : length (drop 53 s) < n → length s < size_of f s
    unfolding size_of
    front-few l = omega (arith, front-is, length-drop 53 s)

    pub front-cut : length (drop n (drop 53 s)) < t → length s < size_of f s
    unfolding size_of
    front-cut l = omega (arith, front-is, length-drop 53 s, length-drop n (drop 53 s), t≡)

    after : drop n (drop 53 s) ≡ drop (53 + rates_of s) s
    after = rw front-is (drop-drop (rates_of s) 53 s)

    pub front-rates : take n (drop 53 s) ≡ part s 53 (rates_of s)
    front-rates = rw front-is refl

    pub front-tail : take t (drop n (drop 53 s)) ≡ part s (53 + rates_of s) (tail_digits f)
    front-tail = rw (t≡, after) refl

    pub front-rest : drop t (drop n (drop 53 s)) ≡ drop (size_of f s) s
    unfolding size_of
    front-rest = rw (t≡, after) (drop-drop (tail_digits f) (53 + rates_of s) s)

    pub front-room : n ≤ length (drop 53 s) → t ≤ length (drop n (drop 53 s)) → size_of f s ≤ length s
    unfolding size_of
    front-room l k = omega (arith, front-is, length-drop 53 s, length-drop n (drop 53 s), t≡)

-- the parts have the fields of the record that they are cut from
pub fields_are : (f : Format) (s : List ℕ) (p : Parts) → Front f s p → record_of p ≡ record_at f s
unfolding record_at
fields_are f s p h =
    let n = 53 + rates_of s in
    let fl = flag_digits f in
    let tail : (i j k : ℕ) → i + k ≤ tail_digits f → n + i ≡ j → part p.tail.now i k ≡ part s j k =
    λ i j k l e. rw h.tail (part-part s n (tail_digits f) i k l) ∙ ap (λ (x : ℕ). part s x k) e in
    let flag = tail 0 n fl (omega arith) (omega arith) in
    let checksum = tail fl (n + fl) 2 (omega arith) (omega arith) in
    let next = tail (fl + 2) (n + fl + 2) (next_digits f) (omega arith) (omega arith) in
    let schedule = part-part s 0 53 0 10 (lit≤ tt) in
    let plant = part-part s 0 53 10 26 (lit≤ tt) in
    let start = part-part s 0 53 36 12 (lit≤ tt) in
    rw (h.format, flag, checksum, next, h.rates, h.head, schedule, plant, start) refl
