-- Laws of bytes put into a buffer, one after another, and of a text that has room there or not.
use Rattle.std.specs.Prelude.{Option, Some, None}
use Prim.Native.Nat.{ℕ, ◌+◌, ◌-◌, ◌≤◌, ◌<◌}
use mathlib.Core.Path.{◌≡◌, ◌∙◌, refl, sym, ap}
use mathlib.Core.List.{List}
use native.Mathlib.Numerals.{add-one}
use native.Mathlib.Omega.{arith}
use borrow.Author.Tests.{le-leb, lt-leb}
use lib.ListN.{length, get_or, set, take, replicate}
use lib.Seq.{paste, paste-suc, take_at}
use Rattle.listing.specs.Line.{room, line_in}
use Rattle.listing.specs.declared.Line.{Line}
use Rattle.script_fields.specs.Put.{place_after, buffer_after}

-- bytes b in d from place k on: one more than the first i
pub put_step : (d b : List ℕ) (k i : ℕ) {out : List ℕ} {x : ℕ} → out ≡ paste d k b i → x ≡ get_or b i 0 → k + i < length d → i < length b
    → set out (k + i) x ≡ paste d k b (i + 1)
put_step d b k i e f h l = rw (e, f, add-one i) (paste-suc d k b i 0 h l)

-- the same from the start on
pub put-start : (d b : List ℕ) (i : ℕ) {out : List ℕ} {x : ℕ} → out ≡ paste d 0 b i → x ≡ get_or b i 0 → i < length d → i < length b
    → set out i x ≡ paste d 0 b (i + 1)
put-start d b i {out} {x} e f h l =
    let z : 0 + i ≡ i = omega arith in
    sym (ap (λ (k : ℕ). set out k x) z) ∙ put_step d b 0 i e f (omega arith) l

-- two more
pub put_two : (d b : List ℕ) (k j : ℕ) {out : List ℕ} {x y : ℕ} → out ≡ paste d k b j → x ≡ get_or b j 0 → y ≡ get_or b (j + 1) 0
    → k + j + 1 < length d → j + 1 < length b
    → set (set out (k + j) x) (k + j + 1) y ≡ paste d k b (j + 2)
put_two d b k j {out} {x} {y} e f g h l =
    let first : set out (k + j) x ≡ paste d k b (j + 1) = put_step d b k j e f (omega arith) (omega arith) in
    let a : k + j + 1 ≡ k + (j + 1) = omega arith in
    let n : j + 2 ≡ j + 1 + 1 = omega arith in
    rw (a, n) (put_step d b k (j + 1) first g (omega arith) l)

-- ---- room for a text

-- what a function that puts this text says and leaves
abbrev pub Put : List ℕ → ℕ → List ℕ → Option ℕ → List ℕ → Type 0
Put out at text next after = (next ≡ place_after out at text) × (after ≡ buffer_after out at text)

module _ (out : List ℕ) (at : ℕ) (text : List ℕ) where
  pub no_room : length out < at + length text → Put out at text None out
  unfolding place_after buffer_after
  no_room h = (rw (lt-leb (at + length text) (length out) h) refl, rw (lt-leb (at + length text) (length out) h) refl)

  pub has_room : {n : ℕ} {after : List ℕ} → n ≡ at + length text → after ≡ paste out at text (length text) → at + length text ≤ length out
      → Put out at text (Some n) after
  unfolding place_after buffer_after
  has_room e f h = (rw (le-leb (at + length text) (length out) h) (ap Some e), rw (le-leb (at + length text) (length out) h) f)

-- ---- a number, which the lister's line has already

pub line-text : (l : Line) (s : List ℕ) → l ≡ line_in s → take l.length l.bytes ≡ s
unfolding line_in
line-text l s e = rw e (take_at s (replicate (room - length s) 0) (length s) refl)
