-- Laws of bytes put into a buffer: one after the other is both, from place 0 on they are the buffer's first bytes.
use Rattle.std.specs.Prelude.{Ok, Err}
use Prim.Native.Nat.{ℕ, suc, ◌+◌, ◌-◌, ◌≤◌, ◌<◌, min}
use mathlib.Core.Path.{◌≡◌, ◌∙◌, refl, sym, ap}
use mathlib.Core.Bool.{Bool, true, false}
use mathlib.Core.List.{List, [], ◌∷◌, ◌++◌, append_assoc, append-nil}
use native.Mathlib.Nat.{add-zero, add-suc, suc-add, zero-add}
use native.Mathlib.Omega.{arith}
use lib.Dec.{leb}
use lib.ListN.{length, take, drop, set, length-take, take-append-drop, drop_of_length-le}
use lib.Seq.{drop-drop, set_out, sets, sets-eq, length-sets}
use borrow.Author.Tests.{le-leb, lt-leb, leb-true, leb-false}
use Rattle.rules.specs.Writer.{fitting, written_of, buffer_after}
use Rattle.rules.specs.declared.Cause.{Cause}
use Rattle.digits.specs.Placed.{placed}

-- ---- a run of stores

pub sets-append : (a b l : List ℕ) (i : ℕ) → sets l i (a ++ b) ≡ sets (sets l i a) (i + length a) b
sets-append [] b l i = rw add-zero refl
sets-append (x ∷ a) b l i =
    sets-append a b (set l i x) (suc i)
    ∙ ap (λ (k : ℕ). sets (sets (set l i x) (suc i) a) k b) (suc-add i (length a) ∙ sym (add-suc i (length a)))

-- past the end nothing is stored
sets-past : (a l : List ℕ) (i : ℕ) → length l ≤ i → sets l i a ≡ l
sets-past [] l i h = refl
sets-past (x ∷ a) l i h = rw (set_out l i x h) (sets-past a l (suc i) (omega arith))

-- ---- bytes at a place

-- past the buffer's end
pub placed_past : (l a : List ℕ) (at : ℕ) → length l ≤ at → l ≡ placed l at a
unfolding placed
placed_past l a at h = sym (sets-past a l at h)

-- as many bytes as there is room for are all that are stored
module _ (l a : List ℕ) (at n : ℕ) (h : at < length l) (n≡ : n ≡ min (length l - at) (length a)) where
  taken : length (take n a) ≡ n
  taken = simp length-take (omega arith)

  others : sets (sets l at (take n a)) (at + length (take n a)) (drop n a) ≡ sets l at (take n a)
  others = go (leb (length a) n) refl
    where
      go : (b : Bool) → leb (length a) n ≡ b → sets (sets l at (take n a)) (at + length (take n a)) (drop n a) ≡ sets l at (take n a)
      go true e = rw (drop_of_length-le a (leb-true (length a) n e)) refl
      go false e =
          let more = leb-false (length a) n e in
          let long = length-sets l at (take n a) in
          sets-past (drop n a) (sets l at (take n a)) (at + length (take n a)) (omega (arith, taken))

  -- a part of the buffer, from `at` on, is lent and comes back as those bytes
  pub placed_part : (b : List ℕ) → b ≡ take n a → take at l ++ (b ++ drop (at + n - at) (drop at l)) ≡ placed l at a
  unfolding placed
  placed_part b b≡ =
      let long = taken in
      let to : at + (at + n - at) ≡ at + length (take n a) = omega arith in
      let room : at + length (take n a) ≤ length l = omega arith in
      rw (b≡, drop-drop (at + n - at) at l, to)
      (sym (sets-eq (take n a) l at room ∙ append_assoc (take at l) (take n a) (drop (at + length (take n a)) l))
      ∙ sym others
      ∙ sym (sets-append (take n a) (drop n a) l at)
      ∙ ap (sets l at) (take-append-drop n a))

-- a buffer of their length becomes those bytes
pub placed_all : (l a : List ℕ) → length l ≡ length a → placed l 0 a ≡ a
unfolding placed
placed_all l a e =
    let end : length l ≤ length a = omega arith in
    sets-eq a l 0 (omega arith) ∙ rw (zero-add (length a), drop_of_length-le l end) (append-nil a)

-- nothing, and one byte
pub placed-none : (l : List ℕ) (at : ℕ) → placed l at [] ≡ l
unfolding placed
placed-none l at = refl

pub placed_one : (l : List ℕ) (at x : ℕ) → placed l at (x ∷ []) ≡ set l at x
unfolding placed
placed_one l at x = refl

-- some bytes, and then others
pub placed-next : (l a b : List ℕ) (at : ℕ) {m : List ℕ} {mid : ℕ} → m ≡ placed l at a → mid ≡ at + length a
    → placed m mid b ≡ placed l at (a ++ b)
unfolding placed
placed-next l a b at m≡ mid≡ = rw (m≡, mid≡) (sym (sets-append a b l at))

-- from place 0 on
pub placed_first : (l b : List ℕ) → length b ≤ length l → placed l 0 b ≡ b ++ drop (length b) l
unfolding placed
placed_first l b h = sets-eq b l 0 (omega arith) ∙ rw zero-add refl

-- ---- the answer and the buffer of an output

module _ (before b : List ℕ) {len : ℕ} (l : len ≡ length b) where
  pub no_room : length before < len
      → (Err Cause.Buffer ≡ written_of (fitting (length before) b)) × (before ≡ buffer_after (fitting (length before) b) before)
  no_room h = let e = lt-leb (length b) (length before) (omega arith) in (rw e refl, rw e refl)

  pub with-room : {after : List ℕ} → len ≤ length before → after ≡ placed before 0 b
      → (Ok len ≡ written_of (fitting (length before) b)) × (after ≡ buffer_after (fitting (length before) b) before)
  with-room {after} h p =
      let e = le-leb (length b) (length before) (omega arith) in
      (rw (e, l) refl, rw e (p ∙ placed_first before b (omega arith)))
