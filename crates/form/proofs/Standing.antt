-- What a caller may take from a body whose form is right: where its records stand, how many they are, and how many rates they have.
use Rattle.std.specs.Option.{option_map}
use Rattle.std.specs.Prelude.{None, Some, slice_get}
use Prim.Native.Nat.{ℕ, zero, suc, ◌+◌, ◌*◌, ◌≤◌, ◌<◌}
use mathlib.Core.Path.{◌≡◌, ◌∙◌, refl, ap}
use mathlib.Core.Bool.{true, Bool, false, cond, ◌&&◌}
use mathlib.Core.List.{List}
use native.Mathlib.Nat.{suc-mul}
use native.Mathlib.Omega.{arith}
use lib.Dec.{lit≤}
use borrow.Author.Tests.{eqb-true}
use lib.ListN.{length, drop, length-drop}
use lib.Seq.{drop-drop}
use Rattle.rules.specs.Digits.{part, digits}
use Rattle.rules.specs.Body.{count_of, tail_digits, rates_of, size_of, record_shape, record_at, Record, schedule, counted, parse_body, is_schedule}
use Rattle.rules.specs.Lister.{total_rates}
use Rattle.rules.specs.declared.Format.{Format}
use Rattle.laws.proofs.Tests.{both}
use Rattle.laws.proofs.Bytes.{part_length}
use Rattle.form.specs.Walk.{shaped, records_from, record_start, Whole}
use Rattle.digits.proofs.Parts.{at-most-part}
use Rattle.form.proofs.Walk.{whole, rest-is}

-- ---- the fields of a record that stands at the front of s

module _ (f : Format) (s : List ℕ) (w : Whole f s) where
  pub start-full : length (part s 36 12) ≡ 12
  start-full = part_length s 36 12 (omega (arith, w.room))

  pub start-digits : digits 12 (part s 36 12) ≡ true
  start-digits = rw (start-full, at-most-part 9 s 0 48 36 12 (lit≤ tt) w.head) refl

  pub rates-full : length (part s 53 (rates_of s)) ≡ rates_of s
  rates-full = part_length s 53 (rates_of s) (omega (arith, w.room))

-- ---- numbers of records and rates

pub records-count : (f : Format) (k : ℕ) (s : List ℕ) → length (records_from f k s) ≡ k
unfolding records_from
records-count f zero s = refl
records-count f (suc k) s = ap suc (records-count f k (drop (size_of f s) s))

-- the bytes of k records are their rates and as many others
pub rates-total : (f : Format) (k : ℕ) (s : List ℕ) → shaped f k s ≡ true
    → (length s ≡ k * (53 + tail_digits f) + total_rates (records_from f k s)) × (total_rates (records_from f k s) ≤ k * 99999)
unfolding shaped records_from total_rates size_of record_at
rates-total f zero s e = (omega (arith, eqb-true (length s) 0 e), omega arith)
rates-total f (suc k) s e =
    let b = both (record_shape f s) (shaped f k (drop (size_of f s) s)) e in
    let w = whole f s b.0 in
    let t = rates-total f k (drop (size_of f s) s) b.1 in
    let n = rates-full f s w in
    let l = length-drop (size_of f s) s in
    let p = suc-mul k (53 + tail_digits f) in
    let q = suc-mul k 99999 in
    (omega (arith, w.room), omega (arith, w.few))

-- ---- where the records stand

-- what is left of t after k records
abbrev rest_after : Format → ℕ → List ℕ → List ℕ
rest_after f zero t = t
rest_after f (suc k) t = rest_after f k (drop (size_of f t) t)

one_more : (f : Format) (k : ℕ) (t : List ℕ) → rest_after f (suc k) t ≡ drop (size_of f (rest_after f k t)) (rest_after f k t)
one_more f zero t = refl
one_more f (suc k) t = one_more f k (drop (size_of f t) t)

record-here : (f : Format) (n k : ℕ) (t : List ℕ) → k < n → slice_get (records_from f n t) k ≡ Some (record_at f (rest_after f k t))
unfolding records_from
record-here f zero k t h = absurd (omega arith)
record-here f (suc n) zero t h = refl
record-here f (suc n) (suc k) t h = record-here f n k (drop (size_of f t) t) (omega arith)

shape-here : (f : Format) (n k : ℕ) (t : List ℕ) → k < n → shaped f n t ≡ true → record_shape f (rest_after f k t) ≡ true
unfolding shaped
shape-here f zero k t h e = absurd (omega arith)
shape-here f (suc n) zero t h e = (both (record_shape f t) (shaped f n (drop (size_of f t) t)) e).0
shape-here f (suc n) (suc k) t h e =
    shape-here f n k (drop (size_of f t) t) (omega arith) (both (record_shape f t) (shaped f n (drop (size_of f t) t)) e).1

rest-is-drop : (f : Format) (body : List ℕ) (k : ℕ) → rest_after f k (drop 6 body) ≡ drop (record_start f body k) body
unfolding record_start
rest-is-drop f body zero = refl
rest-is-drop f body (suc k) =
    one_more f k (drop 6 body)
    ∙ rw (rest-is-drop f body k) (drop-drop (size_of f (drop (record_start f body k) body)) (record_start f body k) body)

-- record k of a body whose form is right
module _ (f : Format) (body : List ℕ) (e : shaped f (count_of f) (drop 6 body) ≡ true) (k : ℕ) (h : k < count_of f) where
  pub record_is : slice_get (records_from f (count_of f) (drop 6 body)) k ≡ Some (record_at f (drop (record_start f body k) body))
  record_is = record-here f (count_of f) k (drop 6 body) h ∙ ap (λ (t : List ℕ). Some (record_at f t)) (rest-is-drop f body k)

  pub record-shape : record_shape f (drop (record_start f body k) body) ≡ true
  record-shape = rw (rest-is-drop f body k) at (shape-here f (count_of f) k (drop 6 body) h e)

  pub record-whole : Whole f (drop (record_start f body k) body)
  record-whole = whole f (drop (record_start f body k) body) record-shape

  -- it ends within the body
  pub rates-within : record_start f body k + 53 + rates_of (drop (record_start f body k) body) + tail_digits f ≤ length body
  rates-within = omega (arith, record-whole.room, length-drop (record_start f body k) body)

-- ---- what a schedule's body parses as

pub parse_is : (f : Format) (body : List ℕ) → is_schedule f ≡ true
    → parse_body f body ≡ cond (counted f body && shaped f (count_of f) (drop 6 body)) (Some (schedule (records_from f (count_of f) (drop 6 body)))) None
unfolding parse_body
parse_is f body i = rw (rest-is f (drop 6 body) i) (go (counted f body) (shaped f (count_of f) (drop 6 body)) (records_from f (count_of f) (drop 6 body)))
  where
    go : (c t : Bool) (rs : List Record) → cond c (option_map schedule (cond t (Some rs) None)) None ≡ cond (c && t) (Some (schedule rs)) None
    go false t rs = refl
    go true false rs = refl
    go true true rs = refl
