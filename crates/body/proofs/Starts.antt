-- Laws of the dates of a record: its start, its month and its next access.
use Rattle.std.specs.Prelude.{Some, None}
use Prim.Native.Nat.{ℕ, ◌+◌, ◌%◌}
use mathlib.Core.Path.{◌≡◌, ◌∙◌, refl, sym, ap}
use mathlib.Core.Bool.{Bool, true, false, ◌&&◌, false≢true}
use mathlib.Core.List.{List}
use native.Mathlib.Omega.{arith}
use lib.Dec.{eqb, lit≤}
use lib.ListN.{length}
use Rattle.rules.specs.Digits.{part, digits, value_from, value, decimal}
use Rattle.rules.specs.Calendar.{slots_of_month, month_at, exists, whole_minute}
use Rattle.rules.specs.Body.{Record, rates_of, record_at}
use Rattle.rules.specs.File.{month_begins, whole_month, months_from, first_month}
use Rattle.rules.specs.declared.Format.{Format}
use Rattle.rules.specs.declared.Format.TheVariants.{F203}
use Rattle.laws.proofs.Bytes.{part_length}
use Rattle.calendar.specs.Moments.{month_begun}
use Rattle.calendar.proofs.Begins.{begun-none}
use Rattle.digits.proofs.Parts.{at-most-part}
use Rattle.layout.specs.Walk.{record_of, Goes}
use Rattle.layout.specs.declared.walk.Parts.{Parts}
use Rattle.layout.specs.declared.walk.Records.{Records}
use Rattle.layout.proofs.Fronts.{fields_are}
use Rattle.form.specs.Walk.{Whole, shaped_left, records_left}
use Rattle.form.proofs.Walk.{whole-first}
use Rattle.form.proofs.Turns.{records-turn}
use Rattle.form.proofs.Standing.{start-digits}

pub segment-value : (n : ℕ) → value (decimal 4 n) ≡ n % 10000
unfolding decimal value_from
segment-value n = omega arith

-- ---- the fields of a record that stands at the front of s

module _ (f : Format) (s : List ℕ) (w : Whole f s) where
  -- a start that begins no month is the whole of none
  no_whole : None ≡ month_begun (record_at f s).start → (m : ℕ) → whole_month m (record_at f s) ≡ false
  unfolding whole_month record_at
  no_whole e m =
      let t = part s 36 12 in
      let d : digits 12 t ≡ true = start-digits f s w in
      let n : (exists (whole_minute t) && month_begins t) ≡ false = rw d at (begun-none t e) in
      go (exists (whole_minute t)) (month_begins t) (eqb (month_at t) m) (eqb (length (part s 53 (rates_of s))) (slots_of_month m)) n
    where
      go : (a b c d : Bool) → (a && b) ≡ false → (a && c && b && d) ≡ false
      go false b c d n = refl
      go true true c d n = absurd (false≢true (sym n))
      go true false true d n = refl
      go true false false d n = refl

-- the same of a 203: n is the rate count
module _ (s : List ℕ) (w : Whole F203 s) (n : ℕ) (n≡ : n ≡ rates_of s) where
  pub next-digits : digits 14 (part s (53 + n + 1 + 2) 14) ≡ true
  next-digits =
      let e : 53 + n + 1 + 2 ≡ 53 + rates_of s + 3 = omega arith in
      rw (part_length s (53 + n + 1 + 2) 14 (omega (arith, w.room)), e, at-most-part 9 s (53 + rates_of s) 17 3 14 (lit≤ tt) w.tail) refl

-- ---- the month of the first of the records that are left

module _ (w t : Records) (p : Parts) (g : Goes w (Some p) t) where
  pub first-is : first_month (records_left w) ≡ month_at (record_of p).start
  first-is = ap first_month (records-turn w t p g)

  -- where it begins no month, no month serves
  pub months-none : shaped_left w ≡ true → None ≡ month_begun (record_of p).start → (m : ℕ) → false ≡ months_from m (records_left w)
  unfolding months_from
  months-none e n m =
      let stood = whole-first w.format w.rest.now w.left (omega (arith, g.2)) e in
      let same = fields_are w.format w.rest.now p g.0 in
      let none : whole_month m (record_of p) ≡ false = rw same (no_whole w.format w.rest.now stood (n ∙ ap (λ (r : Record). month_begun r.start) same) m) in
      rw (records-turn w t p g, none) refl
