-- Laws of the rates of records end to end, put into a buffer one record after the other.
use Rattle.std.specs.Prelude.{Ok, Err, None, Some}
use Prim.Native.Nat.{ℕ, ◌+◌, ◌-◌, ◌*◌, ◌≤◌, ◌<◌}
use mathlib.Core.Path.{◌≡◌, ◌∙◌, refl, sym, ap}
use mathlib.Core.Bool.{true, false}
use mathlib.Core.List.{List, [], ◌∷◌, ◌++◌}
use native.Mathlib.Omega.{arith}
use lib.ListN.{length, take, drop, length-append}
use Rattle.rules.specs.Body.{Record, count_of, tail_digits, is_schedule}
use Rattle.rules.specs.Lister.{total_rates}
use Rattle.rules.specs.Writer.{Output, refuse, fitting, written_of, buffer_after}
use Rattle.rules.specs.declared.Cause.{Cause}
use Rattle.rules.specs.declared.Format.{Format}
use Rattle.laws.proofs.Bytes.{part-rest}
use Rattle.digits.specs.Placed.{placed}
use Rattle.digits.proofs.Placing.{placed-none, placed-next, no_room, with-room}
use Rattle.layout.specs.Walk.{Goes}
use Rattle.layout.specs.declared.walk.Parts.{Parts}
use Rattle.layout.specs.declared.walk.Records.{Records}
use Rattle.form.specs.Walk.{shaped, records_from, records_left}
use Rattle.form.proofs.Turns.{records-over, records-turn, begins-records}
use Rattle.form.proofs.Standing.{rates-total}
use Rattle.about_files.specs.Writing.{end_to_end}
use Rattle.records.specs.Standing.{standing, RatesRoom}
use Rattle.records.specs.Reading.{rates_output}
use Rattle.records.proofs.Bodies.{stands_facts, records_at, parses-not, parses-as}

pub joined_length : (rs : List Record) → length (end_to_end rs) ≡ total_rates rs
unfolding total_rates
joined_length [] = refl
joined_length (r ∷ rs) = length-append r.rates (end_to_end rs) ∙ ap (λ (k : ℕ). length r.rates + k) (joined_length rs)

-- ---- the output

module _ (f : Format) (body : List ℕ) (room : ℕ) where
  pub output-name : is_schedule f ≡ false → refuse Cause.Name ≡ rates_output f body room
  unfolding rates_output
  output-name e = rw e refl

  pub output-form : is_schedule f ≡ true → standing f body ≡ false → refuse Cause.Form ≡ rates_output f body room
  unfolding rates_output
  output-form i e = rw (i, parses-not f body i e) refl

  pub output-rates : is_schedule f ≡ true → standing f body ≡ true → fitting room (end_to_end (records_at f body)) ≡ rates_output f body room
  unfolding rates_output
  output-rates i e = rw (i, parses-as f body i e) refl

-- a refusal leaves the buffer
pub refused : {o : Output} {c : Cause} (before : List ℕ) → refuse c ≡ o → (Err c ≡ written_of o) × (before ≡ buffer_after o before)
refused before e = (ap written_of e, ap (λ (o : Output). buffer_after o before) e)

-- how many rates the records that stand in s have: x is the bytes of the other fields
pub rates-left : (f : Format) (s : List ℕ) (x : ℕ) → shaped f (count_of f) s ≡ true → x ≡ count_of f * (53 + tail_digits f)
    → (x ≤ length s) × (length s - x ≡ length (end_to_end (records_from f (count_of f) s)))
rates-left f s x e x≡ =
    let t = rates-total f (count_of f) s e in
    let j = joined_length (records_from f (count_of f) s) in
    (omega (arith, t.0), omega (arith, t.0))

-- ---- a loop that puts record after record: those that w has left are put at `place`
pub record Going (all : List Record) (before out : List ℕ) (place : ℕ) (w : Records) : Type 0 where
  pub enough : place + length (end_to_end (records_left w)) ≤ length out
  pub rest : placed out place (end_to_end (records_left w)) ≡ placed before 0 (end_to_end all)

pub going_start : (f : Format) (s before : List ℕ) (w : Records) → RatesRoom f s (length before) → w.format ≡ f → w.left ≡ count_of f → w.rest.now ≡ s
    → Going (records_from f (count_of f) s) before before 0 w
going_start f s before w h f≡ k≡ s≡ =
    let e = begins-records w f≡ k≡ s≡ h.records in
    record { enough = rw e (omega (arith, h.enough)); rest = rw e refl }

module _ (all : List Record) (before out : List ℕ) (place : ℕ) (w t : Records) (g : Going all before out place w) where
  pub going_end : Goes w None t → out ≡ placed before 0 (end_to_end all)
  going_end h = sym (placed-none out place) ∙ rw (records-over w t h) at g.rest

  module _ (p : Parts) (h : Goes w (Some p) t) where
    split : end_to_end (records_left w) ≡ p.rates.now ++ end_to_end (records_left t)
    split = ap end_to_end (records-turn w t p h)

    pub rates-room : place + length p.rates.now ≤ length out
    rates-room = omega (arith, ap length split, g.enough, length-append p.rates.now (end_to_end (records_left t)))

    pub going_next : {o : List ℕ} → length o ≡ length out → o ≡ placed out place p.rates.now → Going all before o (place + length p.rates.now) t
    going_next {o} len q =
        let others = end_to_end (records_left t) in
        record {
          enough = omega (arith, ap length split, g.enough, length-append p.rates.now others);
          rest = placed-next out p.rates.now others place q (omega (arith, rates-room)) ∙ ap (placed out place) (sym split) ∙ g.rest;
        }

-- ---- the rates of a body that stands, into a buffer: x is the bytes of the other fields
module _ (f : Format) (body before : List ℕ) (i : is_schedule f ≡ true) (t : standing f body ≡ true) (x : ℕ) (x≡ : x ≡ count_of f * (53 + tail_digits f)) where
  abbrev s : List ℕ
  s = take (length body - 6) (drop 6 body)

  abbrev rates : List ℕ
  rates = end_to_end (records_from f (count_of f) s)

  s-shaped : shaped f (count_of f) s ≡ true
  s-shaped = rw (part-rest body 6) (stands_facts f body t).records

  output_is : fitting (length before) rates ≡ rates_output f body (length before)
  output_is = rw (part-rest body 6) (output-rates f body (length before) i t)

  pub fixed-inside : x ≤ length s
  fixed-inside = (rates-left f s x s-shaped x≡).0

  copied-length : length s - x ≡ length rates
  copied-length = (rates-left f s x s-shaped x≡).1

  pub copy-short : length before < length s - x
      → (Err Cause.Buffer ≡ written_of (rates_output f body (length before))) × (before ≡ buffer_after (rates_output f body (length before)) before)
  copy-short h = rw (sym output_is) (no_room before rates copied-length h)

  pub copy-room : length s - x ≤ length before → RatesRoom f s (length before)
  copy-room h = record { records = s-shaped; enough = omega (arith, copied-length) }

  pub copy_done : {after : List ℕ} → length s - x ≤ length before → after ≡ placed before 0 rates
      → (Ok (length s - x) ≡ written_of (rates_output f body (length before))) × (after ≡ buffer_after (rates_output f body (length before)) before)
  copy_done h p = rw (sym output_is) (with-room before rates copied-length h p)
