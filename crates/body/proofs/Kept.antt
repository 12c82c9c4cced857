-- What is kept of an accepted schedule body is what `summary_of` says of its file.
use Rattle.std.specs.Prelude.{Some, None, Option}
use Prim.Native.Nat.{ℕ, suc, ◌+◌, ◌-◌, ◌*◌, ◌%◌, ◌≤◌}
use mathlib.Core.Path.{◌≡◌, ◌∙◌, refl, sym}
use mathlib.Core.Bool.{Bool, true, false≢true}
use mathlib.Core.List.{List, [], ◌∷◌}
use native.Mathlib.Nat.{add-zero}
use native.Mathlib.Omega.{arith}
use lib.Dec.{lit<}
use lib.ListN.{length, get_or, take, drop}
use lib.Seq.{get_or-take, get_or-drop}
use Rattle.rules.specs.Digits.{part, value, decimal}
use Rattle.rules.specs.Calendar.{exists, seconds_of, moment, whole_minute, half_hour, start_slot}
use Rattle.rules.specs.Body.{Record, count_of, tail_digits, rates_of, size_of, record_at, every, is_schedule}
use Rattle.rules.specs.File.{whole_month, months_from, in_time, update_dates, record_dates, flag_of}
use Rattle.rules.specs.Lister.{total_rates}
use Rattle.rules.specs.declared.Format.{Format}
use Rattle.rules.specs.declared.Format.TheVariants.{F201, F202, F203, F301}
use Rattle.form.specs.Walk.{shaped, records_from, Whole}
use Rattle.body.specs.Records.{update_in, update_at}
use Rattle.rules.specs.Reading.{first_start, update_of, summary_of}
use Rattle.body.specs.Reading.{name_of, schedule_file}
use Rattle.rules.specs.declared.Summary.{Summary}
use Rattle.rules.specs.declared.Update.{Update}
use Rattle.laws.proofs.Tests.{both}
use Rattle.laws.proofs.Facts.{month-facts}
use Rattle.digits.proofs.Parts.{part-to}
use Rattle.calendar.proofs.Begins.{begins-half}
use Rattle.layout.proofs.Starts.{is-start, start-some, moment-some}
use Rattle.form.proofs.Walk.{count-positive, count-bound, whole-start, records-step}
use Rattle.form.proofs.Standing.{start-digits, records-count, rates-total}
use Rattle.body.proofs.Starts.{segment-value, next-digits}

-- ---- start, flag and next access

flag_is : (s : List ℕ) (n : ℕ) → n ≡ rates_of s → get_or s (53 + n) 0 ≡ flag_of (record_at F203 s ∷ [])
unfolding record_at
flag_is s n n≡ =
    let at = 53 + rates_of s in
    rw (n≡, get_or-take 1 (drop at s) 0 0 (lit< tt), get_or-drop at s 0 0, add-zero at) refl

-- the first record of a body
first-record : (f : Format) (s : List ℕ)
    → records_from f (count_of f) s ≡ record_at f s ∷ records_from f (count_of f - 1) (take (length s - size_of f s) (drop (size_of f s) s))
first-record f s = records-step f s (count_of f) (omega (arith, count-positive f)) refl

months-first : (m : ℕ) (rs : List Record) {r : Record} {others : List Record} → rs ≡ r ∷ others → months_from m rs ≡ true → whole_month m r ≡ true
unfolding months_from
months-first m rs {r} {others} e h = (both (whole_month m r) (months_from (suc m) others) (rw e at h)).0

every_first : (p : Record → Bool) (rs : List Record) {r : Record} {others : List Record} → rs ≡ r ∷ others → every p rs ≡ true → p r ≡ true
unfolding every
every_first p rs {r} {others} e h = (both (p r) (every p others) (rw e at h)).0

month-start : (f : Format) (s : List ℕ) (m : ℕ) → whole_month m (record_at f s) ≡ true
    → (exists (whole_minute (part s 36 12)) ≡ true) × (half_hour (part s 36 12) ≡ true)
unfolding record_at
month-start f s m h = let g = month-facts m (record_at f s) h in (g.date, begins-half (part s 36 12) g.begins)

update-start : (s : List ℕ) → update_dates (record_at F203 s) ≡ true
    → (exists (whole_minute (part s 36 12)) ≡ true) × (half_hour (part s 36 12) ≡ true)
unfolding update_dates record_at
update-start s h =
    let n = length (part s 53 (rates_of s)) in
    let t = part s 36 12 in
    go n t (start_slot t) refl (both (in_time n (start_slot t)) (exists (part s (53 + rates_of s + 1 + 2) 14)) h).0
  where
    go : (n : ℕ) (t : List ℕ) (o : Option ℕ) → start_slot t ≡ o → in_time n o ≡ true → (exists (whole_minute t) ≡ true) × (half_hour t ≡ true)
    go n t None e i = absurd (false≢true i)
    go n t (Some k) e i = let r = is-start t e in (r.1, r.2)

next-is : (s : List ℕ) → Whole F203 s → update_dates (record_at F203 s) ≡ true
    → moment (record_at F203 s).next ≡ Some (seconds_of (record_at F203 s).next)
unfolding update_dates record_at
next-is s w h =
    let u = part s (53 + rates_of s + 1 + 2) 14 in
    let e = (both (in_time (length (part s 53 (rates_of s))) (start_slot (part s 36 12))) (exists u) h).1 in
    moment-some u (next-digits s w (rates_of s) refl) e

-- an accepted record's start is a slot's
starts : (f : Format) (segment : ℕ) (s : List ℕ) → is_schedule f ≡ true → Whole f s
    → record_dates (name_of f segment []) f (records_from f (count_of f) s) ≡ true
    → (exists (whole_minute (part s 36 12)) ≡ true) × (half_hour (part s 36 12) ≡ true)
starts F201 segment s i w d = month-start F201 s _ (months-first _ (records_from F201 13 s) (first-record F201 s) d)
starts F202 segment s i w d = month-start F202 s _ (months-first _ (records_from F202 1 s) (first-record F202 s) d)
starts F203 segment s i w d = update-start s (every_first update_dates (records_from F203 1 s) (first-record F203 s) d)
starts F301 segment s i w d = absurd (false≢true i)

-- and the next access of a 203 exists
update_is : (f : Format) (segment : ℕ) (s : List ℕ) → Whole f s
    → record_dates (name_of f segment []) f (records_from f (count_of f) s) ≡ true
    → update_at f s ≡ update_of f (records_from f (count_of f) s)
update_is F201 segment s w d = refl
update_is F202 segment s w d = refl
update_is F203 segment s w d =
    let first = first-record F203 s in
    rw (first, next-is s w (every_first update_dates (records_from F203 1 s) first d)) refl
update_is F301 segment s w d = refl

-- ---- the whole of it

module _ (f : Format) (segment : ℕ) (s : List ℕ) (i : is_schedule f ≡ true) (e : shaped f (count_of f) s ≡ true)
    (d : record_dates (name_of f segment []) f (records_from f (count_of f) s) ≡ true) where
  start-kept : start_slot (part s 36 12) ≡ first_start (records_from f (count_of f) s)
  unfolding record_at
  start-kept =
      let w = whole-start f s e in
      let t = part s 36 12 in
      let r = starts f segment s i w d in
      rw (first-record f s, start-some t (start-digits f s w) r.0 r.1) refl

  -- x is the bytes beside the rates, k the records, a the start, u flag and next access
  pub summary_is : (x k : ℕ) (a : Option ℕ) (u : Option Update) → x ≡ count_of f * (53 + tail_digits f) → k ≡ count_of f
      → a ≡ start_slot (part s 36 12) → u ≡ update_at f s
      → ◌≡◌ {A = Summary}
      (record { format = f; segment = segment % 10000; records = k; rates = length s - x; start = a; update = u; result = None })
      (summary_of (schedule_file f segment [] (records_from f (count_of f) s)))
  unfolding summary_of
  summary_is x k a u x≡ k≡ a≡ u≡ =
      let t = rates-total f (count_of f) s e in
      let e₁ : segment % 10000 ≡ value (decimal 4 segment) = sym (segment-value segment) in
      let e₂ : k ≡ length (records_from f (count_of f) s) = k≡ ∙ sym (records-count f (count_of f) s) in
      let e₃ : length s - x ≡ total_rates (records_from f (count_of f) s) = omega (arith, t.0) in
      let e₄ : a ≡ first_start (records_from f (count_of f) s) = a≡ ∙ start-kept in
      let e₅ : u ≡ update_of f (records_from f (count_of f) s) = u≡ ∙ update_is f segment s (whole-start f s e) d in
      cc

  pub rates-room : {x : ℕ} → x ≡ count_of f * (53 + tail_digits f) → (x ≤ length s) × (length s - x ≤ 1299987)
  rates-room x≡ =
      let t = rates-total f (count_of f) s e in
      let l : count_of f * 99999 ≤ 1299987 = omega (arith, count-bound f) in
      (omega (arith, t.0), omega (arith, t.0, t.1))

-- what `update_in` answers: n is the rate count
module _ (s : List ℕ) (n : ℕ) (n≡ : n ≡ rates_of s) where
  next-part : part s (53 + n + 1 + 2) (53 + n + 1 + 2 + 14 - (53 + n + 1 + 2)) ≡ (record_at F203 s).next
  unfolding record_at
  next-part = part-to s (53 + n + 1 + 2) 14 ∙ rw n≡ refl

  read-part : {o : Option ℕ} → o ≡ moment (part s (53 + n + 1 + 2) (53 + n + 1 + 2 + 14 - (53 + n + 1 + 2))) → o ≡ moment (record_at F203 s).next
  read-part e = rw next-part at e

  module _ {o : Option ℕ} (read : o ≡ moment (part s (53 + n + 1 + 2) (53 + n + 1 + 2 + 14 - (53 + n + 1 + 2)))) where
    pub no-update : o ≡ None → None ≡ update_in s
    no-update e = rw (sym (read-part read) ∙ e) refl

    pub an-update : {t : ℕ} → o ≡ Some t → Some (record { flag = get_or s (53 + n) 0; next_access = t }) ≡ update_in s
    an-update e = rw (sym (read-part read) ∙ e, flag_is s n n≡) refl
