-- Laws of finding a record: the answer for each test, and that the parts at its places are the fields of the record.
use Rattle.std.specs.Prelude.{Ok, Err, None, Some, slice_get}
use Prim.Native.Nat.{ℕ, zero, suc, ◌+◌, ◌-◌, ◌≤◌, ◌<◌}
use mathlib.Core.Path.{◌≡◌, ◌∙◌, refl, sym, ap}
use mathlib.Core.Bool.{Bool, true, false, cond, ◌&&◌, false≢true}
use mathlib.Core.List.{List, [], ◌∷◌}
use native.Mathlib.Omega.{arith}
use lib.Dec.{leb, ltb, eqb}
use lib.ListN.{length, get_or, take, drop}
use lib.Seq.{drop-drop}
use borrow.Author.Tests.{ltb-true, ltb-false, lt-ltb, le-ltb}
use Rattle.rules.specs.Digits.{part, all_digits}
use Rattle.rules.specs.Body.{Record, Body, schedule, registration, count_of, tail_digits}
use Rattle.rules.specs.Body.{rates_of, record_at, counted, parse_registration, parse_body, is_schedule}
use Rattle.rules.specs.Table.{need}
use Rattle.rules.specs.declared.Cause.{Cause}
use Rattle.rules.specs.declared.Format.{Format}
use Rattle.rules.specs.declared.Format.TheVariants.{F201, F202, F203, F301}
use Rattle.digits.proofs.Parts.{part-to}
use Rattle.form.specs.Walk.{record_start}
use Rattle.form.proofs.Standing.{records-count, record_is, rates-within}
use Rattle.records.specs.Standing.{standing}
use Rattle.records.specs.Locating.{places_of, places_at, parses, locate, from, size, Piece}
use Rattle.records.specs.Reading.{field_of, field_in, records_of, record_in}
use Rattle.records.specs.declared.Places.{Places}
use Rattle.records.specs.declared.Field.{Field}
use Rattle.records.specs.declared.Field.TheVariants.{Schedule, Plant, Start, Rates, Flag, Checksum, Next}
use Rattle.records.proofs.Bodies.{stands_facts, records_at, parse-standing, parses-not, parses-as}

-- ---- the answer for each test

module _ (f : Format) (body : List ℕ) (i : ℕ) where
  pub past-count : count_of f ≤ i → Err Cause.Range ≡ locate f body i
  unfolding locate
  past-count h = rw (le-ltb i (count_of f) h) refl

  pub no-rates : i < count_of f → is_schedule f ≡ false → Err Cause.Name ≡ locate f body i
  unfolding locate
  no-rates h e = rw (lt-ltb i (count_of f) h, e) refl

  pub no-form : i < count_of f → is_schedule f ≡ true → standing f body ≡ false → Err Cause.Form ≡ locate f body i
  unfolding locate
  no-form h e n = rw (lt-ltb i (count_of f) h, e, parses-not f body e n) refl

  pub found : {p : Places} → i < count_of f → is_schedule f ≡ true → standing f body ≡ true → p ≡ places_at f body i → Ok p ≡ locate f body i
  unfolding locate
  found h e t p≡ = rw (lt-ltb i (count_of f) h, e, parses-as f body e t, p≡) refl

-- ---- what an answer says

parses-is : (f : Format) (body : List ℕ) → is_schedule f ≡ true → parses (parse_body f body) ≡ standing f body
parses-is f body i = rw (parse-standing f body i) (go (standing f body) (schedule (records_at f body)))
  where
    go : (t : Bool) (b : Body) → parses (cond t (Some b) None) ≡ t
    go true b = refl
    go false b = refl

pub record FoundAt (f : Format) (body : List ℕ) (i : ℕ) (p : Places) : Type 0 where
  pub inside : i < count_of f
  pub scheduled : is_schedule f ≡ true
  pub stands : standing f body ≡ true
  pub places : p ≡ places_at f body i

pub found-facts : (f : Format) (body : List ℕ) (i : ℕ) {p : Places} → Ok p ≡ locate f body i → FoundAt f body i p
unfolding locate
found-facts f body i {p} e = go (ltb i (count_of f)) refl (is_schedule f) refl e
  where
    last : (t : Bool) → t ≡ standing f body → i < count_of f → is_schedule f ≡ true
        → Ok p ≡ need t (Err Cause.Form) (Ok (places_at f body i)) → FoundAt f body i p
    last true q h s e = record { inside = h; scheduled = s; stands = sym q; places = cc }
    last false q h s e = let z : ◌≡◌ {A = ℕ} 0 1 = cc in absurd (omega arith)

    go : (a : Bool) → ltb i (count_of f) ≡ a → (b : Bool) → is_schedule f ≡ b
        → Ok p
        ≡ need a (Err Cause.Range) (need b (Err Cause.Name) (need (parses (parse_body f body)) (Err Cause.Form) (Ok (places_at f body i))))
        → FoundAt f body i p
    go true h true s e = last (parses (parse_body f body)) (parses-is f body s) (ltb-true i (count_of f) h) s e
    go true h false s e = let z : ◌≡◌ {A = ℕ} 0 1 = cc in absurd (omega arith)
    go false h b s e = let z : ◌≡◌ {A = ℕ} 0 1 = cc in absurd (omega arith)

-- ---- the records of a body, whether it parses or not

registration-none : (body : List ℕ) → records_of (parse_body F301 body) ≡ []
unfolding parse_body parse_registration
registration-none body = go (counted F301 body) (eqb (length (drop 6 body)) 27 && all_digits (part (drop 6 body) 0 26) && leb (get_or (drop 6 body) 26 0) 1)
  where
    go : (c t : Bool) → records_of (cond c (cond t (Some (registration (part (drop 6 body) 0 26) (get_or (drop 6 body) 26 0))) None) None) ≡ []
    go false t = refl
    go true false = refl
    go true true = refl

scheduled-records : (f : Format) (body : List ℕ) → is_schedule f ≡ true → records_of (parse_body f body) ≡ cond (standing f body) (records_at f body) []
scheduled-records f body i = rw (parse-standing f body i) (go (standing f body))
  where
    go : (t : Bool) → records_of (cond t (Some (schedule (records_at f body))) None) ≡ cond t (records_at f body) []
    go true = refl
    go false = refl

pub past_end : (rs : List Record) (i : ℕ) → length rs ≤ i → slice_get rs i ≡ None
past_end [] i h = refl
past_end (r ∷ rs) zero h = absurd (omega arith)
past_end (r ∷ rs) (suc i) h = past_end rs i (omega arith)

module _ (f : Format) (body : List ℕ) (i : ℕ) where
  none-at : is_schedule f ≡ true → standing f body ≡ false → record_in f body i ≡ None
  unfolding record_in
  none-at s e = rw (scheduled-records f body s, e) refl

  none-past : is_schedule f ≡ true → count_of f ≤ i → (t : Bool) → standing f body ≡ t → record_in f body i ≡ None
  unfolding record_in
  none-past s h true e =
      rw (scheduled-records f body s, e) (past_end (records_at f body) i (let k = records-count f (count_of f) (drop 6 body) in omega arith))
  none-past s h false e = none-at s e

  -- the record that is found
  pub record-found : {p : Places} → FoundAt f body i p → record_in f body i ≡ Some (record_at f (drop (record_start f body i) body))
  unfolding record_in
  record-found a = rw (scheduled-records f body a.scheduled, a.stands) (record_is f body (stands_facts f body a.stands).records i a.inside)

none-registered : (f : Format) (body : List ℕ) (i : ℕ) → is_schedule f ≡ false → record_in f body i ≡ None
unfolding record_in
none-registered F201 body i e = absurd (false≢true (sym e))
none-registered F202 body i e = absurd (false≢true (sym e))
none-registered F203 body i e = absurd (false≢true (sym e))
none-registered F301 body i e = rw (registration-none body) refl

pub record-missing : (f : Format) (body : List ℕ) (i : ℕ) {c : Cause} → Err c ≡ locate f body i → record_in f body i ≡ None
unfolding locate
record-missing f body i {c} e = go (is_schedule f) refl (ltb i (count_of f)) refl e
  where
    last : (t : Bool) → t ≡ standing f body → is_schedule f ≡ true → Err c ≡ need t (Err Cause.Form) (Ok (places_at f body i)) → record_in f body i ≡ None
    last true q s e = let z : ◌≡◌ {A = ℕ} 0 1 = cc in absurd (omega arith)
    last false q s e = none-at f body i s (sym q)

    go : (b : Bool) → is_schedule f ≡ b → (a : Bool) → ltb i (count_of f) ≡ a
        → Err c
        ≡ need a (Err Cause.Range) (need b (Err Cause.Name) (need (parses (parse_body f body)) (Err Cause.Form) (Ok (places_at f body i))))
        → record_in f body i ≡ None
    go false s a h e = none-registered f body i s
    go true s true h e = last (parses (parse_body f body)) (parses-is f body s) s e
    go true s false h e = none-past f body i s (ltb-false i (count_of f) h) (standing f body) refl

-- the empty part where there is no record
pub field-missing : (x : Field) (f : Format) (body : List ℕ) (i : ℕ) {c : Cause} → Err c ≡ locate f body i → [] ≡ field_in x (record_in f body i)
field-missing x f body i e = rw (record-missing f body i e) refl

-- ---- the parts

-- n bytes of the record at `at`, from its place k on
shifted : (body : List ℕ) (at k n a : ℕ) → a ≡ at + k → part body a n ≡ part (drop at body) k n
shifted body at k n a e = rw e (sym (ap (take n) (drop-drop k at body)))

-- the record at `at` has n rates
module _ (body : List ℕ) (at : ℕ) where
  abbrev n : ℕ
  n = rates_of (drop at body)

  pub part-is : (x : Field) (f : Format) → part body (from x (places_of f at n)) (size x f (places_of f at n)) ≡ field_of x (record_at f (drop at body))
  unfolding record_at
  part-is Schedule f = refl
  part-is Plant f = shifted body at 10 26 (at + 10) refl
  part-is Start f = shifted body at 36 12 (at + 36) refl
  part-is Rates f = shifted body at 53 n (at + 53) refl
  part-is Flag F201 = refl
  part-is Flag F202 = refl
  part-is Flag F203 = shifted body at (53 + n) 1 (at + 53 + n) (omega arith)
  part-is Flag F301 = refl
  part-is Checksum F201 = shifted body at (53 + n + 0) 2 (at + 53 + n + 0) (omega arith)
  part-is Checksum F202 = shifted body at (53 + n + 0) 2 (at + 53 + n + 0) (omega arith)
  part-is Checksum F203 = shifted body at (53 + n + 1) 2 (at + 53 + n + 1) (omega arith)
  part-is Checksum F301 = shifted body at (53 + n + 0) 2 (at + 53 + n + 0) (omega arith)
  part-is Next F201 = refl
  part-is Next F202 = refl
  part-is Next F203 = shifted body at (53 + n + 1 + 2) 14 (at + 53 + n + 1 + 2) (omega arith)
  part-is Next F301 = refl

  part-inside : (x : Field) (f : Format) → at + 53 + n + tail_digits f ≤ length body
      → from x (places_of f at n) + size x f (places_of f at n) ≤ length body
  part-inside Schedule f h = omega arith
  part-inside Plant f h = omega arith
  part-inside Start f h = omega arith
  part-inside Rates f h = omega arith
  part-inside Flag F201 h = omega arith
  part-inside Flag F202 h = omega arith
  part-inside Flag F203 h = omega arith
  part-inside Flag F301 h = omega arith
  part-inside Checksum F201 h = omega arith
  part-inside Checksum F202 h = omega arith
  part-inside Checksum F203 h = omega arith
  part-inside Checksum F301 h = omega arith
  part-inside Next F201 h = omega arith
  part-inside Next F202 h = omega arith
  part-inside Next F203 h = omega arith
  part-inside Next F301 h = omega arith

-- a field of the record that is found: its place, its length, its bytes
module _ (x : Field) (f : Format) (body : List ℕ) (i : ℕ) {p : Places} (e : Ok p ≡ locate f body i) (a n : ℕ) (q : Piece x f p a n) where
  found_at : FoundAt f body i p
  found_at = found-facts f body i e

  from_is : a ≡ from x (places_at f body i)
  from_is = q.begins ∙ ap (from x) found_at.places

  size_is : n ≡ size x f (places_at f body i)
  size_is = q.long ∙ ap (size x f) found_at.places

  pub piece_inside : a + n ≤ length body
  piece_inside =
      let w = rates-within f body (stands_facts f body found_at.stands).records i found_at.inside in
      let h = part-inside body (record_start f body i) x f w in
      omega (arith, from_is, size_is)

  pub piece_is : take (a + n - a) (drop a body) ≡ field_in x (record_in f body i)
  piece_is = part-to body a n ∙ rw (from_is, size_is, record-found f body i found_at) (part-is body (record_start f body i) x f)
