-- A body that C reads, takes apart and writes again is itself.
use Rattle.std.specs.Prelude.{Result, Ok, Err, Option, None, Some, slice_get}
use Rattle.std.specs.Option.{unwrap_or}
use Prim.Native.Nat.{ℕ, zero, suc, ◌≤◌, ◌<◌}
use mathlib.Core.Path.{◌≡◌, ◌∙◌, refl, sym, ap, subst}
use mathlib.Core.Bool.{true, false≢true}
use mathlib.Core.List.{List, [], ◌∷◌}
use native.Mathlib.Omega.{arith}
use lib.ListN.{length, take}
use Rattle.rules.specs.Causes.{number_of}
use Rattle.rules.specs.Digits.{part}
use Rattle.rules.specs.Name.{format_number}
use Rattle.rules.specs.Body.{Record, count_of, is_schedule}
use Rattle.rules.specs.File.{File, read_file, records_in}
use Rattle.rules.specs.Writer.{Output, written_of, buffer_after, write_body}
use Rattle.rules.specs.declared.Cause.{Cause}
use Rattle.rules.specs.declared.Format.{Format}
use Rattle.rules.specs.declared.Format.TheVariants.{F201, F202, F203, F301}
use Rattle.rules.specs.Reading.{summary_of, reading_of}
use Rattle.rules.specs.declared.Summary.{Summary}
use Rattle.form.proofs.Walk.{count-positive}
use Rattle.about_files.proofs.Causes.{numbered}
use Rattle.about_files.proofs.Name.{format_back}
use Rattle.about_files.proofs.Accepted.{FileRead, file-read}
use Rattle.plan.specs.Fields.{fields_of}
use Rattle.records.specs.Locating.{locate}
use Rattle.records.specs.Reading.{field_in, record_in, rates_output}
use Rattle.records.specs.declared.Field.TheVariants.{Schedule, Plant, Start, Next}
use Rattle.records.specs.declared.Places.{Places}
use Rattle.c_answers.specs.Answers.{file_numbers, written_numbers}
use Rattle.c_bodies.specs.Places.{places_numbers}
use Rattle.c_bodies.specs.declared.RecordPlaces.{RecordPlaces}
use Rattle.c_bodies.specs.Bodies.{locate_by, rates_by}
use Rattle.about_bodies.specs.Again.{fields_again, flag_again}
use Rattle.about_bodies.proofs.Records.{places-found, places-hold}
use Rattle.about_bodies.proofs.Unread.{not-looked-at}
use Rattle.about_bodies.proofs.Again.{format-of, record_is, record-count, count-is, body-again}
use Rattle.about_bodies_c.specs.Again.{places, copied, fields_from_c, Again, AgainFrom, BodyAgainFromC}

-- no cause has the number 0
positive : (c : Cause) → number_of c ≡ 0 → ⊥
positive c e = let n = (numbered c).0 in omega arith

-- a format that is not 301 is a schedule's
scheduled : (f : Format) → (format_number f ≡ 301 → ⊥) → is_schedule f ≡ true
scheduled F201 h = refl
scheduled F202 h = refl
scheduled F203 h = refl
scheduled F301 h = absurd (h refl)

-- ---- the record at an index, by its places

record LocatedAt (f : Format) (body : List ℕ) (i : ℕ) : Type 0 where
  cause : (places_numbers (locate f body i)).cause ≡ 0
  schedule : part body (places_numbers (locate f body i)).schedule 10 ≡ field_in Schedule (record_in f body i)
  plant : part body (places_numbers (locate f body i)).plant 26 ≡ field_in Plant (record_in f body i)
  start : part body (places_numbers (locate f body i)).start 12 ≡ field_in Start (record_in f body i)
  next : f ≡ F203 → part body (places_numbers (locate f body i)).next 14 ≡ field_in Next (record_in f body i)

located-at : (f : Format) (body : List ℕ) (i : ℕ) (r : Record) → record_in f body i ≡ Some r → LocatedAt f body i
located-at f body i r h =
    let p = (places-found f body i r h).0 in
    let e = (places-found f body i r h).1 in
    let d = places-hold f body i p e in
    let q = d.1 in
    let a = d.2 in
    record {
      cause = ap (λ (o : Result Places Cause). (places_numbers o).cause) e;
      schedule = ap (λ (o : Result Places Cause). part body (places_numbers o).schedule 10) e ∙ a.schedule ∙ sym (ap (field_in Schedule) q);
      plant = ap (λ (o : Result Places Cause). part body (places_numbers o).plant 26) e ∙ a.plant ∙ sym (ap (field_in Plant) q);
      start = ap (λ (o : Result Places Cause). part body (places_numbers o).start 12) e ∙ a.start ∙ sym (ap (field_in Start) q);
      next = λ k.
          let n = a.next k in
          ap (λ (o : Result Places Cause). part body (places_numbers o).next 14) e
          ∙ ap (λ (o : Option ℕ). part body (unwrap_or o 0) 14) n.1 ∙ n.2 ∙ sym (ap (field_in Next) q);
    }

some_at : (rs : List Record) (i : ℕ) → i < length rs → (r : Record) × (slice_get rs i ≡ Some r)
some_at [] i h = absurd (omega arith)
some_at (r ∷ rs) zero h = (r, refl)
some_at (r ∷ rs) (suc i) h = some_at rs i (omega arith)

-- ---- the same is written, whatever the next access of a 201 or 202 is

same-written : (f : Format) (plant plant' ident ident' start start' next next' rates rates' : List ℕ) (flag room : ℕ) → is_schedule f ≡ true
    → plant ≡ plant' → ident ≡ ident' → start ≡ start' → (f ≡ F203 → next ≡ next') → rates ≡ rates'
    → write_body (fields_of (format_number f) plant ident start next rates flag) room
    ≡ write_body (fields_of (format_number f) plant' ident' start' next' rates' flag) room
same-written F201 plant plant' ident ident' start start' next next' rates rates' flag room i p s t n r =
    rw (p, s, t, r) (not-looked-at 201 plant' ident' start' next next' rates' flag flag room refl)
same-written F202 plant plant' ident ident' start start' next next' rates rates' flag room i p s t n r =
    rw (p, s, t, r) (not-looked-at 202 plant' ident' start' next next' rates' flag flag room refl)
same-written F203 plant plant' ident ident' start start' next next' rates rates' flag room i p s t n r = rw (p, s, t, r, n refl) refl
same-written F301 plant plant' ident ident' start start' next next' rates rates' flag room i p s t n r = absurd (false≢true i)

-- ---- a file that was read

module _ (name body space out : List ℕ) (s : Summary) (q : reading_of (read_file None name body) ≡ Ok s) (i : is_schedule s.format ≡ true) where
  abbrev f : Format
  f = s.format

  the-read : FileRead (read_file None name body) s
  the-read = file-read (read_file None name body) s q

  abbrev g : File
  g = the-read.the-file

  format-is : f ≡ g.name.format
  format-is = format-of s g the-read.summary

  i' : is_schedule g.name.format ≡ true
  i' = subst (λ (k : Format). is_schedule k ≡ true) format-is i

  records-are : s.records ≡ count_of f
  unfolding summary_of
  records-are =
      ap (λ (y : Summary). y.records) the-read.summary
      ∙ record-count None name body space out g the-read.is i'
      ∙ sym (ap count_of format-is)

  one_at : (k : ℕ) → k < count_of f → LocatedAt f body k
  one_at k h =
      let c = count-is None name body space out g the-read.is i' in
      let e = ap count_of format-is in
      let r = some_at (records_in g.body) k (omega arith) in
      let is = record_is None name body space out g the-read.is i' k ∙ r.1 in
      located-at f body k r.0 (subst (λ (z : Format). record_in z body k ≡ Some r.0) (sym format-is) is)

  -- the number of the format stands for it
  places_is : (k : ℕ) → places (file_numbers (Ok s)) body k ≡ places_numbers (locate f body k)
  places_is k = ap (λ (o : Option Format). places_numbers (locate_by o body k)) (format_back f)

  schedule-at : (k : ℕ) → k < count_of f → part body (places (file_numbers (Ok s)) body k).schedule 10 ≡ field_in Schedule (record_in f body k)
  schedule-at k h = ap (λ (p : RecordPlaces). part body p.schedule 10) (places_is k) ∙ (one_at k h).schedule

  rates-same : copied (file_numbers (Ok s)) body space ≡ take s.rates (buffer_after (rates_output f body (length space)) space)
  rates-same = ap (λ (o : Option Format). take s.rates (buffer_after (rates_by o body (length space)) space)) (format_back f)

  written_same : write_body (fields_from_c (file_numbers (Ok s)) body space) (length out) ≡ write_body (fields_again body s space) (length out)
  written_same =
      let z = one_at 0 (count-positive f) in
      same-written f
      (part body (places (file_numbers (Ok s)) body 0).plant 26) (field_in Plant (record_in f body 0))
      (part body (places (file_numbers (Ok s)) body 0).schedule 10) (field_in Schedule (record_in f body 0))
      (part body (places (file_numbers (Ok s)) body 0).start 12) (field_in Start (record_in f body 0))
      (part body (places (file_numbers (Ok s)) body 0).next 14) (field_in Next (record_in f body 0))
      (copied (file_numbers (Ok s)) body space) (take s.rates (buffer_after (rates_output f body (length space)) space))
      (flag_again s.update) (length out) i
      (ap (λ (p : RecordPlaces). part body p.plant 26) (places_is 0) ∙ z.plant)
      (schedule-at 0 (count-positive f))
      (ap (λ (p : RecordPlaces). part body p.start 12) (places_is 0) ∙ z.start)
      (λ k. ap (λ (p : RecordPlaces). part body p.next 14) (places_is 0) ∙ z.next k)
      rates-same

  again : ((k : ℕ) → k < s.records → part body (places (file_numbers (Ok s)) body k).schedule 10 ≡ part body (places (file_numbers (Ok s)) body 0).schedule 10)
      → s.rates ≤ length space → length body ≤ length out → Again (file_numbers (Ok s)) body space out
  again shared room h =
      let n = records-are in
      let done = body-again None name body space out s q refl i
      (λ k l. sym (schedule-at k l) ∙ shared k (omega arith) ∙ schedule-at 0 (count-positive f)) room h in
      record {
        located = λ k l. ap (λ (p : RecordPlaces). p.cause) (places_is k) ∙ (one_at k (omega arith)).cause;
        rates = ap (λ (o : Option Format). written_numbers (written_of (rates_by o body (length space)))) (format_back f) ∙ ap written_numbers done.0;
        answer = ap (λ (o : Output). written_numbers (written_of o)) written_same ∙ ap written_numbers done.1.answer;
        bytes = ap (λ (o : Output). buffer_after o out) written_same ∙ done.1.bytes;
      }

pub body-again-from-c : BodyAgainFromC
body-again-from-c name body space out = go (reading_of (read_file None name body)) refl
  where
    go : (r : Result Summary Cause) → reading_of (read_file None name body) ≡ r → AgainFrom (file_numbers r) body space out
    go (Ok s) q c other shared room h = again name body space out s q (scheduled s.format other) shared room h
    go (Err k) q c other shared room h = absurd (positive k c)
