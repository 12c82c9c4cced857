-- What an accepted file is: the one place to cite for whoever needs something of a file that was read or taken.
use Rattle.std.specs.Prelude.{Ok, Err, Option, Some}
use Prim.Native.Nat.{ℕ, ◌+◌, ◌*◌, ◌≤◌}
use mathlib.Core.Path.{◌≡◌, ◌∙◌, refl, sym, ap}
use mathlib.Core.Bool.{true, false≢true}
use mathlib.Core.List.{List, [], ◌∷◌}
use native.Mathlib.Nat.{suc-mul}
use native.Mathlib.Omega.{arith}
use lib.Dec.{eqb}
use lib.ListN.{length, length-append}
use Rattle.rules.specs.Digits.{value, all_at_most, same_bytes}
use Rattle.rules.specs.Name.{Name}
use Rattle.rules.specs.Body.{Record, Body, schedule, registration, count_of, most_rates, tail_digits, parse_body, encode_record, encode_records, form_of_record, every, is_schedule, form_of_body, highest_rate}
use Rattle.rules.specs.File.{File, Outcome, refuse, file, read_file, take_file, record_dates, dates_hold, rates_hold, checksums_hold, plants_hold, checksum_of, records_in}
use Rattle.rules.specs.Reading.{summary_of, reading_of}
use Rattle.rules.specs.Lister.{total_rates}
use Rattle.rules.specs.declared.Cause.{Cause}
use Rattle.rules.specs.declared.Format.{Format}
use Rattle.rules.specs.declared.Format.TheVariants.{F201, F202, F203, F301}
use Rattle.rules.specs.declared.Summary.{Summary}
use Rattle.laws.proofs.Tests.{both}
use Rattle.laws.proofs.Facts.{LawfulName, name-facts}
use Rattle.about_files.specs.Reading.{LawfulBytes, Rules}
use Rattle.about_files.proofs.Record.{form-facts, bytes-long}
use Rattle.about_files.proofs.Body.{body-exactly, schedule-facts}
use Rattle.about_files.proofs.Reading.{read-exactly, taken-exactly, lawful-facts}

-- ---- what reading answered

pub record FileRead (o : Outcome) (x : Summary) : Type 0 where
  pub the-file : File
  pub is : o ≡ file the-file
  pub summary : x ≡ summary_of the-file

pub file-read : (o : Outcome) (x : Summary) → reading_of o ≡ Ok x → FileRead o x
unfolding reading_of
file-read (refuse c) x e = let z : ◌≡◌ {A = ℕ} 0 1 = cc in absurd (omega arith)
file-read (file f) x e = record { the-file = f; is = refl; summary = cc }

pub read-refused : (o : Outcome) (c : Cause) → reading_of o ≡ Err c → o ≡ refuse c
unfolding reading_of
read-refused (refuse x) c e = let same : x ≡ c = cc in ap {B = Outcome} refuse same
read-refused (file f) c e = let z : ◌≡◌ {A = ℕ} 0 1 = cc in absurd (omega arith)

-- ---- the records of a schedule under its name

pub record Scheduled (n : Name) (rs : List Record) : Type 0 where
  pub kind : is_schedule n.format ≡ true
  pub count : length rs ≡ count_of n.format
  pub form : every (form_of_record n.format) rs ≡ true
  pub dates : record_dates n n.format rs ≡ true
  pub rates : every (λ r. all_at_most highest_rate r.rates) rs ≡ true
  pub checksums : every (λ r. eqb (value r.checksum) (checksum_of r.start r.rates)) rs ≡ true
  pub plants : every (λ r. same_bytes r.plant n.plant) rs ≡ true

pub scheduled : (f : File) (rs : List Record) → Rules f → f.body ≡ schedule rs → Scheduled f.name rs
unfolding dates_hold rates_hold checksums_hold plants_hold
scheduled f rs u b =
    let form = schedule-facts f.name.format rs (ap (form_of_body f.name.format) (sym b) ∙ u.form) in
    record {
      kind = form.0;
      count = form.1;
      form = form.2;
      dates = ap (dates_hold f.name) (sym b) ∙ u.dates;
      rates = ap rates_hold (sym b) ∙ u.rates;
      checksums = ap checksums_hold (sym b) ∙ u.checksums;
      plants = ap (plants_hold f.name) (sym b) ∙ u.plants;
    }

-- the body of a format that is a schedule's is records
is-records : (f : Format) (b : Body) → is_schedule f ≡ true → form_of_body f b ≡ true → b ≡ schedule (records_in b)
unfolding form_of_body
is-records f (schedule rs) i e = refl
is-records F201 (registration plant result) i e = absurd (false≢true e)
is-records F202 (registration plant result) i e = absurd (false≢true e)
is-records F203 (registration plant result) i e = absurd (false≢true e)
is-records F301 (registration plant result) i e = absurd (false≢true i)

-- ---- a file that is accepted

pub record Accepted (body : List ℕ) (f : File) : Type 0 where
  pub name : LawfulName f.name
  pub parses : parse_body f.name.format body ≡ Some f.body
  pub is-schedule : is_schedule f.name.format ≡ true → f.body ≡ schedule (records_in f.body)
  pub records : (rs : List Record) → f.body ≡ schedule rs → Scheduled f.name rs

bytes-accepted : (plant : Option (List ℕ)) (name body : List ℕ) (f : File) → LawfulBytes plant name body f → Accepted body f
bytes-accepted plant name body f m =
    let u = (lawful-facts plant f m.fields).0 in
    record {
      name = name-facts f.name u.name;
      parses = (body-exactly f.name.format body f.body).1 (m.body_bytes, u.form);
      is-schedule = λ i. is-records f.name.format f.body i u.form;
      records = λ rs b. scheduled f rs u b;
    }

pub accepted : (plant : Option (List ℕ)) (name body : List ℕ) (f : File) → read_file plant name body ≡ file f → Accepted body f
accepted plant name body f e = bytes-accepted plant name body f ((read-exactly plant name body f).0 e)

-- a file that a unit takes is a schedule
pub record Taken (body : List ℕ) (f : File) : Type 0 where
  pub name : LawfulName f.name
  pub parses : parse_body f.name.format body ≡ Some f.body
  pub is-schedule : f.body ≡ schedule (records_in f.body)
  pub records : Scheduled f.name (records_in f.body)

pub schedule-read : (body : List ℕ) (f : File) → is_schedule f.name.format ≡ true → Accepted body f → Taken body f
schedule-read body f i a =
    let is = a.is-schedule i in
    record { name = a.name; parses = a.parses; is-schedule = is; records = a.records (records_in f.body) is }

pub taken : (plant name body : List ℕ) (f : File) → take_file plant name body ≡ file f → Taken body f
taken plant name body f e =
    let m = (taken-exactly plant name body f).0 e in
    schedule-read body f m.1 (bytes-accepted (Some plant) name body f m.0)

-- the same, whichever name and body it came by
pub record TakenBy (plant : List ℕ) (f : File) : Type 0 where
  pub name : List ℕ
  pub body : List ℕ
  pub read : take_file plant name body ≡ file f

-- ---- how many rates and bytes a format's records have at the most

pub record Bounded (f : Format) (rs : List Record) : Type 0 where
  pub rates : total_rates rs ≤ length rs * most_rates f
  pub bytes : length (encode_records rs) ≤ length rs * (53 + most_rates f + tail_digits f)

pub bounded : (f : Format) (rs : List Record) → every (form_of_record f) rs ≡ true → Bounded f rs
unfolding every total_rates encode_records
bounded f [] e = record { rates = omega arith; bytes = omega arith }
bounded f (r ∷ rs) e =
    let p = both (form_of_record f r) (every (form_of_record f) rs) e in
    let g = form-facts f r p.0 in
    let few = g.few in
    let long = bytes-long f r g [] in
    let rest = bounded f rs p.1 in
    record {
      rates = rw suc-mul (omega (arith, rest.rates));
      bytes = rw (length-append (encode_record r) (encode_records rs), suc-mul) (omega (arith, rest.bytes));
    }
