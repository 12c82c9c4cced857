-- Laws of reading: which answer each stage's result gives, and that the creation time of a name does not matter to its body.
use Rattle.std.specs.Prelude.{Result, Ok, Err, Option, None, Some}
use Prim.Native.Nat.{ℕ, ◌-◌, ◌%◌}
use mathlib.Core.Path.{◌≡◌, ◌∙◌, refl, sym}
use mathlib.Core.Bool.{Bool, true, false, cond, false≢true}
use mathlib.Core.List.{List, []}
use lib.Dec.{eqb}
use lib.ListN.{length, get_or, take, drop}
use borrow.Author.Tests.{eqb-true}
use Rattle.rules.specs.Digits.{part, all_digits, same_bytes}
use Rattle.rules.specs.Name.{Name}
use Rattle.rules.specs.Body.{Record, Body, schedule, registration, count_of, parse_registration, parse_rest, parse_body, counted, every, is_schedule}
use Rattle.rules.specs.File.{File, refuse, file, record_dates, dates_hold, rates_hold, checksums_hold, plants_hold, stages, with_body}
use Rattle.rules.specs.Table.{need}
use Rattle.rules.specs.declared.Cause.{Cause}
use Rattle.rules.specs.declared.Format.{Format}
use Rattle.rules.specs.declared.Format.TheVariants.{F201, F202, F203, F301}
use Rattle.form.specs.Walk.{shaped, records_from, registered}
use Rattle.form.proofs.Walk.{rest-is}
use Rattle.body.specs.Records.{rates_fit, checksum_fits, plant_fits}
use Rattle.rules.specs.Reading.{summary_of, reading_of}
use Rattle.body.specs.Reading.{name_of, schedule_file}
use Rattle.rules.specs.declared.Summary.{Summary}
use Rattle.laws.proofs.Tests.{both}
use Rattle.laws.proofs.Bytes.{part-rest}
use Rattle.body.proofs.Starts.{segment-value}

-- the answer of the stages 10 to 13, each of which passed or did not
abbrev pub answer : Bool → Bool → Bool → Bool → Result Summary Cause → Result Summary Cause
answer false b c d o = Err Cause.Date
answer true false c d o = Err Cause.Rate
answer true true false d o = Err Cause.Checksum
answer true true true false o = Err Cause.RecordPlant
answer true true true true o = o

stages-are : (n : Name) (b : Body)
    → reading_of (stages n b)
    ≡ answer (dates_hold n b) (rates_hold b) (checksums_hold b) (plants_hold n b) (Ok (summary_of (record { name = n; body = b })))
unfolding stages reading_of
stages-are n b = go (dates_hold n b) (rates_hold b) (checksums_hold b) (plants_hold n b) (record { name = n; body = b })
  where
    go : (a b c d : Bool) (f : File)
        → reading_of (need a (refuse Cause.Date) (need b (refuse Cause.Rate) (need c (refuse Cause.Checksum) (need d (refuse Cause.RecordPlant) (file f)))))
        ≡ answer a b c d (Ok (summary_of f))
    go false b c d f = refl
    go true false c d f = refl
    go true true false d f = refl
    go true true true false f = refl
    go true true true true f = refl

-- the dates of records hang on the segment alone
pub dates-same : (f : Format) (n m : Name) (rs : List Record) → n.segment ≡ m.segment → record_dates n f rs ≡ record_dates m f rs
dates-same F201 n m rs e = refl
dates-same F202 n m rs e = rw e refl
dates-same F203 n m rs e = refl
dates-same F301 n m rs e = refl

-- ---- a schedule

module _ (f : Format) (segment : ℕ) (plant s : List ℕ) (i : is_schedule f ≡ true) where
  pub no-form : shaped f (count_of f) s ≡ false → Err Cause.Form ≡ reading_of (with_body (name_of f segment plant) (parse_rest f s))
  unfolding reading_of
  no-form e = rw (rest-is f s i, e) refl

  module _ (e : shaped f (count_of f) s ≡ true) where
    pub schedule-is : reading_of (with_body (name_of f segment plant) (parse_rest f s))
        ≡ answer (record_dates (name_of f segment []) f (records_from f (count_of f) s))
        (every rates_fit (records_from f (count_of f) s))
        (every checksum_fits (records_from f (count_of f) s))
        (every (plant_fits plant) (records_from f (count_of f) s))
        (Ok (summary_of (schedule_file f segment [] (records_from f (count_of f) s))))
    unfolding dates_hold rates_hold checksums_hold plants_hold summary_of
    schedule-is =
        rw (rest-is f s i, e)
        (stages-are (name_of f segment plant) (schedule (records_from f (count_of f) s))
        ∙ rw (dates-same f (name_of f segment plant) (name_of f segment []) (records_from f (count_of f) s) refl) refl)

    pub no-dates : false ≡ record_dates (name_of f segment []) f (records_from f (count_of f) s)
        → Err Cause.Date ≡ reading_of (with_body (name_of f segment plant) (parse_rest f s))
    no-dates h = sym (schedule-is ∙ rw (sym h) refl)

    module _ (d : true ≡ record_dates (name_of f segment []) f (records_from f (count_of f) s)) where
      pub no-rates : false ≡ every rates_fit (records_from f (count_of f) s)
          → Err Cause.Rate ≡ reading_of (with_body (name_of f segment plant) (parse_rest f s))
      no-rates h = sym (schedule-is ∙ rw (sym d, sym h) refl)

      module _ (r : true ≡ every rates_fit (records_from f (count_of f) s)) where
        pub no-checksum : false ≡ every checksum_fits (records_from f (count_of f) s)
            → Err Cause.Checksum ≡ reading_of (with_body (name_of f segment plant) (parse_rest f s))
        no-checksum h = sym (schedule-is ∙ rw (sym d, sym r, sym h) refl)

        module _ (q : true ≡ every checksum_fits (records_from f (count_of f) s)) where
          pub no-plant : false ≡ every (plant_fits plant) (records_from f (count_of f) s)
              → Err Cause.RecordPlant ≡ reading_of (with_body (name_of f segment plant) (parse_rest f s))
          no-plant h = sym (schedule-is ∙ rw (sym d, sym r, sym q, sym h) refl)

          pub accepted : true ≡ every (plant_fits plant) (records_from f (count_of f) s)
              → {x : Summary} → x ≡ summary_of (schedule_file f segment [] (records_from f (count_of f) s))
              → Ok x ≡ reading_of (with_body (name_of f segment plant) (parse_rest f s))
          accepted h x≡ = sym (schedule-is ∙ rw (sym d, sym r, sym q, sym h, sym x≡) refl)

-- ---- a registration

module _ (segment : ℕ) (plant s : List ℕ) where
  registered-is : parse_rest F301 s ≡ cond (registered s) (Some (registration (part s 0 26) (get_or s 26 0))) None
  unfolding parse_registration registered
  registered-is = refl

  pub no-registration : registered s ≡ false → Err Cause.Form ≡ reading_of (with_body (name_of F301 segment plant) (parse_rest F301 s))
  unfolding reading_of
  no-registration e = rw (registered-is, e) refl

  pub registration-is : registered s ≡ true → reading_of (with_body (name_of F301 segment plant) (parse_rest F301 s))
      ≡ answer true true true (same_bytes (part s 0 26) plant)
      (Ok
      (record { format = F301; segment = segment % 10000; records = 1; rates = 0; start = None; update = None; result = Some (get_or s 26 0) }))
  unfolding dates_hold rates_hold checksums_hold plants_hold summary_of
  registration-is e =
      rw (registered-is, e)
      (stages-are (name_of F301 segment plant) (registration (part s 0 26) (get_or s 26 0)) ∙ rw (segment-value segment) refl)

  pub no-registered-plant : registered s ≡ true → false ≡ same_bytes (part s 0 26) plant
      → Err Cause.RecordPlant ≡ reading_of (with_body (name_of F301 segment plant) (parse_rest F301 s))
  no-registered-plant e h = sym (registration-is e ∙ rw (sym h) refl)

  pub registered-plant : registered s ≡ true → true ≡ same_bytes (part s 0 26) plant
      → Ok
      (record { format = F301; segment = segment % 10000; records = 1; rates = 0; start = None; update = None; result = Some (get_or s 26 0) })
      ≡ reading_of (with_body (name_of F301 segment plant) (parse_rest F301 s))
  registered-plant e h = sym (registration-is e ∙ rw (sym h) refl)

pub registered-length : (s : List ℕ) → registered s ≡ true → length s ≡ 27
unfolding registered
registered-length s e = eqb-true (length s) 27 (both (eqb (length s) 27) (all_digits (part s 0 26)) (both _ _ e).0).0

-- ---- the whole body

module _ (f : Format) (n : Name) (body : List ℕ) where
  pub no-count : false ≡ counted f body → Err Cause.Form ≡ reading_of (with_body n (parse_body f body))
  unfolding parse_body reading_of
  no-count e = rw (sym e) refl

  pub with_rest : true ≡ counted f body → reading_of (with_body n (parse_rest f (drop 6 body))) ≡ reading_of (with_body n (parse_body f body))
  unfolding parse_body
  with_rest e = rw (sym e) refl

  pub with-count : true ≡ counted f body
      → reading_of (with_body n (parse_rest f (take (length body - 6) (drop 6 body)))) ≡ reading_of (with_body n (parse_body f body))
  with-count e = rw (part-rest body 6) (with_rest e)

-- a format without records of rates is 301
pub with-registration : (f : Format) (segment : ℕ) (plant body : List ℕ) → is_schedule f ≡ false → true ≡ counted f body
    → reading_of (with_body (name_of F301 segment plant) (parse_rest F301 (take (length body - 6) (drop 6 body))))
    ≡ reading_of (with_body (name_of f segment plant) (parse_body f body))
with-registration F201 segment plant body i e = absurd (false≢true (sym i))
with-registration F202 segment plant body i e = absurd (false≢true (sym i))
with-registration F203 segment plant body i e = absurd (false≢true (sym i))
with-registration F301 segment plant body i e = with-count F301 (name_of F301 segment plant) body e

-- ---- the creation time

-- names of one format, segment and plant
module _ (f : Format) (segment plant here there : List ℕ) where
  abbrev one : Name
  one = record { format = f; segment = segment; plant = plant; created = here }

  abbrev other : Name
  other = record { format = f; segment = segment; plant = plant; created = there }

  body-free : (b : Body) → reading_of (stages one b) ≡ reading_of (stages other b)
  unfolding dates_hold rates_hold checksums_hold plants_hold summary_of
  body-free (schedule rs) =
      stages-are one (schedule rs) ∙ rw (dates-same f one other rs refl) refl ∙ sym (stages-are other (schedule rs))
  body-free (registration p r) = stages-are one (registration p r) ∙ sym (stages-are other (registration p r))

  pub created-free : (b : Option Body) → reading_of (with_body one b) ≡ reading_of (with_body other b)
  unfolding reading_of
  created-free None = refl
  created-free (Some b) = body-free b
