-- What a unit may take from a file that it is to take: its records stand in the body's bytes, its segment is a number.
use Rattle.std.specs.Option.{unwrap_or}
use Rattle.std.specs.Prelude.{None, Some}
use Prim.Native.Nat.{ℕ, ◌+◌, ◌-◌, ◌≤◌}
use mathlib.Core.Path.{◌≡◌, ◌∙◌, refl, sym, ap, subst}
use mathlib.Core.Bool.{Bool, true, false, cond, ◌&&◌}
use mathlib.Core.List.{List, [], ◌∷◌}
use lib.ListN.{length, take, drop}
use Rattle.rules.specs.Digits.{digits}
use Rattle.rules.specs.Body.{Record, Body, schedule, count_of, parse_body, counted, is_schedule}
use Rattle.rules.specs.File.{File, file, take_file, records_in}
use Rattle.rules.specs.Lister.{total_rates, rate_count, record_count}
use Rattle.rules.specs.Reading.{summary_of, first_start, update_of}
use Rattle.rules.specs.Machine.{take_by, take_year}
use Rattle.rules.specs.Store.{Requests as RequestValues}
use Rattle.rules.specs.declared.Format.{Format}
use Rattle.rules.specs.declared.Format.TheVariants.{F201, F202, F203, F301}
use Rattle.rules.specs.declared.Summary.{Summary}
use Rattle.laws.proofs.Tests.{no-some}
use Rattle.laws.proofs.Bytes.{part-rest}
use Rattle.laws.proofs.Facts.{of-digits}
use Rattle.name.proofs.Laws.{segment-digit}
use Rattle.form.specs.Walk.{shaped, records_from}
use Rattle.form.proofs.Count.{count_room}
use Rattle.form.proofs.Standing.{records-count, parse_is}
use Rattle.about_files.proofs.Accepted.{Taken, taken}
use Rattle.about_store.specs.Run.{RunFrom, run_start, run_length}
use Rattle.about_store.proofs.Laws.{taken-good}
use Rattle.taking.specs.Taking.{Following, take_noted, take_summary}

-- the records that stand in the bytes
record Standing (f : Format) (body : List ℕ) (b : Body) : Type 0 where
  room : 6 ≤ length body
  form : shaped f (record_count b) (drop 6 body) ≡ true
  records : records_in b ≡ records_from f (record_count b) (drop 6 body)
  total : rate_count b ≡ total_rates (records_in b)

standing : (f : Format) (body : List ℕ) (b : Body) → is_schedule f ≡ true → parse_body f body ≡ Some b → Standing f body b
standing f body b i e = go (counted f body) refl (shaped f (count_of f) (drop 6 body)) refl (sym (parse_is f body i) ∙ e)
  where
    here : counted f body ≡ true → shaped f (count_of f) (drop 6 body) ≡ true
        → (rs : List Record) → rs ≡ records_from f (count_of f) (drop 6 body) → Standing f body (schedule rs)
    here c t rs e =
        let k : length rs ≡ count_of f = ap (λ (x : List Record). length x) e ∙ records-count f (count_of f) (drop 6 body) in
        record {
          room = count_room f body c;
          form = ap (λ (n : ℕ). shaped f n (drop 6 body)) k ∙ t;
          records = e ∙ ap (λ (n : ℕ). records_from f n (drop 6 body)) (sym k);
          total = refl;
        }

    go : (c : Bool) → counted f body ≡ c → (t : Bool) → shaped f (count_of f) (drop 6 body) ≡ t
        → cond (c && t) (Some (schedule (records_from f (count_of f) (drop 6 body)))) None ≡ Some b → Standing f body b
    go true c true t q =
        let same : schedule (records_from f (count_of f) (drop 6 body)) ≡ b = cc in
        subst (λ (x : Body). Standing f body x) same (here c t (records_from f (count_of f) (drop 6 body)) refl)
    go true c false t q = no-some q
    go false c t u q = no-some q

first-is : (rs : List Record) → unwrap_or (first_start rs) 0 ≡ run_start rs
first-is [] = refl
first-is (r ∷ rs) = refl

total_is : (rs : List Record) → total_rates rs ≡ run_length rs
unfolding total_rates run_length
total_is [] = refl
total_is (r ∷ rs) = ap (λ (k : ℕ). length r.rates + k) (total_is rs)

-- ---- what the summary of a file that is taken says

module _ (plant name body : List ℕ) (f : File) (read : take_file plant name body ≡ file f) where
  the-file : Taken body f
  the-file = taken plant name body f read

  stands : Standing f.name.format body f.body
  stands = standing f.name.format body f.body the-file.records.kind the-file.parses

  pub body-room : 6 ≤ length body
  body-room = stands.room

  module _ (x : Summary) (e : x ≡ summary_of f) where
    pub start_is : unwrap_or x.start 0 ≡ run_start (records_in f.body)
    unfolding summary_of
    start_is = ap (λ (y : Summary). unwrap_or y.start 0) e ∙ first-is (records_in f.body)

    pub rates-are : x.rates ≡ run_length (records_in f.body)
    unfolding summary_of
    rates-are = ap (λ (y : Summary). y.rates) e ∙ (stands.total ∙ total_is (records_in f.body))

    pub records-are : records_from x.format x.records (take (length body - 6) (drop 6 body)) ≡ records_in f.body
    unfolding summary_of
    records-are = rw (e, part-rest body 6) (sym stands.records)

    pub following : Following x.format x.records (unwrap_or x.start 0) (take (length body - 6) (drop 6 body))
    unfolding summary_of
    following = record {
      form = rw (e, part-rest body 6) stands.form;
      run =
          subst (λ (rs : List Record). RunFrom (unwrap_or x.start 0) rs) (sym records-are)
          (subst (λ (k : ℕ). RunFrom k (records_in f.body)) (sym start_is) (taken-good plant name body f read));
    }

    pub requests-are : (t : ℕ) (q : RequestValues) → take_summary t x.format x q ≡ take_by t f.name.format f.name (records_in f.body) q
    unfolding summary_of
    requests-are t q = ap (λ (y : Summary). take_summary t y.format y q) e ∙ go f.name.format refl
      where
        segment : digits 4 f.name.segment ≡ true
        segment = of-digits 4 f.name.segment the-file.name.segment

        noted : Format → RequestValues
        noted z = take_noted t (update_of z (records_in f.body)) q

        go : (k : Format) → f.name.format ≡ k → take_summary t k (summary_of f) q ≡ take_by t k f.name (records_in f.body) q
        go F201 k = ap (λ (d : ℕ). take_year d q) (sym (segment-digit f.name.segment segment))
        go F202 k = refl
        go F203 k = ap noted k
        go F301 k = refl
