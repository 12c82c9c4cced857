-- The records and the whole body: what is parsed as a body is exactly the bytes of one that has the format's form.
use Rattle.std.specs.Option.{option_map}
use Rattle.std.specs.Prelude.{Option, None, Some}
use Prim.Native.Nat.{ℕ, zero, suc, ◌+◌, ◌^◌, ◌<◌}
use mathlib.Core.Path.{◌≡◌, ◌∙◌, refl, sym, ap, ap₂}
use mathlib.Core.Bool.{Bool, true, false, ◌&&◌, false≢true}
use mathlib.Core.List.{List, [], ◌∷◌, ◌++◌}
use native.Mathlib.Omega.{arith}
use lib.Dec.{leb, eqb, lit<, eqb-suc-zero}
use lib.ListN.{length, get_or, drop, length-append}
use lib.Seq.{drop_at, get_or_at, take_all, take-suc}
use borrow.Author.Tests.{le-leb, leb-true, eq-eqb, eqb-true}
use Rattle.rules.specs.Digits.{part, all_digits, digits, value, decimal}
use Rattle.rules.specs.Body.{Record, Body, schedule, registration, count_of, record_shape, record_at, size_of, before, parse_records, parse_registration, parse_rest, counted, parse_body, encode_record, encode_records, encode_body, form_of_record, every, is_schedule, form_of_body}
use Rattle.rules.specs.declared.Format.{Format}
use Rattle.rules.specs.declared.Format.TheVariants.{F201, F202, F203, F301}
use Rattle.laws.proofs.Tests.{both, join, no-some}
use Rattle.laws.proofs.Bytes.{length-decimal, part_length}
use Rattle.laws.proofs.Facts.{digits_of}
use Rattle.about_files.specs.Reading.{RecordsExactly, BodyExactly}
use Rattle.about_files.proofs.Numerals.{digits_decimal, value-decimal, decimal-value, facts-digits}
use Rattle.about_files.proofs.Pieces.{chop, here}
use Rattle.about_files.proofs.Record.{form-facts, facts-form, read-form, read-bytes, bytes-record, bytes_rest, bytes-shape}

-- ---- the records
abbrev Made : Format → ℕ → List ℕ → List Record → Type 0
Made f k s rs = (s ≡ encode_records rs) × (length rs ≡ k) × (every (form_of_record f) rs ≡ true)

made_none : (f : Format) (s : List ℕ) (rs : List Record) → parse_records f 0 s ≡ Some rs → Made f 0 s rs
unfolding parse_records encode_records every
made_none f [] [] e = (refl, refl, refl)
made_none f [] (r ∷ rs) e = let z : ◌≡◌ {A = ℕ} 0 1 = cc in absurd (omega arith)
made_none f (x ∷ s) rs e = no-some (rw (eqb-suc-zero (length s)) at e)

made_more : (f : Format) (k : ℕ) (s : List ℕ) (rs : List Record) → record_shape f s ≡ true → (o : Option (List Record))
    → ((rs' : List Record) → o ≡ Some rs' → Made f k (drop (size_of f s) s) rs') → before (record_at f s) o ≡ Some rs → Made f (suc k) s rs
unfolding encode_records every
made_more f k s rs h None ih e = no-some e
made_more f k s [] h (Some rs') ih e = let z : ◌≡◌ {A = ℕ} 0 1 = cc in absurd (omega arith)
made_more f k s (r ∷ rs) h (Some rs') ih e =
    let r≡ : record_at f s ≡ r = cc in
    let rs≡ : rs' ≡ rs = cc in
    let m = ih rs (ap (λ (q : List Record). Some q) rs≡) in
    let m₀ : drop (size_of f s) s ≡ encode_records rs = m.0 in
    let m₁ : length rs ≡ k = m.1 in
    let g : form_of_record f r ≡ true = rw r≡ at (facts-form f (record_at f s) (read-form f s h)) in
    (read-bytes f s h ∙ ap₂ (λ (q : Record) (x : List ℕ). encode_record q ++ x) r≡ m₀, omega arith, join g m.2)

records-made : (f : Format) (k : ℕ) (s : List ℕ) (rs : List Record) → parse_records f k s ≡ Some rs → Made f k s rs
unfolding parse_records
records-made f zero s rs e = made_none f s rs e
records-made f (suc k) s rs e = go (record_shape f s) refl (λ rs' q. records-made f k (drop (size_of f s) s) rs' q)
  where
    go : (b : Bool) → record_shape f s ≡ b
        → ((rs' : List Record) → parse_records f k (drop (size_of f s) s) ≡ Some rs' → Made f k (drop (size_of f s) s) rs') → Made f (suc k) s rs
    go true h ih = made_more f k s rs h (parse_records f k (drop (size_of f s) s)) ih (rw h at e)
    go false h ih = no-some (rw h at e)

made-records : (f : Format) (rs : List Record) → every (form_of_record f) rs ≡ true → parse_records f (length rs) (encode_records rs) ≡ Some rs
unfolding parse_records encode_records every
made-records f [] e = refl
made-records f (r ∷ rs) e =
    let t = encode_records rs in
    let p = both (form_of_record f r) (every (form_of_record f) rs) e in
    let g = form-facts f r p.0 in
    rw (bytes-shape f r g t, bytes-record f r g t, bytes_rest f r g t, made-records f rs p.1) refl

pub records-exactly : RecordsExactly
records-exactly f k s rs = (records-made f k s rs, back)
  where
    back : Made f k s rs → parse_records f k s ≡ Some rs
    back m = rw (m.0, sym m.1) (made-records f rs m.2)

-- ---- what follows the count, and the count
abbrev rest_bytes : Body → List ℕ
rest_bytes (schedule rs) = encode_records rs
rest_bytes (registration plant result) = plant ++ (result ∷ [])

abbrev count_in : Body → ℕ
count_in (schedule rs) = length rs
count_in (registration plant result) = 1

bytes-are : (b : Body) → encode_body b ≡ decimal 6 (count_in b) ++ rest_bytes b
unfolding encode_body
bytes-are (schedule rs) = refl
bytes-are (registration plant result) = refl

-- what the form of a schedule is, whatever the format
schedule-form : (f : Format) (rs : List Record) → form_of_body f (schedule rs) ≡ (is_schedule f && eqb (length rs) (count_of f) && every (form_of_record f) rs)
unfolding form_of_body
schedule-form F201 rs = refl
schedule-form F202 rs = refl
schedule-form F203 rs = refl
schedule-form F301 rs = refl

pub schedule-facts : (f : Format) (rs : List Record) → form_of_body f (schedule rs) ≡ true
    → (is_schedule f ≡ true) × (length rs ≡ count_of f) × (every (form_of_record f) rs ≡ true)
schedule-facts f rs e =
    let p = both (is_schedule f && eqb (length rs) (count_of f)) (every (form_of_record f) rs) (sym (schedule-form f rs) ∙ e) in
    let q = both (is_schedule f) (eqb (length rs) (count_of f)) p.0 in
    (q.0, eqb-true _ _ q.1, p.1)

pub facts-schedule : (f : Format) (rs : List Record) → is_schedule f ≡ true → length rs ≡ count_of f → every (form_of_record f) rs ≡ true
    → form_of_body f (schedule rs) ≡ true
facts-schedule f rs h l e = schedule-form f rs ∙ join (join h (eq-eqb _ _ l)) e

count-is : (f : Format) (b : Body) → form_of_body f b ≡ true → count_in b ≡ count_of f
unfolding form_of_body
count-is f (schedule rs) e = (schedule-facts f rs e).1
count-is F201 (registration plant result) e = absurd (false≢true e)
count-is F202 (registration plant result) e = absurd (false≢true e)
count-is F203 (registration plant result) e = absurd (false≢true e)
count-is F301 (registration plant result) e = refl

-- ---- a 301's registration
abbrev registered : List ℕ → Bool
registered s = eqb (length s) 27 && all_digits (part s 0 26) && leb (get_or s 26 0) 1

-- 27 bytes are the first 26 and the last
last_byte : (s : List ℕ) → length s ≡ 27 → s ≡ part s 0 26 ++ (get_or s 26 0 ∷ [])
last_byte s l =
    let h : 26 < length s = omega arith in
    sym (take_all 27 s (omega arith)) ∙ take-suc s 26 0 h

registration-made : (s : List ℕ) (b : Body) → parse_registration s ≡ Some b → (s ≡ rest_bytes b) × (form_of_body F301 b ≡ true)
unfolding parse_registration form_of_body
registration-made s (schedule rs) e = go (registered s) refl
  where
    go : (t : Bool) → registered s ≡ t → (s ≡ rest_bytes (schedule rs)) × (form_of_body F301 (schedule rs) ≡ true)
    go true h = let q : Some (registration (part s 0 26) (get_or s 26 0)) ≡ Some (schedule rs) = rw h at e in let z : ◌≡◌ {A = ℕ} 0 1 = cc in absurd (omega arith)
    go false h = no-some (rw h at e)
registration-made s (registration plant result) e = go (registered s) refl
  where
    go : (t : Bool) → registered s ≡ t → (s ≡ plant ++ (result ∷ [])) × ((digits 26 plant && leb result 1) ≡ true)
    go true h =
        let q : Some (registration (part s 0 26) (get_or s 26 0)) ≡ Some (registration plant result) = rw h at e in
        let p≡ : part s 0 26 ≡ plant = cc in
        let r≡ : get_or s 26 0 ≡ result = cc in
        let a = both (eqb (length s) 27 && all_digits (part s 0 26)) (leb (get_or s 26 0) 1) h in
        let b = both (eqb (length s) 27) (all_digits (part s 0 26)) a.0 in
        let l = eqb-true (length s) 27 b.0 in
        let d : digits 26 plant ≡ true = rw p≡ at (facts-digits 26 (part s 0 26) (part_length s 0 26 (omega arith)) b.1) in
        (last_byte s l ∙ ap₂ (λ (x : List ℕ) (y : ℕ). x ++ (y ∷ [])) p≡ r≡, join d (rw r≡ at a.1))
    go false h = no-some (rw h at e)

made-registration : (s : List ℕ) (b : Body) → s ≡ rest_bytes b → form_of_body F301 b ≡ true → parse_registration s ≡ Some b
unfolding parse_registration form_of_body
made-registration s (schedule rs) e h = absurd (false≢true h)
made-registration s (registration plant result) e h =
    let p = both (digits 26 plant) (leb result 1) h in
    let d = digits_of 26 plant p.0 in
    let l = length-append plant (result ∷ []) in
    let d₀ : length plant ≡ 26 = d.long in
    let n : length (plant ++ (result ∷ [])) ≡ 27 = omega arith in
    let t : part (plant ++ (result ∷ [])) 0 26 ≡ plant = here plant (result ∷ []) d₀ in
    let g : get_or (plant ++ (result ∷ [])) 26 0 ≡ result = get_or_at plant result [] 0 26 d₀ in
    rw e (rw (t, g) (rw (eq-eqb (length (plant ++ (result ∷ []))) 27 n, d.each, p.1) refl))

-- ---- a schedule's records
schedule-made : (f : Format) (s : List ℕ) (b : Body) → is_schedule f ≡ true → option_map schedule (parse_records f (count_of f) s) ≡ Some b
    → (s ≡ rest_bytes b) × (form_of_body f b ≡ true)
schedule-made f s b h e = go (parse_records f (count_of f) s) refl e
  where
    go : (o : Option (List Record)) → parse_records f (count_of f) s ≡ o → option_map schedule o ≡ Some b → (s ≡ rest_bytes b) × (form_of_body f b ≡ true)
    go None p q = no-some q
    go (Some rs) p q =
        let b≡ : schedule rs ≡ b = cc in
        let m = records-made f (count_of f) s rs p in
        rw (sym b≡) (m.0, facts-schedule f rs h m.1 m.2)

made-schedule : (f : Format) (s : List ℕ) (b : Body) → is_schedule f ≡ true → s ≡ rest_bytes b → form_of_body f b ≡ true
    → option_map schedule (parse_records f (count_of f) s) ≡ Some b
unfolding form_of_body
made-schedule f s (schedule rs) h e g =
    let q = schedule-facts f rs g in
    rw ((records-exactly f (count_of f) s rs).1 (e, q.1, q.2)) refl
made-schedule F201 s (registration plant result) h e g = absurd (false≢true g)
made-schedule F202 s (registration plant result) h e g = absurd (false≢true g)
made-schedule F203 s (registration plant result) h e g = absurd (false≢true g)
made-schedule F301 s (registration plant result) h e g = absurd (false≢true h)

rest-made : (f : Format) (s : List ℕ) (b : Body) → parse_rest f s ≡ Some b → (s ≡ rest_bytes b) × (form_of_body f b ≡ true)
rest-made F201 s b e = schedule-made F201 s b refl e
rest-made F202 s b e = schedule-made F202 s b refl e
rest-made F203 s b e = schedule-made F203 s b refl e
rest-made F301 s b e = registration-made s b e

made-rest : (f : Format) (s : List ℕ) (b : Body) → s ≡ rest_bytes b → form_of_body f b ≡ true → parse_rest f s ≡ Some b
made-rest F201 s b p q = made-schedule F201 s b refl p q
made-rest F202 s b p q = made-schedule F202 s b refl p q
made-rest F203 s b p q = made-schedule F203 s b refl p q
made-rest F301 s b p q = made-registration s b p q

-- ---- the whole body
count_small : (f : Format) → count_of f < 10 ^ 6
count_small F201 = lit< tt
count_small F202 = lit< tt
count_small F203 = lit< tt
count_small F301 = lit< tt

pub body-exactly : BodyExactly
unfolding parse_body counted
body-exactly f s b = (to (counted f s) refl, from)
  where
    to : (t : Bool) → counted f s ≡ t → parse_body f s ≡ Some b → (s ≡ encode_body b) × (form_of_body f b ≡ true)
    to false h e = no-some (rw h at e)
    to true h e =
        let m = rest-made f (drop 6 s) b (rw h at e) in
        let p = both (leb 6 (length s) && all_digits (part s 0 6)) (eqb (value (part s 0 6)) (count_of f)) h in
        let q = both (leb 6 (length s)) (all_digits (part s 0 6)) p.0 in
        let v : value (part s 0 6) ≡ count_of f = eqb-true _ _ p.1 in
        let d = decimal-value (part s 0 6) 6 (part_length s 0 6 (leb-true _ _ q.0)) q.1 in
        let c : part s 0 6 ≡ decimal 6 (count_in b) = sym d ∙ ap (decimal 6) (v ∙ sym (count-is f b m.1)) in
        (chop s 0 6 m.0 ∙ ap (λ (x : List ℕ). x ++ rest_bytes b) c ∙ sym (bytes-are b), m.1)

    from : (s ≡ encode_body b) × (form_of_body f b ≡ true) → parse_body f s ≡ Some b
    from m =
        let c : count_in b ≡ count_of f = count-is f b m.1 in
        let l : length (decimal 6 (count_in b)) ≡ 6 = length-decimal 6 (count_in b) in
        let s≡ : s ≡ decimal 6 (count_in b) ++ rest_bytes b = m.0 ∙ bytes-are b in
        let p : part s 0 6 ≡ decimal 6 (count_in b) = rw s≡ (here (decimal 6 (count_in b)) _ l) in
        let r : drop 6 s ≡ rest_bytes b = rw s≡ (drop_at (decimal 6 (count_in b)) _ 6 l) in
        let n : length s ≡ length (decimal 6 (count_in b)) + length (rest_bytes b) = rw s≡ (length-append (decimal 6 (count_in b)) (rest_bytes b)) in
        let v : value (decimal 6 (count_in b)) ≡ count_of f = value-decimal 6 (count_in b) (rw c (count_small f)) ∙ c in
        simp (le-leb 6 (length s) (omega arith), p, digits_decimal 6 (count_in b), eq-eqb _ _ v, made-rest f (drop 6 s) b r m.1)
