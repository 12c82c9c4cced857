-- A response is refused with the lowest cause that applies; a file taken out of one is that of the name and file that it carries.
use Rattle.laws.proofs.Options.{some-ne-none}
use Rattle.std.specs.Prelude.{Option, None, Some}
use Prim.Native.Nat.{ℕ}
use mathlib.Core.Path.{◌≡◌, ◌∙◌, refl, sym, ap}
use mathlib.Core.Bool.{true, false}
use mathlib.Core.List.{List, ◌∷◌}
use Rattle.rules.specs.File.{File, file, take_file}
use Rattle.rules.specs.Response.{parse_response, take_parsed, take_response}
use Rattle.rules.specs.Table.{row, first_of, applies_in}
use Rattle.rules.specs.Rows.{formless, taken_rows, carried_rows, response_rows}
use Rattle.rules.specs.declared.Cause.{Cause}
use Rattle.about_files.proofs.Table.{rising, first-none}
use Rattle.about_files.proofs.Accepted.{TakenBy}
use Rattle.about_files.proofs.ReadRefusals.{cause_of, take-first, take-accepts, outcome_refuses}
use Rattle.about_responses.specs.Refusals.{CarriedFile, ResponseRefuses, ResponseAccepts}

-- ---- the first row that applies is the cause

parsed-first : (plant : List ℕ) (o : Option (List ℕ × List ℕ))
    → cause_of (take_parsed plant o) ≡ first_of (row Cause.Response (formless o) ∷ carried_rows plant o)
unfolding first_of
parsed-first plant None = refl
parsed-first plant (Some q) = take-first plant q.0 q.1

pub response-first : (plant boundary s : List ℕ) → cause_of (take_response plant boundary s) ≡ first_of (response_rows plant boundary s)
unfolding take_response response_rows
response-first plant boundary s = parsed-first plant (parse_response boundary s)

rows_rise : (plant : List ℕ) (o : Option (List ℕ × List ℕ)) → rising (row Cause.Response (formless o) ∷ carried_rows plant o) ≡ true
unfolding taken_rows
rows_rise plant None = refl
rows_rise plant (Some q) = refl

pub response-refuses : ResponseRefuses
unfolding response_rows
response-refuses plant boundary s c =
    outcome_refuses (response_rows plant boundary s) (take_response plant boundary s) (response-first plant boundary s)
    (rows_rise plant (parse_response boundary s)) c

-- ---- the file

-- a file taken out of a response is taken of the name and file that the response carries
pub record TakenOut (plant boundary s : List ℕ) (f : File) : Type 0 where
  pub taken : TakenBy plant f
  pub carried : parse_response boundary s ≡ Some (taken.name, taken.body)

pub response-taken : (plant boundary s : List ℕ) (f : File) → take_response plant boundary s ≡ file f → TakenOut plant boundary s f
unfolding take_response
response-taken plant boundary s f e = go (parse_response boundary s) refl e
  where
    go : (o : Option (List ℕ × List ℕ)) → parse_response boundary s ≡ o → take_parsed plant o ≡ file f → TakenOut plant boundary s f
    go None p e = absurd (some-ne-none Cause.Response (ap cause_of e))
    go (Some q) p e = record { taken = record { name = q.0; body = q.1; read = e }; carried = p }

-- taking a response that carries a name and file is taking these, and so are its rows
module _ (plant boundary s name body : List ℕ) (carried : parse_response boundary s ≡ Some (name, body)) where
  pub response-carries : take_response plant boundary s ≡ take_file plant name body
  unfolding take_response
  response-carries = ap (take_parsed plant) carried

  rows_carry : first_of (response_rows plant boundary s) ≡ first_of (taken_rows plant name body)
  unfolding response_rows first_of
  rows_carry = ap (λ (o : Option (List ℕ × List ℕ)). first_of (row Cause.Response (formless o) ∷ carried_rows plant o)) carried

pub response-accepts : ResponseAccepts
response-accepts plant boundary s f = (there, back)
  where
    there : take_response plant boundary s ≡ file f → ((c : Cause) → applies_in (response_rows plant boundary s) c ≡ false) × CarriedFile boundary s f
    there e =
        let out = response-taken plant boundary s f e in
        let t = out.taken in (
          (first-none (response_rows plant boundary s)).0 (sym (response-first plant boundary s) ∙ ap cause_of e),
          record { name = t.name; body = t.body; carried = out.carried; parsed = ((take-accepts plant t.name t.body f).0 t.read).1 },
        )

    back : ((c : Cause) → applies_in (response_rows plant boundary s) c ≡ false) × CarriedFile boundary s f → take_response plant boundary s ≡ file f
    back h =
        let m = h.1 in
        let clear = sym (rows_carry plant boundary s m.name m.body m.carried) ∙ (first-none (response_rows plant boundary s)).1 h.0 in
        response-carries plant boundary s m.name m.body m.carried
        ∙ (take-accepts plant m.name m.body f).1 ((first-none (taken_rows plant m.name m.body)).0 clear, m.parsed)
