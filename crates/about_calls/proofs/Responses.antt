-- A response taken is its name and file taken.
use Rattle.std.specs.Prelude.{Some, Err, Option, None}
use Prim.Native.Nat.{ℕ}
use mathlib.Core.Path.{◌≡◌, refl, sym, ap, ◌∙◌}
use mathlib.Core.Bool.{Bool, true, false, not, ◌&&◌, ◌||◌, false≢true, and-false}
use mathlib.Core.List.{List, [], ◌∷◌}
use lib.ListN.{length}
use borrow.Author.Tests.{eq-eqb}
use Rattle.rules.specs.File.{Outcome, refuse, take_file}
use Rattle.rules.specs.Name.{encode_name}
use Rattle.rules.specs.Body.{encode_body}
use Rattle.rules.specs.Response.{parse_response, take_parsed, take_response}
use Rattle.rules.specs.Rows.{taken_rows}
use Rattle.rules.specs.Store.{store_length, sound_store}
use Rattle.rules.specs.Machine.{take_step, file_taken, step as machine_step}
use Rattle.rules.specs.Table.{Row, first_of, is_cause, applies_in}
use Rattle.rules.specs.declared.Cause.{Cause}
use Rattle.about_responses.specs.Exact.{Carried}
use Rattle.about_responses.proofs.Exact.{response-exactly, broken-exactly}
use Rattle.about_responses.proofs.Refusals.{response-carries}
use Rattle.pool.specs.Held.{held_of}
use Rattle.unit.specs.Values.{is_sound}
use Rattle.unit.specs.Rows.{is_unset}
use Rattle.unit.specs.declared.Unit.{Unit}
use Rattle.unit.specs.Changed.{Done}
use Rattle.taking.specs.Taken.{outcome_rows, outcome_taken, store_taken, response_of}
use Rattle.calls.specs.Step.{State}
use Rattle.about_calls.specs.Refusals.{call_rows}
use Rattle.about_calls.specs.Responses.{ResponseAsFile, ResponseCounts, BrokenCounts, BrokenRefused, AcceptsResponse, ResponseUntouched}
use Rattle.about_calls.proofs.Acceptance.{accepts-lawful}
use Rattle.about_calls.proofs.Full.{answer_of}
use Rattle.about_calls.proofs.MachineLaws.{take-outcome}
use Rattle.about_calls.proofs.Refusals.{taken-answer, file-refuses}
use Rattle.about_calls.proofs.Sentences.{outcome_untouched}

-- what is read of it is what is read of the name and file that it carries
same_outcome : (plant boundary bytes name body : List ℕ) → Carried boundary bytes name body → take_response plant boundary bytes ≡ take_file plant name body
same_outcome plant boundary bytes name body c = response-carries plant boundary bytes name body ((response-exactly boundary bytes name body).1 c)

pub response-as-file : ResponseAsFile
response-as-file u store boundary bytes name body c =
    let same = same_outcome u.plant.id boundary bytes name body c in
    (ap (outcome_taken u store) same, ap (store_taken u store) same)

pub response-counts : ResponseCounts
unfolding machine_step
response-counts w M boundary bytes name body c = ap (λ (o : Outcome). take_step w o M) (same_outcome w.plant boundary bytes name body c)

pub accepts-response : AcceptsResponse
accepts-response u store t f boundary bytes good long lent clock law kind few c =
    ap (λ (d : Done). d.answer) (response-as-file u store boundary bytes (encode_name f.name) (encode_body f.body) c).0
    ∙ accepts-lawful u store t f good long lent clock law kind few

pub response-untouched : ResponseUntouched
response-untouched u store boundary bytes f long read done = outcome_untouched u store (take_response u.plant.id boundary bytes) f long read done

-- ---- 17

-- none of the rows is this cause's
none_is : Cause → List Row → Bool
none_is c [] = true
none_is c (r ∷ rs) = not (is_cause r.cause c) && none_is c rs

none-applies : (c : Cause) (rows : List Row) → none_is c rows ≡ true → applies_in rows c ≡ false
unfolding none_is applies_in
none-applies c [] e = refl
none-applies c (r ∷ rs) e = go (is_cause r.cause c) (none-applies c rs) e
  where
    go : (x : Bool) → (none_is c rs ≡ true → applies_in rs c ≡ false) → (not x && none_is c rs) ≡ true → (r.applies && x || applies_in rs c) ≡ false
    go true rest h = absurd (false≢true h)
    go false rest h = rw (and-false r.applies) (rest h)

-- 17 is no row of a file taken
no_row : (name body : List ℕ) (s : State) → applies_in (call_rows (file_taken name body) s) Cause.Response ≡ false
no_row name body s = none-applies Cause.Response (call_rows (file_taken name body) s) named
  where
    named : none_is Cause.Response (call_rows (file_taken name body) s) ≡ true
    named = unfold none_is call_rows taken_rows in refl

module _ (u : Unit) (store : List ℕ) (t : ℕ) (boundary bytes : List ℕ) (good : is_sound u ≡ true) (long : length store ≡ store_length)
    (lent : sound_store (held_of u.pool) store ≡ true) (clock : u.clock ≡ Some t) where
  broken-cause : first_of (outcome_rows u store (refuse Cause.Response)) ≡ Some Cause.Response
  unfolding first_of
  broken-cause = rw (eq-eqb (length store) store_length long, good, lent, ap is_unset clock) refl

  broken-is : parse_response boundary bytes ≡ None → (response_of u store boundary bytes).answer ≡ Err Cause.Response
  unfolding take_response
  broken-is e =
      ap (λ (q : Option (List ℕ × List ℕ)). (outcome_taken u store (take_parsed u.plant.id q)).answer) e
      ∙ taken-answer u store (refuse Cause.Response)
      ∙ ap answer_of broken-cause

  other : (q : Option (List ℕ × List ℕ)) → parse_response boundary bytes ≡ q
      → (response_of u store boundary bytes).answer ≡ Err Cause.Response → parse_response boundary bytes ≡ None
  other None e x = e
  other (Some q) e x =
      let c = (response-exactly boundary bytes q.0 q.1).0 e in
      let same = ap (λ (d : Done). d.answer) (response-as-file u store boundary bytes q.0 q.1 c).0 in
      let low = (file-refuses u store q.0 q.1 Cause.Response).0 (sym same ∙ x) in
      absurd (false≢true (sym (no_row q.0 q.1 (record { unit = u; store = store })) ∙ low.holds))

pub broken-counts : BrokenCounts
unfolding machine_step take_response
broken-counts w M t boundary bytes long set n =
    ap (λ (q : Option (List ℕ × List ℕ)). take_step w (take_parsed w.plant q) M) ((broken-exactly boundary bytes).1 n)
    ∙ take-outcome w M (refuse Cause.Response) (eq-eqb w.store_length store_length long) t set

pub broken-refused : BrokenRefused
broken-refused u store t boundary bytes good long lent clock = (
  λ x. (broken-exactly boundary bytes).0 (other u store t boundary bytes good long lent clock (parse_response boundary bytes) refl x),
  λ n. broken-is u store t boundary bytes good long lent clock ((broken-exactly boundary bytes).1 n),
)
