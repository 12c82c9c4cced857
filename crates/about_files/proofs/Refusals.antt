-- The writer and the request give the lowest cause that applies, and write exactly when none does.
use Rattle.laws.proofs.Options.{some-ne-none}
use Rattle.std.specs.Prelude.{Option, None, Some}
use Prim.Native.Nat.{ℕ}
use mathlib.Core.Path.{◌≡◌, ◌∙◌, refl, sym, ap}
use mathlib.Core.Bool.{Bool, true, false, cond, not, ◌&&◌, ◌||◌, not-not}
use mathlib.Core.List.{List, [], ◌∷◌}
use mathlib.Core.Logic.{◌↔◌}
use lib.Dec.{leb, eqb}
use lib.ListN.{length}
use Rattle.rules.specs.Digits.{digits, all_at_most}
use Rattle.rules.specs.Plant.{plant_id, mac_address}
use Rattle.rules.specs.Name.{format_of, format_number, any_segment}
use Rattle.rules.specs.Body.{schedule, encode_body, highest_rate}
use Rattle.rules.specs.File.{update_dates}
use Rattle.rules.specs.Table.{need, Row, first_of, applies_in, Lowest}
use Rattle.rules.specs.Writer.{Fields, Output, refuse, bytes, flag_fits, digits_fit, update_record, months_fit, fitting, write_as, write_body}
use Rattle.rules.specs.Request.{request_bytes, request}
use Rattle.rules.specs.Rows.{flag_breaks, format_breaks, digits_break, dates_break, room_breaks, records_for, body_for, writer_rows, request_rows}
use Rattle.rules.specs.declared.Cause.{Cause}
use Rattle.rules.specs.declared.Format.{Format}
use Rattle.rules.specs.declared.Format.TheVariants.{F201, F202, F203, F301}
use Rattle.laws.proofs.Tests.{no-some, below-is}
use Rattle.about_files.specs.Refusals.{RefusesExactly, WritesExactly, RequestRefuses, RequestWrites}
use Rattle.about_files.proofs.Name.{format-number}
use Rattle.about_files.proofs.Table.{rising, answer_by, answer-refuses, answer-given}

-- ---- an output that rows decide

-- rows judged one after the other, and the output where none applies
abbrev pub judged : List Row → List ℕ → Output
judged [] b = bytes b
judged (r ∷ rs) b = need (not r.applies) (refuse r.cause) (judged rs b)

abbrev cause_of : Output → Option Cause
cause_of (refuse c) = Some c
cause_of (bytes b) = None

judged-first : (rows : List Row) (b : List ℕ) → judged rows b ≡ answer_by refuse (bytes b) (first_of rows)
unfolding first_of
judged-first [] b = refl
judged-first (r ∷ rs) b = go r.applies (judged-first rs b)
  where
    go : (t : Bool) → judged rs b ≡ answer_by refuse (bytes b) (first_of rs)
        → need (not t) (refuse r.cause) (judged rs b) ≡ answer_by refuse (bytes b) (cond t (Some r.cause) (first_of rs))
    go true e = refl
    go false e = e

module _ (rows : List Row) (b : List ℕ) where
  pub judged-refuses : rising rows ≡ true → (c : Cause) → (judged rows b ≡ refuse c) ↔ Lowest rows c
  judged-refuses rise c = rw (judged-first rows b) (answer-refuses refuse (bytes b) cause_of (λ d. refl) refl rows rise c)

  pub judged-writes : (d : List ℕ) → (judged rows b ≡ bytes d) ↔ (((c : Cause) → applies_in rows c ≡ false) × (d ≡ b))
  judged-writes d = rw (judged-first rows b) (go (first_of rows) (answer-given refuse (bytes b) cause_of (λ c. refl) refl rows))
    where
      go : (o : Option Cause) → (answer_by refuse (bytes b) o ≡ bytes b) ↔ ((c : Cause) → applies_in rows c ≡ false)
          → (answer_by refuse (bytes b) o ≡ bytes d) ↔ (((c : Cause) → applies_in rows c ≡ false) × (d ≡ b))
      go None i = (λ e. let same : d ≡ b = cc in (i.0 refl, same), λ h. ap bytes (sym h.1))
      go (Some c) i = (λ e. absurd (some-ne-none c (ap cause_of e)), λ h. absurd (some-ne-none c (ap cause_of (i.1 h.0))))

-- ---- laws of the tests
pub room-is : (b : List ℕ) (room : ℕ) → not (room_breaks b room) ≡ leb (length b) room
room-is b room = ap not (below-is room (length b)) ∙ not-not (leb (length b) room)

flag-law : (a p q : Bool) → not (not a && not (p || q)) ≡ (a || p || q)
flag-law true true q = refl
flag-law true false true = refl
flag-law true false false = refl
flag-law false true q = refl
flag-law false false true = refl
flag-law false false false = refl

two_law : (a b : Bool) → not (not a || not b || false) ≡ (a && b && true)
two_law true true = refl
two_law true false = refl
two_law false b = refl

four_law : (a b c d : Bool) → not (not a || not b || (not c || not d)) ≡ (a && b && (c && d))
four_law true true true true = refl
four_law true true true false = refl
four_law true true false d = refl
four_law true false c d = refl
four_law false b c d = refl

first-law : (a : Bool) → not (not a || false || false) ≡ a
first-law true = refl
first-law false = refl

second-law : (a : Bool) → not (not a || false) ≡ a
second-law true = refl
second-law false = refl

-- ---- the stages of `write_body` are the rows

module _ (w : Fields) (room : ℕ) where
  flag_is : not (flag_breaks w) ≡ flag_fits w
  flag_is = rw (below-is 9 w.flag) (flag-law (leb w.flag 9) (eqb w.format 201) (eqb w.format 202))

  -- from the format on
  abbrev rest : Output
  rest =
      need (not (format_breaks w)) (refuse Cause.Name)
      (need (not (digits_break w)) (refuse Cause.Form)
      (need (not (dates_break w)) (refuse Cause.Date)
      (need (not (not (all_at_most highest_rate w.rates))) (refuse Cause.Rate)
      (need (not (room_breaks (body_for w) room)) (refuse Cause.Buffer) (bytes (body_for w))))))

  rest-with : (n d t : Bool) {b : List ℕ} → not (format_breaks w) ≡ n → not (digits_break w) ≡ d → not (dates_break w) ≡ t → body_for w ≡ b
      → rest
      ≡ need n (refuse Cause.Name)
      (need d (refuse Cause.Form) (need t (refuse Cause.Date) (need (all_at_most highest_rate w.rates) (refuse Cause.Rate) (fitting room b))))
  rest-with n d t {b} e₁ e₂ e₃ e₄ = rw (e₁, e₂, e₃, not-not (all_at_most highest_rate w.rates), e₄, room-is b room) refl

  -- which of the three formats the number is
  record Number (x y z : Bool) : Type 0 where
    is201 : eqb w.format 201 ≡ x
    is202 : eqb w.format 202 ≡ y
    is203 : eqb w.format 203 ≡ z

  number_is : (f : Format) → format_of w.format ≡ Some f → Number (eqb (format_number f) 201) (eqb (format_number f) 202) (eqb (format_number f) 203)
  number_is f e =
      let h = format-number w.format f e in
      record { is201 = ap (λ (n : ℕ). eqb n 201) h; is202 = ap (λ (n : ℕ). eqb n 202) h; is203 = ap (λ (n : ℕ). eqb n 203) h }

  no_number : format_of w.format ≡ None → Number false false false
  unfolding format_of
  no_number e = go (eqb w.format 201) refl (eqb w.format 202) refl (eqb w.format 203) refl
    where
      go : (x : Bool) → eqb w.format 201 ≡ x → (y : Bool) → eqb w.format 202 ≡ y → (z : Bool) → eqb w.format 203 ≡ z → Number false false false
      go true p y q z r = no-some (sym (rw p at e))
      go false p true q z r = no-some (sym (rw (p, q) at e))
      go false p false q true r = no-some (sym (rw (p, q, r) at e))
      go false p false q false r = record { is201 = p; is202 = q; is203 = r }

  no-rest : Number false false false → rest ≡ refuse Cause.Name
  no-rest a = let n : not (format_breaks w) ≡ false = simp (a.is201, a.is202, a.is203) in rw n refl

  rest-is : (o : Option Format) → format_of w.format ≡ o → rest ≡ write_as room w o
  unfolding digits_fit
  rest-is None e = no-rest (no_number e)
  rest-is (Some F201) e =
      let a = number_is F201 e in
      rest-with true (digits_fit F201 w) (months_fit 13 w) (simp (a.is201, a.is202, a.is203))
      (rw a.is203 (two_law (digits 10 w.schedule) (digits 12 w.start)))
      (simp (a.is201, a.is202, a.is203) (first-law (months_fit 13 w))) (ap (λ (o : Option Format). encode_body (schedule (records_for o w))) e)
  rest-is (Some F202) e =
      let a = number_is F202 e in
      rest-with true (digits_fit F202 w) (months_fit 1 w) (simp (a.is201, a.is202, a.is203))
      (rw a.is203 (two_law (digits 10 w.schedule) (digits 12 w.start)))
      (simp (a.is201, a.is202, a.is203) (second-law (months_fit 1 w))) (ap (λ (o : Option Format). encode_body (schedule (records_for o w))) e)
  rest-is (Some F203) e =
      let a = number_is F203 e in
      rest-with true (digits_fit F203 w) (update_dates (update_record w)) (simp (a.is201, a.is202, a.is203))
      (rw (a.is203, below-is 336 (length w.rates))
      (four_law (digits 10 w.schedule) (digits 12 w.start) (digits 14 w.next) (leb (length w.rates) 336)))
      (simp (a.is201, a.is202, a.is203) (not-not (update_dates (update_record w)))) (ap (λ (o : Option Format). encode_body (schedule (records_for o w))) e)
  rest-is (Some F301) e = no-rest (number_is F301 e)

  pub write-judged : write_body w room ≡ judged (writer_rows w room) (body_for w)
  unfolding write_body writer_rows
  write-judged = rw (← flag_is, ← (rest-is (format_of w.format) refl), not-not (plant_id w.plant)) refl

-- ---- the writer

pub refuses_exactly : RefusesExactly
unfolding writer_rows
refuses_exactly w room c = rw (write-judged w room) (judged-refuses (writer_rows w room) (body_for w) refl c)

pub writes-exactly : WritesExactly
writes-exactly w room b = rw (write-judged w room) (judged-writes (writer_rows w room) (body_for w) b)

-- ---- the request

request-judged : (id mac segment : List ℕ) (room : ℕ) → request id mac segment room ≡ judged (request_rows id mac segment room) (request_bytes id mac segment)
unfolding request request_rows
request-judged id mac segment room =
    rw (not-not (plant_id id), not-not (mac_address mac), not-not (any_segment segment), room-is (request_bytes id mac segment) room) refl

pub request-refuses : RequestRefuses
unfolding request_rows
request-refuses id mac segment room c =
    rw (request-judged id mac segment room) (judged-refuses (request_rows id mac segment room) (request_bytes id mac segment) refl c)

pub request-writes : RequestWrites
request-writes id mac segment room b =
    rw (request-judged id mac segment room) (judged-writes (request_rows id mac segment room) (request_bytes id mac segment) b)
