-- The reader gives the lowest cause that applies, and a file exactly when none does.
use Rattle.laws.proofs.Options.{some-injective, none-ne-some, some-ne-none}
use Rattle.std.specs.Prelude.{Option, None, Some}
use Prim.Native.Nat.{ℕ}
use mathlib.Core.Path.{◌≡◌, ◌∙◌, refl, sym, ap, ap₂}
use mathlib.Core.Bool.{Bool, true, false, cond, not, ◌||◌}
use mathlib.Core.List.{List, [], ◌∷◌}
use mathlib.Core.Logic.Iff
use mathlib.Core.Logic.{◌↔◌}
use Rattle.rules.specs.Name.{Name, parse_name}
use Rattle.rules.specs.Body.{Body, parse_body, is_schedule}
use Rattle.rules.specs.File.{File, Outcome, refuse, file, id_fits, dates_hold, rates_hold, checksums_hold, plants_hold, stages, with_body, with_name, read_file, is_registration, take_file}
use Rattle.rules.specs.Table.{need, Row, row, first_of, applies_in, Lowest}
use Rattle.rules.specs.Rows.{name_breaks, unread, broken, later_rows, read_rows, taken_rows}
use Rattle.rules.specs.declared.Cause.{Cause}
use Rattle.about_files.specs.Reading.{LawfulBytes}
use Rattle.about_files.specs.ReadRefusals.{Parsed, ReadRefuses, ReadAccepts, TakeRefuses, TakeAccepts}
use Rattle.about_files.proofs.Name.{name-exactly}
use Rattle.about_files.proofs.Body.{body-exactly}
use Rattle.about_files.proofs.Reading.{lawful-facts, read-exactly, taken-exactly}
use Rattle.about_files.proofs.Table.{rising, first-lowest, first-none}

-- ---- the first row that applies is the outcome's cause

abbrev pub cause_of : Outcome → Option Cause
cause_of (refuse c) = Some c
cause_of (file f) = None

-- a stage is a row
stage : (t : Bool) (c : Cause) (o : Outcome) {first : Option Cause} → cause_of o ≡ first → cause_of (need t (refuse c) o) ≡ cond (not t) (Some c) first
stage true c o e = e
stage false c o e = refl

body-first : (n : Name) (b : Option Body)
    → cause_of (with_body n b)
    ≡ first_of
    (row Cause.Form (unread b)
    ∷ row Cause.Date (broken (dates_hold n) b)
    ∷ row Cause.Rate (broken rates_hold b)
    ∷ row Cause.Checksum (broken checksums_hold b)
    ∷ row Cause.RecordPlant (broken (plants_hold n) b)
    ∷ [])
unfolding first_of stages
body-first n None = refl
body-first n (Some b) =
    stage (dates_hold n b) Cause.Date _
    (stage (rates_hold b) Cause.Rate _
    (stage (checksums_hold b) Cause.Checksum _
    (stage (plants_hold n b) Cause.RecordPlant _ refl)))

name-first : (plant : Option (List ℕ)) (body : List ℕ) (n : Option Name)
    → cause_of (with_name plant body n) ≡ first_of (row Cause.Name (name_breaks n) ∷ later_rows plant n body)
unfolding first_of
name-first plant body None = refl
name-first plant body (Some n) = stage (id_fits plant n.plant) Cause.OtherPlant _ (body-first n (parse_body n.format body))

read_first : (plant : Option (List ℕ)) (name body : List ℕ) → cause_of (read_file plant name body) ≡ first_of (read_rows plant name body)
unfolding read_file read_rows
read_first plant name body = name-first plant body (parse_name name)

take-name : (plant body : List ℕ) (n : Option Name)
    → cause_of (need (not (is_registration n)) (refuse Cause.Name) (with_name (Some plant) body n))
    ≡ first_of (row Cause.Name (name_breaks n || is_registration n) ∷ later_rows (Some plant) n body)
unfolding first_of
take-name plant body None = refl
take-name plant body (Some n) = go (is_schedule n.format)
  where
    go : (t : Bool) → cause_of (need (not (not t)) (refuse Cause.Name) (with_name (Some plant) body (Some n)))
        ≡ first_of (row Cause.Name (false || not t) ∷ later_rows (Some plant) (Some n) body)
    go true = name-first (Some plant) body (Some n)
    go false = refl

pub take-first : (plant name body : List ℕ) → cause_of (take_file plant name body) ≡ first_of (taken_rows plant name body)
unfolding take_file read_file taken_rows
take-first plant name body = take-name plant body (parse_name name)

-- ---- what name and body parse as

lawful-parsed : (plant : Option (List ℕ)) (name body : List ℕ) (f : File) → LawfulBytes plant name body f → Parsed name body f
lawful-parsed plant name body f m =
    let g = (lawful-facts plant f m.fields).0 in
    record {
      name_is = (name-exactly name f.name).1 (m.name_bytes, g.name);
      body_is = (body-exactly f.name.format body f.body).1 (m.body_bytes, g.form);
    }

one-parsed : (name body : List ℕ) (f g : File) → Parsed name body f → Parsed name body g → f ≡ g
one-parsed name body f g p q =
    let n : f.name ≡ g.name = some-injective f.name g.name (sym p.name_is ∙ q.name_is) in
    let b : f.body ≡ g.body =
    some-injective f.body g.body (sym p.body_is ∙ ap (λ (x : Name). parse_body x.format body) n ∙ q.body_is) in
    ap₂ {C = File} (λ (x : Name) (y : Body). record { name = x; body = y }) n b

-- ---- an outcome whose cause is that of the rows, and whose file is what name and body parse as

has-cause : (o : Outcome) (c : Cause) → (o ≡ refuse c) ↔ (cause_of o ≡ Some c)
has-cause (refuse d) c = (λ e. ap cause_of e, λ e. ap refuse (some-injective d c e))
has-cause (file f) c = (λ e. ap cause_of e, λ e. absurd (none-ne-some c e))

module _ (rows : List Row) (o : Outcome) (first : cause_of o ≡ first_of rows) where
  pub outcome_refuses : rising rows ≡ true → (c : Cause) → (o ≡ refuse c) ↔ Lowest rows c
  outcome_refuses rise c = Iff.trans (has-cause o c) (rw first (first-lowest rows rise c))

  outcome_accepts : (name body : List ℕ) → ((f : File) → o ≡ file f → Parsed name body f) → (f : File)
      → (o ≡ file f) ↔ (((c : Cause) → applies_in rows c ≡ false) × Parsed name body f)
  outcome_accepts name body parsed f =
      (λ e. ((first-none rows).0 (sym first ∙ ap cause_of e), parsed f e), λ h. go o refl (first ∙ (first-none rows).1 h.0) h.1)
    where
      go : (x : Outcome) → o ≡ x → cause_of o ≡ None → Parsed name body f → o ≡ file f
      go (refuse d) e clear p = absurd (some-ne-none d (sym (ap cause_of e) ∙ clear))
      go (file g) e clear p = e ∙ ap file (one-parsed name body g f (parsed g e) p)

-- ---- reading and taking

pub read-refuses : ReadRefuses
unfolding read_rows
read-refuses plant name body c = outcome_refuses (read_rows plant name body) (read_file plant name body) (read_first plant name body) refl c

pub read-accepts : ReadAccepts
read-accepts plant name body f =
    outcome_accepts (read_rows plant name body) (read_file plant name body) (read_first plant name body) name body
    (λ g e. lawful-parsed plant name body g ((read-exactly plant name body g).0 e))
    f

pub take-refuses : TakeRefuses
unfolding taken_rows
take-refuses plant name body c = outcome_refuses (taken_rows plant name body) (take_file plant name body) (take-first plant name body) refl c

pub take-accepts : TakeAccepts
take-accepts plant name body f =
    outcome_accepts (taken_rows plant name body) (take_file plant name body) (take-first plant name body) name body
    (λ g e. lawful-parsed (Some plant) name body g ((taken-exactly plant name body g).0 e).0)
    f
