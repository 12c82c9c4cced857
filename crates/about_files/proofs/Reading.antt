-- Reading is exact: the theorem and what follows from it.
use Rattle.std.specs.Prelude.{Option, None, Some}
use Prim.Native.Nat.{ℕ}
use mathlib.Core.Path.{◌≡◌, ◌∙◌, refl, sym, ap}
use mathlib.Core.Bool.{Bool, true, false, not, false≢true, not-not}
use mathlib.Core.List.{List}
use native.Mathlib.Omega.{arith}
use Rattle.rules.specs.Name.{Name, parse_name}
use Rattle.rules.specs.Body.{Body, parse_body, is_schedule}
use Rattle.rules.specs.File.{File, Outcome, refuse, file, id_fits, dates_hold, rates_hold, checksums_hold, plants_hold, stages, with_body, with_name, read_file, is_registration, take_file, lawful}
use Rattle.rules.specs.Table.{need}
use Rattle.rules.specs.declared.Cause.{Cause}
use Rattle.laws.proofs.Tests.{both, join}
use Rattle.laws.proofs.Bytes.{same-equal, equal-same}
use Rattle.about_files.specs.Reading.{LawfulBytes, ReadExactly, accepted, AcceptedExactly, RefusedExactly, OneFile, Rules, FileBytes, ReadWithoutPlant, ReadWithPlant, TakenExactly}
use Rattle.about_files.proofs.Name.{name-exactly}
use Rattle.about_files.proofs.Body.{body-exactly}

-- a refusal is no file
no-file : {X : Type 0} {c : Cause} {f : File} → refuse c ≡ file f → X
no-file e = let z : ◌≡◌ {A = ℕ} 0 1 = cc in absurd (omega arith)

-- a stage that is passed
passed : (t : Bool) (c : Cause) (o : Outcome) (f : File) → need t (refuse c) o ≡ file f → (t ≡ true) × (o ≡ file f)
passed true c o f e = (refl, e)
passed false c o f e = no-file e

-- ---- what `lawful` says, fact by fact
pub lawful-facts : (plant : Option (List ℕ)) (f : File) → lawful plant f ≡ true → Rules f × (id_fits plant f.name.plant ≡ true)
unfolding lawful
lawful-facts plant f e =
    let e₆ = both _ _ e in
    let e₅ = both _ _ e₆.0 in
    let e₄ = both _ _ e₅.0 in
    let e₃ = both _ _ e₄.0 in
    let e₂ = both _ _ e₃.0 in
    let e₁ = both _ _ e₂.0 in
    (record { name = e₁.0; form = e₂.1; dates = e₃.1; rates = e₄.1; checksums = e₅.1; plants = e₆.1 }, e₁.1)

pub facts-lawful : (plant : Option (List ℕ)) (f : File) → Rules f → id_fits plant f.name.plant ≡ true → lawful plant f ≡ true
unfolding lawful
facts-lawful plant f g i =
    join (join (join (join (join (join g.name i) g.form) g.dates) g.rates) g.checksums) g.plants

-- ---- the file that is read
module _ (plant : Option (List ℕ)) (name body : List ℕ) (f : File) where
  read-stages : (n : Name) (b : Body) → parse_name name ≡ Some n → id_fits plant n.plant ≡ true → parse_body n.format body ≡ Some b
      → stages n b ≡ file f → LawfulBytes plant name body f
  unfolding stages
  read-stages n b p i q e =
      let s₁ = passed (dates_hold n b) Cause.Date _ f e in
      let s₂ = passed (rates_hold b) Cause.Rate _ f s₁.1 in
      let s₃ = passed (checksums_hold b) Cause.Checksum _ f s₂.1 in
      let s₄ = passed (plants_hold n b) Cause.RecordPlant _ f s₃.1 in
      let made : file (record { name = n; body = b }) ≡ file f = s₄.1 in
      let f≡ : record { name = n; body = b } ≡ f = cc in
      let a = (name-exactly name n).0 p in
      let c = (body-exactly n.format body b).0 q in
      rw (sym f≡)
      (record {
        name_bytes = a.0;
        body_bytes = c.0;
        fields =
            facts-lawful plant (record { name = n; body = b })
            (record { name = a.1; form = c.1; dates = s₁.0; rates = s₂.0; checksums = s₃.0; plants = s₄.0 })
            i;
      })

  read-body : (n : Name) (o : Option Body) → parse_name name ≡ Some n → id_fits plant n.plant ≡ true → parse_body n.format body ≡ o
      → with_body n o ≡ file f → LawfulBytes plant name body f
  read-body n None p i q e = no-file e
  read-body n (Some b) p i q e = read-stages n b p i q e

  read_name : (o : Option Name) → parse_name name ≡ o → with_name plant body o ≡ file f → LawfulBytes plant name body f
  read_name None p e = no-file e
  read_name (Some n) p e =
      let s = passed (id_fits plant n.plant) Cause.OtherPlant (with_body n (parse_body n.format body)) f e in
      read-body n (parse_body n.format body) p s.0 refl s.1

  bytes_read : LawfulBytes plant name body f → read_file plant name body ≡ file f
  unfolding read_file stages
  bytes_read m =
      let h = lawful-facts plant f m.fields in
      let g = h.0 in
      let p = (name-exactly name f.name).1 (m.name_bytes, g.name) in
      let q = (body-exactly f.name.format body f.body).1 (m.body_bytes, g.form) in
      rw p (rw (h.1, q) (rw (g.dates, g.rates, g.checksums, g.plants) refl))

pub read-exactly : ReadExactly
unfolding read_file
read-exactly plant name body f = (read_name plant name body f (parse_name name) refl, bytes_read plant name body f)

-- ---- accepted and refused
pub accepted-exactly : AcceptedExactly
accepted-exactly plant name body = (to (read_file plant name body) refl, from)
  where
    to : (o : Outcome) → read_file plant name body ≡ o → accepted o ≡ true → (f : File) × LawfulBytes plant name body f
    to (refuse c) p e = absurd (false≢true e)
    to (file f) p e = (f, (read-exactly plant name body f).0 p)

    from : (f : File) × LawfulBytes plant name body f → accepted (read_file plant name body) ≡ true
    from m = ap accepted ((read-exactly plant name body m.0).1 m.1)

pub refused-exactly : RefusedExactly
refused-exactly plant name body = (to, from (accepted (read_file plant name body)) refl)
  where
    to : accepted (read_file plant name body) ≡ false → (f : File) → LawfulBytes plant name body f → ⊥
    to e f m = false≢true (sym e ∙ (accepted-exactly plant name body).1 (f, m))

    from : (t : Bool) → accepted (read_file plant name body) ≡ t → ((f : File) → LawfulBytes plant name body f → ⊥) → t ≡ false
    from true p h = let m = (accepted-exactly plant name body).0 p in absurd (h m.0 m.1)
    from false p h = refl

pub one-file : OneFile
one-file plant name body f g p q =
    let a = (read-exactly plant name body f).1 p in
    let b = (read-exactly plant name body g).1 q in
    let e : file f ≡ file g = sym a ∙ b in
    cc

-- ---- without a plant, and with one
module _ (plant : Option (List ℕ)) (name body : List ℕ) (f : File) where
  apart : LawfulBytes plant name body f → FileBytes name body f × (id_fits plant f.name.plant ≡ true)
  apart m =
      let h = lawful-facts plant f m.fields in
      (record { name_bytes = m.name_bytes; body_bytes = m.body_bytes; rules = h.0 }, h.1)

  together : FileBytes name body f → id_fits plant f.name.plant ≡ true → LawfulBytes plant name body f
  together m i = record { name_bytes = m.name_bytes; body_bytes = m.body_bytes; fields = facts-lawful plant f m.rules i }

pub read-without-plant : ReadWithoutPlant
read-without-plant name body f =
    (λ e. apart None name body f ((read-exactly None name body f).0 e), λ m. (read-exactly None name body f).1 (together None name body f m.0 m.1))

pub read-with-plant : ReadWithPlant
read-with-plant plant name body f = (
  λ e.
      let m = apart (Some plant) name body f ((read-exactly (Some plant) name body f).0 e) in
      (m.0, same-equal f.name.plant plant m.1),
  λ m. (read-exactly (Some plant) name body f).1 (together (Some plant) name body f m.0 (equal-same m.1)),
)

-- ---- what a unit takes
name-read : (plant : Option (List ℕ)) (name body : List ℕ) (f : File) → LawfulBytes plant name body f → parse_name name ≡ Some f.name
name-read plant name body f m = (name-exactly name f.name).1 (m.name_bytes, (lawful-facts plant f m.fields).0.name)

pub taken-exactly : TakenExactly
unfolding take_file
taken-exactly plant name body f = (
  λ e.
      let s = passed (not (is_registration (parse_name name))) Cause.Name (read_file (Some plant) name body) f e in
      let m = (read-exactly (Some plant) name body f).0 s.1 in
      let p = name-read (Some plant) name body f m in
      let q : not (not (is_schedule f.name.format)) ≡ true = rw p at s.0 in
      (m, sym (not-not (is_schedule f.name.format)) ∙ q),
  λ m.
      let p = name-read (Some plant) name body f m.0 in
      rw (p, m.1) ((read-exactly (Some plant) name body f).1 m.0),
)
