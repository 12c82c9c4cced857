-- Of a 201 or 202 the writer looks at neither flag nor next access.
use Prim.Native.Nat.{ℕ}
use mathlib.Core.Path.{◌≡◌, ◌∙◌, refl, sym}
use mathlib.Core.Bool.{Bool, true, false, ◌||◌, or-true, false≢true}
use mathlib.Core.List.{List}
use lib.Dec.{leb, eqb}
use borrow.Author.Tests.{eqb-true}
use Rattle.rules.specs.Calendar.{month_at}
use Rattle.rules.specs.Name.{format_of}
use Rattle.rules.specs.Writer.{write_body, digits_fit, months_fit, field_records, month_records}
use Rattle.plan.specs.Fields.{fields_of}
use Rattle.writer.proofs.Months.{same_months}
use Rattle.about_bodies.specs.Unread.{NotLookedAt}

module _ (plant ident start next next' rates : List ℕ) (flag flag' room : ℕ) where
  same-records : (format k m : ℕ) → month_records (fields_of format plant ident start next rates flag) k m rates
      ≡ month_records (fields_of format plant ident start next' rates flag') k m rates
  same-records format k m =
      same_months (fields_of format plant ident start next rates flag) k m rates
      ∙ sym (same_months (fields_of format plant ident start next' rates flag') k m rates)

  yearly : write_body (fields_of 201 plant ident start next rates flag) room ≡ write_body (fields_of 201 plant ident start next' rates flag') room
  unfolding write_body format_of digits_fit months_fit field_records
  yearly = rw (or-true (leb flag 9), or-true (leb flag' 9), same-records 201 13 (month_at start)) refl

  monthly : write_body (fields_of 202 plant ident start next rates flag) room ≡ write_body (fields_of 202 plant ident start next' rates flag') room
  unfolding write_body format_of digits_fit months_fit field_records
  monthly = rw (or-true (leb flag 9 || false), or-true (leb flag' 9 || false), same-records 202 1 (month_at start)) refl

pub not-looked-at : NotLookedAt
not-looked-at format plant ident start next next' rates flag flag' room e = go (eqb format 201) refl (eqb format 202) refl e
  where
    go : (a : Bool) → eqb format 201 ≡ a → (b : Bool) → eqb format 202 ≡ b → (a || b) ≡ true
        → write_body (fields_of format plant ident start next rates flag) room ≡ write_body (fields_of format plant ident start next' rates flag') room
    go true p b q e = rw (eqb-true format 201 p) (yearly plant ident start next next' rates flag flag' room)
    go false p true q e = rw (eqb-true format 202 q) (monthly plant ident start next next' rates flag flag' room)
    go false p false q e = absurd (false≢true e)
