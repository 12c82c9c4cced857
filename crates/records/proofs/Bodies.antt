-- Laws of a body that stands: what its tests say, and that it is a body that parses.
use Rattle.std.specs.Prelude.{None, Some}
use Prim.Native.Nat.{ℕ}
use mathlib.Core.Path.{◌≡◌, ◌∙◌, refl}
use mathlib.Core.Bool.{true, false, cond}
use mathlib.Core.List.{List}
use lib.ListN.{drop}
use Rattle.rules.specs.Body.{Record, schedule, count_of, parse_body, counted, is_schedule}
use Rattle.rules.specs.declared.Format.{Format}
use Rattle.laws.proofs.Tests.{both}
use Rattle.form.specs.Walk.{shaped, records_from}
use Rattle.form.proofs.Standing.{parse_is}
use Rattle.records.specs.Standing.{standing, Stands}

module _ (f : Format) (body : List ℕ) where
  pub stands_facts : standing f body ≡ true → Stands f body
  stands_facts e =
      let b = both (counted f body) (shaped f (count_of f) (drop 6 body)) e in
      record { counts = b.0; records = b.1 }

  -- the records of a body that stands
  abbrev pub records_at : List Record
  records_at = records_from f (count_of f) (drop 6 body)

-- a schedule's body parses where it stands
pub parse-standing : (f : Format) (body : List ℕ) → is_schedule f ≡ true
    → parse_body f body ≡ cond (standing f body) (Some (schedule (records_at f body))) None
parse-standing f body i = parse_is f body i

module _ (f : Format) (body : List ℕ) (i : is_schedule f ≡ true) where
  pub parses-not : standing f body ≡ false → parse_body f body ≡ None
  parses-not e = parse-standing f body i ∙ rw e refl

  pub parses-as : standing f body ≡ true → parse_body f body ≡ Some (schedule (records_at f body))
  parses-as e = parse-standing f body i ∙ rw e refl
