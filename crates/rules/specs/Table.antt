-- The table of causes as it is judged (01, Causes of refusal): rows in order, of which the first that applies is the cause.
use Rattle.std.specs.Prelude.{ℕ, ◌*◌, ◌<◌, ◌≡◌, Bool, true, false, cond, ◌&&◌, ◌||◌, List, [], ◌∷◌, eqb, Option, None, Some}
use Rattle.rules.specs.Causes.{number_of}
use Rattle.rules.specs.declared.Cause.{Cause}

-- ---- judged one after the other

-- what a rule that must hold comes to: the refusal where it is broken, else what follows
abbrev pub need : {A : Type 0} → Bool → A → A → A
need true refusal next = next
need false refusal next = refusal

-- ---- judged as a list

-- a cause, and whether its row applies to what a call was given
pub record Row : Type 0 where
  pub applies : Bool
  pub cause : Cause

abbrev pub row : Cause → Bool → Row
row c test = record { applies = test; cause = c }

unfoldable pub first_of : List Row → Option Cause
first_of [] = None
first_of (r ∷ rs) = cond r.applies (Some r.cause) (first_of rs)

-- ---- 'The lowest number that applies is given'

abbrev pub is_cause : Cause → Cause → Bool
is_cause c d = eqb (number_of c) (number_of d)

-- where a cause stands in the order in which they are judged, in tenths: 01's at their numbers; 02 has 17 'after 5 and before 7'
abbrev pub place_of : Cause → ℕ
place_of c = cond (is_cause c Cause.Response) 65 (10 * number_of c)

-- whether a cause's row applies; a cause that has no row among them never does
unfoldable pub applies_in : List Row → Cause → Bool
applies_in [] c = false
applies_in (r ∷ rs) c = r.applies && is_cause r.cause c || applies_in rs c

-- c's row applies, and none with an earlier place
pub record Lowest (rows : List Row) (c : Cause) : Type 0 where
  pub holds : applies_in rows c ≡ true
  pub least : (d : Cause) → place_of d < place_of c → applies_in rows d ≡ false
