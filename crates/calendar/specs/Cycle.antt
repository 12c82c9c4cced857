-- Four years of months: what their table holds, and what the search for a day's month answers.
use Rattle.std.specs.Prelude.{ℕ, zero, suc, ◌≤◌, ◌<◌, Bool, true, ◌&&◌, List, eqb, get_or}
use Rattle.rules.specs.Calendar.{first_day}

-- whether f passes at every number below n
unfoldable pub every : ℕ → (ℕ → Bool) → Bool
every zero f = true
every (suc n) f = f n && every n f

-- whether t has the days before each of 48 months, and before the one after them
abbrev pub right_table : List ℕ → Bool
right_table t = every 49 (λ k. eqb (get_or t k 0) (first_day k))

-- day d lies in month m, one of the first n
pub record Within (n d m : ℕ) : Type 0 where
  pub few : m < n
  pub from : first_day m ≤ d
  pub until : d < first_day (suc m)
