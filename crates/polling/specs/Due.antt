-- What is due, as the code answers it, and that it is what the plain machine replies.
use Rattle.std.specs.Prelude.{ℕ, ◌≡◌, Bool, cond, not, ◌&&◌, ◌||◌, leb, ltb, eqb, Option, Some, None, Ok}
use Rattle.rules.specs.Causes.{of_due}
use Rattle.rules.specs.Machine.{due_of, in_window}
use Rattle.rules.specs.Plant.{Settings}
use Rattle.rules.specs.Store.{Requests, no_flag}
use Rattle.rules.specs.declared.Due.{Due}

-- 'fixed with w if w isn't none, w ≠ h, clock ≥ f, and k > 0 or the time of day is in the window'
abbrev pub asks_fixed : Settings → ℕ → ℕ → Requests → Bool
asks_fixed s d t q =
    not (eqb q.wanted_flag no_flag)
    && not (eqb q.wanted_flag q.held_flag)
    && leb q.fixed_at t
    && (ltb 0 q.failures || in_window s d t)

-- 'update if clock ≥ u; else fixed with w if ..; else nothing'
unfoldable pub due_for : Settings → ℕ → ℕ → Requests → Option Due
due_for s d t q = cond (leb q.update_at t) (Some Due.Update) (cond (asks_fixed s d t q) (Some (Due.Fixed q.wanted_flag)) None)

-- for all settings, every check digit, clock and requests the answer says what the machine replies
abbrev pub DueAsMachine : Type 0
DueAsMachine = (s : Settings) (d t : ℕ) (q : Requests) → of_due (Ok (due_for s d t q)) ≡ due_of s d t q
