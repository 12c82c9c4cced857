-- 'For 201 and 202 flag and next access are not looked at' (01, Beside the unit).
-- Proved in proofs/Unread.antt: `not-looked-at`.
use Rattle.std.specs.Prelude.{ℕ, ◌≡◌, true, ◌||◌, List, eqb}
use Rattle.rules.specs.Writer.{write_body}
use Rattle.plan.specs.Fields.{fields_of}

-- with any other flag and next access `write_body` answers and writes the same, whatever the other arguments are
abbrev pub NotLookedAt : Type 0
NotLookedAt =
    (format : ℕ) (plant ident start next next' rates : List ℕ) (flag flag' room : ℕ)
    → (eqb format 201 || eqb format 202) ≡ true
    → write_body (fields_of format plant ident start next rates flag) room ≡ write_body (fields_of format plant ident start next' rates flag') room
