-- The lists that an answer's slices hold.
use Rattle.std.specs.Prelude.{ℕ, List, Option, None, Some}
use Rattle.std.specs.Borrow.{Bor}
use Rattle.response.specs.declared.Carried.{Carried}

abbrev pub lent : Option (Bor (List ℕ)) → Option (List ℕ)
lent None = None
lent (Some x) = Some x.now

abbrev pub both_lent : Option (Bor (List ℕ) × Bor (List ℕ)) → Option (List ℕ × List ℕ)
both_lent None = None
both_lent (Some q) = Some (q.0.now, q.1.now)

-- the name and the file
abbrev pub carried : Option Carried → Option (List ℕ × List ℕ)
carried None = None
carried (Some c) = Some (c.name.now, c.file.now)
