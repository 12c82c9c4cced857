-- What the walk over a text answers of the bytes that are left.
use Rattle.std.specs.Prelude.{ℕ, Bool, false, List, Option, Some, None}
use Rattle.rules.specs.ErrorFile.{utf8_from}
use Rattle.error_file.specs.declared.utf8.Walk.{Walk}

-- whether they go on rightly; no bytes do where one before them was wrong, which ended the walk
abbrev pub rest : Option Walk → List ℕ → Bool
rest None xs = false
rest (Some w) xs = utf8_from w.asked w.low w.high xs
