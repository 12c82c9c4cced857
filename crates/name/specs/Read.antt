-- What the functions on names answer: the fields of a name that keeps the form, and the digits of its plant ID.
use Rattle.std.specs.Prelude.{ℕ, ◌/◌, ◌%◌, Bool, cond, ◌&&◌, List, leb, eqb, length, replicate, Some, None, Option}
use Rattle.rules.specs.Digits.{part, value, from_ascii}
use Rattle.rules.specs.Name.{Name, name_length}
use Rattle.rules.specs.declared.Format.{Format}
use Rattle.rules.specs.declared.Format.TheVariants.{F201, F202, F203, F301}
use Rattle.name.specs.declared.Fields.{Fields}

-- the answer for what `parse_name` finds
abbrev pub name_read : Option Name → Option Fields
name_read None = None
name_read (Some n) = Some (record { format = n.format; segment = value n.segment })

-- `segment_fits` on the number that four digits stand for
abbrev pub fits : Format → ℕ → Bool
fits F201 n = eqb (n / 10) 999
fits F202 n = leb 1 (n % 100) && leb (n % 100) 12
fits F203 n = eqb n 0
fits F301 n = eqb n 8888

-- the digits at the plant ID's place in 55 bytes; zeros of any other length
unfoldable pub plant_digits : List ℕ → List ℕ
plant_digits s = cond (eqb (length s) name_length) (from_ascii (part s 9 26)) (replicate 26 0)
