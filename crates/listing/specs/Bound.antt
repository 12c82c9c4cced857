-- As much of its input as the lister needs: one byte more than the longest name and body that are not refused for their length.
use Rattle.std.specs.Prelude.{ℕ, ◌+◌, ◌*◌}
use Rattle.rules.specs.Name.{name_length}
use Rattle.rules.specs.Body.{count_of, most_rates, tail_digits}
use Rattle.rules.specs.declared.Format.TheVariants.{F201}
use Rattle.layout.specs.Places.{records_place, rates_place}

-- a record count of 6 digits, and 13 records of 53 digits, as many rates as 5 digits can say, and a checksum
abbrev pub longest_body : ℕ
longest_body = records_place + count_of F201 * (rates_place + most_rates F201 + tail_digits F201)

-- a name, byte 0A, the longest body, and a byte that is too much
abbrev pub enough : ℕ
enough = name_length + 1 + longest_body + 1
