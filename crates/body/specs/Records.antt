-- What the stages look at in a record, and what is kept of an accepted body.
use Rattle.std.specs.Option.{option_map}
use Rattle.std.specs.Prelude.{ℕ, ◌≡◌, ◌≤◌, Bool, true, List, [], ◌∷◌, length, eqb, Option, None}
use Rattle.rules.specs.Digits.{all_at_most, value, same_bytes}
use Rattle.rules.specs.Body.{Record, record_at, highest_rate}
use Rattle.rules.specs.File.{checksum_of, flag_of}
use Rattle.rules.specs.Calendar.{moment}
use Rattle.rules.specs.declared.Format.{Format}
use Rattle.rules.specs.declared.Format.TheVariants.{F201, F202, F203, F301}
use Rattle.rules.specs.declared.Update.{Update}
use Rattle.layout.specs.declared.walk.Records.{Records}
use Rattle.layout.specs.Records.{checksum_for}
use Rattle.layout.specs.Dates.{month_holds, update_holds}
use Rattle.form.specs.Walk.{shaped_left}

-- whether no rate of a record is above 100, and whether its checksum is right
abbrev pub rates_fit : Record → Bool
rates_fit r = all_at_most highest_rate r.rates

abbrev pub checksum_fits : Record → Bool
checksum_fits r = eqb (value r.checksum) (checksum_of r.start r.rates)

-- the same as far as `checksum_for` sums
abbrev pub checksum_holds : Record → Bool
checksum_holds r = eqb (value r.checksum) (checksum_for r.start r.rates)

-- whether a record is the whole of month m, and whether a 203's dates keep the rules, of any bytes in their places
abbrev pub month_fits : ℕ → Record → Bool
month_fits m r = month_holds m r.start (length r.rates)

abbrev pub update_fits : Record → Bool
update_fits r = update_holds r.start (length r.rates) r.next

-- and whether its plant is that one
abbrev pub plant_fits : List ℕ → Record → Bool
plant_fits plant r = same_bytes r.plant plant

-- the records of a body of right form
pub record Formed (w : Records) : Type 0 where
  pub stand : shaped_left w ≡ true
  pub few : w.left ≤ 13

-- the flag and the next access of the 203 record at the front of s, where its next access is a date
abbrev pub update_in : List ℕ → Option Update
update_in s = option_map (λ t. record { flag = flag_of (record_at F203 s ∷ []); next_access = t }) (moment (record_at F203 s).next)

-- the same of the record at the front of s, where the format has them
abbrev pub update_at : Format → List ℕ → Option Update
update_at F201 s = None
update_at F202 s = None
update_at F203 s = update_in s
update_at F301 s = None
