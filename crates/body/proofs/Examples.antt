-- A 203 body of three rates, and what is kept of it; with a rate of 101 it is refused. Computed from the definitions.
use Rattle.std.specs.Prelude.{Ok, Err, Some, None}
use mathlib.Core.Path.{◌≡◌, refl}
use mathlib.Core.List.{List, ◌∷◌, ◌++◌}
use Prim.Native.Nat.{ℕ}
use Rattle.rules.specs.Digits.{decimal, all_at_most, value_from, same_bytes}
use Rattle.rules.specs.Calendar.{days_of_month, first_day, exists, seconds_of, start_slot}
use Rattle.rules.specs.Body.{rates_of, size_of, record_shape, record_at, parse_records, counted, parse_body, every}
use Rattle.rules.specs.File.{update_dates, dates_hold, rates_hold, sum, checksum_of, checksums_hold, plants_hold, stages, with_body}
use Rattle.rules.specs.Lister.{total_rates}
use Rattle.rules.specs.declared.Cause.{Cause}
use Rattle.rules.specs.declared.Format.TheVariants.{F203}
use Rattle.rules.specs.Reading.{summary_of, reading_of}
use Rattle.body.specs.Reading.{name_of}

plant : List ℕ
plant = decimal 26 12345678901234567890123455

-- from 2026-03-27, 09:30, of flag 2; next access the same day, 11:30:00
body : ℕ → List ℕ
body rate =
    decimal 6 1
    ++ (decimal 10 2603270001
    ++ (plant
    ++ (decimal 12 202603270930 ++ (decimal 5 3 ++ (100 ∷ 40 ∷ rate ∷ 2 ∷ (decimal 2 18 ++ decimal 14 20260327113000))))))

three-rates : reading_of (with_body (name_of F203 0 plant) (parse_body F203 (body 28)))
    ≡ Ok
    (record {
      format = F203;
      segment = 0;
      records = 1;
      rates = 3;
      start = Some 459955;
      update = Some (record { flag = 2; next_access = 827926200 });
      result = None;
    })
unfolding reading_of summary_of stages dates_hold rates_hold checksums_hold plants_hold update_dates sum checksum_of total_rates
    rates_of size_of record_shape record_at parse_records counted parse_body every days_of_month first_day exists seconds_of start_slot
    decimal all_at_most value_from same_bytes plant body
three-rates = refl

too_much : reading_of (with_body (name_of F203 0 plant) (parse_body F203 (body 101))) ≡ Err Cause.Rate
unfolding reading_of summary_of stages dates_hold rates_hold checksums_hold plants_hold update_dates sum checksum_of total_rates
    rates_of size_of record_shape record_at parse_records counted parse_body every days_of_month first_day exists seconds_of start_slot
    decimal all_at_most value_from same_bytes plant body
too_much = refl
