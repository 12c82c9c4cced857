-- What is decided before the first byte: the cause of a refusal, or the records of the body. Where there is room, the plan's records are the output.
use Rattle.std.specs.Prelude.{ℕ, ◌+◌, ◌-◌, Bool, ◌&&◌, List, [], ◌∷◌, length, leb, Option, None, Some, Result, Ok, Err}
use Rattle.rules.specs.Digits.{digits, all_at_most}
use Rattle.rules.specs.Calendar.{month_at, start_slot, exists}
use Rattle.rules.specs.Plant.{plant_id}
use Rattle.rules.specs.Name.{format_of}
use Rattle.rules.specs.Body.{schedule, encode_body, highest_rate}
use Rattle.rules.specs.File.{in_time}
use Rattle.rules.specs.Writer.{Fields, Output, refuse, fitting, month_records, update_record, flag_fits, months_fit}
use Rattle.rules.specs.Table.{need}
use Rattle.rules.specs.declared.Cause.{Cause}
use Rattle.rules.specs.declared.Format.{Format}
use Rattle.rules.specs.declared.Format.TheVariants.{F201, F202, F203, F301}
use Rattle.plan.specs.Fields.{fields_of}
use Rattle.plan.specs.declared.Plan.{Plan}
use Rattle.plan.specs.declared.Plan.TheVariants.{Months, Update}

-- a 201 or 202: k months from the start's month on
unfoldable pub months_plan : ℕ → List ℕ → List ℕ → List ℕ → Result Plan Cause
months_plan k ident start rates =
    need (digits 10 ident && digits 12 start) (Err Cause.Form)
    (need (months_fit k (fields_of 0 [] ident start [] rates 0)) (Err Cause.Date)
    (need (all_at_most highest_rate rates) (Err Cause.Rate)
    (Ok (Months (month_at start) (month_at start + k)))))

-- whether an update's n rates and its next access stand before the end of 2099
abbrev pub update_dated : List ℕ → List ℕ → ℕ → Bool
update_dated start next n = in_time n (start_slot start) && exists next

-- a 203
unfoldable pub update_plan : List ℕ → List ℕ → List ℕ → List ℕ → Result Plan Cause
update_plan ident start next rates =
    need (digits 10 ident && digits 12 start && (digits 14 next && leb (length rates) 336)) (Err Cause.Form)
    (need (update_dated start next (length rates)) (Err Cause.Date)
    (need (all_at_most highest_rate rates) (Err Cause.Rate) (Ok Update)))

abbrev pub plan_as : Fields → Option Format → Result Plan Cause
plan_as w None = Err Cause.Name
plan_as w (Some F201) = months_plan 13 w.schedule w.start w.rates
plan_as w (Some F202) = months_plan 1 w.schedule w.start w.rates
plan_as w (Some F203) = update_plan w.schedule w.start w.next w.rates
plan_as w (Some F301) = Err Cause.Name

unfoldable pub plan_of : Fields → Result Plan Cause
plan_of w =
    need (plant_id w.plant) (Err Cause.PlantId)
    (need (flag_fits w) (Err Cause.Range)
    (plan_as w (format_of w.format)))

-- the output of a plan, into so much room
abbrev pub output_of : Fields → ℕ → Result Plan Cause → Output
output_of w room (Ok (Months first end)) = fitting room (encode_body (schedule (month_records w (end - first) first w.rates)))
output_of w room (Ok Update) = fitting room (encode_body (schedule (update_record w ∷ [])))
output_of w room (Err c) = refuse c
