-- No line is longer than 16 bytes: what the records that are read say stays small.
use Rattle.std.specs.Prelude.{Option}
use Prim.Native.Nat.{ℕ, suc, ◌*◌, ◌≤◌, ◌<◌}
use mathlib.Core.Path.{◌≡◌, refl}
use mathlib.Core.Bool.{true, false≢true}
use mathlib.Core.List.{List, [], ◌∷◌}
use native.Mathlib.Nat.{suc-mul}
use native.Mathlib.Omega.{arith}
use lib.Dec.{lit<}
use lib.ListN.{length}
use Rattle.rules.specs.Name.{Name, format_number}
use Rattle.rules.specs.Body.{Record, Body, schedule, registration, is_schedule, count_of, every, form_of_record}
use Rattle.rules.specs.File.{Outcome, refuse, file, whole_month, months_from, first_month, record_dates, read_file}
use Rattle.rules.specs.Lister.{total_rates, record_count, rate_count}
use Rattle.rules.specs.Causes.{number_of}
use Rattle.rules.specs.declared.Cause.{Cause}
use Rattle.rules.specs.declared.Format.{Format}
use Rattle.rules.specs.declared.Format.TheVariants.{F201, F202, F203, F301}
use Rattle.laws.proofs.Tests.{both}
use Rattle.laws.proofs.Facts.{month-facts}
use Rattle.about_files.proofs.Causes.{numbered}
use Rattle.about_files.proofs.Calendar.{days-most}
use Rattle.about_files.proofs.Accepted.{Scheduled, accepted, bounded}

pub format_small : (f : Format) → format_number f < 1000
format_small F201 = lit< tt
format_small F202 = lit< tt
format_small F203 = lit< tt
format_small F301 = lit< tt

pub cause_small : (c : Cause) → number_of c < 100
cause_small c = (numbered c).1

-- ---- the rates of whole months

months-few : (m : ℕ) (rs : List Record) → months_from m rs ≡ true → total_rates rs ≤ length rs * 1536
unfolding months_from total_rates
months-few m [] h = omega arith
months-few m (r ∷ rs) h =
    let a = both (whole_month m r) (months_from (suc m) rs) h in
    let e = (month-facts m r a.0).full in
    rw suc-mul (omega (arith, e, days-most m, months-few (suc m) rs a.1))

-- ---- a file that is read

abbrev pub Small : Body → Type 0
Small b = (record_count b < 100) × (rate_count b < 100000)

abbrev pub SmallFile : Outcome → Type 0
SmallFile (refuse c) = Unit {0}
SmallFile (file f) = Small f.body

records-small : (n : Name) (rs : List Record) → Scheduled n rs → Small (schedule rs)
records-small n rs k = go n.format k.kind k.count k.form k.dates
  where
    go : (f : Format) → is_schedule f ≡ true → length rs ≡ count_of f → every (form_of_record f) rs ≡ true → record_dates n f rs ≡ true → Small (schedule rs)
    go F201 i c e d = (omega arith, omega (arith, months-few (first_month rs) rs d))
    go F202 i c e d = (omega arith, omega (arith, (bounded F202 rs e).rates))
    go F203 i c e d = (omega arith, omega (arith, (bounded F203 rs e).rates))
    go F301 i c e d = absurd (false≢true i)

pub read_small : (plant : Option (List ℕ)) (name body : List ℕ) → SmallFile (read_file plant name body)
read_small plant name body = go (read_file plant name body) refl
  where
    small : (n : Name) (b : Body) → ((rs : List Record) → b ≡ schedule rs → Scheduled n rs) → Small b
    small n (schedule rs) h = records-small n rs (h rs refl)
    small n (registration id result) h = (lit< tt, lit< tt)

    go : (o : Outcome) → read_file plant name body ≡ o → SmallFile o
    go (refuse c) e = tt
    go (file f) e = small f.name f.body (accepted plant name body f e).records
