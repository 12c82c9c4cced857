-- A file that a unit takes can be put: its records are a run of slots before the end of 2099.
use Rattle.std.specs.Prelude.{Option, None, Some}
use mathlib.Core.Path.{◌≡◌, refl}
use mathlib.Core.Bool.{true, ◌&&◌, false≢true}
use mathlib.Core.List.{List, [], ◌∷◌}
use Prim.Native.Nat.{ℕ, suc, ◌+◌, ◌≤◌, ◌<◌}
use native.Mathlib.Omega.{arith}
use lib.ListN.{length}
use borrow.Author.Tests.{leb-true}
use Rattle.rules.specs.Digits.{all_at_most, digits}
use Rattle.rules.specs.Calendar.{first_slot, month_of_slot, slot_count, exists, seconds_of, slot_of, whole_minute, half_hour, start_slot}
use Rattle.rules.specs.Name.{Name, segment_month}
use Rattle.rules.specs.Body.{Record, every, is_schedule, highest_rate, count_of, form_of_record}
use Rattle.rules.specs.File.{start_of, first_month, in_time, update_dates, record_dates, records_in}
use Rattle.rules.specs.declared.Format.{Format}
use Rattle.rules.specs.declared.Format.TheVariants.{F201, F202, F203, F301}
use Rattle.laws.proofs.Tests.{both}
use Rattle.calendar.proofs.Laws.{days-range, first-slot-step, slot-month-until}
use Rattle.calendar.proofs.DateLaws.{start-below}
use Rattle.std.proofs.lemmas.Option.{cond_some}
use Rattle.about_files.proofs.Record.{form-facts}
use Rattle.about_files.proofs.Accepted.{Scheduled, taken}
use Rattle.about_store.specs.Run.{GoodRecord, RunFrom, run_start}
use Rattle.about_store.specs.Laws.{TakenGood}
use Rattle.about_store.proofs.Months.{months-run}

-- a run, from its own first slot on
own-start : (s : ℕ) (rs : List Record) → RunFrom s rs → RunFrom (run_start rs) rs
own-start s [] g = tt
own-start s (r ∷ rs) g = (refl, g.1, rw g.0 g.2)

-- ---- 203: 7 days at the most

start_is : (s : List ℕ) (k : ℕ) → start_slot s ≡ Some k → slot_of (seconds_of (whole_minute s)) ≡ k
unfolding start_slot
start_is s k e = (cond_some (digits 12 s && exists (whole_minute s) && half_hour s) (slot_of (seconds_of (whole_minute s))) k e).1

update-good : (r : Record) → update_dates r ≡ true → length r.rates ≤ 336 → all_at_most highest_rate r.rates ≡ true → GoodRecord r
unfolding update_dates
update-good r e few low = go (start_slot r.start) refl (both (in_time (length r.rates) (start_slot r.start)) (exists r.next) e).0
  where
    go : (o : Option ℕ) → start_slot r.start ≡ o → in_time (length r.rates) o ≡ true → GoodRecord r
    go None q t = absurd (false≢true t)
    go (Some s) q t =
        let is : start_of r ≡ s = start_is r.start s q in
        let below = start-below r.start s q in
        let begins : start_of r < slot_count = omega arith in
        let m = month_of_slot (start_of r) in
        record {
          begins = begins;
          ends = omega (arith, leb-true (s + length r.rates) slot_count t);
          near = omega (arith, slot-month-until (start_of r) begins, first-slot-step (suc m), days-range (suc m));
          rates = low;
        }

-- ---- the records of a schedule

-- 203: one record
update-run : (rs : List Record) → length rs ≡ 1 → every (form_of_record F203) rs ≡ true → every update_dates rs ≡ true
    → every (λ r. all_at_most highest_rate r.rates) rs ≡ true → RunFrom (run_start rs) rs
unfolding every
update-run [] one form dates low = absurd (omega arith)
update-run (r ∷ []) one form dates low =
    let few = (form-facts F203 r (both (form_of_record F203 r) true form).0).few in
    (refl, update-good r (both (update_dates r) true dates).0 few (both (all_at_most highest_rate r.rates) true low).0, tt)
update-run (r ∷ s ∷ rs) one form dates low = absurd (omega arith)

schedule-run : (n : Name) (rs : List Record) → Scheduled n rs → RunFrom (run_start rs) rs
schedule-run n rs k = go n.format k.kind k.count k.form k.dates
  where
    go : (x : Format) → is_schedule x ≡ true → length rs ≡ count_of x → every (form_of_record x) rs ≡ true → record_dates n x rs ≡ true
        → RunFrom (run_start rs) rs
    go F201 i c f d = own-start (first_slot (first_month rs)) rs (months-run (first_month rs) rs d k.rates)
    go F202 i c f d = own-start (first_slot (segment_month n.segment)) rs (months-run (segment_month n.segment) rs d k.rates)
    go F203 i c f d = update-run rs c f d k.rates
    go F301 i c f d = absurd (false≢true i)

pub good : TakenGood
good plant name body f e = schedule-run f.name (records_in f.body) (taken plant name body f e).records
