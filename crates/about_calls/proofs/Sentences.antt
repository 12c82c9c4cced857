-- The latest rate, and what stays untouched.
use Rattle.std.specs.Prelude.{Ok, Option, None, Some}
use Prim.Native.Nat.{ℕ}
use mathlib.Core.Path.{◌≡◌, refl, sym, ◌∙◌, subst}
use mathlib.Core.Bool.{false≢true}
use mathlib.Core.List.{List}
use lib.ListN.{length}
use Rattle.rules.specs.File.{File, Outcome, file, take_file, records_in}
use Rattle.rules.specs.Machine.{tick, clock_lost, file_taken, response_taken, failure, due, ceiling_of, command, free_blocks, any_record, fresh_machine, after as machine_after}
use Rattle.rules.specs.Store.{block_count}
use Rattle.rules.specs.Table.{first_of}
use Rattle.rules.specs.declared.Cause.{Cause}
use Rattle.schedule.specs.Stored.{Stored}
use Rattle.about_store.specs.Run.{put_records}
use Rattle.about_store.specs.Untouched.{Untouched}
use Rattle.about_store.proofs.Laws.{rate-agrees, records-untouched}
use Rattle.unit.specs.Calls.{done_by}
use Rattle.taking.specs.Taken.{outcome_rows, outcome_taken, store_taken, taken, with_file, store_by, store_with}
use Rattle.calls.specs.Step.{step, after}
use Rattle.unit.specs.declared.Unit.{Unit}
use Rattle.about_calls.specs.Theorem.{fresh, told}
use Rattle.about_calls.specs.Sentences.{LatestRate, TakeUntouched, OthersUntouched}
use Rattle.about_calls.proofs.Follows.{stored}
use Rattle.about_calls.proofs.Ticking.{agree_of}
use Rattle.about_calls.proofs.EveryList.{fresh-follows, list_follows}

pub latest-rate : LatestRate
latest-rate p valid store long cs s l =
    let r = (list_follows p valid (length store) cs (fresh p store) fresh_machine (fresh-follows p valid store)).1 in
    let M = machine_after (told p store) cs fresh_machine in
    rate-agrees (stored (after cs (fresh p store))) M (agree_of (after cs (fresh p store)) M (r.size ∙ long) r.kept) s l

-- no row applies to a call that is accepted
accepted-row : (o : Option Cause) (new old : Unit) → (done_by o new old).answer ≡ Ok tt → o ≡ None
accepted-row None new old e = refl
accepted-row (Some c) new old e = cc

pub outcome_untouched : (u : Unit) (store : List ℕ) (o : Outcome) (f : File) → length u.pool.months ≡ block_count → o ≡ file f
    → (outcome_taken u store o).answer ≡ Ok tt
    → Untouched u.floor (λ m. any_record m (records_in f.body))
    (record { pool = u.pool; store = store })
    (record { pool = (outcome_taken u store o).unit.pool; store = store_taken u store o })
unfolding outcome_taken store_taken with_file
outcome_untouched u store o f long read done =
    let st : Stored = record { pool = u.pool; store = store } in
    let all : Untouched u.floor (λ m. any_record m (records_in f.body)) st (put_records u.floor (records_in f.body) st) =
    records-untouched u.floor (records_in f.body) st long in
    let from : Option Cause → Outcome → Stored =
    λ k x. record { pool = (done_by k (taken x store u) u).unit.pool; store = store_by k (store_with x store u) store } in
    let free = accepted-row (first_of (outcome_rows u store o)) (taken o store u) u done in
    subst (λ (x : Outcome). Untouched u.floor (λ m. any_record m (records_in f.body)) st (from (first_of (outcome_rows u store o)) x)) (sym read)
    (subst (λ (k : Option Cause). Untouched u.floor (λ m. any_record m (records_in f.body)) st (from k (file f))) (sym free) all)

pub take-untouched : TakeUntouched
take-untouched u store name body f long read done = outcome_untouched u store (take_file u.plant.id name body) f long read done

pub others-untouched : OthersUntouched
unfolding step
others-untouched (tick t) s = (λ e. refl, λ e. absurd (false≢true e))
others-untouched clock_lost s = (λ e. refl, λ e. absurd (false≢true e))
others-untouched (file_taken name body) s = (λ e. absurd (false≢true (sym e)), λ e. absurd (false≢true e))
others-untouched (response_taken boundary bytes) s = (λ e. absurd (false≢true (sym e)), λ e. absurd (false≢true e))
others-untouched (failure kind status) s = (λ e. refl, λ e. absurd (false≢true e))
others-untouched due s = (λ e. refl, λ e. refl)
others-untouched (ceiling_of slot) s = (λ e. refl, λ e. refl)
others-untouched command s = (λ e. refl, λ e. refl)
others-untouched free_blocks s = (λ e. refl, λ e. refl)
