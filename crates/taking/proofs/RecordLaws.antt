-- Laws of the walk that puts records: one record on, and what is put of it.
use Rattle.std.specs.Prelude.{None, Some}
use Prim.Native.Nat.{ℕ, ◌+◌, ◌≤◌}
use mathlib.Core.Path.{◌≡◌, ◌∙◌, sym, ap, subst}
use mathlib.Core.List.{List}
use native.Mathlib.Omega.{arith}
use lib.ListN.{length}
use Rattle.rules.specs.Calendar.{slot_count}
use Rattle.rules.specs.Body.{Record}
use Rattle.rules.specs.File.{start_of}
use Rattle.schedule.specs.Stored.{Stored, put_run}
use Rattle.about_store.specs.Run.{GoodRecord, RunFrom, put_records}
use Rattle.layout.specs.Walk.{record_of, Goes}
use Rattle.layout.specs.declared.walk.Parts.{Parts}
use Rattle.layout.specs.declared.walk.Records.{Records}
use Rattle.form.specs.Walk.{records_left}
use Rattle.form.proofs.Turns.{records-over, records-turn}

module _ (w t : Records) (p : Parts) (h : Goes w (Some p) t) (slot : ℕ) (g : RunFrom slot (records_left w)) where
  -- the record, as a run, and those after it
  first_run : (start_of (record_of p) ≡ slot) × GoodRecord (record_of p) × RunFrom (slot + length p.rates.now) (records_left t)
  first_run = subst (λ (rs : List Record). RunFrom slot rs) (records-turn w t p h) g

  -- it ends within 2099
  pub in-time : slot + length p.rates.now ≤ slot_count
  in-time = let s = first_run.0 in omega (arith, first_run.1.ends)

  pub next-run : RunFrom (slot + length p.rates.now) (records_left t)
  next-run = first_run.2

  -- and the whole is what they leave after the record was put
  pub put_next : (floor : ℕ) (st st' : Stored) → (st'.pool ≡ (put_run floor slot p.rates.now st).pool) × (st'.store ≡ (put_run floor slot p.rates.now st).store)
      → put_records floor (records_left w) st ≡ put_records floor (records_left t) st'
  unfolding put_records
  put_next floor st st' e =
      let same : st' ≡ put_run floor slot p.rates.now st = λ i. record { pool = e.0 i; store = e.1 i } in
      ap (λ (rs : List Record). put_records floor rs st) (records-turn w t p h)
      ∙ ap (put_records floor (records_left t)) (ap (λ (x : ℕ). put_run floor x p.rates.now st) first_run.0 ∙ sym same)

pub put-end : (w t : Records) (floor : ℕ) (st : Stored) → Goes w None t → put_records floor (records_left w) st ≡ st
unfolding put_records
put-end w t floor st h = ap (λ (rs : List Record). put_records floor rs st) (records-over w t h)
