-- What is answered and left at each return of the code that takes a file or a response.
use Rattle.std.specs.Option.{unwrap_or}
use Rattle.std.specs.Prelude.{Ok, Err, None, Some}
use Prim.Native.Nat.{ℕ, ◌-◌, ◌≤◌, ◌<◌}
use mathlib.Core.Path.{◌≡◌, ◌∙◌, refl, ap}
use mathlib.Core.Bool.{Bool, true, false}
use mathlib.Core.List.{List}
use lib.Dec.{ltb}
use lib.ListN.{length, take, drop}
use borrow.Author.Tests.{eq-eqb, lt-ltb, le-ltb}
use Rattle.rules.specs.Body.{Record}
use Rattle.rules.specs.File.{File, Outcome, refuse, file, take_file, records_in}
use Rattle.rules.specs.Response.{parse_response, take_response}
use Rattle.rules.specs.Machine.{take_by}
use Rattle.rules.specs.Store.{store_length}
use Rattle.rules.specs.declared.Cause.{Cause}
use Rattle.form.specs.Walk.{records_from}
use Rattle.rules.specs.Reading.{reading_of}
use Rattle.rules.specs.Table.{first_of}
use Rattle.rules.specs.declared.Summary.{Summary}
use Rattle.about_files.proofs.Accepted.{FileRead, file-read, read-refused}
use Rattle.pool.specs.Blocks.{free_count}
use Rattle.pool.specs.declared.Pool.{Pool}
use Rattle.schedule.specs.Stored.{Stored, missing}
use Rattle.schedule.specs.Rates.{stored_of}
use Rattle.about_store.specs.Run.{run_start, run_length, put_records}
use Rattle.polling.specs.Requests.{requests_of}
use Rattle.polling.specs.declared.Requests.{Requests}
use Rattle.unit.specs.Calls.{refusal, clock_time}
use Rattle.taking.specs.Ready.{Checked}
use Rattle.taking.specs.Taken.{full_row, with_file, outcome_taken, store_taken}
use Rattle.taking.specs.Taking.{Following, take_summary, filed}
use Rattle.unit.specs.declared.Unit.{Unit}
use Rattle.unit.specs.Changed.{Done}
use Rattle.taking.proofs.ReadLaws.{body-room, start_is, rates-are, records-are, following, requests-are}

-- the answer to what is taken, and the store after it
abbrev pub Takes : Unit → List ℕ → Outcome → Done → List ℕ → Type 0
Takes u store o d after = (d ≡ outcome_taken u store o) × (after ≡ store_taken u store o)

module _ (u : Unit) (store : List ℕ) (ok : Checked u store) where
  -- 17, or a cause of reading
  refused : (c : Cause) → Takes u store (refuse c) (refusal u c) store
  unfolding outcome_taken store_taken first_of
  refused c = rw (eq-eqb (length store) store_length ok.long, ok.good, ok.set) (refl, refl)

  module _ (boundary s : List ℕ) where
    pub response-broken : parse_response boundary s ≡ None → Takes u store (take_response u.plant.id boundary s) (refusal u Cause.Response) store
    unfolding take_response
    response-broken e = rw e (refused Cause.Response)

    pub response-carried : (name body : List ℕ) → parse_response boundary s ≡ Some (name, body) → (d : Done) (after : List ℕ)
        → Takes u store (take_file u.plant.id name body) d after → Takes u store (take_response u.plant.id boundary s) d after
    unfolding take_response
    response-carried name body e d after h = rw e h

  module _ (name body : List ℕ) where
    pub take-refused : (c : Cause) → reading_of (take_file u.plant.id name body) ≡ Err c
        → Takes u store (take_file u.plant.id name body) (refusal u c) store
    take-refused c got = rw (read-refused (take_file u.plant.id name body) c got) (refused c)

    module _ (f : File) (e : take_file u.plant.id name body ≡ file f) where
      full-row : (b : Bool) → let rs = records_in f.body in
          ltb (free_count u.pool) (missing u.pool u.floor (run_start rs) (run_length rs)) ≡ b → (full_row f u).applies ≡ b
      unfolding full_row
      full-row b h = h

      full-cause : (full_row f u).cause ≡ Cause.Full
      unfolding full_row
      full-cause = refl

      none_left : (full_row f u).applies ≡ true → Takes u store (take_file u.plant.id name body) (refusal u Cause.Full) store
      unfolding outcome_taken store_taken first_of
      none_left g = rw (eq-eqb (length store) store_length ok.long, ok.good, ok.set, e, g, full-cause) (refl, refl)

      put : (full_row f u).applies ≡ false → (p : Pool) (after : List ℕ) (q : Requests)
          → stored_of p after ≡ put_records u.floor (records_in f.body) (stored_of u.pool store)
          → requests_of q ≡ take_by (clock_time u.clock) f.name.format f.name (records_in f.body) (requests_of u.requests)
          → Takes u store (take_file u.plant.id name body) (filed u p q) after
      unfolding outcome_taken store_taken first_of with_file
      put g p after q k h = (
        rw (eq-eqb (length store) store_length ok.long, ok.good, ok.set, e, g, ← k, ← h) refl,
        rw (eq-eqb (length store) store_length ok.long, ok.good, ok.set, e, g) (ap (λ (s : Stored). s.store) k),
      )

    -- what the file says is its summary
    module _ (x : Summary) (got : reading_of (take_file u.plant.id name body) ≡ Ok x) where
      read : FileRead (take_file u.plant.id name body) x
      read = file-read (take_file u.plant.id name body) x got

      module _ (start free needed : ℕ) (start≡ : start ≡ unwrap_or x.start 0) (free≡ : free ≡ free_count u.pool)
          (needed≡ : needed ≡ missing u.pool u.floor start x.rates) where
        room : (b : Bool) → ltb free needed ≡ b → (full_row read.the-file u).applies ≡ b
        room b h =
            let r = read in
            let s = start≡ ∙ start_is _ _ _ r.the-file r.is x r.summary in
            let n = rates-are _ _ _ r.the-file r.is x r.summary in
            full-row r.the-file r.is b (rw (← s, ← n, ← free≡, ← needed≡) h)

        pub take-full : free < needed → Takes u store (take_file u.plant.id name body) (refusal u Cause.Full) store
        take-full h = none_left read.the-file read.is (room true (lt-ltb free needed h))

        pub take_done : needed ≤ free → (p : Pool) (after : List ℕ) (q : Requests)
            → stored_of p after
            ≡ put_records u.floor (records_from x.format x.records (take (length body - 6) (drop 6 body))) (stored_of u.pool store)
            → requests_of q ≡ take_summary (clock_time u.clock) x.format x (requests_of u.requests)
            → Takes u store (take_file u.plant.id name body) (filed u p q) after
        take_done h p after q k m =
            let r = read in
            put r.the-file r.is (room false (le-ltb free needed h)) p after q
            (k ∙ ap (λ (rs : List Record). put_records u.floor rs (stored_of u.pool store)) (records-are _ _ _ r.the-file r.is x r.summary))
            (m ∙ requests-are _ _ _ r.the-file r.is x r.summary (clock_time u.clock) (requests_of u.requests))

-- a body that is read has its count, and its records follow each other
module _ (plant name body : List ℕ) (x : Summary) (got : reading_of (take_file plant name body) ≡ Ok x) where
  pub read-room : 6 ≤ length body
  read-room = let r = file-read (take_file plant name body) x got in body-room plant name body r.the-file r.is

  pub read-following : (start : ℕ) → start ≡ unwrap_or x.start 0 → Following x.format x.records start (take (length body - 6) (drop 6 body))
  read-following start e = let r = file-read (take_file plant name body) x got in rw e (following plant name body r.the-file r.is x r.summary)
