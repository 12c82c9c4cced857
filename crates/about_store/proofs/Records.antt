-- What a file's records, put in order, do to the view of pool and store, and that the machine's list of files says the same.
use Rattle.std.specs.Prelude.{Option, None, Some}
use mathlib.Core.Path.{◌≡◌, refl, sym, ◌∙◌}
use mathlib.Core.Bool.{Bool, true, false, cond, ◌&&◌, ◌||◌, and-false, or-true}
use mathlib.Core.List.{List, [], ◌∷◌}
use Prim.Native.Nat.{ℕ, ◌+◌, ◌-◌, ◌≤◌}
use native.Mathlib.Omega.{arith}
use lib.Dec.{leb, ltb}
use lib.ListN.{length, get_or}
use Rattle.rules.specs.Calendar.{first_slot, slots_of_month, last_month, month_count}
use Rattle.rules.specs.Body.{Record}
use Rattle.rules.specs.File.{File, records_in, start_of}
use Rattle.rules.specs.Store.{block_count}
use Rattle.rules.specs.Machine.{Machine, covers, rate_in, or_else, last_rate, touches, any_record, any_file, is_held, count_below, with_file}
use Rattle.schedule.specs.Stored.{Stored, put_run}
use Rattle.about_store.specs.Agrees.{rate_at}
use Rattle.about_store.specs.Run.{RunFrom, put_records}
use Rattle.about_store.proofs.Ranges.{between}
use Rattle.about_store.proofs.Counts.{count-le}
use Rattle.about_store.proofs.View.{View, Shows}
use Rattle.about_store.proofs.Runs.{run_view, run-shows}
use Rattle.about_store.proofs.Files.{last_more, any-more, before-none, rate-at}

unfoldable pub records_view : List Record → View → View
records_view [] v = v
records_view (r ∷ rs) v = records_view rs (run_view (start_of r) r.rates v)

-- ---- what the view is after the records

run-floor : (s : ℕ) (rates : List ℕ) (v : View) → (run_view s rates v).floor ≡ v.floor
unfolding run_view
run-floor s rates v = refl

pub records-floor : (rs : List Record) (v : View) → (records_view rs v).floor ≡ v.floor
unfolding records_view
records-floor [] v = refl
records-floor (r ∷ rs) v = records-floor rs (run_view (start_of r) r.rates v) ∙ run-floor (start_of r) r.rates v

pub records-held : (rs : List Record) (v : View) (k : ℕ) → (records_view rs v).held k ≡ (leb v.floor k && any_record k rs || v.held k)
unfolding records_view any_record run_view
records-held [] v k = rw (and-false (leb v.floor k))
records-held (r ∷ rs) v k = records-held rs (run_view (start_of r) r.rates v) k ∙ table (leb v.floor k) (touches k r) (any_record k rs) (v.held k)
  where
    table : (a x y h : Bool) → a && y || (a && x || h) ≡ a && (x || y) || h
    table true true true h = refl
    table true true false h = refl
    table true false true h = refl
    table true false false h = refl
    table false x y h = refl

pub records-says : (t : ℕ) (rs : List Record) → RunFrom t rs → (v : View) (k i : ℕ)
    → (records_view rs v).says k i ≡ cond (leb v.floor k && ltb i (slots_of_month k)) (or_else (rate_in (first_slot k + i) rs) (v.says k i)) (v.says k i)
unfolding records_view rate_in run_view
records-says t [] g v k i = go (leb v.floor k && ltb i (slots_of_month k))
  where
    go : (a : Bool) → v.says k i ≡ cond a (v.says k i) (v.says k i)
    go true = refl
    go false = refl
records-says t (r ∷ rs) g v k i =
    records-says (t + length r.rates) rs g.2 (run_view (start_of r) r.rates v) k i
    ∙ go (leb v.floor k) (ltb i (slots_of_month k)) (covers s r) (rate_in s rs) later
  where
    s : ℕ
    s = first_slot k + i

    X : Option ℕ
    X = Some (get_or r.rates (s - start_of r) 0)

    -- the records after this one begin after its slots
    later : covers s r ≡ true → rate_in s rs ≡ None
    later e =
        let w = between (start_of r) s (start_of r + length r.rates) e in
        before-none s (t + length r.rates) rs g.2 (omega (arith, w.1, g.0))

    go : (a b c : Bool) (n : Option ℕ) → (c ≡ true → n ≡ None)
        → cond (a && b) (or_else n (cond (a && (b && c)) X (v.says k i))) (cond (a && (b && c)) X (v.says k i))
        ≡ cond (a && b) (or_else (cond c X n) (v.says k i)) (v.says k i)
    go true true true n h = rw (h refl)
    go true true false n h = refl
    go true false c n h = refl
    go false b c n h = refl

-- ---- the machine's view

abbrev pub view_of : Machine → View
view_of M = record { floor = M.floor; held = is_held M; says = rate_at M }

module _ (c : ℕ) (f : File) (M : Machine) where
  pub floor-with : (with_file c f M).floor ≡ M.floor
  unfolding with_file
  floor-with = refl

  pub held_with : (k : ℕ) → is_held (with_file c f M) k ≡ (leb M.floor k && any_record k (records_in f.body) || is_held M k)
  unfolding with_file is_held
  held_with k = rw (any-more k M.files f) (table (leb M.floor k) (any_file k M.files) (any_record k (records_in f.body)))
    where
      table : (a x y : Bool) → a && (x || y) ≡ a && y || a && x
      table true true true = refl
      table true true false = refl
      table true false true = refl
      table true false false = refl
      table false x y = refl

  says-with : M.floor ≤ last_month → (k i : ℕ)
      → rate_at (with_file c f M) k i
      ≡ cond (leb M.floor k && ltb i (slots_of_month k)) (or_else (rate_in (first_slot k + i) (records_in f.body)) (rate_at M k i)) (rate_at M k i)
  unfolding with_file
  says-with low k i =
      rate-at (with_file c f M) low k i
      ∙ rw (last_more (first_slot k + i) M.files f None, rate-at M low k i)
      (go (leb M.floor k && ltb i (slots_of_month k)) (rate_in (first_slot k + i) (records_in f.body)) (last_rate (first_slot k + i) M.files None))
    where
      go : (a : Bool) (n o : Option ℕ) → cond a (or_else n o) None ≡ cond a (or_else n (cond a o None)) (cond a o None)
      go true n o = refl
      go false n o = refl

-- a file taken, as the machine sees it, is its records put in order
pub view-file : (t c : ℕ) (f : File) (M : Machine) → M.floor ≤ last_month → RunFrom t (records_in f.body)
    → view_of (with_file c f M) ≡ records_view (records_in f.body) (view_of M)
view-file t c f M low g = λ j. record { floor = same-floor j; held = λ k. same-held k j; says = λ k i. same-says k i j }
  where
    rs : List Record
    rs = records_in f.body

    same-floor : (with_file c f M).floor ≡ (records_view rs (view_of M)).floor
    same-floor = floor-with c f M ∙ sym (records-floor rs (view_of M))

    same-held : (k : ℕ) → is_held (with_file c f M) k ≡ (records_view rs (view_of M)).held k
    same-held k = held_with c f M k ∙ sym (records-held rs (view_of M) k)

    same-says : (k i : ℕ) → rate_at (with_file c f M) k i ≡ (records_view rs (view_of M)).says k i
    same-says k i = says-with c f M low k i ∙ sym (records-says t rs g (view_of M) k i)

-- ---- pool and store

record-more : (rs : List Record) (v : View) (k : ℕ) → v.held k ≡ true → (records_view rs v).held k ≡ true
record-more rs v k e = records-held rs v k ∙ rw e (or-true (leb v.floor k && any_record k rs))

pub records-shows : (t : ℕ) (rs : List Record) → RunFrom t rs → (st : Stored) (v : View) → Shows st v
    → count_below month_count (records_view rs v).held ≤ block_count
    → Shows (put_records v.floor rs st) (records_view rs v)
unfolding records_view put_records run_view
records-shows t [] g st v h few = h
records-shows t (r ∷ rs) g st v h few =
    let w = run_view (start_of r) r.rates v in
    let ok = g.1 in
    let fewer = count-le month_count w.held (records_view rs w).held (record-more rs w) in
    let one = run-shows (start_of r) r.rates ok.begins ok.ends ok.near v st h (omega arith) in
    records-shows (t + length r.rates) rs g.2 (put_run v.floor (start_of r) r.rates st) w one few
