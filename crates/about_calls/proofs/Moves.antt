-- What a call does to the blocks, of any unit: a file that is taken gives free blocks and changes no other, a tick frees the blocks of months below
-- floor and changes no other, the other calls leave the pool as it is.
use Rattle.std.specs.Prelude.{Some, None, Option}
use Prim.Native.Nat.{ℕ, zero, suc, ◌-◌, ◌≤◌, ◌<◌}
use native.Mathlib.Nat.{eq-zero-or-pos}
use native.Mathlib.Omega.{arith}
use mathlib.Core.Path.{◌≡◌, refl, sym, subst, ◌∙◌}
use mathlib.Core.Logic.{◌⊎◌, inl, inr, ⊎_elim}
use mathlib.Core.Bool.{Bool, true, false, cond, false≢true}
use mathlib.Core.List.{List, [], ◌∷◌}
use lib.Dec.{leb, ltb}
use lib.ListN.{length}
use borrow.Author.Tests.{ltb-true}
use Rattle.rules.specs.Calendar.{month_of_slot}
use Rattle.rules.specs.Body.{Record}
use Rattle.rules.specs.File.{Outcome, refuse, file, take_file, start_of, records_in}
use Rattle.rules.specs.Response.{take_response}
use Rattle.rules.specs.Store.{block_count}
use Rattle.rules.specs.Machine.{Call, tick, clock_lost, file_taken, response_taken, failure, due, ceiling_of, command, free_blocks, raised_floor}
use Rattle.rules.specs.Table.{first_of}
use Rattle.rules.specs.declared.Cause.{Cause}
use Rattle.pool.specs.Blocks.{is_free, month_of, free_count, find_of, given, free_after, release_of}
use Rattle.pool.specs.Held.{InBlock}
use Rattle.pool.specs.declared.Pool.{Pool}
use Rattle.pool.specs.declared.Taken.{Taken}
use Rattle.pool.proofs.BelowLaws.{bit-number}
use Rattle.pool.proofs.Laws.{take-full, take_in, released_in}
use Rattle.schedule.specs.Stored.{Stored, Piece, opened, open_by, open_month, lay_by, lay_piece, put_piece, piece_in, can_put, put_run}
use Rattle.about_store.specs.Run.{put_records}
use Rattle.about_store.specs.Untouched.{Keeps}
use Rattle.about_store.proofs.Given.{given-cases, given-keeps}
use Rattle.about_store.proofs.Put.{live}
use Rattle.unit.specs.Calls.{done_by, set_clock, with_command, second, seconds, tick_from, ticked, tick_of, lost, lost_of, with_failure, failure_of}
use Rattle.taking.specs.Taken.{outcome_rows, outcome_taken, taken, with_file}
use Rattle.calls.specs.Step.{State, step, after}
use Rattle.unit.specs.declared.Unit.{Unit}
use Rattle.about_calls.proofs.Refusals.{rows_of}

-- from pool p to pool q, where floor is f afterwards: a month keeps its block or is below floor, and a used block had its month or was free
pub record Moves (p q : Pool) (f : ℕ) : Type 0 where
  pub keep : (m b : ℕ) → InBlock p m b → InBlock q m b ⊎ (m < f)
  pub from : (m b : ℕ) → InBlock q m b → InBlock p m b ⊎ (is_free p b ≡ true)

stays : (p : Pool) (f : ℕ) → Moves p p f
stays p f = record { keep = λ m b i. inl i; from = λ m b i. inl i }

-- ---- blocks are given

record Adds (p q : Pool) : Type 0 where
  kept : Keeps p q
  from : (m b : ℕ) → InBlock q m b → InBlock p m b ⊎ (is_free p b ≡ true)

adds_moves : (p q : Pool) (f : ℕ) → Adds p q → Moves p q f
adds_moves p q f a = record { keep = λ m b i. inl (a.kept.kept m b i); from = a.from }

adds_same : (p : Pool) → length p.months ≡ block_count → Adds p p
adds_same p long = record { kept = record { long = long; kept = λ m b i. i }; from = λ m b i. inl i }

-- what is free now was free before
free-before : (p q : Pool) → Keeps p q → (b : ℕ) → b < block_count → is_free q b ≡ true → is_free p b ≡ true
free-before p q k b l e = go (is_free p b) refl
  where
    go : (t : Bool) → is_free p b ≡ t → is_free p b ≡ true
    go true f = f
    go false f = absurd (false≢true (sym (k.kept (month_of p b) b (record { below = l; used = f; month = refl })).used ∙ e))

adds_then : (p q r : Pool) → Adds p q → Adds q r → Adds p r
adds_then p q r a c = record {
  kept = record { long = c.kept.long; kept = λ m b i. c.kept.kept m b (a.kept.kept m b i) };
  from = λ m b i. ⊎_elim (λ j. a.from m b j) (λ e. inr (free-before p q a.kept b i.below e)) (c.from m b i);
}

open_adds : (m : ℕ) (st : Stored) → length st.pool.months ≡ block_count → Adds st.pool (open_month m st).pool
unfolding open_month
open_adds m st long = go (find_of st.pool m)
  where
    Open : Taken → Type 0
    Open t = Adds st.pool (opened t.pool t.place st.store).pool

    filled : (c : ℕ) → c < block_count → is_free st.pool c ≡ true → Open (record { pool = given st.pool m c; place = Some c })
    filled c l free = record {
      kept = given-keeps st.pool m c long l free;
      from = λ x b i. ⊎_elim (λ w. inr (rw w.1 free)) (λ w. inl w.1) (given-cases st.pool m c long l x b i);
    }

    go : (o : Option ℕ) → Adds st.pool (open_by o m st).pool
    go (Some c) = adds_same st.pool long
    go None =
        ⊎_elim (λ z. subst Open (sym (take-full st.pool m z)) (adds_same st.pool long))
        (λ z. let w = take_in st.pool m z in subst Open (sym w.3) (filled w.0 w.1 w.2))
        (eq-zero-or-pos (free_count st.pool))

lay_adds : (q : Piece) (st : Stored) → length st.pool.months ≡ block_count → Adds st.pool (lay_piece q st).pool
unfolding lay_piece
lay_adds q st long = go (find_of st.pool q.month)
  where
    go : (o : Option ℕ) → Adds st.pool (lay_by o q st).pool
    go (Some c) = adds_same st.pool long
    go None = adds_same st.pool long

piece_adds : (floor : ℕ) (q : Piece) (st : Stored) → length st.pool.months ≡ block_count → Adds st.pool (put_piece floor q st).pool
unfolding put_piece
piece_adds floor q st long = go (live floor q)
  where
    go : (t : Bool) → Adds st.pool (cond t (lay_piece q (open_month q.month st)) st).pool
    go true =
        let u = open_month q.month st in
        let a = open_adds q.month st long in
        adds_then st.pool u.pool (lay_piece q u).pool a (lay_adds q u a.kept.long)
    go false = adds_same st.pool long

run-adds : (floor s : ℕ) (rates : List ℕ) (st : Stored) → length st.pool.months ≡ block_count → Adds st.pool (put_run floor s rates st).pool
unfolding put_run
run-adds floor s rates st long = go (can_put s rates st)
  where
    m : ℕ
    m = month_of_slot s

    go : (t : Bool) → Adds st.pool (cond t (put_piece floor (piece_in (suc m) s rates) (put_piece floor (piece_in m s rates) st)) st).pool
    go true =
        let u = put_piece floor (piece_in m s rates) st in
        let a = piece_adds floor (piece_in m s rates) st long in
        adds_then st.pool u.pool (put_piece floor (piece_in (suc m) s rates) u).pool a (piece_adds floor (piece_in (suc m) s rates) u a.kept.long)
    go false = adds_same st.pool long

records-add : (floor : ℕ) (rs : List Record) (st : Stored) → length st.pool.months ≡ block_count → Adds st.pool (put_records floor rs st).pool
unfolding put_records
records-add floor [] st long = adds_same st.pool long
records-add floor (r ∷ rs) st long =
    let u = put_run floor (start_of r) r.rates st in
    let a = run-adds floor (start_of r) r.rates st long in
    adds_then st.pool u.pool (put_records floor rs u).pool a (records-add floor rs u a.kept.long)

-- ---- blocks are given back

record Drops (u v : Unit) : Type 0 where
  rises : u.floor ≤ v.floor
  keep : (m b : ℕ) → InBlock u.pool m b → InBlock v.pool m b ⊎ (m < v.floor)
  from : (m b : ℕ) → InBlock v.pool m b → InBlock u.pool m b

drops_moves : (u v : Unit) → Drops u v → Moves u.pool v.pool v.floor
drops_moves u v d = record { keep = d.keep; from = λ m b i. inl (d.from m b i) }

drops_same : (u : Unit) → Drops u u
drops_same u = record { rises = omega arith; keep = λ m b i. inl i; from = λ m b i. i }

drops_then : (u v w : Unit) → Drops u v → Drops v w → Drops u w
drops_then u v w a c = record {
  rises = omega (arith, a.rises, c.rises);
  keep = λ m b i. ⊎_elim (λ j. c.keep m b j) (λ l. inr (omega (arith, l, c.rises))) (a.keep m b i);
  from = λ m b i. a.from m b (c.from m b i);
}

released_out : (p : Pool) (floor m b : ℕ) → InBlock p m b → InBlock (release_of p floor) m b ⊎ (m < floor)
unfolding release_of
released_out p floor m b i = go (ltb m floor) refl
  where
    go : (t : Bool) → ltb m floor ≡ t → InBlock (release_of p floor) m b ⊎ (m < floor)
    go true e = inr (ltb-true m floor e)
    go false e = inl (record {
      below = i.below;
      used = bit-number block_count (free_after p floor) b i.below ∙ rw (i.used, i.month, e);
      month = i.month;
    })

set-drops : (t : ℕ) (u : Unit) → Drops u (set_clock t u)
unfolding set_clock
set-drops t u = record {
  rises = omega arith;
  keep = λ m b i. released_out u.pool (raised_floor u.floor t) m b i;
  from = λ m b i. (released_in u.pool (raised_floor u.floor t) m b i).0;
}

second-drops : (store : List ℕ) (t : ℕ) (u : Unit) → Drops u (second store t u)
unfolding second with_command
second-drops store t u = let d = set-drops t u in record { rises = d.rises; keep = d.keep; from = d.from }

seconds-drop : (store : List ℕ) (n c : ℕ) (u : Unit) → Drops u (seconds store n c u)
unfolding seconds
seconds-drop store zero c u = drops_same u
seconds-drop store (suc n) c u =
    drops_then u (second store (suc c) u) (seconds store n (suc c) (second store (suc c) u)) (second-drops store (suc c) u)
    (seconds-drop store n (suc c) (second store (suc c) u))

tick-drops : (store : List ℕ) (t : ℕ) (u : Unit) → Drops u (ticked store t u)
unfolding ticked
tick-drops store t u = go u.clock
  where
    later : (c : ℕ) (x : Bool) → Drops u (cond x (set_clock t u) (seconds store (t - c) c u))
    later c true = set-drops t u
    later c false = seconds-drop store (t - c) c u

    go : (c : Option ℕ) → Drops u (tick_from store t c u)
    go None = set-drops t u
    go (Some c) = later c (leb t c)

-- ---- every call

-- by the rows: a refused call leaves the unit
done_moves : (o : Option Cause) (u v : Unit) → Moves u.pool v.pool v.floor
    → Moves u.pool (done_by o v u).unit.pool (done_by o v u).unit.floor
done_moves None u v h = h
done_moves (Some c) u v h = stays u.pool u.floor

taken-moves : (o : Outcome) (store : List ℕ) (u : Unit) → length u.pool.months ≡ block_count
    → Moves u.pool (taken o store u).pool (taken o store u).floor
unfolding with_file
taken-moves (refuse c) store u long = stays u.pool u.floor
taken-moves (file f) store u long =
    adds_moves u.pool (with_file f store u).pool u.floor
    (records-add u.floor (records_in f.body) (record { pool = u.pool; store = store }) long)

outcome_moves : (o : Outcome) (store : List ℕ) (u : Unit) → length u.pool.months ≡ block_count
    → Moves u.pool (outcome_taken u store o).unit.pool (outcome_taken u store o).unit.floor
unfolding outcome_taken
outcome_moves o store u long = done_moves (first_of (outcome_rows u store o)) u (taken o store u) (taken-moves o store u long)

pub step-moves : (c : Call) (s : State) → length s.unit.pool.months ≡ block_count
    → Moves s.unit.pool (step c s).1.unit.pool (step c s).1.unit.floor
unfolding step tick_of lost_of failure_of lost with_failure
step-moves (tick t) s long =
    done_moves (first_of (rows_of (tick t) s)) s.unit (ticked s.store t s.unit)
    (drops_moves s.unit (ticked s.store t s.unit) (tick-drops s.store t s.unit))
step-moves clock_lost s long = done_moves (first_of (rows_of clock_lost s)) s.unit (lost s.unit) (stays s.unit.pool s.unit.floor)
step-moves (file_taken name body) s long = outcome_moves (take_file s.unit.plant.id name body) s.store s.unit long
step-moves (response_taken boundary bytes) s long = outcome_moves (take_response s.unit.plant.id boundary bytes) s.store s.unit long
step-moves (failure kind status) s long =
    done_moves (first_of (rows_of (failure kind status) s)) s.unit (with_failure kind status s.unit) (stays s.unit.pool s.unit.floor)
step-moves due s long = stays s.unit.pool s.unit.floor
step-moves (ceiling_of slot) s long = stays s.unit.pool s.unit.floor
step-moves command s long = stays s.unit.pool s.unit.floor
step-moves free_blocks s long = stays s.unit.pool s.unit.floor

-- ---- floor only rises

done_rises : (o : Option Cause) (u v : Unit) → u.floor ≤ v.floor → u.floor ≤ (done_by o v u).unit.floor
done_rises None u v l = l
done_rises (Some c) u v l = omega arith

taken-rises : (o : Outcome) (store : List ℕ) (u : Unit) → u.floor ≤ (taken o store u).floor
unfolding with_file
taken-rises (refuse c) store u = omega arith
taken-rises (file f) store u = omega arith

outcome_rises : (o : Outcome) (store : List ℕ) (u : Unit) → u.floor ≤ (outcome_taken u store o).unit.floor
unfolding outcome_taken
outcome_rises o store u = done_rises (first_of (outcome_rows u store o)) u (taken o store u) (taken-rises o store u)

pub step-rises : (c : Call) (s : State) → s.unit.floor ≤ (step c s).1.unit.floor
unfolding step tick_of lost_of failure_of lost with_failure
step-rises (tick t) s = done_rises (first_of (rows_of (tick t) s)) s.unit (ticked s.store t s.unit) (tick-drops s.store t s.unit).rises
step-rises clock_lost s = done_rises (first_of (rows_of clock_lost s)) s.unit (lost s.unit) (omega arith)
step-rises (file_taken name body) s = outcome_rises (take_file s.unit.plant.id name body) s.store s.unit
step-rises (response_taken boundary bytes) s = outcome_rises (take_response s.unit.plant.id boundary bytes) s.store s.unit
step-rises (failure kind status) s =
    done_rises (first_of (rows_of (failure kind status) s)) s.unit (with_failure kind status s.unit) (omega arith)
step-rises due s = omega arith
step-rises (ceiling_of slot) s = omega arith
step-rises command s = omega arith
step-rises free_blocks s = omega arith

pub list_rises : (cs : List Call) (s : State) → s.unit.floor ≤ (after cs s).unit.floor
unfolding after
list_rises [] s = omega arith
list_rises (c ∷ cs) s = omega (arith, step-rises c s, list_rises cs (step c s).1)
