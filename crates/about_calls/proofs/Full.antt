-- Cause 14 both ways.
use Rattle.std.specs.Prelude.{Some, Ok, Err, Option, None}
use Prim.Native.Nat.{ℕ}
use mathlib.Core.Path.{◌≡◌, refl, sym, ap, ◌∙◌}
use mathlib.Core.Bool.{Bool, true, false, cond}
use mathlib.Core.List.{List}
use native.Mathlib.Omega.{arith}
use lib.Dec.{ltb}
use lib.ListN.{length}
use borrow.Author.Tests.{eq-eqb, lt-ltb, le-ltb, ltb-true, ltb-false}
use Rattle.rules.specs.Causes.{Answer}
use Rattle.rules.specs.Name.{encode_name}
use Rattle.rules.specs.Body.{encode_body}
use Rattle.rules.specs.File.{File, file, take_file, records_in}
use Rattle.rules.specs.Store.{store_length, sound_store, block_count}
use Rattle.rules.specs.Table.{first_of}
use Rattle.rules.specs.declared.Cause.{Cause}
use Rattle.about_files.proofs.Reading.{taken-exactly}
use Rattle.about_files.proofs.Table.{answer_by}
use Rattle.pool.specs.Blocks.{free_count}
use Rattle.pool.specs.Held.{held_of}
use Rattle.pool.proofs.Laws.{free-is, months-few}
use Rattle.schedule.specs.Stored.{missing}
use Rattle.about_store.specs.Run.{GoodFile, run_start, run_length}
use Rattle.about_store.proofs.Laws.{taken-good}
use Rattle.unit.specs.Values.{is_sound}
use Rattle.unit.specs.Rows.{is_unset}
use Rattle.unit.specs.Calls.{done_by}
use Rattle.taking.specs.Taken.{outcome_rows, outcome_taken, take_of, taken, full_row}
use Rattle.unit.specs.declared.Unit.{Unit}
use Rattle.about_calls.specs.Acceptance.{together}
use Rattle.about_calls.specs.Full.{FullExactly}
use Rattle.about_calls.proofs.Acceptance.{held-count, together-is}

-- ---- 14 applies exactly where the months together are more than the blocks

pub full_is : (u : Unit) → is_sound u ≡ true → (f : File) → GoodFile f → (full_row f u).applies ≡ ltb block_count (together u f)
unfolding full_row
full_is u good f g = go (ltb block_count (together u f)) refl
  where
    need : ℕ
    need = missing u.pool u.floor (run_start (records_in f.body)) (run_length (records_in f.body))

    go : (t : Bool) → ltb block_count (together u f) ≡ t → ltb (free_count u.pool) need ≡ t
    go true e =
        lt-ltb (free_count u.pool) need
        (omega (arith, ltb-true block_count (together u f) e, together-is u good f g, held-count u good, free-is u.pool, months-few block_count u.pool))
    go false e =
        le-ltb (free_count u.pool) need
        (omega (arith, ltb-false block_count (together u f) e, together-is u good f g, held-count u good, free-is u.pool, months-few block_count u.pool))

-- ---- what a call answers, by the first row that applies

abbrev pub answer_of : Option Cause → Answer
answer_of = answer_by Err (Ok tt)

abbrev pub cause_in : Answer → Option Cause
cause_in (Ok tt) = None
cause_in (Err c) = Some c

pub done-answer : (o : Option Cause) (new old : Unit) → (done_by o new old).answer ≡ answer_of o
done-answer None new old = refl
done-answer (Some c) new old = refl

-- ---- 14 both ways

pub full-cause : (f : File) (u : Unit) → (full_row f u).cause ≡ Cause.Full
unfolding full_row
full-cause f u = refl

module _ (u : Unit) (store name body : List ℕ) (t : ℕ) (f : File) where
  full-answer : is_sound u ≡ true → length store ≡ store_length → sound_store (held_of u.pool) store ≡ true → u.clock ≡ Some t
      → take_file u.plant.id name body ≡ file f
      → (take_of u store name body).answer ≡ answer_of (cond (ltb block_count (together u f)) (Some Cause.Full) None)
  unfolding outcome_taken first_of
  full-answer good long bytes clock read =
      let full = full_is u good f (taken-good u.plant.id name body f read) in
      done-answer (first_of (outcome_rows u store (take_file u.plant.id name body))) (taken (take_file u.plant.id name body) store u) u
      ∙ rw (eq-eqb (length store) store_length long, good, bytes, ap is_unset clock, read, full, full-cause f u) refl

full-test : (x : Bool) → answer_of (cond x (Some Cause.Full) None) ≡ Err Cause.Full → x ≡ true
full-test true e = refl
full-test false e = cc

room-test : (x : Bool) → answer_of (cond x (Some Cause.Full) None) ≡ Ok tt → x ≡ false
room-test true e = cc
room-test false e = refl

pub full-exactly : FullExactly
full-exactly u store t f good long bytes clock law kind =
    let name = encode_name f.name in
    let body = encode_body f.body in
    let read : take_file u.plant.id name body ≡ file f =
    (taken-exactly u.plant.id name body f).1 (record { name_bytes = refl; body_bytes = refl; fields = law }, kind) in
    let is : (take_of u store name body).answer ≡ answer_of (cond (ltb block_count (together u f)) (Some Cause.Full) None) =
    full-answer u store name body t f good long bytes clock read in (
      (
        λ e. ltb-true block_count (together u f) (full-test (ltb block_count (together u f)) (sym is ∙ e)),
        λ l. is ∙ ap (λ (x : Bool). answer_of (cond x (Some Cause.Full) None)) (lt-ltb block_count (together u f) l),
      ),
      (
        λ e. ltb-false block_count (together u f) (room-test (ltb block_count (together u f)) (sym is ∙ e)),
        λ l. is ∙ ap (λ (x : Bool). answer_of (cond x (Some Cause.Full) None)) (le-ltb block_count (together u f) l),
      ),
    )
