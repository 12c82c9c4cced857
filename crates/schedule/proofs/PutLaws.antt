-- Laws of putting rates: what each step of `put_run` is, by the tests that the code makes.
use Rattle.std.specs.Prelude.{Option, Some, None}
use Prim.Native.Nat.{ℕ, suc, ◌+◌, ◌-◌, ◌≤◌, ◌<◌, min, max}
use mathlib.Core.Path.{◌≡◌, ◌∙◌, sym, ap}
use mathlib.Core.Bool.{true, false, ◌&&◌}
use mathlib.Core.List.{List, []}
use mathlib.Core.Logic.{⊎_elim}
use native.Mathlib.Nat.{eq-zero-or-pos}
use native.Mathlib.Numerals.{add-one}
use native.Mathlib.Omega.{arith}
use lib.Dec.{leb, ltb}
use lib.ListN.{length, take, drop, length-take}
use lib.Seq.{sets}
use borrow.Author.Tests.{ne_eqb}
use Rattle.rules.specs.Calendar.{first_slot, month_of_slot}
use Rattle.rules.specs.Store.{store_length, block_count, block_length}
use Rattle.calendar.proofs.Laws.{first-slot-step, days-range}
use Rattle.pool.specs.Blocks.{is_free, free_count, given, find_of, take_of}
use Rattle.pool.specs.declared.Pool.{Pool}
use Rattle.pool.specs.declared.Taken.{Taken}
use Rattle.pool.proofs.Laws.{found_none, take-full, take_in, take_left, take_found}
use Rattle.schedule.specs.Stored.{Stored, Piece, place, blank, opened, open_by, open_month, laid, lay_by, lay_piece, put_piece, piece_in, can_put, put_run}
use Rattle.schedule.proofs.RateLaws.{find_below, month_most}
use Rattle.schedule.specs.Rates.{stored_of, piece_of, can_put_count}

-- ---- taking a block

take_below : (p : Pool) (m b : ℕ) → (take_of p m).place ≡ Some b → b < block_count
take_below p m b e = ⊎_elim none (λ r. some (take_in p m r)) (eq-zero-or-pos (free_count p))
  where
    none : free_count p ≡ 0 → b < block_count
    none z =
        let f : None ≡ Some b = ap (λ (t : Taken). t.place) (sym (take-full p m z)) ∙ e in
        let w : ◌≡◌ {A = ℕ} 0 1 = cc in
        absurd (omega arith)

    some : (a : ℕ) × (a < block_count) × (is_free p a ≡ true) × (take_of p m ≡ record { pool = given p m a; place = Some a }) → b < block_count
    some w =
        let f : Some w.0 ≡ Some b = ap (λ (t : Taken). t.place) (sym w.3) ∙ e in
        let same : w.0 ≡ b = cc in
        omega (arith, w.1)

module _ (q : Taken) (p : Pool) (m : ℕ) (l : List ℕ) (e : q ≡ take_of p m) where
  pub take_opens : (b : ℕ) (after : List ℕ) → q.place ≡ Some b → after ≡ sets l (place b 0) blank → stored_of q.pool after ≡ open_by None m (stored_of p l)
  take_opens b after h f =
      ap (stored_of q.pool) f
      ∙ ap (λ (x : Option ℕ). opened q.pool x l) (sym h)
      ∙ ap (λ (t : Taken). opened t.pool t.place l) e

  pub take_none : q.place ≡ None → stored_of q.pool l ≡ open_by None m (stored_of p l)
  take_none h = ap (λ (x : Option ℕ). opened q.pool x l) (sym h) ∙ ap (λ (t : Taken). opened t.pool t.place l) e

-- the block that was taken is one of the blocks
pub taken_below : (q : Taken) (p : Pool) (m : ℕ) → q ≡ take_of p m → (b : ℕ) → q.place ≡ Some b → b < block_count
taken_below q p m e b h = take_below p m b (sym (ap (λ (t : Taken). t.place) e) ∙ h)

-- the block that a month was given, and that it has
module _ (q : Taken) (p : Pool) (m : ℕ) (e : q ≡ take_of p m) (none : find_of p m ≡ None) where
  pub take_block : length p.months ≡ block_count → (b : ℕ) → q.place ≡ Some b → Some b ≡ find_of q.pool m
  take_block long b h =
      sym (ap (λ (t : Taken). find_of t.pool m) e ∙ take_found p m long (found_none p m none) b (ap (λ (t : Taken). t.place) (sym e) ∙ h))

  pub take_no_block : q.place ≡ None → None ≡ find_of q.pool m
  take_no_block h =
      sym (ap (λ (t : Taken). find_of t.pool m) e ∙ ap (λ (x : Pool). find_of x m) (take_left p m (ap (λ (t : Taken). t.place) (sym e) ∙ h)) ∙ none)

-- ---- opening a month, laying a piece

-- a piece laid into the block that its month has
pub lay_is : (p : Pool) (q : Piece) (l after : List ℕ) (f : Option ℕ) → f ≡ find_of p q.month
    → after ≡ laid f q.from q.rates l → stored_of p after ≡ lay_piece q (stored_of p l)
unfolding lay_piece
lay_is p q l after f e h = ap (stored_of p) h ∙ ap (λ x. lay_by x q (stored_of p l)) e

-- ---- a piece, and the part of a run in a month

module _ (floor : ℕ) (q : Piece) (s : Stored) where
  pub piece_goes_in : (first after : Stored) → (leb floor q.month && ltb 0 (length q.rates)) ≡ true
      → first ≡ open_month q.month s → after ≡ lay_piece q first → after ≡ put_piece floor q s
  unfolding put_piece
  piece_goes_in first after e f g = rw e (g ∙ ap (lay_piece q) f)

  pub piece_out : (leb floor q.month && ltb 0 (length q.rates)) ≡ false → put_piece floor q s ≡ s
  unfolding put_piece
  piece_out e = rw e

-- numbers: a part from low to high, as the code counts it from s on
part_count : (s low high : ℕ) → s ≤ low → low < high → (high - s) - (low - s) ≡ high - low
part_count s low high h k = omega arith

pub part_room : (first low high n : ℕ) → first ≤ low → low < high → high ≤ first + block_length → n ≤ high - low → (low - first) + n ≤ block_length
part_room first low high n a b c d = omega arith

module _ (m s first next low high : ℕ) (rates : List ℕ) (f : first ≡ first_slot m) (g : next ≡ first_slot (m + 1)) (l : low ≡ max s first)
    (h : high ≡ min (s + length rates) next) where
  high_is : high ≡ min (s + length rates) (first_slot (suc m))
  high_is = h ∙ ap (min (s + length rates)) (g ∙ ap first_slot (add-one m))

  pub piece_is : low < high → piece_in m s rates ≡ piece_of m (low - first) (take ((high - s) - (low - s)) (drop (low - s) rates))
  unfolding piece_in
  piece_is k = rw (part_count s low high (omega arith) k, l, high_is, f)

  pub piece_fits : low < high → (low - first) + length (take ((high - s) - (low - s)) (drop (low - s) rates)) ≤ block_length
  piece_fits k =
      let end : first_slot (suc m) ≤ first + block_length = omega (arith, first-slot-step m, days-range m) in
      let n = length (take ((high - s) - (low - s)) (drop (low - s) rates)) in
      let count : n ≤ high - low = rw (part_count s low high (omega arith) k, length-take (high - low) (drop (low - s) rates)) (omega arith) in
      part_room first low high n (omega arith) k (omega (arith, high_is)) count

  pub piece_none : high ≤ low → piece_of m (low - first) [] ≡ piece_in m s rates
  unfolding piece_in
  piece_none k =
      let z : min (s + length rates) (first_slot (suc m)) - max s (first_slot m) ≡ 0 = omega (arith, high_is) in
      rw (z, l, f)

-- ---- a run

module _ (floor s : ℕ) (rates : List ℕ) (st : Stored) where
  pub run_not : can_put s rates st ≡ false → put_run floor s rates st ≡ st
  unfolding put_run
  run_not e = rw e

  -- the part in the slot's month m, and then the part in the next one
  pub run_is : (m : ℕ) (first second : Stored) → m ≡ month_of_slot s → can_put s rates st ≡ true
      → first ≡ put_piece floor (piece_in m s rates) st → second ≡ put_piece floor (piece_in (m + 1) s rates) first → second ≡ put_run floor s rates st
  unfolding put_run
  run_is m first second e can f g = rw (can, ← e) (g ∙ rw (f, add-one m))

  -- what can be put is put into a store of 01's length
  pub run_other : (length st.store ≡ store_length → ⊥) → put_run floor s rates st ≡ st
  unfolding can_put
  run_other n = run_not (rw (ne_eqb (length st.store) store_length n))

  pub can_count : length st.store ≡ store_length → can_put_count s (length rates) store_length ≡ can_put s rates st
  unfolding can_put
  can_count long = ap (can_put_count s (length rates)) (sym long)

-- what putting a piece, and a run, takes
pub ruleset piece_steps = (piece_goes_in, piece_out, lay_is, find_below)

pub ruleset run_steps = (month_most, run_other, run_not, can_count)
