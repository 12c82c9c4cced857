-- A run of rates as two pieces, of its first month and of the next: they cover the run's slots and no others.
use Rattle.std.specs.Prelude.{Option, Some}
use mathlib.Core.Path.{◌≡◌, refl, ap, ◌∙◌}
use mathlib.Core.Bool.{Bool, true, ◌&&◌}
use mathlib.Core.List.{List}
use Prim.Native.Nat.{ℕ, suc, ◌+◌, ◌-◌, ◌≤◌, ◌<◌, min, max}
use native.Mathlib.Omega.{arith}
use lib.Dec.{leb, ltb}
use lib.ListN.{length, get_or, take, drop, length-take, length-drop}
use lib.Seq.{get_or-take, get_or-drop}
use borrow.Author.Tests.{ltb-true, lt-ltb}
use Rattle.rules.specs.Calendar.{first_slot, slots_of_month}
use Rattle.rules.specs.Store.{block_length}
use Rattle.laws.proofs.Tests.{same, both}
use Rattle.calendar.proofs.Laws.{days-range, first-slot-step}
use Rattle.schedule.specs.Stored.{Piece, piece_in, meets}
use Rattle.about_store.proofs.Ranges.{between, is-between}
use Rattle.about_store.proofs.View.{piece_says}

-- ---- numbers: the part from slot a up to slot b of a run from slot s up to slot e

part_in : (s e a b i : ℕ) → max s a - a ≤ i → i < max s a - a + (min e b - max s a) → (s ≤ a + i) × (a + i < e) × (a + i < b)
part_in s e a b i h k = omega arith

in-part : (s e a b i : ℕ) → s ≤ a + i → a + i < e → a + i < b → (max s a - a ≤ i) × (i < max s a - a + (min e b - max s a))
in-part s e a b i h k l = omega arith

part-index : (a s i : ℕ) → max s a - a ≤ i → max s a - s + (i - (max s a - a)) ≡ a + i - s
part-index a s i h = omega arith

part-size : (s e a b : ℕ) → max s a < min e b → max s a - a + (min e b - max s a) ≤ b - a
part-size s e a b h = omega arith

-- ---- the part of a run in month k

-- slot i of month k is one of n from slot s on
abbrev pub run_covers : ℕ → ℕ → ℕ → ℕ → Bool
run_covers k i s n = ltb i (slots_of_month k) && (leb s (first_slot k + i) && ltb (first_slot k + i) (s + n))

-- its rate
abbrev pub run_says : ℕ → ℕ → ℕ → List ℕ → Option ℕ
run_says k i s rates = Some (get_or rates (first_slot k + i - s) 0)

pub run-slot : (k i s n : ℕ) → run_covers k i s n ≡ true → (i < slots_of_month k) × (s ≤ first_slot k + i) × (first_slot k + i < s + n)
run-slot k i s n e =
    let month = ltb i (slots_of_month k) in
    let run = leb s (first_slot k + i) && ltb (first_slot k + i) (s + n) in
    let w = between s (first_slot k + i) (s + n) (both month run e).1 in
    (ltb-true i (slots_of_month k) (both month run e).0, w.0, w.1)

-- place j of n rates from place a on
part_at : (rates : List ℕ) (a n j to : ℕ) → j < n → a + j ≡ to → get_or (take n (drop a rates)) j 0 ≡ get_or rates to 0
part_at rates a n j to l e = get_or-take n (drop a rates) j 0 l ∙ get_or-drop a rates j 0 ∙ ap (λ (i : ℕ). get_or rates i 0) e

module _ (k s : ℕ) (rates : List ℕ) where
  abbrev P : Piece
  P = piece_in k s rates

  pub piece-length : length P.rates ≡ min (s + length rates) (first_slot (suc k)) - max s (first_slot k)
  unfolding piece_in
  piece-length = simp (length-take, length-drop) (omega arith)

  pub piece-month : P.month ≡ k
  unfolding piece_in
  piece-month = refl

  pub piece-from : P.from ≡ max s (first_slot k) - first_slot k
  unfolding piece_in
  piece-from = refl

  pub piece-some : ltb 0 (length P.rates) ≡ meets k s (length rates)
  piece-some =
      let from = max s (first_slot k) in
      let until = min (s + length rates) (first_slot (suc k)) in
      rw piece-length
      (same
      (λ e. lt-ltb from until (omega (arith, ltb-true 0 (until - from) e)))
      (λ e. lt-ltb 0 (until - from) (omega (arith, ltb-true from until e))))

  abbrev in_piece : ℕ → Bool
  in_piece i = leb P.from i && ltb i (P.from + length P.rates)

  -- a slot of the piece, in numbers
  piece-slot : (i : ℕ) → in_piece i ≡ true
      → (max s (first_slot k) - first_slot k ≤ i)
      × (i < max s (first_slot k) - first_slot k + (min (s + length rates) (first_slot (suc k)) - max s (first_slot k)))
  piece-slot i e = rw (piece-from, piece-length) at (between P.from i (P.from + length P.rates) e)

  pub piece-covers : (i : ℕ) → in_piece i ≡ run_covers k i s (length rates)
  piece-covers i = same to from
    where
      to : in_piece i ≡ true → run_covers k i s (length rates) ≡ true
      to e =
          let w = piece-slot i e in
          let f = part_in s (s + length rates) (first_slot k) (first_slot (suc k)) i w.0 w.1 in
          rw (lt-ltb i (slots_of_month k) (omega (arith, f.2, first-slot-step k))) (is-between s (first_slot k + i) (s + length rates) f.0 f.1)

      from : run_covers k i s (length rates) ≡ true → in_piece i ≡ true
      from e =
          let w = run-slot k i s (length rates) e in
          let f = in-part s (s + length rates) (first_slot k) (first_slot (suc k)) i w.1 w.2 (omega (arith, w.0, first-slot-step k)) in
          let low = max s (first_slot k) in
          let high = min (s + length rates) (first_slot (suc k)) in
          rw (piece-from, piece-length) (is-between (low - first_slot k) i (low - first_slot k + (high - low)) f.0 f.1)

  pub piece-says : (i : ℕ) → in_piece i ≡ true → piece_says i P ≡ run_says k i s rates
  unfolding piece_in
  piece-says i e =
      let w = piece-slot i e in
      let from = max s (first_slot k) in
      let until = min (s + length rates) (first_slot (suc k)) in
      ap Some
      (part_at rates (from - s) (until - from) (i - (from - first_slot k)) (first_slot k + i - s)
      (omega (arith, w.0, w.1)) (part-index (first_slot k) s i w.0))

  -- a piece that has rates fits a block
  pub piece_inside : meets k s (length rates) ≡ true → P.from + length P.rates ≤ block_length
  piece_inside t =
      let meet = ltb-true (max s (first_slot k)) (min (s + length rates) (first_slot (suc k))) t in
      let size = part-size s (s + length rates) (first_slot k) (first_slot (suc k)) meet in
      rw (piece-from, piece-length) (omega (arith, first-slot-step k, days-range k))
