-- What a put run of rates does to the view of pool and store.
use Rattle.std.specs.Prelude.{Option}
use mathlib.Core.Path.{◌≡◌, refl, sym, ◌∙◌, subst}
use mathlib.Core.Logic.{◌≢◌}
use mathlib.Core.Bool.{Bool, true, false, cond, ◌&&◌, ◌||◌, true≢false, and-false, or-true, and-true}
use mathlib.Core.List.{List}
use Prim.Native.Nat.{ℕ, suc, ◌+◌, ◌≤◌, ◌<◌, min, max}
use native.Mathlib.Omega.{arith}
use native.Mathlib.Decide.{ℕ_discrete}
use lib.Dec.{leb, ltb, eqb}
use lib.ListN.{length}
use borrow.Author.Tests.{ltb-true, ltb-false, lt-ltb, le-leb, leb-true, leb-false, eqb-true, eq-eqb, ne_eqb}
use Rattle.rules.specs.Calendar.{first_slot, month_of_slot, slot_count, last_month, month_count}
use Rattle.rules.specs.Store.{store_length, block_count}
use Rattle.rules.specs.Machine.{count_below}
use Rattle.laws.proofs.Tests.{isnt, both}
use Rattle.calendar.proofs.Laws.{first-slot-step, first-slot-end, first-slot-monotone, slot-month-from}
use Rattle.schedule.specs.Stored.{Stored, Piece, piece_in, put_piece, meets, can_put, put_run}
use Rattle.about_store.proofs.Ranges.{Overlap, meet_facts}
use Rattle.about_store.proofs.Counts.{count-le}
use Rattle.about_store.proofs.View.{View, Shows, piece_covers, piece_says}
use Rattle.about_store.proofs.Put.{live, put_at, put_view, Fits, put_shows}
use Rattle.about_store.proofs.Pieces.{run_covers, run_says, run-slot, piece-month, piece-some, piece-covers, piece-says, piece_inside}

-- the months that the run meets are held too, and its slots have its rates; slots below floor are passed over
unfoldable pub run_view : ℕ → List ℕ → View → View
run_view s rates v = record {
  floor = v.floor;
  held = λ k. (leb v.floor k && meets k s (length rates)) || v.held k;
  says = λ k i. cond (leb v.floor k && run_covers k i s (length rates)) (run_says k i s rates) (v.says k i);
}

-- ---- a piece of the run

module _ (floor k s : ℕ) (rates : List ℕ) where
  abbrev P : Piece
  P = piece_in k s rates

  pub piece_live : live floor P ≡ (leb floor k && meets k s (length rates))
  piece_live = rw (piece-month k s rates, piece-some k s rates)

  live-month : (x : ℕ) → (live floor P && eqb x P.month) ≡ (eqb x k && (leb floor x && meets x s (length rates)))
  live-month x = rw (piece_live, piece-month k s rates) (go (eqb x k) refl)
    where
      go : (t : Bool) → eqb x k ≡ t → (leb floor k && meets k s (length rates) && t) ≡ (t && (leb floor x && meets x s (length rates)))
      go true e = rw (eqb-true x k e) (and-true (leb floor k && meets k s (length rates)))
      go false e = and-false (leb floor k && meets k s (length rates))

  -- a slot that is covered lies in a month that is met
  covers-meets : (i : ℕ) → run_covers k i s (length rates) ≡ true → meets k s (length rates) ≡ true
  covers-meets i e =
      let w = run-slot k i s (length rates) e in
      lt-ltb (max s (first_slot k)) (min (s + length rates) (first_slot (suc k))) (omega (arith, w.0, w.1, w.2, first-slot-step k))

  live-covers : (i : ℕ) → (live floor P && piece_covers k i P) ≡ (leb floor k && run_covers k i s (length rates))
  live-covers i = rw (piece_live, piece-month k s rates, eq-eqb k k refl, piece-covers k s rates i) (go (leb floor k) (run_covers k i s (length rates)) refl)
    where
      go : (a c : Bool) → run_covers k i s (length rates) ≡ c → (a && meets k s (length rates) && c) ≡ (a && c)
      go true true e = rw (covers-meets i e)
      go true false e = and-false (meets k s (length rates))
      go false c e = refl

  -- what slot i of the piece's month says after it is put
  piece-here : (i : ℕ) (o : Option ℕ) → cond (live floor P && piece_covers k i P) (piece_says i P) o
      ≡ cond (leb floor k && run_covers k i s (length rates)) (run_says k i s rates) o
  piece-here i o = rw (live-covers i) (go (leb floor k) (run_covers k i s (length rates)) refl)
    where
      go : (a c : Bool) → run_covers k i s (length rates) ≡ c → cond (a && c) (piece_says i P) o ≡ cond (a && c) (run_says k i s rates) o
      go true true e = piece-says k s rates i (piece-covers k s rates i ∙ e)
      go true false e = refl
      go false c e = refl

  -- and one of another month
  piece-there : (x i : ℕ) → x ≢ k → (live floor P && piece_covers x i P) ≡ false
  piece-there x i n = rw (ne_eqb x P.month (λ e. n (e ∙ piece-month k s rates))) (and-false (live floor P))

-- ---- both

module _ (s : ℕ) (rates : List ℕ) (begins : s < slot_count) (ends : s + length rates ≤ slot_count)
    (near : s + length rates ≤ first_slot (suc (suc (month_of_slot s)))) where
  abbrev m : ℕ
  m = month_of_slot s

  -- no other month is met
  far : (k : ℕ) → k ≢ m → k ≢ suc m → Overlap s (first_slot k) (s + length rates) (first_slot (suc k)) → ⊥
  far k a b o = go (ltb k m) refl
    where
      go : (t : Bool) → ltb k m ≡ t → ⊥
      go true e = omega (arith, first-slot-monotone (suc k) m (ltb-true k m e), slot-month-from s begins, o.xw)
      go false e = omega (arith, first-slot-monotone (suc (suc m)) k (omega (arith, ltb-false k m e)), o.yz)

  far-meets : (k : ℕ) → k ≢ m → k ≢ suc m → meets k s (length rates) ≡ false
  far-meets k a b = isnt (λ e. far k a b (meet_facts s (first_slot k) (s + length rates) (first_slot (suc k)) e))

  far-covers : (k i : ℕ) → k ≢ m → k ≢ suc m → run_covers k i s (length rates) ≡ false
  far-covers k i a b = isnt (λ e. true≢false (sym (covers-meets 0 k s rates i e) ∙ far-meets k a b))

  abbrev first : Piece
  first = piece_in m s rates

  abbrev second : Piece
  second = piece_in (suc m) s rates

  module _ (v : View) where
    same-held : (k : ℕ) → (put_view second (put_view first v)).held k ≡ (run_view s rates v).held k
    unfolding put_at run_view
    same-held k =
        rw (live-month v.floor (suc m) s rates k, live-month v.floor m s rates k) (go (ℕ_discrete k m) (ℕ_discrete k (suc m)))
      where
        T : Bool
        T = leb v.floor k && meets k s (length rates)

        go : Dec (k ≡ m) → Dec (k ≡ suc m) → eqb k (suc m) && T || (eqb k m && T || v.held k) ≡ T || v.held k
        go (yes a) (yes b) = absurd (omega arith)
        go (yes a) (no b) = rw (eq-eqb k m a, ne_eqb k (suc m) b)
        go (no a) (yes b) = rw (ne_eqb k m a, eq-eqb k (suc m) b)
        go (no a) (no b) = rw (ne_eqb k m a, ne_eqb k (suc m) b, far-meets k a b, and-false (leb v.floor k))

    same-says : (k i : ℕ) → (put_view second (put_view first v)).says k i ≡ (run_view s rates v).says k i
    unfolding put_at run_view
    same-says k i = go (ℕ_discrete k m) (ℕ_discrete k (suc m))
      where
        go : Dec (k ≡ m) → Dec (k ≡ suc m)
            → cond (live v.floor second && piece_covers k i second) (piece_says i second)
            (cond (live v.floor first && piece_covers k i first) (piece_says i first) (v.says k i))
            ≡ cond (leb v.floor k && run_covers k i s (length rates)) (run_says k i s rates) (v.says k i)
        go (yes a) d = rw (piece-there v.floor (suc m) s rates k i (λ z. omega arith), a) (piece-here v.floor m s rates i (v.says m i))
        go (no a) (yes b) = rw (piece-there v.floor m s rates k i a, b) (piece-here v.floor (suc m) s rates i (v.says (suc m) i))
        go (no a) (no b) =
            rw (piece-there v.floor m s rates k i a, piece-there v.floor (suc m) s rates k i b, far-covers k i a b, and-false (leb v.floor k))

    two_pieces : put_view second (put_view first v) ≡ run_view s rates v
    unfolding put_at run_view
    two_pieces = λ j. record { floor = v.floor; held = λ k. same-held k j; says = λ k i. same-says k i j }

    -- each piece that is not passed over fits
    piece-fits : (k : ℕ) → live v.floor (piece_in k s rates) ≡ true → Fits (piece_in k s rates)
    piece-fits k e =
        let t = (both (leb v.floor k) (meets k s (length rates)) (sym (piece_live v.floor k s rates) ∙ e)).1 in
        let o = meet_facts s (first_slot k) (s + length rates) (first_slot (suc k)) t in
        record {
          month = rw (piece-month k s rates) (go k o.yz (leb k last_month) refl);
          inside = piece_inside k s rates t;
        }
      where
        go : (k : ℕ) → first_slot k < s + length rates → (x : Bool) → leb k last_month ≡ x → k ≤ last_month
        go k l true e = leb-true k last_month e
        go k l false e = absurd (omega (arith, first-slot-monotone month_count k (leb-false k last_month e), first-slot-end))

    first-less : (k : ℕ) → (put_view first v).held k ≡ true → (run_view s rates v).held k ≡ true
    unfolding put_at
    first-less k e = sym (same-held k) ∙ rw e (or-true (live v.floor second && eqb k second.month))

    -- a run of rates put
    pub run-shows : (st : Stored) → Shows st v → count_below month_count (run_view s rates v).held ≤ block_count
        → Shows (put_run v.floor s rates st) (run_view s rates v)
    unfolding put_run can_put put_at
    run-shows st h few =
        let less = count-le month_count (put_view first v).held (run_view s rates v).held first-less in
        let one = put_shows st v h first (piece-fits m) (omega (arith, less)) in
        let both-few = subst (λ (w : View). count_below month_count w.held ≤ block_count) (sym two_pieces) few in
        let st' = put_piece v.floor first st in
        let two = put_shows st' (put_view first v) one second (piece-fits (suc m)) both-few in
        let end = s + length rates in
        rw (eq-eqb (length st.store) store_length h.full, le-leb end slot_count ends, le-leb end (first_slot (suc (suc m))) near)
        (subst (λ (w : View). Shows (put_piece v.floor second st') w) two_pieces two)
