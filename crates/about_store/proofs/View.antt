-- What pool and store stand for: a floor, the months held, and the rate of each slot of a month; and what a put piece does to it.
-- The machine's files are not seen here.
use Rattle.std.specs.Prelude.{Some, None, Option}
use mathlib.Core.Path.{◌≡◌, refl, sym, ap, ◌∙◌, subst}
use mathlib.Core.Logic.{◌⊎◌, inl, inr, ⊎_elim, ◌↔◌}
use mathlib.Core.Bool.{Bool, true, false, cond, ◌&&◌, ◌||◌, true≢false}
use Prim.Native.Nat.{ℕ, ◌+◌, ◌-◌, ◌^◌, ◌≤◌, ◌<◌}
use native.Mathlib.Omega.{arith}
use lib.Dec.{leb, ltb, eqb}
use lib.ListN.{length, get_or, length-set, get_or-replicate}
use lib.Seq.{sets, length-sets}
use borrow.Author.Tests.{eqb-true, eqb-false}
use Rattle.rules.specs.Calendar.{last_month, month_count}
use Rattle.rules.specs.Store.{store_length, no_rate, to_byte, block_count, block_length}
use Rattle.rules.specs.Machine.{count_below}
use Rattle.laws.proofs.Tests.{isnt, neither, either}
use Rattle.pool.specs.Blocks.{is_free, free_count, find_of, given}
use Rattle.pool.specs.Held.{InBlock, Held, Sound}
use Rattle.pool.specs.declared.Taken.{Taken}
use Rattle.pool.proofs.Laws.{find_at, take_in, given-held, given-sound}
use Rattle.schedule.specs.Stored.{Stored, Piece, place, blank, opened, open_by, open_month}
use Rattle.about_store.proofs.Counts.{count-open}
use Rattle.about_store.proofs.Bytes.{write-there, fill_here, length-blank}
use Rattle.about_store.proofs.Given.{given-cases, given-bits, found-not, free-held}

pub record View : Type 0 where
  pub floor : ℕ
  pub held : ℕ → Bool
  pub says : ℕ → ℕ → Option ℕ

pub record Shows (st : Stored) (v : View) : Type 0 where
  pub months : length st.pool.months ≡ block_count
  pub bits : st.pool.free < 2 ^ block_count
  pub full : length st.store ≡ store_length
  pub low : v.floor ≤ last_month
  pub sound : Sound st.pool v.floor
  pub held : (m : ℕ) → Held st.pool m ↔ (v.held m ≡ true)
  pub bytes : (m b i : ℕ) → InBlock st.pool m b → i < block_length → get_or st.store (place b i) no_rate ≡ to_byte (v.says m i)
  -- of the view alone: a month that is not held has no rates
  pub silent : (m i : ℕ) → v.held m ≡ false → v.says m i ≡ None

-- ---- what is done to a view

-- month m is held too
abbrev pub open_view : ℕ → View → View
open_view m v = record { floor = v.floor; held = λ k. eqb k m || v.held k; says = v.says }

-- slot i of month k is one of the piece's
abbrev pub piece_covers : ℕ → ℕ → Piece → Bool
piece_covers k i q = eqb k q.month && (leb q.from i && ltb i (q.from + length q.rates))

abbrev pub piece_says : ℕ → Piece → Option ℕ
piece_says i q = Some (get_or q.rates (i - q.from) 0)

-- the piece's slots have its rates
abbrev pub lay_view : Piece → View → View
lay_view q v = record { floor = v.floor; held = v.held; says = λ k i. cond (piece_covers k i q) (piece_says i q) (v.says k i) }

-- ---- a month gets a block

module _ (st : Stored) (v : View) (h : Shows st v) where
  pub count-view : free_count st.pool + count_below month_count v.held ≡ block_count
  count-view = free-held st.pool v.floor h.sound v.held h.held

  pub not-held : (m : ℕ) → find_of st.pool m ≡ None → v.held m ≡ false
  not-held m e = isnt (λ t. found-not st.pool v.floor m h.sound e ((h.held m).1 t))

  -- a month that is held, held too
  held-open : (m : ℕ) → v.held m ≡ true → v ≡ open_view m v
  held-open m e = λ i. record { floor = v.floor; held = λ k. same k (eqb k m) refl i; says = v.says }
    where
      same : (k : ℕ) (t : Bool) → eqb k m ≡ t → v.held k ≡ t || v.held k
      same k true q = ap v.held (eqb-true k m q) ∙ e
      same k false q = refl

  module _ (m : ℕ) (from : v.floor ≤ m) (until : m ≤ last_month) where
    -- block b, which was free, is given to the month and filled with 255
    took : (b : ℕ) → b < block_count → is_free st.pool b ≡ true → v.held m ≡ false → Shows (opened (given st.pool m b) (Some b) st.store) (open_view m v)
    took b l free n = record {
      months = length-set st.pool.months b m ∙ h.months;
      bits = given-bits st.pool m b;
      full = length-sets st.store (place b 0) blank ∙ h.full;
      low = h.low;
      sound = given-sound st.pool m b h.months l free v.floor h.sound new from until;
      held = λ x. (to x, from' x);
      bytes = λ x c i k j. at_byte x c i j (given-cases st.pool m b h.months l x c k);
      silent = λ x i e. h.silent x i (neither (eqb x m) (v.held x) e).1;
    }
      where
        new : Held st.pool m → ⊥
        new w = true≢false (sym ((h.held m).0 w) ∙ n)

        either_way : (x : ℕ) → Held (given st.pool m b) x ↔ ((x ≡ m) ⊎ Held st.pool x)
        either_way x = given-held st.pool m b h.months l free x

        to : (x : ℕ) → Held (given st.pool m b) x → eqb x m || v.held x ≡ true
        to x w = go ((either_way x).0 w) (eqb x m) refl
          where
            go : (x ≡ m) ⊎ Held st.pool x → (t : Bool) → eqb x m ≡ t → t || v.held x ≡ true
            go s true e = refl
            go (inl s) false e = absurd (eqb-false x m e s)
            go (inr s) false e = (h.held x).0 s

        from' : (x : ℕ) → eqb x m || v.held x ≡ true → Held (given st.pool m b) x
        from' x e = (either_way x).1 (⊎_elim (λ q. inl (eqb-true x m q)) (λ q. inr ((h.held x).1 q)) (either (eqb x m) (v.held x) e))

        at_byte : (x c i : ℕ) → i < block_length → ((x ≡ m) × (c ≡ b)) ⊎ ((c ≡ b → ⊥) × InBlock st.pool x c)
            → get_or (opened (given st.pool m b) (Some b) st.store).store (place c i) no_rate ≡ to_byte (v.says x i)
        at_byte x c i j (inl w) =
            ap (λ (k : ℕ). get_or (sets st.store (place b 0) blank) (place k i) no_rate) w.1
            ∙ fill_here st.store blank b i no_rate length-blank j (omega (arith, h.full))
            ∙ get_or-replicate block_length i no_rate no_rate j
            ∙ ap to_byte (sym (ap (λ (k : ℕ). v.says k i) w.0 ∙ h.silent m i n))
        at_byte x c i j (inr w) = write-there st.store blank b 0 c i no_rate w.0 j (omega (arith, length-blank)) ∙ h.bytes x c i w.1 j

    pub open_shows : count_below month_count (open_view m v).held ≤ block_count → Shows (open_month m st) (open_view m v)
    unfolding open_month
    open_shows few = go (find_of st.pool m) refl
      where
        room : v.held m ≡ false → 0 < free_count st.pool
        room n = omega (arith, count-view, count-open month_count m v.held (omega arith) n)

        go : (o : Option ℕ) → find_of st.pool m ≡ o → Shows (open_by o m st) (open_view m v)
        go (Some b) e = subst (λ (w : View). Shows st w) (held-open m ((h.held m).0 (b, find_at st.pool m b e))) h
        go None e =
            let n = not-held m e in
            let w = take_in st.pool m (room n) in
            subst (λ (t : Taken). Shows (opened t.pool t.place st.store) (open_view m v)) (sym w.3) (took w.0 w.1 w.2 n)
