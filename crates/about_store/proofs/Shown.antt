-- What every pool and store with one view have in common, and what releasing blocks does to the view: no list of files is seen here.
use Rattle.std.specs.Prelude.{Some, None, Option, is_none}
use mathlib.Core.Path.{◌≡◌, refl, sym, ap, ◌∙◌}
use mathlib.Core.Logic.{◌↔◌}
use mathlib.Core.Bool.{Bool, true, false, cond, not, ◌&&◌}
use mathlib.Core.List.{List, [], ◌∷◌}
use Prim.Native.Nat.{ℕ, zero, suc, ◌+◌, ◌-◌, ◌*◌, ◌≤◌, ◌<◌, min}
use native.Mathlib.Omega.{arith}
use lib.Dec.{leb, eqb}
use lib.ListN.{length, get_or, take, drop, length-take, length-drop}
use lib.Seq.{get_or-take, get_or-drop, ext_get_or}
use borrow.Author.Tests.{le-leb, leb-true, ne_eqb}
use Rattle.rules.specs.Calendar.{first_slot, slots_of_month, month_of_slot, slot_count, month_count, last_month}
use Rattle.rules.specs.Body.{highest_rate}
use Rattle.rules.specs.Store.{store_length, block_of, no_rate, to_byte, from_byte, all, sound_block, sound_store, block_count, block_length, lawful_byte}
use Rattle.rules.specs.Machine.{count_below}
use Rattle.laws.proofs.Tests.{both}
use Rattle.calendar.proofs.Laws.{days-range, first-slot-step, slot-month-from, slot-month-until}
use Rattle.pool.specs.Blocks.{is_free, month_of, free_count, find_of, release_of}
use Rattle.pool.specs.Held.{InBlock, Held, held_below, held_of}
use Rattle.pool.proofs.Laws.{find_at, released-held, released-sound, released_in}
use Rattle.schedule.specs.Stored.{Stored, place, rate_found, stored_rate}
use Rattle.about_store.proofs.Given.{released-bits, released-months}
use Rattle.about_store.proofs.View.{View, Shows, count-view, not-held}

-- rates are 0 to 100, and a month has none past its end
pub record Plain (v : View) : Type 0 where
  pub rates : (m i r : ℕ) → v.says m i ≡ Some r → r ≤ highest_rate
  pub ends : (m i : ℕ) → slots_of_month m ≤ i → v.says m i ≡ None

-- ---- a byte reads back

low-back : (r : ℕ) → r ≤ highest_rate → from_byte (to_byte (Some r)) ≡ Some r
unfolding from_byte
low-back r l = rw (ne_eqb r no_rate (λ e. omega arith))

byte-back : (o : Option ℕ) → ((r : ℕ) → o ≡ Some r → r ≤ highest_rate) → from_byte (to_byte o) ≡ o
unfolding from_byte
byte-back None h = refl
byte-back (Some r) h = low-back r (h r refl)

-- ---- a block of the store

module _ (store : List ℕ) (full : length store ≡ store_length) (b : ℕ) (l : b < block_count) where
  pub block-length : length (block_of store b) ≡ block_length
  block-length = length-take block_length (drop (b * block_length) store) ∙ rw (length-drop (b * block_length) store) (omega arith)

  pub block_at : (i : ℕ) → i < block_length → get_or (block_of store b) i no_rate ≡ get_or store (place b i) no_rate
  block_at i k = get_or-take block_length (drop (b * block_length) store) i no_rate k ∙ get_or-drop (b * block_length) store i no_rate

-- a test that each element passes
all-at : (t : ℕ → Bool) (d : ℕ) (l : List ℕ) → ((i : ℕ) → i < length l → t (get_or l i d) ≡ true) → all t l ≡ true
unfolding all
all-at t d [] h = refl
all-at t d (x ∷ l) h = rw (h 0 (omega arith)) (all-at t d l (λ i k. h (suc i) (omega arith)))

-- ---- one view

module _ (v : View) (plain : Plain v) where
  module _ (st : Stored) (h : Shows st v) where
    -- the rate of a slot
    pub rate-view : (s : ℕ) → s < slot_count → stored_rate st.pool st.store s ≡ v.says (month_of_slot s) (s - first_slot (month_of_slot s))
    unfolding stored_rate
    rate-view s l = go (find_of st.pool m) refl
      where
        m : ℕ
        m = month_of_slot s

        until : s - first_slot m < block_length
        until = omega (arith, slot-month-from s l, slot-month-until s l, first-slot-step m, days-range m)

        go : (o : Option ℕ) → find_of st.pool m ≡ o → rate_found o st.store (s - first_slot m) ≡ v.says m (s - first_slot m)
        go (Some b) e = ap from_byte (h.bytes m b (s - first_slot m) (find_at st.pool m b e) until) ∙ byte-back _ (plain.rates m (s - first_slot m))
        go None e = sym (h.silent m (s - first_slot m) (not-held st v h m e))

    pub free-view : free_count st.pool ≡ block_count - count_below month_count v.held
    free-view = omega (arith, count-view st v h)

    pub nothing-view : (m : ℕ) → is_none (find_of st.pool m) ≡ not (v.held m)
    nothing-view m = go (find_of st.pool m) refl
      where
        go : (o : Option ℕ) → find_of st.pool m ≡ o → is_none o ≡ not (v.held m)
        go (Some b) e = rw ((h.held m).0 (b, find_at st.pool m b e))
        go None e = rw (not-held st v h m e)

    -- ---- the store is sound

    low_byte : (o : Option ℕ) → ((r : ℕ) → o ≡ Some r → r ≤ highest_rate) → lawful_byte (to_byte o) ≡ true
    low_byte None k = refl
    low_byte (Some r) k = rw (le-leb r highest_rate (k r refl))

    block-sound : (m b : ℕ) → InBlock st.pool m b → sound_block m (block_of st.store b) ≡ true
    unfolding sound_block
    block-sound m b i = go (block_of st.store b) (block-length st.store h.full b i.below) byte
      where
        byte : (j : ℕ) → j < block_length → get_or (block_of st.store b) j no_rate ≡ to_byte (v.says m j)
        byte j l = block_at st.store h.full b i.below j l ∙ h.bytes m b j i l

        n : ℕ
        n = slots_of_month m

        go : (xs : List ℕ) → length xs ≡ block_length → ((j : ℕ) → j < block_length → get_or xs j no_rate ≡ to_byte (v.says m j))
            → all lawful_byte (take n xs) && all (λ x. eqb x no_rate) (drop n xs) ≡ true
        go xs long is =
            rw (all-at lawful_byte no_rate (take n xs)
            (λ j l.
            let k : j < min n (length xs) = rw (length-take n xs) at l in
            rw (get_or-take n xs j no_rate (omega arith), is j (omega arith)) (low_byte (v.says m j) (plain.rates m j))))
            (all-at (λ x. eqb x no_rate) no_rate (drop n xs)
            (λ j l.
            let k : j < length xs - n = rw (length-drop n xs) at l in
            rw (get_or-drop n xs j no_rate, is (n + j) (omega arith), plain.ends m (n + j) (omega arith))))

    blocks-sound : (k : ℕ) → k ≤ block_count → sound_store (held_below k st.pool) st.store ≡ true
    unfolding held_below sound_store
    blocks-sound zero l = refl
    blocks-sound (suc k) l = go (is_free st.pool k) refl (blocks-sound k (omega arith))
      where
        go : (x : Bool) → is_free st.pool k ≡ x → sound_store (held_below k st.pool) st.store ≡ true
            → sound_store (cond x (held_below k st.pool) (record { month = month_of st.pool k; block = k } ∷ held_below k st.pool)) st.store ≡ true
        go true e r = r
        go false e r = rw (block-sound (month_of st.pool k) k (record { below = l; used = e; month = refl })) r

    pub store_view : sound_store (held_of st.pool) st.store ≡ true
    store_view = blocks-sound block_count (omega arith)

-- two pools and stores with one view hold the same months, with the same bytes
module _ (v : View) (st u : Stored) (h : Shows st v) (k : Shows u v) where
  pub held_same : (m : ℕ) → Held st.pool m ↔ Held u.pool m
  held_same m = (λ x. (k.held m).1 ((h.held m).0 x), λ x. (h.held m).1 ((k.held m).0 x))

  pub bytes_same : (m a b : ℕ) → InBlock st.pool m a → InBlock u.pool m b → block_of st.store a ≡ block_of u.store b
  bytes_same m a b i j =
      ext_get_or no_rate (block_of st.store a) (block_of u.store b) (long ∙ sym (block-length u.store k.full b j.below))
      (λ n l. let w : n < block_length = rw long at l in
      block_at st.store h.full a i.below n w ∙ h.bytes m a n i w ∙ sym (block_at u.store k.full b j.below n w ∙ k.bytes m b n j w))
    where
      long : length (block_of st.store a) ≡ block_length
      long = block-length st.store h.full a i.below

-- ---- blocks released

-- floor is f, and months below it are held no more
abbrev pub release_view : ℕ → View → View
release_view f v = record { floor = f; held = λ m. leb f m && v.held m; says = λ m i. cond (leb f m) (v.says m i) None }

module _ (f : ℕ) (v : View) where
  pub release-plain : Plain v → Plain (release_view f v)
  release-plain p = record {
    rates = λ m i r e. rate m i r (leb f m) e;
    ends = λ m i l. end m i l (leb f m);
  }
    where
      rate : (m i r : ℕ) (t : Bool) → cond t (v.says m i) None ≡ Some r → r ≤ highest_rate
      rate m i r true e = p.rates m i r e
      rate m i r false e = let z : ◌≡◌ {A = ℕ} 0 1 = cc in absurd (omega arith)

      end : (m i : ℕ) → slots_of_month m ≤ i → (t : Bool) → cond t (v.says m i) None ≡ None
      end m i l true = p.ends m i l
      end m i l false = refl

  pub release_shows : (st : Stored) → Shows st v → f ≤ last_month → Shows (record { pool = release_of st.pool f; store = st.store }) (release_view f v)
  release_shows st h low = record {
    months = ap (λ (l : List ℕ). length l) (released-months st.pool f) ∙ h.months;
    bits = released-bits st.pool f;
    full = h.full;
    low = low;
    sound = released-sound st.pool f v.floor h.sound;
    held = λ m. (
      λ k. let w = (released-held st.pool f m).0 k in rw (le-leb f m w.1) ((h.held m).0 w.0),
      λ e. (released-held st.pool f m).1 ((h.held m).1 (both (leb f m) (v.held m) e).1, leb-true f m (both (leb f m) (v.held m) e).0),
    );
    bytes = λ m b i k l.
        let w = released_in st.pool f m b k in
        rw (le-leb f m w.1) (h.bytes m b i w.0 l);
    silent = λ m i e. silent m i (leb f m) e;
  }
    where
      silent : (m i : ℕ) (t : Bool) → (t && v.held m) ≡ false → cond t (v.says m i) None ≡ None
      silent m i true e = h.silent m i e
      silent m i false e = refl
