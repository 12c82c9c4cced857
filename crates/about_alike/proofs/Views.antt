-- The view of a sound pool and store, which another with the same months and bytes has too. It may hold a month that no file gave a rate.
use Rattle.std.specs.Prelude.{Some, None, Option, is_none}
use Prim.Native.Nat.{ℕ, ◌+◌, ◌-◌, ◌^◌, ◌≤◌, ◌<◌, ◌*◌}
use mathlib.Core.Path.{◌≡◌, refl, sym, ap, ◌∙◌}
use mathlib.Core.Logic.{◌↔◌}
use mathlib.Core.Bool.{Bool, true, false, cond, not, true≢false, false≢true}
use mathlib.Core.List.{List}
use native.Mathlib.Omega.{arith}
use lib.Dec.{ltb, eqb}
use lib.ListN.{length, get_or, take, drop}
use lib.Seq.{get_or-drop, get_or-take, ext_get_or}
use borrow.Author.Tests.{le-ltb, ltb-true, ltb-false, eqb-true}
use Rattle.rules.specs.Digits.{part}
use Rattle.rules.specs.Calendar.{slots_of_month, last_month}
use Rattle.rules.specs.Body.{highest_rate}
use Rattle.rules.specs.Store.{store_length, block_of, no_rate, to_byte, from_byte, all, sound_block, sound_store, block_count, block_length, lawful_byte}
use Rattle.rules.specs.Machine.{or_zero}
use Rattle.laws.proofs.Tests.{both}
use Rattle.pool.specs.Blocks.{find_of}
use Rattle.pool.specs.Held.{InBlock, Held, Sound, held_of}
use Rattle.pool.proofs.Laws.{find_at, find_in}
use Rattle.schedule.specs.Stored.{Stored, place, rate_found}
use Rattle.about_store.proofs.View.{View, Shows}
use Rattle.about_store.proofs.Shown.{Plain, block_at, block-length}
use Rattle.unit.proofs.ReleaseLaws.{held-block, block-legal, all-at as all_in}

-- ---- the view of a pool and a store

-- the rate of slot i of month m
abbrev slot_rate : Stored → ℕ → ℕ → Option ℕ
slot_rate st m i = rate_found (find_of st.pool m) st.store i

abbrev pub view_in : ℕ → Stored → View
view_in floor st = record {
  floor = floor;
  held = λ m. not (is_none (find_of st.pool m));
  says = λ m i. cond (ltb i (slots_of_month m)) (slot_rate st m i) None;
}

byte-same : (x : ℕ) → to_byte (from_byte x) ≡ x
unfolding from_byte
byte-same x = go (eqb x no_rate) refl
  where
    go : (t : Bool) → eqb x no_rate ≡ t → to_byte (cond t None (Some x)) ≡ x
    go true e = sym (eqb-true x no_rate e)
    go false e = refl

module _ (st : Stored) (full : length st.store ≡ store_length) (lent : sound_store (held_of st.pool) st.store ≡ true) where
  sound-block : (m b : ℕ) → InBlock st.pool m b → sound_block m (block_of st.store b) ≡ true
  sound-block m b k = rw k.month at (held-block st.pool st.store block_count b k.below k.used lent)

  -- 255 past the month's end
  past_end : (m b i : ℕ) → InBlock st.pool m b → slots_of_month m ≤ i → i < block_length → get_or st.store (place b i) no_rate ≡ no_rate
  unfolding sound_block
  past_end m b i k l h =
      let n = slots_of_month m in
      let bytes = block_of st.store b in
      let rest = (both (all lawful_byte (take n bytes)) (all (λ x. eqb x no_rate) (drop n bytes)) (sound-block m b k)).1 in
      let there : n + (i - n) ≡ i = omega arith in
      sym (block_at st.store full b k.below i h)
      ∙ ap (λ (j : ℕ). get_or bytes j no_rate) (sym there)
      ∙ sym (get_or-drop n bytes (i - n) no_rate)
      ∙ eqb-true _ no_rate (all_in (λ x. eqb x no_rate) (drop n bytes) (i - n) no_rate refl rest)

  module _ (floor : ℕ) (months : length st.pool.months ≡ block_count) (bits : st.pool.free < 2 ^ block_count) (low : floor ≤ last_month) (sound : Sound st.pool floor) where
    pub shows_own : Shows st (view_in floor st)
    shows_own = record {
      months = months;
      bits = bits;
      full = full;
      low = low;
      sound = sound;
      held = λ m. (to m, from m (find_of st.pool m) refl);
      bytes = λ m b i k l. byte m b i k l (find_in st.pool floor m b sound k) (ltb i (slots_of_month m)) refl;
      silent = λ m i e. silent m i (find_of st.pool m) (ltb i (slots_of_month m)) e;
    }
      where
        to : (m : ℕ) → Held st.pool m → not (is_none (find_of st.pool m)) ≡ true
        to m h = rw (find_in st.pool floor m h.0 sound h.1)

        from : (m : ℕ) (o : Option ℕ) → find_of st.pool m ≡ o → not (is_none o) ≡ true → Held st.pool m
        from m (Some b) e t = (b, find_at st.pool m b e)
        from m None e t = absurd (false≢true t)

        byte : (m b i : ℕ) → InBlock st.pool m b → i < block_length → find_of st.pool m ≡ Some b → (t : Bool) → ltb i (slots_of_month m) ≡ t
            → get_or st.store (place b i) no_rate ≡ to_byte (cond t (slot_rate st m i) None)
        byte m b i k l e true q = rw e (sym (byte-same (get_or st.store (place b i) no_rate)))
        byte m b i k l e false q = past_end m b i k (ltb-false i (slots_of_month m) q) l

        silent : (m i : ℕ) (o : Option ℕ) (t : Bool) → not (is_none o) ≡ false → cond t (rate_found o st.store i) None ≡ None
        silent m i (Some b) t e = absurd (true≢false e)
        silent m i None true e = refl
        silent m i None false e = refl

    pub plain-own : Plain (view_in floor st)
    plain-own = record {
      rates = λ m i r e. rate m i r (ltb i (slots_of_month m)) refl (find_of st.pool m) refl e;
      ends = λ m i l. rw (le-ltb i (slots_of_month m) l);
    }
      where
        rate : (m i r : ℕ) (t : Bool) → ltb i (slots_of_month m) ≡ t → (o : Option ℕ) → find_of st.pool m ≡ o
            → cond t (rate_found o st.store i) None ≡ Some r → r ≤ highest_rate
        rate m i r true q (Some b) f e =
            let legal = block-legal st.store m b i (ltb-true i (slots_of_month m) q) (sound-block m b (find_at st.pool m b f)) in
            rw (ap or_zero e) at legal
        rate m i r true q None f e = let z : ◌≡◌ {A = ℕ} 0 1 = cc in absurd (omega arith)
        rate m i r false q o f e = let z : ◌≡◌ {A = ℕ} 0 1 = cc in absurd (omega arith)

-- the bytes of a month's days decide its block's
module _ (st u : Stored) (full : length st.store ≡ store_length) (long : length u.store ≡ store_length)
    (lent : sound_store (held_of st.pool) st.store ≡ true) (loan : sound_store (held_of u.pool) u.store ≡ true) where
  pub days-same : (m a b : ℕ) → InBlock st.pool m a → InBlock u.pool m b
      → part st.store (a * block_length) (slots_of_month m) ≡ part u.store (b * block_length) (slots_of_month m) → block_of st.store a ≡ block_of u.store b
  days-same m a b i j e =
      ext_get_or no_rate (block_of st.store a) (block_of u.store b) (size ∙ sym (block-length u.store long b j.below))
      (λ n l. let k : n < block_length = rw size at l in
      block_at st.store full a i.below n k ∙ byte n k (ltb n (slots_of_month m)) refl ∙ sym (block_at u.store long b j.below n k))
    where
      size : length (block_of st.store a) ≡ block_length
      size = block-length st.store full a i.below

      day : (store : List ℕ) (c n : ℕ) → n < slots_of_month m → get_or (part store (c * block_length) (slots_of_month m)) n no_rate ≡ get_or store (place c n) no_rate
      day store c n l = get_or-take (slots_of_month m) (drop (c * block_length) store) n no_rate l ∙ get_or-drop (c * block_length) store n no_rate

      byte : (n : ℕ) → n < block_length → (t : Bool) → ltb n (slots_of_month m) ≡ t → get_or st.store (place a n) no_rate ≡ get_or u.store (place b n) no_rate
      byte n k true q =
          let l = ltb-true n (slots_of_month m) q in
          sym (day st.store a n l) ∙ ap (λ (x : List ℕ). get_or x n no_rate) e ∙ day u.store b n l
      byte n k false q =
          let l = ltb-false n (slots_of_month m) q in
          past_end st full lent m a n i l k ∙ sym (past_end u long loan m b n j l k)

-- another pool and store with the same months and bytes has that view too
pub shows_other : (st u : Stored) (v : View) → Shows st v → length u.pool.months ≡ block_count → u.pool.free < 2 ^ block_count → length u.store ≡ store_length → Sound u.pool v.floor
    → ((m : ℕ) → Held st.pool m ↔ Held u.pool m)
    → ((m a b : ℕ) → InBlock st.pool m a → InBlock u.pool m b → block_of st.store a ≡ block_of u.store b)
    → Shows u v
shows_other st u v h months bits full sound same bytes = record {
  months = months;
  bits = bits;
  full = full;
  low = h.low;
  sound = sound;
  held = λ m. (λ k. (h.held m).0 ((same m).1 k), λ e. (same m).0 ((h.held m).1 e));
  bytes = λ m b i k l.
      let w = (same m).1 (b, k) in
      sym (block_at u.store full b k.below i l)
      ∙ ap (λ (x : List ℕ). get_or x i no_rate) (sym (bytes m w.0 b w.1 k))
      ∙ block_at st.store h.full w.0 w.1.below i l
      ∙ h.bytes m w.0 i w.1 l;
  silent = h.silent;
}
