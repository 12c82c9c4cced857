-- What a reader of the agreement wants: held months and their blocks in 01's words.
use mathlib.Core.Path.{◌≡◌, refl, sym, ap, ◌∙◌}
use mathlib.Core.Bool.{Bool, true, false, cond, not, ◌&&◌, beq}
use mathlib.Core.List.{◌∷◌, map}
use Prim.Native.Nat.{ℕ, zero, suc, ◌+◌, ◌≤◌, ◌<◌}
use native.Mathlib.Omega.{arith}
use native.Mathlib.Nat.{add-zero, zero-add}
use lib.Dec.{ltb}
use lib.ListN.{length, get_or}
use lib.Seq.{ext_get_or}
use borrow.Author.Tests.{eq-eqb}
use Rattle.rules.specs.Store.{Held as HeldMonth, store_length, block_of, no_rate, to_byte}
use Rattle.rules.specs.Store.{member, distinct, all, all_below, sound_months, sound_blocks, sound_store, block_count, block_length}
use Rattle.rules.specs.Machine.{Machine, is_held}
use Rattle.laws.proofs.Tests.{both}
use Rattle.pool.specs.Blocks.{is_free, month_of}
use Rattle.pool.specs.Held.{InBlock, held_below, held_of, sound_pool}
use Rattle.pool.proofs.SoundLaws.{facts-pool}
use Rattle.pool.proofs.Laws.{held-months}
use Rattle.schedule.specs.Stored.{Stored, store_holds}
use Rattle.about_store.specs.Agrees.{rate_at, bytes_from, month_bytes, BlocksHave, Agrees}
use Rattle.about_store.proofs.Given.{member-held}
use Rattle.about_store.proofs.Shown.{block-length, block_at, store_view}
use Rattle.about_store.proofs.Records.{view_of}
use Rattle.about_store.proofs.Steps.{agrees_shows, agrees-plain}

-- ---- lists

bytes-length : (M : Machine) (m i k : ℕ) → length (bytes_from M m i k) ≡ k
unfolding bytes_from
bytes-length M m i zero = refl
bytes-length M m i (suc k) = ap suc (bytes-length M m (suc i) k)

bytes-at : (M : Machine) (m i k j : ℕ) → j < k → get_or (bytes_from M m i k) j no_rate ≡ to_byte (rate_at M m (i + j))
unfolding bytes_from
bytes-at M m i zero j l = absurd (omega arith)
bytes-at M m i (suc k) zero l = ap (λ (n : ℕ). to_byte (rate_at M m n)) (sym (add-zero i))
bytes-at M m i (suc k) (suc j) l =
    bytes-at M m (suc i) k j (omega arith) ∙ ap (λ (n : ℕ). to_byte (rate_at M m n)) (omega arith)

module _ (st : Stored) (M : Machine) (a : Agrees st M) where
  -- ---- the held months

  -- the held months are the machine's
  pub months-held : (m : ℕ) → member m (map (λ h. h.month) (held_of st.pool)) ≡ is_held M m
  months-held m = ap (member m) (held-months block_count st.pool) ∙ member-held st.pool M.floor a.sound (is_held M) a.held m

  -- the bytes of a held month's block are the machine's rates of its slots, 255 where there is none and past the month's end
  pub block-bytes : (m b : ℕ) → InBlock st.pool m b → block_of st.store b ≡ month_bytes M m
  block-bytes m b i =
      ext_get_or no_rate (block_of st.store b) (month_bytes M m) (long ∙ sym (bytes-length M m 0 block_length))
      (λ j l. let k : j < block_length = rw long at l in
      let rate = bytes-at M m 0 block_length j k ∙ ap (λ (n : ℕ). to_byte (rate_at M m n)) (zero-add j) in
      block_at st.store a.full b i.below j k ∙ a.bytes m b j i k ∙ sym rate)
    where
      long : length (block_of st.store b) ≡ block_length
      long = block-length st.store a.full b i.below

  -- 'each held block's bytes are 0 to 100 or 255, and 255 past its month's end'
  pub all_sound : sound_store (held_of st.pool) st.store ≡ true
  all_sound = store_view (view_of M) (agrees-plain st M a) st (agrees_shows st M a)

  pub all_hold : store_holds st.pool st.store ≡ true
  unfolding store_holds
  all_hold = rw (eq-eqb (length st.store) store_length a.full) all_sound

  -- ---- all the held months' blocks

  blocks-below : (k : ℕ) → k ≤ block_count → BlocksHave M (held_below k st.pool) st.store
  unfolding held_below
  blocks-below zero l = tt
  blocks-below (suc k) l = go (is_free st.pool k) refl (blocks-below k (omega arith))
    where
      go : (x : Bool) → is_free st.pool k ≡ x → BlocksHave M (held_below k st.pool) st.store
          → BlocksHave M (cond x (held_below k st.pool) (record { month = month_of st.pool k; block = k } ∷ held_below k st.pool)) st.store
      go true e r = r
      go false e r = (block-bytes (month_of st.pool k) k (record { below = l; used = e; month = refl }), r)

  pub all-bytes : BlocksHave M (held_of st.pool) st.store
  all-bytes = blocks-below block_count (omega arith)

  -- no two share a block
  pub apart : distinct (map (λ h. h.block) (held_of st.pool)) ≡ true
  unfolding sound_pool sound_blocks
  apart =
      let free = is_free st.pool in
      let months = map (λ (h : HeldMonth). h.month) (held_of st.pool) in
      let blocks = map (λ (h : HeldMonth). h.block) (held_of st.pool) in
      let e = (both (sound_months M.floor months) (sound_blocks free blocks) (facts-pool st.pool M.floor a.sound)).1 in
      let inside = all (λ b. ltb b block_count) blocks in
      let rest = all_below block_count (λ b. beq (free b) (not (member b blocks))) in
      (both (distinct blocks) inside (both (distinct blocks && inside) rest e).0).0
