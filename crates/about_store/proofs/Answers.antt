-- What pool and store answer where they agree with the machine: the rate of a slot, the free blocks, whether a file fits, and that
-- they are sound.
use mathlib.Core.Path.{◌≡◌, sym, ap, ◌∙◌}
use mathlib.Core.Bool.{true}
use Prim.Native.Nat.{ℕ, ◌+◌, ◌-◌, ◌≤◌, ◌<◌}
use native.Mathlib.Omega.{arith}
use lib.Dec.{leb}
use borrow.Author.Tests.{leb-true, le-leb, lt-ltb}
use Rattle.rules.specs.Calendar.{first_slot, slots_of_month, month_of_slot, slot_count, month_count}
use Rattle.rules.specs.File.{File, records_in}
use Rattle.rules.specs.Store.{block_count}
use Rattle.rules.specs.Machine.{Machine, rate_of, is_held, held_count, count_below, with_file}
use Rattle.laws.proofs.Tests.{same}
use Rattle.calendar.proofs.Laws.{first-slot-step, slot-month-from, slot-month-until}
use Rattle.pool.specs.Blocks.{free_count}
use Rattle.pool.specs.Held.{sound_pool}
use Rattle.pool.proofs.SoundLaws.{facts-pool}
use Rattle.schedule.specs.Stored.{Stored, stored_rate, missing}
use Rattle.about_store.specs.Agrees.{rate_at, Agrees}
use Rattle.about_store.specs.Run.{GoodFile, run_start, run_length}
use Rattle.about_store.proofs.View.{View, count-view}
use Rattle.about_store.proofs.Shown.{rate-view}
use Rattle.about_store.proofs.Records.{view_of, view-file}
use Rattle.about_store.proofs.Rooms.{missing-view, held_more}
use Rattle.about_store.proofs.Steps.{agrees_shows, agrees-plain}

module _ (st : Stored) (M : Machine) (a : Agrees st M) where
  -- ---- the rate of a slot

  -- pool and store give each slot the machine's rate
  pub rate-is : (s : ℕ) → s < slot_count → stored_rate st.pool st.store s ≡ rate_of M s
  unfolding rate_at
  rate-is s l = rate-view (view_of M) (agrees-plain st M a) st (agrees_shows st M a) s l ∙ at_slot
    where
      m : ℕ
      m = month_of_slot s

      from : first_slot m ≤ s
      from = slot-month-from s l

      until : s - first_slot m < slots_of_month m
      until = omega (arith, from, slot-month-until s l, first-slot-step m)

      at_slot : rate_at M m (s - first_slot m) ≡ rate_of M s
      at_slot = let e : first_slot m + (s - first_slot m) ≡ s = omega (arith, from) in rw (lt-ltb (s - first_slot m) (slots_of_month m) until, e)

  -- ---- the free blocks

  pub free-and-held : free_count st.pool + held_count M ≡ block_count
  unfolding held_count
  free-and-held = count-view st (view_of M) (agrees_shows st M a)

  -- the free blocks are those that the machine's months leave
  pub free-blocks : free_count st.pool ≡ block_count - held_count M
  free-blocks = omega (arith, free-and-held)

  pub held-most : held_count M ≤ block_count
  held-most = omega (arith, free-and-held)

  -- ---- whether a file fits

  -- the months that the machine holds with the file are those that it held and those that have no block yet
  held-with-file : (c : ℕ) (f : File) → GoodFile f
      → held_count (with_file c f M) ≡ held_count M + missing st.pool M.floor (run_start (records_in f.body)) (run_length (records_in f.body))
  unfolding held_count
  held-with-file c f g =
      let rs = records_in f.body in
      ap (λ (w : View). count_below month_count w.held) (view-file (run_start rs) c f M a.floor g)
      ∙ held_more (view_of M) rs g
      ∙ ap (λ (n : ℕ). count_below month_count (is_held M) + n) (sym (missing-view (view_of M) rs g (agrees-plain st M a) st (agrees_shows st M a)))

  -- there are blocks for a file's months exactly where the machine holds no more months than blocks with it
  pub room : (c : ℕ) (f : File) → GoodFile f → let rs = records_in f.body in
      leb (missing st.pool M.floor (run_start rs) (run_length rs)) (free_count st.pool) ≡ leb (held_count (with_file c f M)) block_count
  room c f g =
      let rs = records_in f.body in
      let needed = missing st.pool M.floor (run_start rs) (run_length rs) in
      rw (held-with-file c f g) (go needed (free_count st.pool) (held_count M) free-and-held)
    where
      go : (n c h : ℕ) → c + h ≡ block_count → leb n c ≡ leb (h + n) block_count
      go n c h e = same (λ q. le-leb (h + n) block_count (omega (arith, leb-true n c q))) (λ q. le-leb n c (omega (arith, leb-true (h + n) block_count q)))

  -- ---- soundness

  -- 'held months are distinct and between floor and 1199, their blocks distinct, the other blocks exactly the free ones'
  pub sound : sound_pool st.pool M.floor ≡ true
  sound = facts-pool st.pool M.floor a.sound
