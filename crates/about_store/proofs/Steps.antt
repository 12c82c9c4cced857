-- Pool and store go on agreeing with the machine: when they are fresh, when blocks are released, and when a file is put.
use Rattle.std.specs.Prelude.{Option, None, Some}
use mathlib.Core.Path.{◌≡◌, refl, sym, ap, ◌∙◌, subst}
use mathlib.Core.Bool.{Bool, true, false, cond, ◌&&◌, true≢false, false≢true, and-false}
use mathlib.Core.List.{[], ◌∷◌, ◌++◌}
use Prim.Native.Nat.{ℕ, ◌+◌, ◌≤◌, ◌<◌}
use native.Mathlib.Omega.{arith}
use lib.Dec.{leb, ltb, lit<}
use borrow.Author.Tests.{leb-true, le-leb, le-ltb, ltb-false}
use Rattle.rules.specs.Calendar.{first_slot, slots_of_month, month_of_slot, last_month, month_count}
use Rattle.rules.specs.Body.{highest_rate}
use Rattle.rules.specs.File.{File, records_in}
use Rattle.rules.specs.Store.{block_count}
use Rattle.rules.specs.Machine.{Machine, fresh_machine, rate_in, or_else, last_rate, rate_of, any_file, is_held, held_count, count_below, with_file}
use Rattle.pool.specs.Below.{all_below, bit}
use Rattle.pool.specs.Blocks.{release_of, all_free}
use Rattle.pool.specs.Held.{InBlock}
use Rattle.pool.proofs.BelowLaws.{all-at}
use Rattle.schedule.specs.Stored.{Stored}
use Rattle.about_store.specs.Agrees.{rate_at, Agrees}
use Rattle.about_store.specs.Run.{GoodFile, run_start, put_records}
use Rattle.about_store.specs.Laws.{FreshAgrees, ReleaseAgrees, SameAgrees, PutAgrees}
use Rattle.about_store.proofs.View.{View, Shows}
use Rattle.about_store.proofs.Shown.{Plain, release_view, release_shows}
use Rattle.about_store.proofs.Files.{rate-at, rate-above, rate-none, last_more, in-low}
use Rattle.about_store.proofs.Records.{view_of, view-file, records-shows}

-- ---- the machine as a view

pub agrees_shows : (st : Stored) (M : Machine) → Agrees st M → Shows st (view_of M)
agrees_shows st M a = record {
  months = a.months;
  bits = a.bits;
  full = a.full;
  low = a.floor;
  sound = a.sound;
  held = a.held;
  bytes = a.bytes;
  silent = λ m i e. rate-none M a.floor m i e;
}

pub shows_agrees : (st : Stored) (M : Machine) → Shows st (view_of M) → ((s r : ℕ) → rate_of M s ≡ Some r → r ≤ highest_rate) → Agrees st M
shows_agrees st M h low = record {
  months = h.months;
  bits = h.bits;
  full = h.full;
  floor = h.low;
  sound = h.sound;
  held = h.held;
  bytes = h.bytes;
  rates = low;
}

pub agrees-plain : (st : Stored) (M : Machine) → Agrees st M → Plain (view_of M)
unfolding rate_at
agrees-plain st M a = record { rates = λ m i r e. rate m i r (ltb i (slots_of_month m)) e; ends = λ m i l. rw (le-ltb i (slots_of_month m) l) }
  where
    rate : (m i r : ℕ) (t : Bool) → cond t (rate_of M (first_slot m + i)) None ≡ Some r → r ≤ highest_rate
    rate m i r true e = a.rates (first_slot m + i) r e
    rate m i r false e = let z : ◌≡◌ {A = ℕ} 0 1 = cc in absurd (omega arith)

-- ---- fresh

pub fresh : FreshAgrees
unfolding fresh_machine is_held any_file rate_of last_rate
fresh p store long all full = record {
  months = long;
  bits = rw all (lit< tt);
  full = full;
  floor = omega arith;
  sound = record { low = λ m b i. absurd (none-used m b i); high = λ m b i. absurd (none-used m b i); one = λ m a b i j. absurd (none-used m a i) };
  held = λ m. (λ h. absurd (none-used m h.0 h.1), λ e. absurd (false≢true (sym (and-false (leb 0 m)) ∙ e)));
  bytes = λ m b i k l. absurd (none-used m b k);
  rates = λ s r e. absurd (nothing (ltb (month_of_slot s) 0) r e);
}
  where
    free : (b : ℕ) → b < block_count → bit all_free b ≡ true
    free b l = unfold all_below in all-at block_count (bit all_free) refl b l

    none-used : (m b : ℕ) → InBlock p m b → ⊥
    none-used m b i = true≢false (sym (free b i.below) ∙ sym (ap (λ (n : ℕ). bit n b) all) ∙ i.used)

    nothing : (t : Bool) (r : ℕ) → cond t None None ≡ Some r → ⊥
    nothing true r e = let z : ◌≡◌ {A = ℕ} 0 1 = cc in omega arith
    nothing false r e = let z : ◌≡◌ {A = ℕ} 0 1 = cc in omega arith

-- ---- released

cond-some : (t : Bool) (o : Option ℕ) (r : ℕ) → cond t None o ≡ Some r → (t ≡ false) × (o ≡ Some r)
cond-some true o r e = let z : ◌≡◌ {A = ℕ} 0 1 = cc in absurd (omega arith)
cond-some false o r e = (refl, e)

-- what a later floor leaves is what there was
older-rate : (M N : Machine) → N.files ≡ M.files → M.floor ≤ N.floor → (s r : ℕ) → rate_of N s ≡ Some r → rate_of M s ≡ Some r
unfolding rate_of
older-rate M N ee up s r e =
    let w = cond-some (ltb (month_of_slot s) N.floor) (last_rate s N.files None) r e in
    let l = ltb-false (month_of_slot s) N.floor w.0 in
    rw (le-ltb (month_of_slot s) M.floor (omega arith), ← ee) w.1

-- a later floor, as the machine sees it, is blocks released
view_release : (M N : Machine) (f : ℕ) → N.floor ≡ f → N.files ≡ M.files → M.floor ≤ f → f ≤ last_month → view_of N ≡ release_view f (view_of M)
unfolding is_held
view_release M N f ef ee up low = λ j. record { floor = ef j; held = λ m. same-held m j; says = λ m i. same-says m i j }
  where
    same-held : (m : ℕ) → leb N.floor m && any_file m N.files ≡ leb f m && (leb M.floor m && any_file m M.files)
    same-held m = rw (ef, ee) (go (leb f m) refl)
      where
        go : (t : Bool) → leb f m ≡ t → t && any_file m M.files ≡ t && (leb M.floor m && any_file m M.files)
        go true e = rw (le-leb M.floor m (omega (arith, leb-true f m e)))
        go false e = refl

    same-says : (m i : ℕ) → rate_at N m i ≡ cond (leb f m) (rate_at M m i) None
    same-says m i = rate-at N (rw ef low) m i ∙ rw (ef, ee) (go (leb f m) refl)
      where
        go : (t : Bool) → leb f m ≡ t → cond (t && ltb i (slots_of_month m)) (last_rate (first_slot m + i) M.files None) None ≡ cond t (rate_at M m i) None
        go true e = let l = leb-true f m e in sym (rate-above M (omega arith) m i (omega arith))
        go false e = refl

pub release : ReleaseAgrees
release st M N f ef ee up low a =
    shows_agrees (record { pool = release_of st.pool f; store = st.store }) N
    (subst (λ (w : View). Shows (record { pool = release_of st.pool f; store = st.store }) w) (sym (view_release M N f ef ee up low))
    (release_shows f (view_of M) st (agrees_shows st M a) low))
    (λ s r e. a.rates s r (older-rate M N ee (rw ef up) s r e))

pub same-files : SameAgrees
unfolding is_held rate_at rate_of
same-files st M N ef ee a = record {
  months = a.months;
  bits = a.bits;
  full = a.full;
  floor = rw ef a.floor;
  sound = rw ef a.sound;
  held = λ m. rw (ef, ee) (a.held m);
  bytes = λ m b i k l. rw (ef, ee) (a.bytes m b i k l);
  rates = λ s r e. a.rates s r (older-rate M N ee (rw ef (omega arith)) s r e);
}

-- ---- a file put

-- no rate of a file that can be put is above 100
low-with : (c : ℕ) (M : Machine) (f : File) → GoodFile f → ((s r : ℕ) → rate_of M s ≡ Some r → r ≤ highest_rate)
    → (s r : ℕ) → rate_of (with_file c f M) s ≡ Some r → r ≤ highest_rate
unfolding rate_of with_file
low-with c M f g low s r e =
    let rs = records_in f.body in
    let w = cond-some (ltb (month_of_slot s) M.floor) (last_rate s (M.files ++ (f ∷ [])) None) r e in
    go (rate_in s rs) refl (sym (last_more s M.files f None) ∙ w.1) w.0
  where
    go : (o : Option ℕ) → rate_in s (records_in f.body) ≡ o → or_else o (last_rate s M.files None) ≡ Some r
        → ltb (month_of_slot s) M.floor ≡ false → r ≤ highest_rate
    go None q x t = low s r (rw t x)
    go (Some y) q x t = in-low s (run_start (records_in f.body)) (records_in f.body) g r (q ∙ x)

pub put : PutAgrees
unfolding held_count
put st M c f g few a =
    let rs = records_in f.body in
    let v = view-file (run_start rs) c f M a.floor g in
    shows_agrees (put_records M.floor rs st) (with_file c f M)
    (subst (λ (w : View). Shows (put_records M.floor rs st) w) (sym v)
    (records-shows (run_start rs) rs g st (view_of M) (agrees_shows st M a) (subst (λ (w : View). count_below month_count w.held ≤ block_count) v few)))
    (low-with c M f g a.rates)
