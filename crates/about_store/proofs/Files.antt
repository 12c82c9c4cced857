-- Laws of the machine's list of files: what one file more does to its rates and its held months, and when a slot has no rate.
use Rattle.std.specs.Prelude.{Option, None, Some}
use mathlib.Core.Path.{◌≡◌, refl, sym, ◌∙◌}
use mathlib.Core.Bool.{Bool, true, false, cond, not, ◌&&◌, ◌||◌, true≢false, and-false, or-false, or_assoc}
use mathlib.Core.List.{List, [], ◌∷◌, ◌++◌}
use Prim.Native.Nat.{ℕ, suc, ◌+◌, ◌-◌, ◌≤◌, ◌<◌, min, max}
use native.Mathlib.Omega.{arith}
use lib.Dec.{leb, ltb}
use lib.ListN.{length, get_or}
use borrow.Author.Tests.{ltb-true, ltb-false, lt-ltb, le-ltb, le-leb, lt-leb}
use Rattle.rules.specs.Calendar.{first_slot, slots_of_month, month_of_slot, last_month, month_count}
use Rattle.rules.specs.Body.{Record, highest_rate}
use Rattle.rules.specs.File.{File, records_in, start_of}
use Rattle.rules.specs.Machine.{Machine, covers, rate_in, or_else, last_rate, rate_of, touches, any_record, any_file, is_held}
use Rattle.laws.proofs.Tests.{neither}
use Rattle.laws.proofs.Bytes.{at-most-at}
use Rattle.calendar.proofs.Laws.{first-slot-step, first-slot-end, first-slot-monotone, slot-month-is, slot-month-past}
use Rattle.about_store.specs.Agrees.{rate_at}
use Rattle.about_store.specs.Run.{RunFrom}
use Rattle.about_store.proofs.Ranges.{ltb-leb, between}

-- ---- one file more

pub last_more : (s : ℕ) (fs : List File) (f : File) (o : Option ℕ) → last_rate s (fs ++ (f ∷ [])) o ≡ or_else (rate_in s (records_in f.body)) (last_rate s fs o)
unfolding last_rate
last_more s [] f o = refl
last_more s (g ∷ fs) f o = last_more s fs f (or_else (rate_in s (records_in g.body)) o)

pub any-more : (m : ℕ) (fs : List File) (f : File) → any_file m (fs ++ (f ∷ [])) ≡ any_file m fs || any_record m (records_in f.body)
unfolding any_file
any-more m [] f = or-false (any_record m (records_in f.body))
any-more m (g ∷ fs) f = rw (any-more m fs f) (sym (or_assoc (any_record m (records_in g.body)) (any_file m fs) (any_record m (records_in f.body))))

-- ---- no rate

-- a slot of month m that a record covers is met by it
covers-touches : (m s : ℕ) (r : Record) → first_slot m ≤ s → s < first_slot (suc m) → covers s r ≡ true → touches m r ≡ true
covers-touches m s r from until e =
    let w = between (start_of r) s (start_of r + length r.rates) e in
    lt-ltb (max (start_of r) (first_slot m)) (min (start_of r + length r.rates) (first_slot (suc m))) (omega (arith, w.0, w.1))

module _ (m s : ℕ) (from : first_slot m ≤ s) (until : s < first_slot (suc m)) where
  in-none : (rs : List Record) → any_record m rs ≡ false → rate_in s rs ≡ None
  unfolding any_record rate_in
  in-none [] e = refl
  in-none (r ∷ rs) e = go (covers s r) refl (in-none rs (neither (touches m r) (any_record m rs) e).1)
    where
      go : (t : Bool) → covers s r ≡ t → rate_in s rs ≡ None → cond t (Some (get_or r.rates (s - start_of r) 0)) (rate_in s rs) ≡ None
      go true c q = absurd (true≢false (sym (covers-touches m s r from until c) ∙ (neither (touches m r) (any_record m rs) e).0))
      go false c q = q

  -- a month that no file covers has no rates
  pub last_none : (fs : List File) (o : Option ℕ) → any_file m fs ≡ false → last_rate s fs o ≡ o
  unfolding any_file last_rate
  last_none [] o e = refl
  last_none (f ∷ fs) o e =
      let rs = records_in f.body in
      let n = neither (any_record m rs) (any_file m fs) e in
      rw (in-none rs n.0) (last_none fs o n.1)

-- records that begin after slot s do not cover it
pub before-none : (s t : ℕ) (rs : List Record) → RunFrom t rs → s < t → rate_in s rs ≡ None
unfolding rate_in
before-none s t [] g l = refl
before-none s t (r ∷ rs) g l =
    let no : leb (start_of r) s ≡ false = lt-leb (start_of r) s (omega (arith, g.0)) in
    rw no (before-none s (t + length r.rates) rs g.2 (omega arith))

-- ---- a month's slots and the floor

-- slot i of month m lies below the floor where the month does
pub month-floor : (floor m i : ℕ) → floor ≤ last_month → i < slots_of_month m → ltb (month_of_slot (first_slot m + i)) floor ≡ ltb m floor
month-floor floor m i l k = go (ltb m month_count) refl
  where
    go : (t : Bool) → ltb m month_count ≡ t → ltb (month_of_slot (first_slot m + i)) floor ≡ ltb m floor
    go true e = rw (slot-month-is (first_slot m + i) m (ltb-true m month_count e) (omega arith) (omega (arith, first-slot-step m)))
    go false e =
        let past = ltb-false m month_count e in
        rw (slot-month-past (first_slot m + i) (omega (arith, first-slot-end, first-slot-monotone month_count m past)), le-ltb m floor (omega arith))
        (le-ltb month_count floor (omega arith))

-- rates below the floor are none
module _ (M : Machine) (low : M.floor ≤ last_month) (m i : ℕ) where
  pub rate-at : rate_at M m i ≡ cond (leb M.floor m && ltb i (slots_of_month m)) (last_rate (first_slot m + i) M.files None) None
  unfolding rate_at rate_of
  rate-at = rw (← ltb-leb m M.floor) (go (ltb i (slots_of_month m)) refl)
    where
      swap : (t : Bool) (o : Option ℕ) → cond t None o ≡ cond (not t && true) o None
      swap true o = refl
      swap false o = refl

      go : (t : Bool) → ltb i (slots_of_month m) ≡ t
          → cond t (cond (ltb (month_of_slot (first_slot m + i)) M.floor) None (last_rate (first_slot m + i) M.files None)) None
          ≡ cond (not (ltb m M.floor) && t) (last_rate (first_slot m + i) M.files None) None
      go true e = rw (month-floor M.floor m i low (ltb-true i (slots_of_month m) e)) (swap (ltb m M.floor) (last_rate (first_slot m + i) M.files None))
      go false e = rw (and-false (not (ltb m M.floor)))

  pub rate-above : M.floor ≤ m → rate_at M m i ≡ cond (ltb i (slots_of_month m)) (last_rate (first_slot m + i) M.files None) None
  rate-above l = rate-at ∙ rw (le-leb M.floor m l)

  -- a month that is not held has no rates
  pub rate-none : is_held M m ≡ false → rate_at M m i ≡ None
  unfolding is_held
  rate-none e = rate-at ∙ go (leb M.floor m) (ltb i (slots_of_month m)) refl e
    where
      go : (a b : Bool) → ltb i (slots_of_month m) ≡ b → a && any_file m M.files ≡ false
          → cond (a && b) (last_rate (first_slot m + i) M.files None) None ≡ None
      go true true q z = last_none m (first_slot m + i) (omega arith) (omega (arith, first-slot-step m, ltb-true i (slots_of_month m) q)) M.files None z
      go true false q z = refl
      go false b q z = refl

-- ---- rates are at most 100

pub in-low : (s t : ℕ) (rs : List Record) → RunFrom t rs → (r : ℕ) → rate_in s rs ≡ Some r → r ≤ highest_rate
unfolding rate_in
in-low s t [] g r e = let z : ◌≡◌ {A = ℕ} 0 1 = cc in absurd (omega arith)
in-low s t (x ∷ rs) g r e = go (covers s x) (in-low s (t + length x.rates) rs g.2 r) e
  where
    go : (c : Bool) → (rate_in s rs ≡ Some r → r ≤ highest_rate) → cond c (Some (get_or x.rates (s - start_of x) 0)) (rate_in s rs) ≡ Some r → r ≤ highest_rate
    go true rest q = let w : get_or x.rates (s - start_of x) 0 ≡ r = cc in omega (arith, at-most-at highest_rate x.rates (s - start_of x) g.1.rates)
    go false rest q = rest q
