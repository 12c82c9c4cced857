-- Whether there is room for a file's records, and that they leave rates of 0 to 100: by the view alone.
use Rattle.std.specs.Prelude.{Option, None, Some, is_none}
use mathlib.Core.Path.{◌≡◌, refl, sym, ap, ◌∙◌}
use mathlib.Core.Logic.{⊎_elim}
use mathlib.Core.Bool.{Bool, true, false, cond, not, ◌&&◌, ◌||◌}
use mathlib.Core.List.{List, [], ◌∷◌}
use Prim.Native.Nat.{ℕ, suc, ◌+◌, ◌≤◌, min, max}
use native.Mathlib.Omega.{arith}
use lib.Dec.{leb, ltb}
use lib.ListN.{length}
use borrow.Author.Tests.{ltb-false, le-ltb}
use Rattle.rules.specs.Calendar.{first_slot, slots_of_month, month_count}
use Rattle.rules.specs.Body.{Record, highest_rate}
use Rattle.rules.specs.Machine.{count_below, any_record, rate_in, or_else}
use Rattle.laws.proofs.Tests.{same, isnt, either}
use Rattle.pool.specs.Blocks.{find_of}
use Rattle.schedule.specs.Stored.{Stored, meets, missing}
use Rattle.about_store.specs.Run.{RunFrom, run_start, run_length}
use Rattle.about_store.proofs.Ranges.{Overlap, meet_facts, facts_meet}
use Rattle.about_store.proofs.Counts.{count_same, count_add, one_more}
use Rattle.about_store.proofs.View.{View, Shows}
use Rattle.about_store.proofs.Shown.{Plain, nothing-view}
use Rattle.about_store.proofs.Files.{in-low}
use Rattle.about_store.proofs.Records.{records_view, records-held, records-says}

-- ---- runs of slots

-- n slots from s on and k more meet a month where the one or the other do
join : (s n k a b : ℕ) → ltb (max s a) (min (s + n) b) || ltb (max (s + n) a) (min (s + n + k) b) ≡ ltb (max s a) (min (s + (n + k)) b)
join s n k a b = same to from
  where
    to : ltb (max s a) (min (s + n) b) || ltb (max (s + n) a) (min (s + n + k) b) ≡ true → ltb (max s a) (min (s + (n + k)) b) ≡ true
    to e =
        ⊎_elim
        (λ q. let o = meet_facts s a (s + n) b q in facts_meet s a (s + (n + k)) b (record { xz = omega arith; xw = o.xw; yz = omega arith; yw = o.yw }))
        (λ q. let o = meet_facts (s + n) a (s + n + k) b q in
        facts_meet s a (s + (n + k)) b (record { xz = omega arith; xw = omega arith; yz = omega arith; yw = o.yw }))
        (either (ltb (max s a) (min (s + n) b)) (ltb (max (s + n) a) (min (s + n + k) b)) e)

    from : ltb (max s a) (min (s + (n + k)) b) ≡ true → ltb (max s a) (min (s + n) b) || ltb (max (s + n) a) (min (s + n + k) b) ≡ true
    from e = go (meet_facts s a (s + (n + k)) b e) (ltb (max s a) (min (s + n) b)) refl
      where
        go : Overlap s a (s + (n + k)) b → (t : Bool) → ltb (max s a) (min (s + n) b) ≡ t → t || ltb (max (s + n) a) (min (s + n + k) b) ≡ true
        go o true q = refl
        go o false q =
            let l : min (s + n) b ≤ max s a = ltb-false (max s a) (min (s + n) b) q in
            facts_meet (s + n) a (s + n + k) b (record { xz = omega arith; xw = omega arith; yz = omega arith; yw = o.yw })

-- records that follow each other meet a month where their whole run does
pub any-run : (m s : ℕ) (rs : List Record) → RunFrom s rs → any_record m rs ≡ meets m s (run_length rs)
unfolding any_record run_length
any-run m s [] g = sym (isnt (λ e. let o = meet_facts s (first_slot m) (s + 0) (first_slot (suc m)) e in omega arith))
any-run m s (r ∷ rs) g =
    rw (any-run m (s + length r.rates) rs g.2, g.0) (join s (length r.rates) (run_length rs) (first_slot m) (first_slot (suc m)))

-- ---- the records of a file, seen from the view

module _ (v : View) (rs : List Record) (run : RunFrom (run_start rs) rs) where
  -- rates stay between 0 and 100, and none stands past a month's end
  pub records-plain : Plain v → Plain (records_view rs v)
  records-plain p = record {
    rates = λ m i r e. rate m i r (leb v.floor m && ltb i (slots_of_month m)) (sym (records-says (run_start rs) rs run v m i) ∙ e);
    ends = λ m i l. records-says (run_start rs) rs run v m i ∙ rw (le-ltb i (slots_of_month m) l) (end m i l (leb v.floor m));
  }
    where
      new : (m i r : ℕ) (o : Option ℕ) → rate_in (first_slot m + i) rs ≡ o → or_else o (v.says m i) ≡ Some r → r ≤ highest_rate
      new m i r None q e = p.rates m i r e
      new m i r (Some x) q e = in-low (first_slot m + i) (run_start rs) rs run r (q ∙ e)

      rate : (m i r : ℕ) (t : Bool) → cond t (or_else (rate_in (first_slot m + i) rs) (v.says m i)) (v.says m i) ≡ Some r → r ≤ highest_rate
      rate m i r true e = new m i r (rate_in (first_slot m + i) rs) refl e
      rate m i r false e = p.rates m i r e

      end : (m i : ℕ) → slots_of_month m ≤ i → (a : Bool) → cond (a && false) (or_else (rate_in (first_slot m + i) rs) (v.says m i)) (v.says m i) ≡ None
      end m i l true = p.ends m i l
      end m i l false = p.ends m i l

  -- how many months of the run from floor on are not held
  unfoldable pub lacking : ℕ
  lacking = count_below month_count (λ m. leb v.floor m && meets m (run_start rs) (run_length rs) && not (v.held m))

  pub missing-view : Plain v → (st : Stored) → Shows st v → missing st.pool v.floor (run_start rs) (run_length rs) ≡ lacking
  unfolding missing lacking
  missing-view plain st h =
      count_same month_count (λ m. leb v.floor m && meets m (run_start rs) (run_length rs) && is_none (find_of st.pool m))
      (λ m. leb v.floor m && meets m (run_start rs) (run_length rs) && not (v.held m))
      (λ m l. ap (λ (t : Bool). leb v.floor m && meets m (run_start rs) (run_length rs) && t) (nothing-view v plain st h m))

  -- the months held afterwards
  pub held_more : count_below month_count (records_view rs v).held ≡ count_below month_count v.held + lacking
  unfolding lacking
  held_more =
      count_add month_count v.held (λ m. leb v.floor m && meets m (run_start rs) (run_length rs) && not (v.held m)) (records_view rs v).held
      (λ m. rw (records-held rs v m, any-run m (run_start rs) rs run) (one_more (leb v.floor m) (meets m (run_start rs) (run_length rs)) (v.held m)))
