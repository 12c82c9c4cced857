-- The auditor's sentence, whole: from the relation that every call keeps, and from what a call does to the blocks.
use Prim.Native.Nat.{ℕ, ◌≤◌, ◌<◌}
use mathlib.Core.Path.{◌≡◌, refl, sym, ap, ◌∙◌, subst}
use mathlib.Core.Logic.{◌⊎◌, inl, inr, ⊎_elim, ◌↔◌}
use mathlib.Core.Bool.{Bool, true, false, false≢true}
use native.Mathlib.Omega.{arith}
use mathlib.Core.List.{List, [], ◌∷◌}
use lib.ListN.{length}
use Rattle.rules.specs.Store.{member, block_length, block_count}
use Rattle.rules.specs.Machine.{Machine, Call, fresh_machine, is_held, held_count, step as machine_step, after as machine_after}
use Rattle.plant.specs.Plant.{valid_plant, plant_of}
use Rattle.plant.specs.declared.Plant.{Plant}
use Rattle.pool.specs.Blocks.{is_free, month_of}
use Rattle.pool.specs.Held.{InBlock, Held, Sound, held_months}
use Rattle.pool.specs.declared.Pool.{Pool}
use Rattle.pool.proofs.Laws.{months-held, held-months}
use Rattle.schedule.specs.Stored.{place}
use Rattle.about_store.proofs.Counts.{member-mem, mem-member}
use Rattle.about_store.proofs.Given.{free-held}
use Rattle.about_store.proofs.Laws.{bytes-agree}
use Rattle.calls.specs.Step.{State, step, after}
use Rattle.about_calls.specs.Theorem.{fresh, told_by}
use Rattle.about_calls.specs.Apart.{BlockOf, Owned, Unowned, Matched, Stays, Moved, MatchedFrom, MonthsMatched, InstalledMatched}
use Rattle.about_calls.proofs.Options.{not-both}
use Rattle.about_calls.proofs.Follows.{stored, Kept, agrees, apart, Follows, follows-sound, follows-holds}
use Rattle.about_calls.proofs.Ticking.{agree_of}
use Rattle.about_calls.proofs.Steps.{w}
use Rattle.about_calls.proofs.EveryList.{fresh-follows, call_step, list_follows}
use Rattle.about_calls.proofs.Acceptance.{sound-pool}
use Rattle.about_calls.proofs.Moves.{Moves, step-moves, list_rises}
use Rattle.about_calls.proofs.Installed.{state-of, valid-of}

-- two bytes at one place of the store stand in one block
one_block : (b c i j : ℕ) → i < block_length → j < block_length → place b i ≡ place c j → b ≡ c
one_block b c i j k l e = omega arith

kept-long : (s : State) (M : Machine) → Kept s M → length s.unit.pool.months ≡ block_count
kept-long s M (agrees e a) = a.months
kept-long s M (apart e q g f c) = ap (λ (p : Pool). length p.months) q

module _ (p : Plant) (valid : valid_plant p ≡ true) (n : ℕ) where
  module _ (s : State) (M : Machine) (h : Follows p n s M) where
    abbrev q : Pool
    q = s.unit.pool

    sound : Sound q s.unit.floor
    sound = sound-pool s.unit (follows-sound p valid n s M h)

    -- a month has a block exactly where the machine holds it
    held-is : (m : ℕ) → Held q m ↔ (is_held M m ≡ true)
    held-is m =
        let same : member m (held_months q) ≡ is_held M m = ap (member m) (sym (held-months block_count q)) ∙ (follows-holds p valid n s M h).months m in (
          λ x. sym same ∙ mem-member m (held_months q) ((months-held q m).1 x),
          λ e. (months-held q m).0 (member-mem m (held_months q) (same ∙ e)),
        )

    the_block : (m b : ℕ) → InBlock q m b → BlockOf q m b
    the_block m b i = record { there = i; only = λ c j. sound.one m c b j i }

    owned : (b : ℕ) → b < block_count → is_free q b ≡ false → Owned q M b
    owned b l e =
        let i : InBlock q (month_of q b) b = record { below = l; used = e; month = refl } in
        record { month = month_of q b; held = (held-is (month_of q b)).0 (b, i); block = the_block (month_of q b) b i; alone = λ k j. sym j.month }

    matched : Matched s M
    unfolding held_count
    matched = record {
      block = λ m e. let x = (held-is m).1 e in (x.0, the_block m x.0 x.1);
      apart = λ m k b c e f other i j.
          let blocks : b ≡ c → ⊥ = λ same. other (sym i.month ∙ ap (month_of q) same ∙ j.month) in
          (blocks, λ x y u v z. blocks (one_block b c x y u v z));
      inside = λ m b i e x l. let k = x.below in omega arith;
      bytes = λ l m b e i. bytes-agree (stored s) M (agree_of s M l h.kept) m b i;
      byte = λ l m b i e x k. (agree_of s M l h.kept).bytes m b i x k;
      each = λ b l. go b l (is_free q b) refl;
      sum = free-held q s.unit.floor sound (is_held M) held-is;
    }
      where
        go : (b : ℕ) → b < block_count → (t : Bool) → is_free q b ≡ t → Unowned q b ⊎ Owned q M b
        go b l true e = inl (record { free = e; none = λ k i. false≢true (sym i.used ∙ e) })
        go b l false e = inr (owned b l e)

  -- from one state that follows to the next
  moved : (s t : State) (M N : Machine) → Follows p n s M → Follows p n t N → Moves s.unit.pool t.unit.pool t.unit.floor → Moved s t M N
  moved s t M N h k v = record {
    same = λ m b e f i.
        ⊎_elim (λ x. ((held-is t N k m).0 (b, x), the_block t N k m b x)) (λ l. let y : N.floor ≤ m = f in absurd (omega (arith, l, k.floor)))
        (v.keep m b i);
    new = λ m b e f i.
        ⊎_elim (λ x. absurd (not-both (is_held M m) ((held-is s M h m).0 (b, x)) e)) (λ x. x) (v.from m b i);
    freed = λ b l e f.
        let o = owned s M h b l e in (
          o.month,
          o.held,
          o.block,
          rw (← k.floor) (⊎_elim (λ x. absurd (false≢true (sym x.used ∙ f))) (λ z. z) (v.keep o.month b o.block.there)),
        );
  }

  -- over every call, and over every list of them
  call-moved : (s : State) (M : Machine) → Follows p n s M → (c : Call) → Moved s (step c s).1 M (machine_step (w p valid n) c M).1
  call-moved s M h c =
      moved s (step c s).1 M (machine_step (w p valid n) c M).1 h (call_step p valid n s M h c).1 (step-moves c s (kept-long s M h.kept))

  list_stays : (ds : List Call) (s : State) (M : Machine) → Follows p n s M → Stays s (after ds s) M (machine_after (w p valid n) ds M)
  unfolding after machine_after
  list_stays [] s M h m b e l i = (e, the_block s M h m b i)
  list_stays (c ∷ ds) s M h m b e l i =
      let k = (call_step p valid n s M h c).1 in
      let t = (step c s).1 in
      let N = (machine_step (w p valid n) c M).1 in
      let rises : t.unit.floor ≤ (after ds t).unit.floor = list_rises ds t in
      let last = (list_follows p valid n ds t N k).1.floor in
      let low : N.floor ≤ m = omega (arith, rises, k.floor, last, l) in
      let x = (call-moved s M h c).same m b e low i in
      list_stays ds t N k m b x.0 l x.1.there

  from-follows : (s : State) (M : Machine) → Follows p n s M → MatchedFrom (w p valid n) s M
  from-follows s M h cs =
      let k = (list_follows p valid n cs s M h).1 in
      let t = after cs s in
      let N = machine_after (w p valid n) cs M in
      (matched t N k, call-moved t N k, λ ds. list_stays ds t N k)

pub months-matched : MonthsMatched
months-matched p valid store = from-follows p valid (length store) (fresh p store) fresh_machine (fresh-follows p valid store)

pub installed-matched : InstalledMatched
installed-matched id mac set e store =
    subst (λ (s : State). MatchedFrom (told_by id set store) s fresh_machine) (sym (state-of id mac set e store))
    (months-matched (plant_of id mac set) (valid-of id mac set e) store)
