-- Every law of specs/Alike, proved: this is the file to cite.
use Prim.Native.Nat.{ℕ, ◌*◌, ◌≤◌}
use mathlib.Core.Path.{◌≡◌, refl, sym, ap, ◌∙◌, subst, subst₂}
use mathlib.Core.Bool.{true, false≢true, and-false}
use mathlib.Core.List.{List, [], ◌∷◌}
use native.Mathlib.Omega.{arith}
use lib.Dec.{leb}
use lib.ListN.{length}
use borrow.Author.Tests.{ltb-true, leb-true}
use Rattle.rules.specs.Calendar.{last_month, month_count}
use Rattle.rules.specs.Store.{store_length}
use Rattle.rules.specs.Causes.{Reply, accepted}
use Rattle.rules.specs.Machine.{clock_lost, fresh_machine, is_held, any_file}
use Rattle.plant.specs.Plant.{valid_plant}
use Rattle.plant.specs.declared.Plant.{Plant}
use Rattle.pool.specs.Held.{InBlock, Sound}
use Rattle.pool.proofs.SoundLaws.{pool-facts}
use Rattle.schedule.specs.Stored.{Stored}
use Rattle.about_store.specs.Agrees.{Agrees}
use Rattle.about_store.proofs.Laws.{fresh-agrees, store-sound}
use Rattle.about_store.proofs.View.{View, Shows}
use Rattle.about_store.proofs.Shown.{Plain, held_same, bytes_same}
use Rattle.unit.specs.Values.{fresh_pool, fresh_unit}
use Rattle.unit.specs.Calls.{lost}
use Rattle.calls.specs.Step.{State, Step, step_done, step, replies, after}
use Rattle.unit.specs.Changed.{Done}
use Rattle.unit.proofs.CallLaws.{lost-done}
use Rattle.unit.proofs.SoundParts.{sound-parts}
use Rattle.about_calls.proofs.EveryList.{every-list}
use Rattle.about_calls.proofs.Follows.{stored}
use Rattle.about_alike.specs.Alike.{Whole, Alike, LikeLost, StaysWhole, SameAnswers, LostAnswers, OwnAlike, TurnAlike, OnAlike, DaysDecide, FreshAlike}
use Rattle.about_alike.proofs.Views.{view_in, shows_own, plain-own, days-same, shows_other}
use Rattle.about_alike.proofs.Outcomes.{Beside, Good, made, made-sound, made-lent}
use Rattle.about_alike.proofs.EveryList.{list_outcomes}

abbrev beside_of : State → Beside
beside_of s = record { plant = s.unit.plant; requests = s.unit.requests; clock = s.unit.clock; command = s.unit.command }

-- ---- a whole state, and its view

module _ (s : State) (w : Whole s) where
  abbrev view : View
  view = view_in s.unit.floor (stored s)

  low : s.unit.floor ≤ last_month
  low = omega (arith, ltb-true s.unit.floor month_count (sound-parts s.unit w.unit).floor)

  sound : Sound s.unit.pool s.unit.floor
  sound = pool-facts s.unit.pool s.unit.floor (sound-parts s.unit w.unit).pool

  whole-shows : Shows (stored s) view
  whole-shows = shows_own (stored s) w.full w.lent s.unit.floor w.months w.bits low sound

  whole_plain : Plain view
  whole_plain = plain-own (stored s) w.full w.lent s.unit.floor w.months w.bits low sound

  whole-good : Good (beside_of s)
  whole-good =
      let p = sound-parts s.unit w.unit in
      record { plant = p.plant; requests = p.requests; clock = p.clock; command = leb-true s.unit.command (6000 * s.unit.plant.settings.minutes) p.command }

-- ---- and back

module _ (r : Beside) (v : View) (good : Good r) (plain : Plain v) where
  made-whole : (st : Stored) → Shows st v → Whole (made r v st)
  made-whole st h = record {
    months = h.months;
    bits = h.bits;
    unit = made-sound r v good plain st h;
    full = h.full;
    lent = made-lent r v good plain st h;
  }

  made_alike : (st u : Stored) → Shows st v → Shows u v → Alike (made r v st) (made r v u)
  made_alike st u h k = record {
    here = made-whole st h;
    there = made-whole u k;
    plant = refl;
    clock = refl;
    floor = refl;
    requests = refl;
    command = refl;
    months = record { held = held_same v st u h k; bytes = bytes_same v st u h k };
  }

-- ---- the laws

pub stays-whole : StaysWhole
stays-whole s w cs =
    let o = list_outcomes cs (beside_of s) (view s w) (whole-good s w) (whole_plain s w) in
    let x = o.each (stored s) (whole-shows s w) in
    subst (λ (z : State). Whole z) (sym x.is) (made-whole o.beside o.view o.good o.plain x.stored x.shows)

-- the other state, with what the first has beside its pool
module _ (s t : State) (a : Alike s t) where
  there-is : made (beside_of s) (view s a.here) (stored t) ≡ t
  there-is = λ i. record {
    unit = record {
      plant = a.plant i;
      pool = t.unit.pool;
      requests = a.requests i;
      clock = a.clock i;
      floor = a.floor i;
      command = a.command i;
    };
    store = t.store;
  }

  there-shows : Shows (stored t) (view s a.here)
  there-shows =
      shows_other (stored s) (stored t) (view s a.here) (whole-shows s a.here) a.there.months a.there.bits a.there.full
      (subst (λ (f : ℕ). Sound t.unit.pool f) (sym a.floor) (sound t a.there))
      a.months.held a.months.bytes

pub same-answers : SameAnswers
same-answers s t a cs =
    let w = a.here in
    let o = list_outcomes cs (beside_of s) (view s w) (whole-good s w) (whole_plain s w) in
    let x = o.each (stored s) (whole-shows s w) in
    let y = o.each (stored t) (there-shows s t a) in
    subst (λ (z : State). (replies cs s ≡ replies cs z) × Alike (after cs s) (after cs z)) (there-is s t a) (
      x.answers ∙ sym y.answers,
      subst₂ (λ (p q : State). Alike p q) (sym x.is) (sym y.is) (made_alike o.beside o.view o.good o.plain x.stored y.stored x.shows y.shows),
    )

-- ---- a lost clock

module _ (s t : State) (a : LikeLost s t) where
  -- s once its clock was lost
  abbrev bare : State
  bare = record { unit = lost s.unit; store = s.store }

  lost-is : step clock_lost s ≡ (accepted, bare)
  unfolding step
  lost-is = ap (λ (d : Done). step_done d s.store) (lost-done s.unit a.here.unit)

  bare-whole : Whole bare
  bare-whole = unfold after in subst (λ (x : Step). Whole x.1) lost-is (stays-whole s a.here (clock_lost ∷ []))

  bare_alike : Alike bare t
  unfolding lost
  bare_alike = record {
    here = bare-whole;
    there = a.there;
    plant = a.plant;
    clock = sym a.clock;
    floor = a.floor;
    requests = a.requests;
    command = sym a.command;
    months = record { held = a.months.held; bytes = a.months.bytes };
  }

pub lost-answers : LostAnswers
unfolding replies after
lost-answers s t a cs =
    let w = same-answers (bare s t a) t (bare_alike s t a) cs in
    subst (λ (x : Step). ((x.0 ∷ replies cs x.1) ≡ accepted ∷ replies cs t) × Alike (after cs x.1) (after cs t)) (sym (lost-is s t a))
    (ap (λ (l : List Reply). accepted ∷ l) w.0, w.1)

-- ---- itself, back, and on

pub own_alike : OwnAlike
own_alike s w = made_alike (beside_of s) (view s w) (whole-good s w) (whole_plain s w) (stored s) (stored s) (whole-shows s w) (whole-shows s w)

pub turn_alike : TurnAlike
turn_alike s t a = record {
  here = a.there;
  there = a.here;
  plant = sym a.plant;
  clock = sym a.clock;
  floor = sym a.floor;
  requests = sym a.requests;
  command = sym a.command;
  months = record { held = λ m. ((a.months.held m).1, (a.months.held m).0); bytes = λ m x y i j. sym (a.months.bytes m y x j i) };
}

pub on_alike : OnAlike
on_alike s t u a b = record {
  here = a.here;
  there = b.there;
  plant = a.plant ∙ b.plant;
  clock = a.clock ∙ b.clock;
  floor = a.floor ∙ b.floor;
  requests = a.requests ∙ b.requests;
  command = a.command ∙ b.command;
  months = record {
    held = λ m. (λ h. (b.months.held m).0 ((a.months.held m).0 h), λ h. (a.months.held m).1 ((b.months.held m).1 h));
    bytes = λ m x z i k.
        let h = (a.months.held m).0 (x, i) in
        a.months.bytes m x h.0 i h.1 ∙ b.months.bytes m h.0 z h.1 k;
  };
}

-- ---- the bytes of a month's days

pub days-decide : DaysDecide
days-decide s t w x m a b i j e = days-same (stored s) (stored t) w.full x.full w.lent x.lent m a b i j e

-- ---- fresh

module _ (p : Plant) (valid : valid_plant p ≡ true) where
  module _ (store : List ℕ) (full : length store ≡ store_length) where
    agreed : Agrees (record { pool = fresh_pool; store = store }) fresh_machine
    agreed = fresh-agrees fresh_pool store refl refl full

    fresh-whole : Whole (record { unit = fresh_unit p; store = store })
    unfolding after fresh_unit
    fresh-whole = record {
      months = refl;
      bits = agreed.bits;
      unit = (every-list p valid store []).1.unit;
      full = full;
      lent = store-sound (record { pool = fresh_pool; store = store }) fresh_machine agreed;
    }

    none-held : (m b : ℕ) → InBlock fresh_pool m b → ⊥
    unfolding fresh_machine is_held any_file
    none-held m b i = false≢true (sym (and-false (leb 0 m)) ∙ (agreed.held m).0 (b, i))

pub fresh-alike : FreshAlike
unfolding fresh_unit
fresh-alike p valid store other full long = record {
  here = fresh-whole p valid store full;
  there = fresh-whole p valid other long;
  plant = refl;
  clock = refl;
  floor = refl;
  requests = refl;
  command = refl;
  months = record { held = λ m. (λ h. h, λ h. h); bytes = λ m a b i j. absurd (none-held p valid store full m a i) };
}
