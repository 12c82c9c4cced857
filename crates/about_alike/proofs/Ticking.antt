-- The outcome of a tick: the floor rises for all that show one view, and the command moves alike.
use Rattle.std.specs.Prelude.{Some, None, Option}
use Prim.Native.Nat.{ℕ, zero, suc, ◌+◌, ◌-◌, ◌*◌, ◌≤◌, ◌<◌}
use mathlib.Core.Path.{◌≡◌, refl, ap, ◌∙◌}
use mathlib.Core.Bool.{Bool, true, false, cond}
use mathlib.Core.List.{List}
use native.Mathlib.Omega.{arith}
use lib.Dec.{leb, ltb}
use borrow.Author.Tests.{lt-ltb, leb-false, ltb-true}
use Rattle.rules.specs.Calendar.{month_of, slot_of, first_slot, month_of_slot, end_of_time, last_month, month_count}
use Rattle.rules.specs.Body.{highest_rate}
use Rattle.rules.specs.Causes.{accepted, refused, number_of}
use Rattle.rules.specs.Machine.{tick, raised_floor, approach, target}
use Rattle.rules.specs.declared.Cause.{Cause}
use Rattle.plant.specs.Plant.{settings_of}
use Rattle.plant.proofs.Laws.{parts-most}
use Rattle.pool.specs.Blocks.{release_of}
use Rattle.pool.specs.declared.Pool.{Pool}
use Rattle.schedule.specs.Stored.{Stored}
use Rattle.about_store.proofs.View.{View, Shows}
use Rattle.about_store.proofs.Shown.{Plain, rate-view, release_view, release-plain, release_shows}
use Rattle.unit.specs.Calls.{set_clock, with_command, second, seconds, tick_from, ticked}
use Rattle.unit.specs.declared.Unit.{Unit}
use Rattle.about_calls.proofs.UnitLaws as unit
use Rattle.about_calls.proofs.Ticking.{slot-below, month-below, approach-most}
use Rattle.about_alike.proofs.Outcomes.{Beside, Good, unit_of, made, made-sound, made-full, made-lent, Outcome, same-state}

abbrev with : Pool → Stored → Stored
with p st = record { pool = p; store = st.store }

-- a unit that changed, its store not: it came to what r and v show
record Changed (u : Unit) (st : Stored) (r : Beside) (v : View) : Type 0 where
  pool : Pool
  is : u ≡ unit_of r v (with pool st)
  shows : Shows (with pool st) v

-- one change for all that show v
record Later (f : List ℕ → Unit → Unit) (r : Beside) (v : View) : Type 0 where
  beside : Beside
  view : View
  good : Good beside
  plain : Plain view
  each : (st : Stored) → Shows st v → Changed (f st.store (unit_of r v st)) st beside view

-- one change after another
later-then : (f g : List ℕ → Unit → Unit) (r : Beside) (v : View) (a : Later f r v) → Later g a.beside a.view → Later (λ store u. g store (f store u)) r v
later-then f g r v a b = record {
  beside = b.beside;
  view = b.view;
  good = b.good;
  plain = b.plain;
  each = λ st h.
      let x = a.each st h in
      let y = b.each (with x.pool st) x.shows in
      record { pool = y.pool; is = ap (λ (u : Unit). g st.store u) x.is ∙ y.is; shows = y.shows };
}

module _ (r : Beside) (v : View) (good : Good r) (plain : Plain v) where
  -- the floor at t
  abbrev risen : ℕ → View
  risen t = release_view (raised_floor v.floor t) v

  risen-low : (t : ℕ) → t < end_of_time → v.floor ≤ last_month → raised_floor v.floor t ≤ last_month
  risen-low t l low = let b : month_of t < month_count = month-below t l in omega arith

  -- ---- the clock is set

  set-later : (t : ℕ) → t < end_of_time → Later (λ store u. set_clock t u) r v
  unfolding set_clock
  set-later t l = record {
    beside = record { plant = r.plant; requests = r.requests; clock = Some t; command = r.command };
    view = risen t;
    good = record { plant = good.plant; requests = good.requests; clock = lt-ltb t end_of_time l; command = good.command };
    plain = release-plain (raised_floor v.floor t) v plain;
    each = λ st h. record {
      pool = release_of st.pool (raised_floor v.floor t);
      is = refl;
      shows = release_shows (raised_floor v.floor t) v st h (risen-low t l h.low);
    };
  }

  -- ---- a second passes

  -- what the view says of the slot of second t
  abbrev now : ℕ → Option ℕ
  now t = (risen t).says (month_of_slot (slot_of t)) (slot_of t - first_slot (month_of_slot (slot_of t)))

  abbrev goal : ℕ → ℕ
  goal t = target (settings_of r.plant) (now t)

  goal-most : (o : Option ℕ) → ((x : ℕ) → o ≡ Some x → x ≤ highest_rate) → target (settings_of r.plant) o ≤ 6000 * r.plant.settings.minutes
  goal-most None k = parts-most (settings_of r.plant) 0 (omega arith)
  goal-most (Some x) k = parts-most (settings_of r.plant) x (k x refl)

  second-later : (t : ℕ) → t < end_of_time → Later (λ store u. second store t u) r v
  unfolding second with_command set_clock
  second-later t l =
      let f = raised_floor v.floor t in
      let after : Plain (risen t) = release-plain f v plain in
      record {
        beside = record { plant = r.plant; requests = r.requests; clock = Some t; command = approach (goal t) r.command };
        view = risen t;
        good = record {
          plant = good.plant;
          requests = good.requests;
          clock = lt-ltb t end_of_time l;
          command = approach-most (6000 * r.plant.settings.minutes) (goal t) r.command
              (goal-most (now t) (after.rates (month_of_slot (slot_of t)) (slot_of t - first_slot (month_of_slot (slot_of t))))) good.command;
        };
        plain = after;
        each = λ st h.
            let p = release_of st.pool f in
            let shown : Shows (with p st) (risen t) = release_shows f v st h (risen-low t l h.low) in
            record {
              pool = p;
              is = ap
                  (λ (o : Option ℕ).
                  unit_of
                  (record { plant = r.plant; requests = r.requests; clock = Some t; command = approach (target (settings_of r.plant) o) r.command })
                  (risen t) (with p st))
                  (rate-view (risen t) after (with p st) shown (slot_of t) (slot-below t l));
              shows = shown;
            };
      }

-- ---- the seconds of a tick

none-later : (r : Beside) (v : View) → Good r → Plain v → Later (λ store u. u) r v
none-later r v good plain = record {
  beside = r;
  view = v;
  good = good;
  plain = plain;
  each = λ st h. record { pool = st.pool; is = refl; shows = h };
}

seconds-later : (k c : ℕ) (r : Beside) (v : View) → Good r → Plain v → c + k < end_of_time → Later (λ store u. seconds store k c u) r v
unfolding seconds
seconds-later zero c r v good plain l = none-later r v good plain
seconds-later (suc k) c r v good plain l =
    let a = second-later r v good plain (suc c) (omega arith) in
    later-then (λ store u. second store (suc c) u) (λ store u. seconds store k (suc c) u) r v a
    (seconds-later k (suc c) a.beside a.view a.good a.plain (omega arith))

module _ (r : Beside) (v : View) (good : Good r) (plain : Plain v) (t : ℕ) (l : t < end_of_time) where
  ticked-later : Later (λ store u. ticked store t u) r v
  unfolding ticked
  ticked-later = let a = from r.clock in record { beside = a.beside; view = a.view; good = a.good; plain = a.plain; each = a.each }
    where
      by : (c : ℕ) (x : Bool) → leb t c ≡ x → Later (λ store u. cond x (set_clock t u) (seconds store (t - c) c u)) r v
      by c true e = set-later r v good plain t l
      by c false e = seconds-later (t - c) c r v good plain (omega (arith, leb-false t c e))

      from : (c : Option ℕ) → Later (λ store u. tick_from store t c u) r v
      from None = set-later r v good plain t l
      from (Some c) = by c (leb t c) refl

pub tick-outcome : (r : Beside) (v : View) → Good r → Plain v → (t : ℕ) → Outcome (tick t) r v
tick-outcome r v good plain t = go (ltb t end_of_time) refl
  where
    go : (b : Bool) → ltb t end_of_time ≡ b → Outcome (tick t) r v
    go false e =
        same-state (tick t) r v good plain (refused (number_of Cause.Range))
        (λ st h. unit.tick-range (made r v st) (made-full r v good plain st h) (made-sound r v good plain st h) (made-lent r v good plain st h) t e)
    go true e =
        let a = ticked-later r v good plain t (ltb-true t end_of_time e) in
        record {
          reply = accepted;
          beside = a.beside;
          view = a.view;
          good = a.good;
          plain = a.plain;
          each = λ st h.
              let x = a.each st h in
              record {
                stored = with x.pool st;
                is = unit.tick-done (made r v st) (made-full r v good plain st h) (made-sound r v good plain st h) (made-lent r v good plain st h) t e
                    ∙ ap (λ (u : Unit). (accepted, record { unit = u; store = st.store })) x.is;
                shows = x.shows;
              };
        }
