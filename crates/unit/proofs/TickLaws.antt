-- What tick answers where it is accepted; when it is; and that it then leaves a sound unit and a sound store sound.
use Rattle.std.specs.Prelude.{Some, None, Ok, Err, Option, is_ok}
use Prim.Native.Nat.{ℕ, ◌-◌, ◌<◌}
use mathlib.Core.Path.{◌≡◌, ◌∙◌, refl, sym, ap}
use mathlib.Core.Bool.{Bool, true, false, cond, not, ◌&&◌, false≢true}
use mathlib.Core.List.{List}
use lib.Dec.{leb, ltb, eqb}
use lib.ListN.{length}
use borrow.Author.Tests.{lt-ltb, eq-eqb, ltb-true, leb-true, leb-false, eqb-true}
use Rattle.rules.specs.Calendar.{end_of_time}
use Rattle.rules.specs.Causes.{Answer}
use Rattle.rules.specs.Store.{store_length, sound_store}
use Rattle.rules.specs.Table.{first_of}
use Rattle.rules.specs.declared.Cause.{Cause}
use Rattle.laws.proofs.Tests.{both}
use Rattle.pool.specs.Held.{held_of}
use Rattle.ramp.proofs.Laws.{after-no-second, after-over}
use Rattle.unit.specs.Values.{is_sound}
use Rattle.unit.specs.Calls.{done_by, set_clock, with_command, seconds, tick_from, ticked, tick_of, lent_of}
use Rattle.unit.specs.Ticks.{command_at}
use Rattle.unit.specs.declared.Unit.{Unit}
use Rattle.unit.proofs.LentLaws.{lent-good}
use Rattle.unit.proofs.SoundParts.{SoundWith}
use Rattle.unit.proofs.Seconds.{jumped, seconds-once, few, low}

-- ---- the unit after a tick

module _ (u : Unit) (good : is_sound u ≡ true) where
  -- a tick is a jump, with the command of the seconds since the clock
  from-clock : (store : List ℕ) (t : ℕ) (k : Option ℕ) → tick_from store t k u ≡ jumped u t (command_at k u store t)
  unfolding set_clock with_command
  from-clock store t None = refl
  from-clock store t (Some c) = go (leb t c) refl
    where
      stays : leb t c ≡ true → command_at (Some c) u store t ≡ u.command
      stays e = after-no-second u.plant u.pool store c t u.command (leb-true t c e)

      go : (x : Bool) → leb t c ≡ x → cond x (set_clock t u) (seconds store (t - c) c u) ≡ jumped u t (command_at (Some c) u store t)
      go true e = ap (jumped u t) (sym (stays e))
      go false e =
          seconds-once u good store c t (leb-false t c e)
          ∙ ap (jumped u t) (sym (after-over u.plant u.pool store c t u.command (few u good) (low u good)))

  pub ticked-jump : (store : List ℕ) (t : ℕ) → ticked store t u ≡ jumped u t (command_at u.clock u store t)
  unfolding ticked
  ticked-jump store t = from-clock store t u.clock

-- what tick answers where neither the store's rows nor the second's apply
pub ticks : (u : Unit) (store : List ℕ) (t : ℕ) (r : Answer) → r ≡ lent_of u store → ((c : Cause) → r ≡ Err c → ⊥) → t < end_of_time
    → tick_of u store t ≡ record { unit = jumped u t (command_at u.clock u store t); answer = Ok tt }
unfolding tick_of first_of
ticks u store t r e n h =
    let lent = lent-good u store r e n in
    let good = both (is_sound u) (sound_store (held_of u.pool) store) lent.good in
    rw (eq-eqb (length store) store_length lent.long, lent.good, lt-ltb t end_of_time h)
    (ap (λ (v : Unit). record { unit = v; answer = Ok tt }) (ticked-jump u good.0 store t))

-- ---- ticks that are accepted

-- when a tick is accepted
pub record Accepts (u : Unit) (store : List ℕ) (t : ℕ) : Type 0 where
  pub long : length store ≡ store_length
  pub good : SoundWith u store
  pub below : t < end_of_time

pub accepted : (u : Unit) (store : List ℕ) (t : ℕ) → Accepts u store t → tick_of u store t ≡ record { unit = ticked store t u; answer = Ok tt }
unfolding tick_of first_of
accepted u store t a = rw (eq-eqb (length store) store_length a.long, a.good.unit, a.good.lent, lt-ltb t end_of_time a.below)

pub accepts : (u : Unit) (store : List ℕ) (t : ℕ) → (tick_of u store t).answer ≡ Ok tt → Accepts u store t
unfolding tick_of first_of
accepts u store t e = go (eqb (length store) store_length) refl (is_sound u && sound_store (held_of u.pool) store) refl (ltb t end_of_time) refl (ap is_ok e)
  where
    -- the row that applies, where the rows' tests are x, y and z
    first : (x y z : Bool) → Option Cause
    first x y z = cond (not x) (Some Cause.StoreLength) (cond (not y) (Some Cause.Unsound) (cond (not z) (Some Cause.Range) None))

    go : (x : Bool) → eqb (length store) store_length ≡ x
        → (y : Bool) → (is_sound u && sound_store (held_of u.pool) store) ≡ y
        → (z : Bool) → ltb t end_of_time ≡ z
        → is_ok (done_by (first x y z) (ticked store t u) u).answer ≡ true
        → Accepts u store t
    go false p y q z r f = absurd (false≢true f)
    go true p false q z r f = absurd (false≢true f)
    go true p true q false r f = absurd (false≢true f)
    go true p true q true r f =
        let w = both (is_sound u) (sound_store (held_of u.pool) store) q in
        record { long = eqb-true (length store) store_length p; good = record { unit = w.0; lent = w.1 }; below = ltb-true t end_of_time r }
