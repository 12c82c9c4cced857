-- The struct that C holds: proofs of what specs/Handing says.
use Rattle.std.specs.Prelude.{Option, Some, None, Ok, Err}
use Prim.Native.Nat.{ℕ}
use mathlib.Core.Path.{◌≡◌, refl, ap, sym, ◌∙◌}
use mathlib.Core.Bool.{Bool, true, false, ◌&&◌, false≢true}
use lib.Dec.{eqb}
use borrow.Author.Tests.{eqb-true}
use Rattle.rules.specs.Causes.{Answer}
use Rattle.rules.specs.Store.{sound_clock}
use Rattle.laws.proofs.Tests.{both}
use Rattle.plant.specs.Plant.{kept_of, is_kept, settings_of}
use Rattle.plant.specs.declared.Settings.{Settings as Kept}
use Rattle.plant.proofs.Laws.{valid-facts, in-range-kept, narrowed-kept, kept_whole}
use Rattle.unit.specs.Values.{is_sound}
use Rattle.unit.specs.declared.Unit.{Unit}
use Rattle.unit.proofs.SoundParts.{sound-parts}
use Rattle.c_structs.specs.Held.{settings_in, settings_held, never, clock_from, mark_of, second_of, is_held_clock, is_held_unit, opened, shut_of, handed, handed_by}
use Rattle.c_structs.specs.Handing.{UnitBack, HeldByUnit, StructBack, NoUnit, RefusalHandsBack}
use Rattle.c_structs.specs.declared.HeldUnit.{HeldUnit}

clock-back : (c : Option ℕ) → clock_from (mark_of c) (second_of c) ≡ c
unfolding clock_from
clock-back None = refl
clock-back (Some t) = refl

pub unit-back : UnitBack
unfolding opened shut_of
unit-back u k = rw (clock-back u.clock, kept_whole (settings_of u.plant) k) refl

clock-held : (c : Option ℕ) → is_held_clock (mark_of c) (second_of c) ≡ true
unfolding is_held_clock
clock-held None = refl
clock-held (Some t) = refl

pub held-by-unit : HeldByUnit
unfolding shut_of is_held_unit
held-by-unit u k = rw (clock-held u.clock, k)

-- ---- a struct that a unit converts to comes back as it was

held-parts : (h : HeldUnit) → is_held_unit h ≡ true → (is_held_clock h.clock_set h.clock ≡ true) × (is_kept (settings_in h.settings) ≡ true)
unfolding is_held_unit
held-parts h e = both (is_held_clock h.clock_set h.clock) (is_kept (settings_in h.settings)) e

module _ (m s : ℕ) where
  abbrev Back : Type 0
  Back = (mark_of (clock_from m s) ≡ m) × (second_of (clock_from m s) ≡ s)

  fields-by : (a b : Bool) → eqb m 1 ≡ a → (eqb m 0 && eqb s 0) ≡ b → is_held_clock m s ≡ true → Back
  unfolding clock_from is_held_clock
  fields-by true b e k h = rw e (sym (eqb-true m 1 e), refl)
  fields-by false true e k h =
      let zeros = both (eqb m 0) (eqb s 0) k in
      rw (e, k) (sym (eqb-true m 0 zeros.0), sym (eqb-true s 0 zeros.1))
  fields-by false false e k h = absurd (false≢true (rw (e, k) at h))

  fields_back : is_held_clock m s ≡ true → Back
  fields_back h = fields-by (eqb m 1) (eqb m 0 && eqb s 0) refl refl h

  never-by : (a b : Bool) → eqb m 1 ≡ a → (eqb m 0 && eqb s 0) ≡ b → is_held_clock m s ≡ false → clock_from m s ≡ never
  unfolding clock_from is_held_clock
  never-by true b e k h = absurd (false≢true (sym (rw e at h)))
  never-by false true e k h = absurd (false≢true (sym (rw (e, k) at h)))
  never-by false false e k h = rw (e, k) refl

  never-from : is_held_clock m s ≡ false → clock_from m s ≡ never
  never-from h = never-by (eqb m 1) (eqb m 0 && eqb s 0) refl refl h

pub struct_back : StructBack
unfolding opened shut_of
struct_back h e =
    let held = held-parts h e in
    let back = fields_back h.clock_set h.clock held.0 in
    let settings = ap (λ (k : Kept). settings_held (kept_of k)) (kept_whole (settings_in h.settings) held.1) in
    rw (back.0, back.1, settings) refl

-- ---- any other struct is no sound unit

opened-clock : (h : HeldUnit) → (opened h).clock ≡ clock_from h.clock_set h.clock
unfolding opened
opened-clock h = refl

-- a sound unit's clock and settings are such as units have
module _ (h : HeldUnit) (sound : is_sound (opened h) ≡ true) where
  clock-such : is_held_clock h.clock_set h.clock ≡ true
  clock-such = go (is_held_clock h.clock_set h.clock) refl
    where
      go : (t : Bool) → is_held_clock h.clock_set h.clock ≡ t → is_held_clock h.clock_set h.clock ≡ true
      go true e = e
      go false e =
          let late : sound_clock ((opened h).clock) ≡ false = rw (opened-clock h, never-from h.clock_set h.clock e) refl in
          absurd (false≢true (sym late ∙ (sound-parts (opened h) sound).clock))

  settings-such : is_kept (settings_in h.settings) ≡ true
  unfolding opened
  settings-such = narrowed-kept (settings_in h.settings) (valid-facts (opened h).plant (sound-parts (opened h) sound).plant).settings

pub no-unit : NoUnit
unfolding is_held_unit
no-unit h e = go (is_sound (opened h)) refl
  where
    go : (t : Bool) → is_sound (opened h) ≡ t → is_sound (opened h) ≡ false
    go false k = k
    go true k = absurd (false≢true (sym e ∙ rw (clock-such h k, settings-such h k)))

-- ---- settings that no unit has

pub sound-kept : (u : Unit) → is_sound u ≡ true → is_kept (settings_of u.plant) ≡ true
sound-kept u e = in-range-kept (settings_of u.plant) (valid-facts u.plant (sound-parts u e).plant).settings

pub wide-held : (u : Unit) → is_kept (settings_of u.plant) ≡ false → is_held_unit (shut_of u) ≡ false
unfolding shut_of is_held_unit
wide-held u k = rw (clock-held u.clock, k)

-- ---- refusals

refusal-by : (a : Answer) (h : HeldUnit) (u : Unit) → ((handed_by a h u).cause ≡ 0 → ⊥) → (handed_by a h u).unit ≡ h
refusal-by (Ok tt) h u n = absurd (n refl)
refusal-by (Err c) h u n = refl

pub refusal-hands-back : RefusalHandsBack
unfolding handed
refusal-hands-back h d n = refusal-by d.answer h d.unit n
