-- What the struct that C holds is worth: a unit goes into it and comes back as it was, a struct that is no unit's is refused as unsound, and a
-- refusal hands back the struct that came in.
use Rattle.std.specs.Prelude.{◌≡◌, true, false}
use Rattle.unit.specs.Values.{is_sound}
use Rattle.unit.specs.declared.Unit.{Unit}
use Rattle.unit.specs.Changed.{Done}
use Rattle.plant.specs.Plant.{is_kept, settings_of}
use Rattle.c_structs.specs.Held.{is_held_unit, opened, shut_of, handed}
use Rattle.c_structs.specs.declared.HeldUnit.{HeldUnit}

-- every unit converts to the struct and back to itself: `is_kept` says that its settings are u32, as those of every unit are
abbrev pub UnitBack : Type 0
UnitBack = (u : Unit) → is_kept (settings_of u.plant) ≡ true → opened (shut_of u) ≡ u

-- the structs that units convert to are those whose clock mark is 1, or 0 with second 0, and whose settings 32 bits hold
abbrev pub HeldByUnit : Type 0
HeldByUnit = (u : Unit) → is_kept (settings_of u.plant) ≡ true → is_held_unit (shut_of u) ≡ true

abbrev pub StructBack : Type 0
StructBack = (h : HeldUnit) → is_held_unit h ≡ true → shut_of (opened h) ≡ h

-- any other struct is opened as a unit that is not sound, so that every call refuses it with 4, or with 3 first
abbrev pub NoUnit : Type 0
NoUnit = (h : HeldUnit) → is_held_unit h ≡ false → is_sound (opened h) ≡ false

-- whatever a call on the opened unit did: where the number is a cause's, the struct is the very one that came in
abbrev pub RefusalHandsBack : Type 0
RefusalHandsBack = (h : HeldUnit) (d : Done) → ((handed h d).cause ≡ 0 → ⊥) → (handed h d).unit ≡ h
