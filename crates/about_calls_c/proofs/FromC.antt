-- The theorem for C: the unit's, and the list from C is the unit's; from jag_install on, accepted or refused.
use Rattle.std.specs.Prelude.{Ok, Err}
use Prim.Native.Nat.{ℕ}
use mathlib.Core.Path.{◌≡◌, refl, ap, ◌∙◌}
use mathlib.Core.Bool.{true}
use mathlib.Core.List.{List}
use native.Mathlib.Omega.{arith}
use Rattle.rules.specs.Causes.{Answer}
use Rattle.rules.specs.Causes.{number_of}
use Rattle.rules.specs.Plant.{Settings, installing}
use Rattle.about_files.proofs.Causes.{numbered}
use Rattle.plant.specs.Plant.{is_kept, settings_of, plant_of, no_plant, installed}
use Rattle.plant.specs.declared.Installed.{Installed}
use Rattle.plant.specs.declared.Plant.{Plant}
use Rattle.plant.proofs.Laws.{accepted-keeps, accepted-values}
use Rattle.unit.specs.Values.{fresh_unit, installed_unit}
use Rattle.c_structs.specs.Held.{shut_of, newly}
use Rattle.c_structs.proofs.Handing.{unit-back}
use Rattle.about_calls_c.specs.Lists.{held_install}
use Rattle.about_calls.specs.Theorem.{fresh}
use Rattle.about_calls_c.specs.FromC.{EveryListFromC, InstalledFromC, UnsoundFromC, RefusedFromC}
use Rattle.about_calls_c.proofs.Lists.{same-from-c}
use Rattle.about_calls_c.proofs.Unsound.{all-refused}
use Rattle.about_calls.proofs.EveryList.{every-list}
use Rattle.about_calls.proofs.Installed.{none-sound}

pub every-list-from-c : EveryListFromC
every-list-from-c p valid store cs =
    let same = same-from-c cs (fresh p store) in
    let held = every-list p valid store cs in
    (same.0 ∙ held.0, same.1, held.1)

-- ---- jag_install

module _ (id mac : List ℕ) (set : Settings) where
  -- what it hands out is the fresh unit of the plant that was kept
  hands : (p : Plant) → (installed id mac set).plant ≡ p → (held_install id mac set).unit ≡ shut_of (fresh_unit p)
  unfolding newly installed_unit
  hands p e = ap (λ (q : Plant). shut_of (fresh_unit q)) e

  pub accepts : (held_install id mac set).cause ≡ 0 → installing id mac set ≡ Ok tt
  unfolding newly installed_unit installed
  accepts zero = go (installing id mac set) refl
    where
      go : (a : Answer) → installing id mac set ≡ a → installing id mac set ≡ Ok tt
      go (Ok tt) e = e
      go (Err c) e = let z : number_of c ≡ 0 = rw e at zero in absurd (omega (arith, (numbered c).0))

  refuses : ((held_install id mac set).cause ≡ 0 → ⊥) → (installed id mac set).plant ≡ no_plant
  unfolding newly installed_unit installed
  refuses other = go (installing id mac set) refl
    where
      go : (a : Answer) → installing id mac set ≡ a → (installed id mac set).plant ≡ no_plant
      go (Ok tt) e = absurd (other (rw e))
      go (Err c) e = rw e

pub installed-from-c : InstalledFromC
installed-from-c id mac set zero store cs =
    let a = accepts id mac set zero in
    let p = plant_of id mac set in
    let unit : (held_install id mac set).unit ≡ shut_of (fresh_unit p) = hands id mac set p (ap (λ (r : Installed). r.plant) (accepted-keeps id mac set a)) in
    rw unit (every-list-from-c p (accepted-values id mac set a) store cs)

-- ---- structs that stand for no sound unit

pub unsound-from-c : UnsoundFromC
unsound-from-c u bad store = all-refused u bad store

none_kept : is_kept (settings_of (fresh_unit no_plant).plant) ≡ true
unfolding fresh_unit is_kept
none_kept = refl

pub refused-from-c : RefusedFromC
refused-from-c id mac set other store =
    let unit : (held_install id mac set).unit ≡ shut_of (fresh_unit no_plant) = hands id mac set no_plant (refuses id mac set other) in
    rw unit (unsound-from-c (shut_of (fresh_unit no_plant)) (rw (unit-back (fresh_unit no_plant) none_kept) none-sound) store)
