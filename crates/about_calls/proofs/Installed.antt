-- From install to the theorem: what installing gives, and what every list of calls on it comes to.
use Rattle.std.specs.Prelude.{Ok, Err, None, Some}
use Prim.Native.Nat.{ℕ}
use mathlib.Core.Path.{◌≡◌, refl, sym, ap, ◌∙◌, subst}
use mathlib.Core.Bool.{Bool, true, false, cond, not, ◌&&◌}
use mathlib.Core.List.{List, []}
use Rattle.rules.specs.Plant.{Settings, plant_id, mac_address, valid_settings, installing}
use Rattle.rules.specs.Store.{fresh_values, block_count}
use Rattle.pool.specs.Blocks.{all_free}
use Rattle.rules.specs.Machine.{fresh_machine, replies as machine_replies, after as machine_after}
use Rattle.rules.specs.Table.{first_of}
use Rattle.rules.specs.Rows.{install_rows}
use Rattle.rules.specs.declared.Cause.{Cause}
use Rattle.about_files.proofs.Table.{answer-refuses, answer-given}
use Rattle.plant.specs.Plant.{settings_of, valid_plant, plant_of, no_plant, installed}
use Rattle.plant.specs.declared.Plant.{Plant}
use Rattle.plant.specs.declared.Installed.{Installed}
use Rattle.plant.proofs.Laws.{no-plant, refused_none, accepted-keeps, accepted-values}
use Rattle.pool.specs.Below.{all_below, bit}
use Rattle.pool.specs.Held.{held_below}
use Rattle.pool.proofs.BelowLaws.{all-at}
use Rattle.unit.specs.Values.{values_of, is_sound, fresh_unit, installed_unit}
use Rattle.unit.specs.Request.{request_of}
use Rattle.calls.specs.Step.{State, replies, after}
use Rattle.unit.specs.declared.Unit.{Unit}
use Rattle.unit.proofs.CallLaws.{sound_is}
use Rattle.about_calls.specs.Theorem.{fresh, Holds, installed_state, told_by, EveryListInstalled}
use Rattle.about_calls.specs.Installed.{InstallRefuses, InstallAccepts, SameValues, InstallFresh, RefusedInstall}
use Rattle.about_calls.proofs.EveryList.{every-list}
use Rattle.about_calls.proofs.Full.{answer_of, cause_in}
use Rattle.about_calls.proofs.Unsound.{unsound_list}

-- ---- 1 and 2

install-first : (id mac : List ℕ) (set : Settings) → (installed_unit id mac set).answer ≡ answer_of (first_of (install_rows id mac set))
unfolding installed_unit installed installing install_rows first_of
install-first id mac set = go (plant_id id) (mac_address mac && valid_settings set)
  where
    go : (x y : Bool) → cond x (cond y (Ok tt) (Err Cause.Setting)) (Err Cause.PlantId)
        ≡ answer_of (cond (not x) (Some Cause.PlantId) (cond (not y) (Some Cause.Setting) None))
    go true true = refl
    go true false = refl
    go false y = refl

pub install-refuses : InstallRefuses
unfolding install_rows
install-refuses id mac set k =
    rw (install-first id mac set) (answer-refuses Err (Ok tt) cause_in (λ c. refl) refl (install_rows id mac set) refl k)

pub install-accepts : InstallAccepts
install-accepts id mac set =
    rw (install-first id mac set) (answer-given Err (Ok tt) cause_in (λ c. refl) refl (install_rows id mac set))

-- ---- accepted: the fresh unit of a valid plant

module _ (id mac : List ℕ) (set : Settings) (e : (installed_unit id mac set).answer ≡ Ok tt) where
  pub fresh-of : (installed_unit id mac set).unit ≡ fresh_unit (plant_of id mac set)
  unfolding installed_unit installed
  fresh-of = ap (λ (r : Installed). fresh_unit r.plant) (accepted-keeps id mac set e)

  pub valid-of : valid_plant (plant_of id mac set) ≡ true
  unfolding installed_unit installed
  valid-of = accepted-values id mac set e

  pub state-of : (store : List ℕ) → installed_state id mac set store ≡ fresh (plant_of id mac set) store
  state-of store = ap (λ (u : Unit). record { unit = u; store = store }) fresh-of

pub every-list-installed : EveryListInstalled
every-list-installed id mac set e store cs =
    let w = told_by id set store in
    subst
    (λ (s : State). (replies cs s ≡ machine_replies w cs fresh_machine) × Holds (after cs s) (machine_after w cs fresh_machine))
    (sym (state-of id mac set e store))
    (every-list (plant_of id mac set) (valid-of id mac set e) store cs)

all-free : all_below block_count (bit all_free) ≡ true
unfolding all_below
all-free = refl

fresh-values : (p : Plant) → SameValues (values_of (fresh_unit p)) (fresh_values p.id p.mac (settings_of p))
unfolding values_of fresh_unit fresh_values held_below
fresh-values p = record {
  plant = refl;
  mac = refl;
  settings = refl;
  clock = refl;
  floor = refl;
  held = refl;
  free = λ b l. all-at block_count (bit all_free) all-free b l;
  requests = refl;
  command = refl;
}

pub install-fresh : InstallFresh
unfolding after
install-fresh id mac set e = record {
  unit = fresh-of id mac set e;
  values = subst (λ (u : Unit). SameValues (values_of u) (fresh_values id mac set)) (sym (fresh-of id mac set e)) (fresh-values (plant_of id mac set));
  valid = valid-of id mac set e;
  sound = (every-list-installed id mac set e [] []).1.unit;
}

-- ---- refused: a unit that every call refuses

pub none-sound : is_sound (fresh_unit no_plant) ≡ false
unfolding fresh_unit
none-sound = sound_is (fresh_unit no_plant) ∙ rw no-plant refl

pub refused-install : RefusedInstall
unfolding installed_unit installed request_of
refused-install id mac set k e store cs =
    let nothing : (installed id mac set).plant ≡ no_plant = ap (λ (r : Installed). r.plant) (refused_none id mac set k e) in
    let bad : is_sound (fresh_unit (installed id mac set).plant) ≡ false = rw nothing none-sound in
    let r = unsound_list (installed_state id mac set store) bad cs in
    (r.0, r.1, λ segment room. rw bad refl)
