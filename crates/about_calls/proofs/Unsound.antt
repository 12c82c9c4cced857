-- A unit that is not sound: every call is refused, with unit and store as they were.
use Rattle.std.specs.Prelude.{Some}
use mathlib.Core.Path.{◌≡◌, refl, ap, ◌∙◌}
use mathlib.Core.Bool.{Bool, true, false, cond, not, ◌&&◌}
use mathlib.Core.List.{List, [], ◌∷◌, map}
use lib.Dec.{eqb}
use lib.ListN.{length}
use Rattle.rules.specs.Store.{store_length}
use Rattle.rules.specs.Table.{first_of}
use Rattle.rules.specs.Causes.{Reply}
use Rattle.rules.specs.Machine.{Call}
use Rattle.rules.specs.declared.Cause.{Cause}
use Rattle.unit.specs.Values.{is_sound}
use Rattle.calls.specs.Step.{State, step, replies, after}
use Rattle.about_calls.specs.Theorem.{lent, unsound_reply}
use Rattle.about_calls.specs.Refusals.{call_rows}
use Rattle.about_calls.proofs.Refusals.{rows_same, step-refuses}

module _ (s : State) (bad : is_sound s.unit ≡ false) where
  unsound-first : (c : Call) → first_of (call_rows c s) ≡ Some (cond (lent c && not (eqb (length s.store) store_length)) Cause.StoreLength Cause.Unsound)
  unfolding first_of call_rows
  unsound-first c = rw bad (go (lent c && not (eqb (length s.store) store_length)))
    where
      go : (t : Bool) → cond t (Some Cause.StoreLength) (Some Cause.Unsound) ≡ Some (cond t Cause.StoreLength Cause.Unsound)
      go true = refl
      go false = refl

  pub unsound-step : (c : Call) → step c s ≡ (unsound_reply s.store c, s)
  unsound-step c = step-refuses c s _ (rows_same c s ∙ unsound-first c)

  pub unsound_list : (cs : List Call) → (replies cs s ≡ map (unsound_reply s.store) cs) × (after cs s ≡ s)
  unfolding replies after
  unsound_list [] = (refl, refl)
  unsound_list (c ∷ cs) =
      let r = unsound_list cs in
      let e = unsound-step c in
      (rw e (ap (λ (l : List Reply). unsound_reply s.store c ∷ l) r.0), rw e r.1)
