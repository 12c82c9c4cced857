-- The auditor's sentence for C: the unit's, and what C holds stands for the unit that the list leaves.
use Prim.Native.Nat.{ℕ}
use mathlib.Core.Path.{◌≡◌, sym, ap, ◌∙◌, subst, subst₂}
use mathlib.Core.List.{[], ◌∷◌}
use mathlib.Core.Bool.{true}
use lib.ListN.{length}
use Rattle.rules.specs.Machine.{Machine, Call, fresh_machine, step as machine_step, after as machine_after}
use Rattle.plant.specs.Plant.{is_kept, settings_of, valid_plant, plant_of}
use Rattle.plant.specs.declared.Plant.{Plant}
use Rattle.plant.proofs.Laws.{valid-facts, in-range-kept, accepted-values}
use Rattle.calls.specs.Step.{State, step, after}
use Rattle.unit.specs.declared.Unit.{Unit}
use Rattle.c_structs.proofs.Handing.{unit-back}
use Rattle.about_calls.specs.Theorem.{fresh, told_by}
use Rattle.about_calls.specs.Apart.{Matched, Stays, Moved}
use Rattle.about_calls_c.specs.Lists.{HeldState, shut_state, held_step, held_after}
use Rattle.about_calls_c.specs.ApartFromC.{opened_state, held_from, machine_from, MatchedFromC}
use Rattle.about_calls.proofs.Follows.{Follows}
use Rattle.about_calls.proofs.EveryList.{fresh-follows, call_step, list_follows}
use Rattle.about_calls_c.proofs.Lists.{same-from-c}
use Rattle.about_calls_c.proofs.FromC.{accepts, installed-from-c}
use Rattle.about_calls.proofs.Apart.{months-matched}

-- a struct stands for the unit that it was made of, where its plant is the valid one that a machine was told
opened-shut : (p : Plant) → valid_plant p ≡ true → (n : ℕ) (s : State) (M : Machine) → Follows p n s M → opened_state (shut_state s) ≡ s
opened-shut p valid n s M h =
    let kept : is_kept (settings_of s.unit.plant) ≡ true = rw h.plant (in-range-kept (settings_of p) (valid-facts p valid).settings) in
    ap (λ (u : Unit). record { unit = u; store = s.store }) (unit-back s.unit kept)

-- and so after a call
step-shut : (c : Call) (s : State) → (held_step c (shut_state s)).1 ≡ shut_state (step c s).1
unfolding held_after after
step-shut c s = (same-from-c (c ∷ []) s).1

pub matched-from-c : MatchedFromC
matched-from-c id mac set zero store cs =
    let p = plant_of id mac set in
    let n = length store in
    let s : State = after cs (fresh p store) in
    let M = machine_from id set store cs in
    let valid = accepted-values id mac set (accepts id mac set zero) in
    let follows = (list_follows p valid n cs (fresh p store) fresh_machine (fresh-follows p valid store)).1 in
    let all = months-matched p valid store cs in
    let at : held_from id mac set store cs ≡ shut_state s = (installed-from-c id mac set zero store cs).1 in
    let is : opened_state (held_from id mac set store cs) ≡ s = ap opened_state at ∙ opened-shut p valid n s M follows in (
      subst (λ (t : State). Matched t M) (sym is) all.0,
      λ c.
          let next : opened_state (held_step c (held_from id mac set store cs)).1 ≡ (step c s).1 =
          ap (λ (h : HeldState). opened_state (held_step c h).1) at ∙ ap opened_state (step-shut c s) ∙ opened-shut p valid n (step c s).1 _ (call_step p valid n s M follows c).1 in
          subst₂ (λ (t u : State). Moved t u M (machine_step (told_by id set store) c M).1) (sym is) (sym next) (all.1 c),
      λ ds.
          let last : opened_state (held_after ds (held_from id mac set store cs)) ≡ after ds s =
          ap (λ (h : HeldState). opened_state (held_after ds h)) at ∙ ap opened_state (same-from-c ds s).1 ∙ opened-shut p valid n (after ds s) _ (list_follows p valid n ds s M follows).1 in
          subst₂ (λ (t u : State). Stays t u M (machine_after (told_by id set store) ds M)) (sym is) (sym last) (all.2 ds),
    )
