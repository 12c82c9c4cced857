-- A list of calls on every pool and store that show one view: one list of replies, and one view afterwards. By induction over the list.
use mathlib.Core.Path.{◌≡◌, refl, ap, ◌∙◌}
use mathlib.Core.List.{List, [], ◌∷◌}
use Rattle.rules.specs.Causes.{Reply}
use Rattle.rules.specs.Machine.{Call, tick, clock_lost, file_taken, response_taken, failure, due, ceiling_of, command, free_blocks}
use Rattle.schedule.specs.Stored.{Stored}
use Rattle.about_store.proofs.View.{View, Shows}
use Rattle.about_store.proofs.Shown.{Plain}
use Rattle.calls.specs.Step.{State, Step, replies, after}
use Rattle.about_alike.proofs.Outcomes.{Beside, Good, made, Outcome}
use Rattle.about_alike.proofs.Questions.{command-outcome, free-outcome, due-outcome, ceiling-outcome, lost-outcome, failure-outcome}
use Rattle.about_alike.proofs.Ticking.{tick-outcome}
use Rattle.about_alike.proofs.Taking.{take-outcome, response-outcome}

-- every call
pub call_outcome : (c : Call) (r : Beside) (v : View) → Good r → Plain v → Outcome c r v
call_outcome (tick t) r v good plain = tick-outcome r v good plain t
call_outcome clock_lost r v good plain = lost-outcome r v good plain
call_outcome (file_taken name body) r v good plain = take-outcome r v good plain name body
call_outcome (response_taken boundary bytes) r v good plain = response-outcome r v good plain boundary bytes
call_outcome (failure kind status) r v good plain = failure-outcome r v good plain kind status
call_outcome due r v good plain = due-outcome r v good plain
call_outcome (ceiling_of slot) r v good plain = ceiling-outcome r v good plain slot
call_outcome command r v good plain = command-outcome r v good plain
call_outcome free_blocks r v good plain = free-outcome r v good plain

-- a state from which a list of calls came to the replies, and to what r and v show
pub record AllShown (cs : List Call) (s : State) (all : List Reply) (r : Beside) (v : View) : Type 0 where
  pub stored : Stored
  pub answers : replies cs s ≡ all
  pub is : after cs s ≡ made r v stored
  pub shows : Shows stored v

-- one for all that show v
pub record Outcomes (cs : List Call) (r : Beside) (v : View) : Type 0 where
  pub all : List Reply
  pub beside : Beside
  pub view : View
  pub good : Good beside
  pub plain : Plain view
  pub each : (st : Stored) → Shows st v → AllShown cs (made r v st) all beside view

pub list_outcomes : (cs : List Call) (r : Beside) (v : View) → Good r → Plain v → Outcomes cs r v
unfolding replies after
list_outcomes [] r v good plain = record {
  all = [];
  beside = r;
  view = v;
  good = good;
  plain = plain;
  each = λ st h. record { stored = st; answers = refl; is = refl; shows = h };
}
list_outcomes (c ∷ cs) r v good plain =
    let a = call_outcome c r v good plain in
    let b = list_outcomes cs a.beside a.view a.good a.plain in
    record {
      all = a.reply ∷ b.all;
      beside = b.beside;
      view = b.view;
      good = b.good;
      plain = b.plain;
      each = λ st h.
          let x = a.each st h in
          let y = b.each x.stored x.shows in
          record {
            stored = y.stored;
            answers = ap (λ (z : Step). z.0 ∷ replies cs z.1) x.is ∙ ap (λ (l : List Reply). a.reply ∷ l) y.answers;
            is = ap (λ (z : Step). after cs z.1) x.is ∙ y.is;
            shows = y.shows;
          };
    }
