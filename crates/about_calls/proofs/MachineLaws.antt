-- What the machine answers at each of its refusals, and where it accepts: one law for each.
use Rattle.std.specs.Prelude.{Option, None, Some}
use Prim.Native.Nat.{ℕ, zero, suc}
use mathlib.Core.Path.{◌≡◌, refl, ap, ◌∙◌}
use mathlib.Core.Bool.{Bool, true, false, ◌&&◌}
use mathlib.Core.List.{List, []}
use lib.Dec.{leb, ltb, eqb}
use Rattle.rules.specs.Plant.{last_digit}
use Rattle.rules.specs.Calendar.{end_of_time, slot_count, month_count}
use Rattle.rules.specs.Store.{store_length, block_count}
use Rattle.rules.specs.Causes.{accepted}
use Rattle.rules.specs.File.{File, Outcome, file}
use Rattle.rules.specs.Machine.{Machine, Told, tick, failure, due, ceiling_of, rate_of, is_held, any_file, count_below, held_count, ticked, with_file, is_status, failed, with_requests, due_of, ceiling_reply, refusal, check, at_clock, take_outcome, take_step, step, Step}
use Rattle.rules.specs.declared.Cause.{Cause}
use Rattle.rules.specs.declared.Kind.{Kind}

-- nothing is held where no file was taken
files-none : (M : Machine) (m : ℕ) → M.files ≡ [] → is_held M m ≡ false
unfolding is_held any_file
files-none M m e = ap (λ (fs : List File). leb M.floor m && any_file m fs) e ∙ go (leb M.floor m)
  where
    go : (t : Bool) → (t && any_file m []) ≡ false
    go true = refl
    go false = refl

count_none : (k : ℕ) (p : ℕ → Bool) → ((m : ℕ) → p m ≡ false) → count_below k p ≡ 0
unfolding count_below
count_none zero p h = refl
count_none (suc k) p h = rw (count_none k p h, h k) refl

pub held_none : (M : Machine) → M.files ≡ [] → held_count M ≡ 0
unfolding held_count
held_none M e = count_none month_count (is_held M) (λ m. files-none M m e)

module _ (w : Told) (M : Machine) where
  -- ---- due

  pub due-unset : M.clock ≡ None → step w due M ≡ refusal Cause.ClockUnset M
  unfolding step
  due-unset e = ap (λ (o : Option ℕ). at_clock o (λ t. (due_of w.settings (last_digit w.plant) t M.requests, M)) M) e

  pub due-set : (t : ℕ) → M.clock ≡ Some t → step w due M ≡ (due_of w.settings (last_digit w.plant) t M.requests, M)
  unfolding step
  due-set t e = ap (λ (o : Option ℕ). at_clock o (λ t. (due_of w.settings (last_digit w.plant) t M.requests, M)) M) e

  -- ---- failure

  module _ (kind : Kind) (status : ℕ) where
    abbrev reported : ℕ → Step
    reported t = check (is_status status) Cause.Range (accepted, with_requests (failed w.settings (last_digit w.plant) kind t status M.requests) M) M

    pub failure-unset : M.clock ≡ None → step w (failure kind status) M ≡ refusal Cause.ClockUnset M
    unfolding step
    failure-unset e = ap (λ (o : Option ℕ). at_clock o reported M) e

    pub failure-status : (t : ℕ) → M.clock ≡ Some t → is_status status ≡ false → step w (failure kind status) M ≡ refusal Cause.Range M
    unfolding step
    failure-status t e f =
        ap (λ (o : Option ℕ). at_clock o reported M) e
        ∙ ap (λ (b : Bool). check b Cause.Range (accepted, with_requests (failed w.settings (last_digit w.plant) kind t status M.requests) M) M) f

    pub failure-done : (t : ℕ) → M.clock ≡ Some t → is_status status ≡ true
        → step w (failure kind status) M ≡ (accepted, with_requests (failed w.settings (last_digit w.plant) kind t status M.requests) M)
    unfolding step
    failure-done t e f =
        ap (λ (o : Option ℕ). at_clock o reported M) e
        ∙ ap (λ (b : Bool). check b Cause.Range (accepted, with_requests (failed w.settings (last_digit w.plant) kind t status M.requests) M) M) f

  -- ---- tick

  module _ (t : ℕ) where
    pub tick-length : eqb w.store_length store_length ≡ false → step w (tick t) M ≡ refusal Cause.StoreLength M
    unfolding step
    tick-length e = ap (λ (b : Bool). check b Cause.StoreLength (check (ltb t end_of_time) Cause.Range (accepted, ticked w.settings t M) M) M) e

    module _ (l : eqb w.store_length store_length ≡ true) where
      lent-tick : step w (tick t) M ≡ check (ltb t end_of_time) Cause.Range (accepted, ticked w.settings t M) M
      unfolding step
      lent-tick = ap (λ (b : Bool). check b Cause.StoreLength (check (ltb t end_of_time) Cause.Range (accepted, ticked w.settings t M) M) M) l

      pub tick-range : ltb t end_of_time ≡ false → step w (tick t) M ≡ refusal Cause.Range M
      tick-range e = lent-tick ∙ ap (λ (b : Bool). check b Cause.Range (accepted, ticked w.settings t M) M) e

      pub tick-done : ltb t end_of_time ≡ true → step w (tick t) M ≡ (accepted, ticked w.settings t M)
      tick-done e = lent-tick ∙ ap (λ (b : Bool). check b Cause.Range (accepted, ticked w.settings t M) M) e

  -- ---- ceiling

  module _ (slot : ℕ) where
    abbrev asked : ℕ → Step
    asked t = check (ltb slot slot_count) Cause.Range (ceiling_reply w.settings (rate_of M slot), M) M

    pub ceiling-length : eqb w.store_length store_length ≡ false → step w (ceiling_of slot) M ≡ refusal Cause.StoreLength M
    unfolding step
    ceiling-length e = ap (λ (b : Bool). check b Cause.StoreLength (at_clock M.clock asked M) M) e

    module _ (l : eqb w.store_length store_length ≡ true) where
      lent-ceiling : (o : Option ℕ) → M.clock ≡ o → step w (ceiling_of slot) M ≡ at_clock o asked M
      unfolding step
      lent-ceiling o e = ap (λ (b : Bool). check b Cause.StoreLength (at_clock M.clock asked M) M) l ∙ ap (λ (o : Option ℕ). at_clock o asked M) e

      pub ceiling-unset : M.clock ≡ None → step w (ceiling_of slot) M ≡ refusal Cause.ClockUnset M
      ceiling-unset e = lent-ceiling None e

      pub ceiling-range : (t : ℕ) → M.clock ≡ Some t → ltb slot slot_count ≡ false → step w (ceiling_of slot) M ≡ refusal Cause.Range M
      ceiling-range t e f = lent-ceiling (Some t) e ∙ ap (λ (b : Bool). check b Cause.Range (ceiling_reply w.settings (rate_of M slot), M) M) f

      pub ceiling-done : (t : ℕ) → M.clock ≡ Some t → ltb slot slot_count ≡ true
          → step w (ceiling_of slot) M ≡ (ceiling_reply w.settings (rate_of M slot), M)
      ceiling-done t e f = lent-ceiling (Some t) e ∙ ap (λ (b : Bool). check b Cause.Range (ceiling_reply w.settings (rate_of M slot), M) M) f

  -- ---- what was read, taken

  module _ (o : Outcome) where
    abbrev outcome : ℕ → Step
    outcome t = take_outcome t o M

    pub take-length : eqb w.store_length store_length ≡ false → take_step w o M ≡ refusal Cause.StoreLength M
    take-length e = ap (λ (b : Bool). check b Cause.StoreLength (at_clock M.clock outcome M) M) e

    module _ (l : eqb w.store_length store_length ≡ true) where
      lent-take : (c : Option ℕ) → M.clock ≡ c → take_step w o M ≡ at_clock c outcome M
      lent-take c e = ap (λ (b : Bool). check b Cause.StoreLength (at_clock M.clock outcome M) M) l ∙ ap (λ (x : Option ℕ). at_clock x outcome M) e

      pub take-unset : M.clock ≡ None → take_step w o M ≡ refusal Cause.ClockUnset M
      take-unset e = lent-take None e

      pub take-outcome : (t : ℕ) → M.clock ≡ Some t → take_step w o M ≡ take_outcome t o M
      take-outcome t e = lent-take (Some t) e

  module _ (l : eqb w.store_length store_length ≡ true) (t : ℕ) (set : M.clock ≡ Some t) (f : File) where
    room : (b : Bool) → leb (held_count (with_file t f M)) block_count ≡ b → take_step w (file f) M ≡ check b Cause.Full (accepted, with_file t f M) M
    room b k = take-outcome (file f) l t set ∙ ap (λ (x : Bool). check x Cause.Full (accepted, with_file t f M) M) k

    pub take-full : leb (held_count (with_file t f M)) block_count ≡ false → take_step w (file f) M ≡ refusal Cause.Full M
    take-full = room false

    pub take_done : leb (held_count (with_file t f M)) block_count ≡ true → take_step w (file f) M ≡ (accepted, with_file t f M)
    take_done = room true
