-- The first row that applies is the lowest: `first-lowest` and `first-none`, of any rows whose places rise.
use Rattle.laws.proofs.Options.{some-injective, none-ne-some, some-ne-none}
use Rattle.std.specs.Prelude.{Option, None, Some}
use Prim.Native.Nat.{ℕ, suc, ◌<◌}
use mathlib.Core.Path.{◌≡◌, ◌∙◌, refl, sym, ap, subst}
use mathlib.Core.Bool.{Bool, true, false, cond, ◌&&◌, ◌||◌, false≢true}
use mathlib.Core.List.{List, [], ◌∷◌, ◌++◌}
use mathlib.Core.Logic.Iff
use mathlib.Core.Logic.{◌↔◌}
use native.Mathlib.Omega.{arith}
use lib.Dec.{leb, ltb}
use borrow.Author.Tests.{leb-true, ltb-true, ltb-false, eqb-true, eq-eqb}
use Rattle.rules.specs.Causes.{number_of}
use Rattle.rules.specs.Table.{Row, first_of, place_of, is_cause, applies_in, Lowest}
use Rattle.rules.specs.declared.Cause.{Cause}
use Rattle.laws.proofs.Tests.{both, neither}
use Rattle.about_files.proofs.Causes.{same-cause}

-- the rows' places rise, from k on
abbrev pub rising_from : ℕ → List Row → Bool
rising_from k [] = true
rising_from k (r ∷ rs) = leb k (place_of r.cause) && rising_from (suc (place_of r.cause)) rs

abbrev pub rising : List Row → Bool
rising rows = rising_from 0 rows

is_itself : (c : Cause) → is_cause c c ≡ true
is_itself c = eq-eqb (number_of c) (number_of c) refl

is_same : (c d : Cause) → is_cause c d ≡ true → c ≡ d
is_same c d e = same-cause c d (eqb-true (number_of c) (number_of d) e)

-- causes of two places are two
is_other : (c d : Cause) → place_of d < place_of c → is_cause c d ≡ false
is_other c d l = go (is_cause c d) refl
  where
    go : (t : Bool) → is_cause c d ≡ t → t ≡ false
    go true e = let p = ap place_of (is_same c d e) in absurd (omega arith)
    go false e = refl

-- ---- none applies

pub first-none : (rows : List Row) → (first_of rows ≡ None) ↔ ((c : Cause) → applies_in rows c ≡ false)
unfolding first_of applies_in
first-none [] = (λ e c. refl, λ h. refl)
first-none (r ∷ rs) = go r.applies (first-none rs)
  where
    go : (t : Bool) → (first_of rs ≡ None) ↔ ((c : Cause) → applies_in rs c ≡ false)
        → (cond t (Some r.cause) (first_of rs) ≡ None) ↔ ((c : Cause) → (t && is_cause r.cause c || applies_in rs c) ≡ false)
    go true i =
        (λ e. absurd (some-ne-none r.cause e), λ h. absurd (false≢true (sym (neither _ _ (h r.cause)).0 ∙ is_itself r.cause)))
    go false i = i

-- ---- the first that applies

-- rows from place k on have no cause of an earlier place
none-earlier : (k : ℕ) (rows : List Row) → rising_from k rows ≡ true → (d : Cause) → place_of d < k → applies_in rows d ≡ false
unfolding applies_in
none-earlier k [] e d l = refl
none-earlier k (r ∷ rs) e d l =
    let p = both (leb k (place_of r.cause)) (rising_from (suc (place_of r.cause)) rs) e in
    let m = leb-true k (place_of r.cause) p.0 in
    go r.applies (is_other r.cause d (omega arith)) (none-earlier (suc (place_of r.cause)) rs p.1 d (omega arith))
  where
    go : (t : Bool) → is_cause r.cause d ≡ false → applies_in rs d ≡ false → (t && is_cause r.cause d || applies_in rs d) ≡ false
    go true e f = rw e f
    go false e f = f

module _ (r : Row) (rs : List Row) (rise : rising_from (suc (place_of r.cause)) rs ≡ true) where
  passed : r.applies ≡ false → (d : Cause) → applies_in (r ∷ rs) d ≡ applies_in rs d
  unfolding applies_in
  passed p d = rw p refl

  given : r.applies ≡ true → Lowest (r ∷ rs) r.cause
  unfolding applies_in
  given p = record {
    holds = rw (p, is_itself r.cause) refl;
    least = λ d l. rw (p, is_other r.cause d l) (none-earlier (suc (place_of r.cause)) rs rise d (omega arith));
  }

  -- where the first row applies, no other is the lowest
  only : r.applies ≡ true → (c : Cause) → Lowest (r ∷ rs) c → r.cause ≡ c
  unfolding applies_in
  only p c h = go (is_cause r.cause c) refl (ltb (place_of r.cause) (place_of c)) refl
    where
      go : (t : Bool) → is_cause r.cause c ≡ t → (u : Bool) → ltb (place_of r.cause) (place_of c) ≡ u → r.cause ≡ c
      go true e u l = is_same r.cause c e
      go false e true l = absurd (false≢true (sym (h.least r.cause (ltb-true _ _ l)) ∙ (given p).holds))
      go false e false l =
          let m = ltb-false (place_of r.cause) (place_of c) l in
          let other : applies_in rs c ≡ true = rw (p, e) at h.holds in
          absurd (false≢true (sym (none-earlier (suc (place_of r.cause)) rs rise c (omega arith)) ∙ other))

  -- where it does not, the lowest are those of the others
  same-lowest : r.applies ≡ false → (c : Cause) → Lowest (r ∷ rs) c ↔ Lowest rs c
  same-lowest p c = (
    λ h. record { holds = sym (passed p c) ∙ h.holds; least = λ d l. sym (passed p d) ∙ h.least d l },
    λ h. record { holds = passed p c ∙ h.holds; least = λ d l. passed p d ∙ h.least d l },
  )

first-from : (k : ℕ) (rows : List Row) → rising_from k rows ≡ true → (c : Cause) → (first_of rows ≡ Some c) ↔ Lowest rows c
unfolding first_of applies_in
first-from k [] rise c = (λ e. absurd (none-ne-some c e), λ h. absurd (false≢true h.holds))
first-from k (r ∷ rs) rise c = go r.applies refl (first-from (suc (place_of r.cause)) rs more c)
  where
    more : rising_from (suc (place_of r.cause)) rs ≡ true
    more = (both (leb k (place_of r.cause)) (rising_from (suc (place_of r.cause)) rs) rise).1

    go : (t : Bool) → r.applies ≡ t → (first_of rs ≡ Some c) ↔ Lowest rs c
        → (cond t (Some r.cause) (first_of rs) ≡ Some c) ↔ Lowest (r ∷ rs) c
    go true p i =
        (λ e. subst (Lowest (r ∷ rs)) (some-injective r.cause c e) (given r rs more p), λ h. ap Some (only r rs more p c h))
    go false p i = Iff.trans i (Iff.symm (same-lowest r rs more p c))

-- the first row that applies is the lowest one
pub first-lowest : (rows : List Row) → rising rows ≡ true → (c : Cause) → (first_of rows ≡ Some c) ↔ Lowest rows c
first-lowest rows rise c = first-from 0 rows rise c

-- ---- rows that others follow

pub first-before : (rows more : List Row) (c : Cause) → first_of rows ≡ Some c → first_of (rows ++ more) ≡ Some c
unfolding first_of
first-before [] more c e = absurd (none-ne-some c e)
first-before (r ∷ rs) more c e = go r.applies e (first-before rs more c)
  where
    go : (t : Bool) → cond t (Some r.cause) (first_of rs) ≡ Some c → (first_of rs ≡ Some c → first_of (rs ++ more) ≡ Some c)
        → cond t (Some r.cause) (first_of (rs ++ more)) ≡ Some c
    go true p next = p
    go false p next = next p

pub first-after : (rows more : List Row) → first_of rows ≡ None → first_of (rows ++ more) ≡ first_of more
unfolding first_of
first-after [] more e = refl
first-after (r ∷ rs) more e = go r.applies e (first-after rs more)
  where
    go : (t : Bool) → cond t (Some r.cause) (first_of rs) ≡ None → (first_of rs ≡ None → first_of (rs ++ more) ≡ first_of more)
        → cond t (Some r.cause) (first_of (rs ++ more)) ≡ first_of more
    go true p next = absurd (some-ne-none r.cause p)
    go false p next = next p

-- ---- an answer that the rows decide

-- the refusal with the cause, where there is one
abbrev pub answer_by : {A : Type 0} → (Cause → A) → A → Option Cause → A
answer_by refusal answer None = answer
answer_by refusal answer (Some c) = refusal c

-- `cause_of` tells the refusals from the answer, and one from another
module _ {A : Type 0} (refusal : Cause → A) (answer : A) (cause_of : A → Option Cause)
    (Some-of : (c : Cause) → cause_of (refusal c) ≡ Some c) (none_of : cause_of answer ≡ None) where
  cause-is : (o : Option Cause) → cause_of (answer_by refusal answer o) ≡ o
  cause-is None = none_of
  cause-is (Some c) = Some-of c

  pub answer-refuses : (rows : List Row) → rising rows ≡ true → (c : Cause) → (answer_by refusal answer (first_of rows) ≡ refusal c) ↔ Lowest rows c
  answer-refuses rows rise c =
      Iff.trans (λ e. sym (cause-is (first_of rows)) ∙ ap cause_of e ∙ Some-of c, λ e. ap (answer_by refusal answer) e) (first-lowest rows rise c)

  pub answer-given : (rows : List Row) → (answer_by refusal answer (first_of rows) ≡ answer) ↔ ((c : Cause) → applies_in rows c ≡ false)
  answer-given rows = Iff.trans (λ e. sym (cause-is (first_of rows)) ∙ ap cause_of e ∙ none_of, λ e. ap (answer_by refusal answer) e) (first-none rows)
