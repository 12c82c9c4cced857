-- The numbers of the causes: no two have the same, none is 0 and none has three digits. One computed test over the enum's variants, in their order.
use Prim.Native.Nat.{ℕ, suc, ◌<◌, ◌≤◌}
use mathlib.Core.Path.{◌≡◌, ◌∙◌, refl, sym, ap}
use mathlib.Core.Bool.{Bool, true, false, ◌&&◌, false≢true}
use mathlib.Core.List.{List, [], ◌∷◌}
use mathlib.Core.Logic.{inl, inr}
use native.Mathlib.Omega.{arith}
use lib.Dec.{leb}
use borrow.Author.Tests.{leb-true}
use denote.Struct.Field.{Field}
use denote.Enum.Declared.{Choice}
use Rattle.rules.specs.contracts.Cause.{the_parts as parts, as_values, the_make as make, the_eta as eta}
use Rattle.rules.specs.Causes.{number_of}
use Rattle.rules.specs.declared.Cause.{Cause}
use Rattle.laws.proofs.Tests.{both}

-- the variants hold nothing, and their numbers rise from k on, to less than m
abbrev rises : (ps : List (List Field)) → (Choice ps → ℕ) → ℕ → ℕ → Bool
rises [] number k m = leb k m
rises ([] ∷ ps) number k m = leb k (number (inl tt)) && rises ps (λ x. number (inr x)) (suc (number (inl tt))) m
rises ((f ∷ fs) ∷ ps) number k m = false

module _ (m : ℕ) where
  split : (ps : List (List Field)) (number : Choice ([] ∷ ps) → ℕ) (k : ℕ) → rises ([] ∷ ps) number k m ≡ true
      → (k ≤ number (inl tt)) × (rises ps (λ x. number (inr x)) (suc (number (inl tt))) m ≡ true)
  split ps number k r =
      let p = both (leb k (number (inl tt))) (rises ps (λ x. number (inr x)) (suc (number (inl tt))) m) r in
      (leb-true k (number (inl tt)) p.0, p.1)

  to_end : (ps : List (List Field)) (number : Choice ps → ℕ) (k : ℕ) → rises ps number k m ≡ true → k ≤ m
  to_end [] number k r = leb-true k m r
  to_end ([] ∷ ps) number k r =
      let p = split ps number k r in
      let l = to_end ps (λ x. number (inr x)) (suc (number (inl tt))) p.1 in
      omega arith
  to_end ((f ∷ fs) ∷ ps) number k r = absurd (false≢true r)

  within : (ps : List (List Field)) (number : Choice ps → ℕ) (k : ℕ) → rises ps number k m ≡ true → (x : Choice ps) → (k ≤ number x) × (number x < m)
  within [] number k r x = absurd x
  within ([] ∷ ps) number k r (inl x) =
      let p = split ps number k r in
      (p.0, to_end ps (λ y. number (inr y)) (suc (number (inl tt))) p.1)
  within ([] ∷ ps) number k r (inr x) =
      let p = split ps number k r in
      let l = within ps (λ y. number (inr y)) (suc (number (inl tt))) p.1 x in
      (omega arith, l.1)
  within ((f ∷ fs) ∷ ps) number k r x = absurd (false≢true r)

  one-to-one : (ps : List (List Field)) (number : Choice ps → ℕ) (k : ℕ) → rises ps number k m ≡ true → (x y : Choice ps) → number x ≡ number y → x ≡ y
  one-to-one [] number k r x y e = absurd x
  one-to-one ([] ∷ ps) number k r (inl x) (inl y) e = refl
  one-to-one ([] ∷ ps) number k r (inl x) (inr y) e =
      let l = within ps (λ z. number (inr z)) (suc (number (inl tt))) (split ps number k r).1 y in
      absurd (omega arith)
  one-to-one ([] ∷ ps) number k r (inr x) (inl y) e =
      let l = within ps (λ z. number (inr z)) (suc (number (inl tt))) (split ps number k r).1 x in
      absurd (omega arith)
  one-to-one ([] ∷ ps) number k r (inr x) (inr y) e =
      ap inr (one-to-one ps (λ z. number (inr z)) (suc (number (inl tt))) (split ps number k r).1 x y e)
  one-to-one ((f ∷ fs) ∷ ps) number k r x y e = absurd (false≢true r)

-- ---- the causes

causes_rise : rises parts (λ x. number_of (make x)) 1 100 ≡ true
causes_rise = refl

pub numbered : (c : Cause) → (1 ≤ number_of c) × (number_of c < 100)
numbered c = rw (eta c) at (within 100 parts (λ x. number_of (make x)) 1 causes_rise (as_values c))

pub same-cause : (c d : Cause) → number_of c ≡ number_of d → c ≡ d
same-cause c d e =
    sym (eta c)
    ∙ ap make
    (one-to-one 100 parts (λ x. number_of (make x)) 1 causes_rise (as_values c) (as_values d) (ap number_of (eta c) ∙ e ∙ sym (ap number_of (eta d))))
    ∙ eta d
