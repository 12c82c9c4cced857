-- What a slot's ceiling says of its rate.
use Rattle.std.specs.Prelude.{Some, None, Option}
use Prim.Native.Nat.{ℕ}
use mathlib.Core.Path.{◌≡◌, refl, sym, ap, ◌∙◌}
use Rattle.rules.specs.Plant.{Settings, percent}
use Rattle.rules.specs.declared.Ceiling.{Ceiling}
use Rattle.ceiling.specs.Ceiling.{slot_ceiling}

module _ (s : Settings) where
  pub rated-some : (o : Option ℕ) (c : Ceiling) → slot_ceiling s o ≡ Some c → (o ≡ Some c.rate) × (c.percent ≡ percent s c.rate)
  rated-some None c e = absurd (cc)
  rated-some (Some q) c e =
      let same : record { rate = q; percent = percent s q } ≡ c = cc in
      let rate : q ≡ c.rate = ap (λ (x : Ceiling). x.rate) same in
      let of : percent s q ≡ c.percent = ap (λ (x : Ceiling). x.percent) same in
      (ap Some rate, sym of ∙ ap (percent s) rate)

  pub unrated-none : (o : Option ℕ) → slot_ceiling s o ≡ None → o ≡ None
  unrated-none None e = refl
  unrated-none (Some q) e = cc
