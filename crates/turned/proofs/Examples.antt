-- Examples that fix the direction: the first bytes of a turned month are its days' first half hours.
use Prim.Native.Nat.{ℕ}
use mathlib.Core.Path.{◌≡◌, refl}
use mathlib.Core.List.{List, [], ◌∷◌}
use lib.ListN.{get_or, take}
use Rattle.rules.specs.Turned.{listed, rearranged, turned, turned_back}

-- two days whose bytes are numbered from 0
two_days : List ℕ
unfolding listed
two_days = listed 96 0 (λ i. i)

-- the first half hours of both days, 0 and 48, then the second, 1 and 49
first-half_hours : take 6 (turned 2 two_days) ≡ 0 ∷ 48 ∷ 1 ∷ 49 ∷ 2 ∷ 50 ∷ []
unfolding listed rearranged two_days
first-half_hours = refl

-- the last byte stays; back, the first day's second half hour comes from place 2
last-stays : get_or (turned 2 two_days) 95 0 ≡ 95
unfolding listed rearranged two_days
last-stays = refl

second-half-hour : take 3 (turned_back 2 two_days) ≡ 0 ∷ 2 ∷ 4 ∷ []
unfolding listed rearranged two_days
second-half-hour = refl
