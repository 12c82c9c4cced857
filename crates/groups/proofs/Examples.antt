-- Examples of the groups' order, of the longest number, and of each way to break the form.
use Rattle.std.specs.Prelude.{None, Some}
use Prim.Native.Nat.{◌-◌, ◌^◌}
use mathlib.Core.Path.{◌≡◌, refl}
use mathlib.Core.List.{[], ◌∷◌}
use Rattle.rules.specs.Groups.{groups, groups_in, parse_in, parse_groups}

-- 300 is 2 * 128 + 44: the low group comes first
low_first : groups 300 ≡ 172 ∷ 2 ∷ []
unfolding groups groups_in
low_first = refl

longest : groups (2 ^ 35 - 1) ≡ 255 ∷ 255 ∷ 255 ∷ 255 ∷ 127 ∷ []
unfolding groups groups_in
longest = refl

read-with-rest : parse_groups (172 ∷ 2 ∷ 7 ∷ []) ≡ Some (300, 7 ∷ [])
unfolding parse_in
read-with-rest = refl

cut : parse_groups (172 ∷ []) ≡ None
unfolding parse_in
cut = refl

-- 0 in one group is the shortest form, 44 in two is not
zero-alone : parse_groups (0 ∷ []) ≡ Some (0, [])
unfolding parse_in
zero-alone = refl

not-shortest : parse_groups (172 ∷ 0 ∷ []) ≡ None
unfolding parse_in
not-shortest = refl

six-groups : parse_groups (128 ∷ 128 ∷ 128 ∷ 128 ∷ 128 ∷ 1 ∷ []) ≡ None
unfolding parse_in
six-groups = refl
