-- What an equation between options says.
use Rattle.std.specs.Prelude.{Option, Some, None}
use mathlib.Core.Path.{◌≡◌}

pub some-injective : {A : Type 0} (a b : A) → Some a ≡ Some b → a ≡ b
some-injective a b e = cc

pub none-ne-some : {A : Type 0} (a : A) → ◌≡◌ {A = Option A} None (Some a) → ⊥
none-ne-some a e = cc

pub some-ne-none : {A : Type 0} (a : A) → ◌≡◌ {A = Option A} (Some a) None → ⊥
some-ne-none a e = cc
