-- Values that may be missing, and numbers that a test compared.
use Rattle.laws.proofs.Options.{some-injective, none-ne-some, some-ne-none}
use Rattle.std.specs.Prelude.{Option, None, Some}
use Prim.Native.Nat.{ℕ}
use mathlib.Core.Bool.{Bool, true, false, true≢false}
use lib.Dec.{eqb}
use borrow.Author.Tests.{eqb-true, eqb-false}
use mathlib.Core.Path.{◌≡◌, sym, ◌∙◌}

pub none-some : (d : ℕ) → ◌≡◌ {A = Option ℕ} None (Some d) → ⊥
none-some d e = none-ne-some d e

pub some-none : (d : ℕ) → ◌≡◌ {A = Option ℕ} (Some d) None → ⊥
some-none d e = some-ne-none d e

pub some_same : (c d : ℕ) → ◌≡◌ {A = Option ℕ} (Some c) (Some d) → c ≡ d
some_same c d e = some-injective c d e

pub test-same : (a b : ℕ) → eqb a b ≡ true → a ≡ b
test-same a b e = eqb-true a b e

pub test_other : (a b : ℕ) → eqb a b ≡ false → a ≡ b → ⊥
test_other a b e = eqb-false a b e

pub not-both : (b : Bool) → b ≡ true → b ≡ false → ⊥
not-both b e f = true≢false (sym e ∙ f)
