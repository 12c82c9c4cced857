-- Ticks: the command at a second, and that one tick over n seconds is n ticks of one second.
use Rattle.rules.specs.Causes.{Answer}
use Rattle.std.specs.Prelude.{ℕ, zero, suc, ◌+◌, ◌≤◌, ◌≡◌, List, [], ◌∷◌, replicate, Option, Some, None, Ok}
use Rattle.ramp.specs.Command.{command_after}
use Rattle.unit.specs.Calls.{tick_of}
use Rattle.unit.specs.declared.Unit.{Unit}

-- the command at second t, over the seconds since the clock; it stays where there are none
abbrev pub command_at : Option ℕ → Unit → List ℕ → ℕ → ℕ
command_at None u store t = u.command
command_at (Some c) u store t = command_after u.plant u.pool store c t u.command

-- n ticks of one second each, after second c: the unit that the last one returned, and the answers
unfoldable pub tick_each : List ℕ → ℕ → ℕ → Unit → Unit
tick_each store zero c u = u
tick_each store (suc n) c u = tick_each store n (suc c) (tick_of u store (suc c)).unit

unfoldable pub tick_answers : List ℕ → ℕ → ℕ → Unit → List Answer
tick_answers store zero c u = []
tick_answers store (suc n) c u = (tick_of u store (suc c)).answer ∷ tick_answers store n (suc c) (tick_of u store (suc c)).unit

-- one tick over n seconds that is accepted ends in the unit in which n ticks of one second end, and each of these is accepted
pub record OneTick (u : Unit) (store : List ℕ) (c n : ℕ) : Type 0 where
  pub unit : (tick_of u store (c + n)).unit ≡ tick_each store n c u
  pub answers : tick_answers store n c u ≡ replicate n (Ok tt)

abbrev pub TicksAgree : Type 0
TicksAgree =
    (u : Unit) (store : List ℕ) (c n : ℕ)
    → u.clock ≡ Some c
    → 1 ≤ n
    → (tick_of u store (c + n)).answer ≡ Ok tt
    → OneTick u store c n
