-- One tick over n seconds ends where n ticks of one second end.
use Rattle.std.specs.Prelude.{Option, Some, Ok}
use Prim.Native.Nat.{ℕ, zero, suc, ◌+◌, ◌-◌, ◌≤◌, ◌<◌}
use native.Mathlib.Omega.{arith}
use mathlib.Core.Path.{◌≡◌, ◌∙◌, refl, sym, ap}
use mathlib.Core.List.{List, ◌∷◌}
use lib.ListN.{length, replicate}
use borrow.Author.Tests.{lt-leb}
use Rattle.rules.specs.Causes.{Answer}
use Rattle.rules.specs.Calendar.{end_of_time}
use Rattle.rules.specs.Store.{store_length}
use Rattle.unit.specs.Calls.{set_clock, with_command, second, seconds, tick_from, ticked, tick_of}
use Rattle.unit.specs.Ticks.{tick_each, tick_answers, TicksAgree}
use Rattle.unit.specs.declared.Unit.{Unit}
use Rattle.unit.specs.Changed.{Done}
use Rattle.unit.proofs.SoundParts.{SoundWith}
use Rattle.unit.proofs.Seconds.{second-keeps}
use Rattle.unit.proofs.TickLaws.{accepted, accepts}

-- a tick over n seconds, second by second
forward : (u : Unit) (store : List ℕ) (c n : ℕ) → u.clock ≡ Some c → 1 ≤ n → ticked store (c + n) u ≡ seconds store n c u
unfolding ticked
forward u store c n clock l =
    let later = lt-leb (c + n) c (omega arith) in
    let many : c + n - c ≡ n = omega arith in
    ap (λ (k : Option ℕ). tick_from store (c + n) k u) clock ∙ rw (later, many)

-- one second
one : (u : Unit) (store : List ℕ) (c : ℕ) → u.clock ≡ Some c → length store ≡ store_length → SoundWith u store → suc c < end_of_time
    → tick_of u store (suc c) ≡ record { unit = second store (suc c) u; answer = Ok tt }
unfolding seconds
one u store c clock long good l =
    let e : c + 1 ≡ suc c = omega arith in
    accepted u store (suc c) (record { long = long; good = good; below = l })
    ∙ ap (λ (v : Unit). record { unit = v; answer = Ok tt }) (ap (λ (t : ℕ). ticked store t u) (sym e) ∙ forward u store c 1 clock (omega arith))

second-clock : (u : Unit) (store : List ℕ) (t : ℕ) → (second store t u).clock ≡ Some t
unfolding second set_clock with_command
second-clock u store t = refl

each : (store : List ℕ) → length store ≡ store_length → (n c : ℕ) (u : Unit) → u.clock ≡ Some c → SoundWith u store → c + n < end_of_time
    → (tick_each store n c u ≡ seconds store n c u) × (tick_answers store n c u ≡ replicate n (Ok tt))
unfolding tick_each tick_answers seconds
each store long zero c u clock good l = (refl, refl)
each store long (suc n) c u clock good l =
    let v = second store (suc c) u in
    let this = one u store c clock long good (omega arith) in
    let rest = each store long n (suc c) v (second-clock u store (suc c)) (second-keeps u store good c (omega arith)) (omega arith) in (
      ap (λ (d : Done). tick_each store n (suc c) d.unit) this ∙ rest.0,
      ap (λ (d : Done). d.answer ∷ tick_answers store n (suc c) d.unit) this ∙ ap (λ (rest : List Answer). (Ok tt) ∷ rest) rest.1,
    )

-- one tick over n seconds, and n ticks of one second
pub ticks-agree : TicksAgree
ticks-agree u store c n clock l e =
    let a = accepts u store (c + n) e in
    let w = each store a.long n c u clock a.good a.below in
    record {
      unit = ap (λ (d : Done). d.unit) (accepted u store (c + n) a) ∙ forward u store c n clock l ∙ sym w.0;
      answers = w.1;
    }
