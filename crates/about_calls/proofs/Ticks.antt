-- One tick over n seconds and n ticks of one second; and the tick over none.
use Rattle.std.specs.Prelude.{Option, Some, Ok}
use Prim.Native.Nat.{ℕ, ◌-◌, ◌≤◌, ◌<◌, ◌^◌}
use mathlib.Core.Path.{◌≡◌, refl, sym, ap, ◌∙◌}
use mathlib.Core.Bool.{Bool, true, false, ◌||◌}
use mathlib.Core.List.{List}
use native.Mathlib.Omega.{arith}
use lib.Dec.{ltb}
use lib.ListN.{length}
use borrow.Author.Tests.{le-leb, le-ltb, lt-ltb, eq-eqb, ltb-true}
use Rattle.rules.specs.Calendar.{month_of, end_of_time}
use Rattle.rules.specs.Store.{store_length, sound_clock, sound_store, block_count}
use Rattle.rules.specs.Machine.{Machine, raised_floor, fresh_machine, after as machine_after}
use Rattle.rules.specs.Table.{first_of}
use Rattle.pool.specs.Below.{bit}
use Rattle.pool.specs.Blocks.{is_free, month_of as block_month, free_after, release_of}
use Rattle.pool.specs.Held.{held_of, Sound}
use Rattle.pool.specs.declared.Pool.{Pool}
use Rattle.pool.proofs.BelowLaws.{number-bits, sum_same}
use Rattle.about_store.proofs.Laws.{store-sound}
use Rattle.unit.specs.Values.{is_sound}
use Rattle.unit.specs.Calls.{set_clock, tick_from, ticked, tick_of}
use Rattle.calls.specs.Step.{State, replies, after}
use Rattle.unit.specs.declared.Unit.{Unit}
use Rattle.unit.proofs.Ticks.{ticks-agree}
use Rattle.about_calls.specs.Theorem.{fresh, told}
use Rattle.about_calls.specs.Ticks.{with, SameAfterTicks, NoSecond}
use Rattle.about_calls.proofs.Options.{none-some}
use Rattle.about_calls.proofs.Follows.{stored, Kept, agrees, apart, Follows, follows-sound}
use Rattle.about_calls.proofs.EveryList.{fresh-follows, list_follows}
use Rattle.about_calls.proofs.Ahead.{list_ahead, fresh-ahead}

pub same-after-ticks : SameAfterTicks
same-after-ticks u store c n set least answer =
    let e = (ticks-agree u store c n set least answer).unit in
    (e, λ cs. ap (λ (v : Unit). replies cs (with v store)) e)

-- ---- n = 0

release-none : (p : Pool) (floor : ℕ) → p.free < 2 ^ block_count → Sound p floor → release_of p floor ≡ p
unfolding release_of
release-none p floor few s =
    let same = sum_same (λ b. 2 ^ b) block_count (free_after p floor) (bit p.free) each ∙ number-bits block_count p.free few in
    λ i. record { months = p.months; free = same i }
  where
    each : (b : ℕ) → b < block_count → free_after p floor b ≡ bit p.free b
    each b l = go (is_free p b) refl
      where
        go : (x : Bool) → is_free p b ≡ x → (x || ltb (block_month p b) floor) ≡ x
        go true e = refl
        go false e = le-ltb (block_month p b) floor (s.low (block_month p b) b (record { below = l; used = e; month = refl }))

set_same : (u : Unit) (c : ℕ) → u.clock ≡ Some c → raised_floor u.floor c ≡ u.floor
    → release_of u.pool (raised_floor u.floor c) ≡ u.pool → set_clock c u ≡ u
unfolding set_clock
set_same u c e f g =
    λ i. record { plant = u.plant; pool = g i; requests = u.requests; clock = sym e i; floor = f i; command = u.command }

tick-same : (u : Unit) (store : List ℕ) (c : ℕ) → u.clock ≡ Some c → is_sound u ≡ true → length store ≡ store_length → sound_store (held_of u.pool) store ≡ true
    → c < end_of_time → set_clock c u ≡ u → tick_of u store c ≡ record { unit = u; answer = Ok tt }
unfolding tick_of first_of ticked
tick-same u store c set good long bytes below same =
    rw (eq-eqb (length store) store_length long, good, bytes, lt-ltb c end_of_time below)
    (ap (λ (v : Unit). record { unit = v; answer = Ok tt }) (stands u.clock set ∙ same))
  where
    stands : (k : Option ℕ) → k ≡ Some c → tick_from store c k u ≡ set_clock c u
    stands k e = ap (λ (x : Option ℕ). tick_from store c x u) e ∙ rw (le-leb c c (omega arith)) refl

pub no_second : NoSecond
no_second p valid store cs c set = go h.kept
  where
    s : State
    s = after cs (fresh p store)

    M : Machine
    M = machine_after (told p store) cs fresh_machine

    h : Follows p (length store) s M
    h = (list_follows p valid (length store) cs (fresh p store) fresh_machine (fresh-follows p valid store)).1

    clock : M.clock ≡ Some c
    clock = sym h.clock ∙ set

    below : c < end_of_time
    below = ltb-true c end_of_time (ap sound_clock (sym clock) ∙ h.time)

    floor : raised_floor s.unit.floor c ≡ s.unit.floor
    floor = rw h.floor (stays (list_ahead (told p store) cs fresh_machine fresh-ahead c clock))
      where
        stays : month_of c - 1 ≤ M.floor → raised_floor M.floor c ≡ M.floor
        stays l = omega arith

    go : Kept s M → tick_of s.unit s.store c ≡ record { unit = s.unit; answer = Ok tt }
    go (apart e q g f n) = absurd (none-some c (sym n ∙ clock))
    go (agrees e a) =
        tick-same s.unit s.store c set (follows-sound p valid (length store) s M h) e (store-sound (stored s) M a) below
        (set_same s.unit c set floor (ap (release_of s.unit.pool) (floor ∙ h.floor) ∙ release-none s.unit.pool M.floor a.bits a.sound))
