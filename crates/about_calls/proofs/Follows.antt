-- The relation that every call keeps: the unit's values are the machine's, and pool and store agree with its files.
use Rattle.std.specs.Prelude.{None}
use Prim.Native.Nat.{ℕ, ◌*◌, ◌≤◌, ◌<◌}
use mathlib.Core.Path.{◌≡◌, refl, sym, ◌∙◌}
use mathlib.Core.Bool.{true, false, and-false}
use mathlib.Core.List.{[], map}
use native.Mathlib.Omega.{arith}
use lib.Dec.{leb}
use lib.ListN.{length}
use borrow.Author.Tests.{lt-ltb, le-leb}
use Rattle.rules.specs.Calendar.{month_count}
use Rattle.rules.specs.Plant.{full_command}
use Rattle.rules.specs.Store.{store_length, sound_store, sound_requests, sound_clock, member}
use Rattle.rules.specs.Machine.{Machine, is_held, any_file}
use Rattle.plant.specs.Plant.{valid_plant, settings_of}
use Rattle.plant.specs.declared.Plant.{Plant}
use Rattle.pool.specs.Held.{held_of, held_below, sound_pool}
use Rattle.polling.specs.Requests.{requests_of}
use Rattle.schedule.specs.Stored.{Stored}
use Rattle.about_store.specs.Agrees.{Agrees}
use Rattle.about_store.proofs.Laws.{pool-sound, store-sound, months-agree, blocks-agree}
use Rattle.unit.specs.Values.{is_sound, fresh_pool}
use Rattle.calls.specs.Step.{State}
use Rattle.unit.proofs.CallLaws.{sound_is}
use Rattle.about_calls.specs.Theorem.{Holds}

abbrev pub stored : State → Stored
stored s = record { pool = s.unit.pool; store = s.store }

-- a store of 01's length agrees with the machine's files; with any other no file was ever taken and the clock never set
pub data Kept (s : State) (M : Machine) : Type 0 where
  agrees : length s.store ≡ store_length → Agrees (stored s) M → Kept s M
  apart : (length s.store ≡ store_length → ⊥) → s.unit.pool ≡ fresh_pool → M.files ≡ [] → M.floor ≡ 0 → M.clock ≡ None → Kept s M

-- p is the plant, n the store's length
pub record Follows (p : Plant) (n : ℕ) (s : State) (M : Machine) : Type 0 where
  pub plant : s.unit.plant ≡ p
  pub size : length s.store ≡ n
  pub clock : s.unit.clock ≡ M.clock
  pub floor : s.unit.floor ≡ M.floor
  pub requests : requests_of s.unit.requests ≡ M.requests
  pub command : s.unit.command ≡ M.command
  -- what the machine's values never leave
  pub time : sound_clock M.clock ≡ true
  pub asks : sound_requests (settings_of p) M.requests ≡ true
  pub most : M.command ≤ full_command (settings_of p)
  pub kept : Kept s M

-- ---- a unit that follows is sound

fresh-sound : sound_pool fresh_pool 0 ≡ true
unfolding sound_pool held_below Rattle.rules.specs.Store.sound_months Rattle.rules.specs.Store.sound_blocks Rattle.rules.specs.Store.distinct
    Rattle.rules.specs.Store.all Rattle.rules.specs.Store.all_below Rattle.rules.specs.Store.member
fresh-sound = refl

kept-pool : (s : State) (M : Machine) → s.unit.floor ≡ M.floor → Kept s M → sound_pool s.unit.pool s.unit.floor ≡ true
kept-pool s M f (agrees e a) = rw f (pool-sound (stored s) M a)
kept-pool s M f (apart e p g h c) = rw (f, p, h) fresh-sound

kept-floor : (s : State) (M : Machine) → Kept s M → M.floor < month_count
kept-floor s M (agrees e a) = omega (arith, a.floor)
kept-floor s M (apart e p g h c) = omega (arith, h)

module _ (p : Plant) (valid : valid_plant p ≡ true) (n : ℕ) (s : State) (M : Machine) (h : Follows p n s M) where
  command-least : s.unit.command ≤ 6000 * s.unit.plant.settings.minutes
  command-least = rw (h.command, h.plant) h.most

  pub follows-sound : is_sound s.unit ≡ true
  follows-sound =
      let floor : s.unit.floor < month_count = rw h.floor (kept-floor s M h.kept) in
      sound_is s.unit
      ∙ rw (
        h.plant,
        valid,
        lt-ltb s.unit.floor month_count floor,
        kept-pool s M h.floor h.kept,
        h.requests,
        h.asks,
        h.clock,
        h.time,
        le-leb s.unit.command (6000 * p.settings.minutes) (rw h.plant at command-least),
      )

  -- ---- and what follows holds as the theorem says

  files-none : (m : ℕ) → M.files ≡ [] → is_held M m ≡ false
  unfolding is_held any_file
  files-none m e = rw e (and-false (leb M.floor m))

  fresh-none : (m : ℕ) → member m (map (λ h. h.month) (held_of fresh_pool)) ≡ false
  unfolding held_below member
  fresh-none m = refl

  kept-months : Kept s M → (m : ℕ) → member m (map (λ h. h.month) (held_of s.unit.pool)) ≡ is_held M m
  kept-months (agrees e a) m = months-agree (stored s) M a m
  kept-months (apart e q g f c) m = rw q (fresh-none m ∙ sym (files-none m g))

  kept_store : Kept s M → length s.store ≡ store_length → sound_store (held_of s.unit.pool) s.store ≡ true
  kept_store (agrees e a) l = store-sound (stored s) M a
  kept_store (apart e q g f c) l = absurd (e l)

  pub follows-holds : Holds s M
  follows-holds = record {
    unit = follows-sound;
    store = kept_store h.kept;
    months = kept-months h.kept;
    blocks = λ l. go l h.kept;
  }
    where
      go : length s.store ≡ store_length → Kept s M → Rattle.about_store.specs.Agrees.BlocksHave M (held_of s.unit.pool) s.store
      go l (agrees e a) = blocks-agree (stored s) M a
      go l (apart e q g f c) = absurd (e l)
