-- The laws of the plant: what a valid one has, what installing leaves, and the bounds of p and of the command.
use Rattle.std.specs.Prelude.{Ok, Err}
use Prim.Native.Nat.{ℕ, zero, suc, ◌*◌, ◌/◌, ◌≤◌, ◌<◌}
use mathlib.Core.Path.{◌≡◌, refl}
use mathlib.Core.Bool.{Bool, true, false, cond, ◌&&◌}
use mathlib.Core.List.{List, [], ◌∷◌}
use native.Mathlib.Nat.{le_trans, mul-le-mul_left, mul-le-mul_right, mul_comm, min-le_right, min-eq_left, div-le_of_le-mul}
use native.Mathlib.Omega.{arith}
use lib.Dec.{leb, eqb}
use lib.ListN.{length, get_or}
use borrow.Author.Tests.{le-leb, leb-true, eqb-true}
use Rattle.rules.specs.Causes.{Answer}
use Rattle.rules.specs.Digits.{all_at_most, digits}
use Rattle.rules.specs.Plant.{Settings, plant_id, last_digit, weighted_sum, check_digit, hex_byte, all_hex, mac_address}
use Rattle.rules.specs.Plant.{capacity, ramp_minutes, valid_settings, contracted, percent, parts_of, full_command, installing}
use Rattle.rules.specs.Body.{highest_rate}
use Rattle.rules.specs.Store.{longest_wait}
use Rattle.rules.specs.Machine.{fixed_wait, update_wait, refused_wait}
use Rattle.rules.specs.declared.Cause.{Cause}
use Rattle.laws.proofs.Tests.{both}
use Rattle.laws.proofs.Bytes.{at-most-at}
use Rattle.plant.specs.Plant.{kept_from, widest, narrowed, is_kept, settings_of, valid_plant, plant_of, no_plant, refusal, installed}
use Rattle.plant.specs.declared.Plant.{Plant}

-- ---- what a valid plant has, as facts

pub record Id (id : List ℕ) : Type 0 where
  pub long : length id ≡ 26
  pub digit : (i : ℕ) → get_or id i 0 ≤ 9
  pub last : last_digit id ≤ 9
  pub check : last_digit id ≡ check_digit id

pub record Mac (mac : List ℕ) : Type 0 where
  pub long : length mac ≡ 12
  pub hex : (i : ℕ) → i < 12 → hex_byte (get_or mac i 0) ≡ true

pub record InRange (s : Settings) : Type 0 where
  pub panel-least : 1 ≤ s.panel
  pub panel-most : s.panel ≤ 2000000
  pub inverter-least : 1 ≤ s.inverter
  pub inverter-most : s.inverter ≤ 2000000
  pub minutes-least : 5 ≤ s.minutes
  pub minutes-most : s.minutes ≤ 10
  pub fixed-wait-most : fixed_wait s ≤ longest_wait
  pub update-wait-most : update_wait s ≤ longest_wait
  pub refused-wait-most : refused_wait s ≤ longest_wait

pub record Valid (p : Plant) : Type 0 where
  pub id : Id p.id
  pub mac : Mac p.mac
  pub settings : InRange (settings_of p)

hex_at : (s : List ℕ) → all_hex s ≡ true → (i : ℕ) → i < length s → hex_byte (get_or s i 0) ≡ true
unfolding all_hex
hex_at [] e i h = absurd (omega arith)
hex_at (x ∷ xs) e zero h = (both (hex_byte x) (all_hex xs) e).0
hex_at (x ∷ xs) e (suc i) h = hex_at xs (both (hex_byte x) (all_hex xs) e).1 i (omega arith)

pub id_facts : (id : List ℕ) → plant_id id ≡ true → Id id
unfolding plant_id
id_facts id e =
    let w = both (digits 26 id) (eqb (last_digit id) (check_digit id)) e in
    let d = both (eqb (length id) 26) (all_at_most 9 id) w.0 in
    let digit : (i : ℕ) → get_or id i 0 ≤ 9 = λ i. at-most-at 9 id i d.1 in
    record { long = eqb-true _ _ d.0; digit = digit; last = digit 25; check = eqb-true _ _ w.1 }

pub mac-facts : (mac : List ℕ) → mac_address mac ≡ true → Mac mac
unfolding mac_address
mac-facts mac e =
    let w = both (eqb (length mac) 12) (all_hex mac) e in
    let l = eqb-true (length mac) 12 w.0 in
    record { long = l; hex = λ i h. hex_at mac w.1 i (omega arith) }

pub settings-facts : (s : Settings) → valid_settings s ≡ true → InRange s
unfolding valid_settings
settings-facts s e =
    let w = both (capacity s.panel && capacity s.inverter) (ramp_minutes s.minutes) e in
    let v = both (capacity s.panel) (capacity s.inverter) w.0 in
    let p = both (leb 1 s.panel) (leb s.panel 2000000) v.0 in
    let i = both (leb 1 s.inverter) (leb s.inverter 2000000) v.1 in
    let m = both (leb 5 s.minutes) (leb s.minutes 10) w.1 in
    record {
      panel-least = leb-true _ _ p.0;
      panel-most = leb-true _ _ p.1;
      inverter-least = leb-true _ _ i.0;
      inverter-most = leb-true _ _ i.1;
      minutes-least = leb-true _ _ m.0;
      minutes-most = leb-true _ _ m.1;
      fixed-wait-most = omega arith;
      update-wait-most = omega arith;
      refused-wait-most = omega arith;
    }

-- ---- settings of 32 bits

module _ (s : Settings) where
  kept_by : s.panel ≤ widest → s.inverter ≤ widest → s.minutes ≤ widest → is_kept s ≡ true
  unfolding is_kept
  kept_by p i m = rw (le-leb _ _ p, le-leb _ _ i, le-leb _ _ m)

  pub in-range-kept : InRange s → is_kept s ≡ true
  in-range-kept v = kept_by (omega arith) (omega arith) (omega arith)

  -- what 32 bits do not hold is not kept as settings in range
  pub narrowed-kept : InRange (narrowed s) → is_kept s ≡ true
  narrowed-kept v = kept_by (omega arith) (omega arith) (omega arith)

  -- and what they hold is kept as it is
  pub kept_whole : is_kept s ≡ true → kept_from (narrowed s) ≡ kept_from s
  unfolding is_kept
  kept_whole e =
      let w = both (leb s.panel widest && leb s.inverter widest) (leb s.minutes widest) e in
      let v = both (leb s.panel widest) (leb s.inverter widest) w.0 in
      let p = min-eq_left (leb-true s.panel widest v.0) in
      let i = min-eq_left (leb-true s.inverter widest v.1) in
      let m = min-eq_left (leb-true s.minutes widest w.1) in
      rw (p, i, m)

pub valid-facts : (p : Plant) → valid_plant p ≡ true → Valid p
unfolding valid_plant
valid-facts p e =
    let w = both (plant_id p.id && mac_address p.mac) (valid_settings (settings_of p)) e in
    let v = both (plant_id p.id) (mac_address p.mac) w.0 in
    record { id = id_facts p.id v.0; mac = mac-facts p.mac v.1; settings = settings-facts (settings_of p) w.1 }

-- ---- installing

-- what is handed back for a refusal is not valid
pub no-plant : valid_plant no_plant ≡ false
unfolding valid_plant mac_address all_hex valid_settings plant_id check_digit weighted_sum all_at_most
no-plant = refl

module _ (id mac : List ℕ) (s : Settings) where
  -- a refused installation keeps nothing
  pub refused_none : (c : Cause) → installing id mac s ≡ Err c → installed id mac s ≡ refusal c
  unfolding installed
  refused_none c e = rw e refl

  module _ (a : installing id mac s ≡ Ok tt) where
    -- an accepted one keeps the caller's values
    pub accepted-keeps : installed id mac s ≡ record { answer = Ok tt; plant = plant_of id mac s }
    unfolding installed
    accepted-keeps = rw a refl

    -- and they are a valid plant
    pub accepted-values : valid_plant (plant_of id mac s) ≡ true
    unfolding valid_plant installing
    accepted-values = go (plant_id id) (mac_address mac) (valid_settings s) (Ok tt) refl a
      where
        go : (i m v : Bool) (ok : Answer) → ok ≡ Ok tt
            → cond i (cond (m && v) ok (Err Cause.Setting)) (Err Cause.PlantId) ≡ ok
            → (i && m && v) ≡ true
        go true true true ok is e = refl
        go true true false ok is e = cc
        go true false v ok is e = cc
        go false m v ok is e = cc

    -- of their lengths, and settings that are kept as they are
    pub accepted_kept : (length id ≡ 26) × (length mac ≡ 12) × (kept_from (narrowed s) ≡ kept_from s)
    accepted_kept =
        let v = valid-facts (plant_of id mac s) accepted-values in
        (v.id.long, v.mac.long, kept_whole s (in-range-kept s v.settings))

-- ---- percent and the command

-- a product is at most the product of what its factors are at most
pub product-below : (a b m n : ℕ) → a ≤ m → b ≤ n → a * b ≤ m * n
product-below a b m n h k = le_trans (mul-le-mul_left a k) (mul-le-mul_right n h)

-- so a rate of C fits in 64 bits, and the command's parts do
pub rate_fits : (r c : ℕ) → r < 256 → c < 4294967296 → r * c < 18446744073709551616
rate_fits r c h k = omega (arith, product-below r c 255 4294967295 (omega arith) (omega arith))

pub parts_fit : (n p : ℕ) → n < 4294967296 → p < 256 → 60 * n * p < 18446744073709551616
parts_fit n p h k = omega (arith, product-below (60 * n) p (60 * 4294967295) 255 (omega arith) (omega arith))

module _ (s : Settings) where
  -- C is at most P
  contracted-most : contracted s ≤ s.inverter
  contracted-most = min-le_right s.panel s.inverter

  -- so p is at most r
  pub percent-le : (r : ℕ) → percent s r ≤ r
  unfolding percent
  percent-le r =
      div-le_of_le-mul s.inverter (rw (mul_comm s.inverter r) (mul-le-mul_left r contracted-most))

  pub percent_fits : (r : ℕ) → r * contracted s / s.inverter ≤ r
  unfolding percent
  percent_fits = percent-le

  pub percent-most : (r : ℕ) → r ≤ highest_rate → percent s r ≤ 100
  percent-most r h = le_trans (percent-le r) h

  -- the command never aims above 100%
  pub parts-most : (r : ℕ) → r ≤ highest_rate → parts_of s (percent s r) ≤ full_command s
  parts-most r h = le_trans (mul-le-mul_left (60 * s.minutes) (percent-most r h)) (omega arith)
