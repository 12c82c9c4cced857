-- The store and the unit's values (01, The store): lengths, the byte of a slot, and when a unit and a store are sound.
use Rattle.std.specs.Prelude.{ℕ, zero, suc, ◌+◌, ◌*◌, Bool, true, false, cond, not, ◌&&◌, ◌||◌, List, [], ◌∷◌, map, take, drop, leb, ltb, eqb, Option, None, Some}
use Rattle.std.specs.Bool.{beq}
use Rattle.rules.specs.Digits.{part}
use Rattle.rules.specs.Calendar.{slots_of_day, month_count, longest_month, slots_of_month, end_of_time}
use Rattle.rules.specs.Body.{highest_rate}
use Rattle.rules.specs.Plant.{Settings, plant_id, mac_address, valid_settings, full_command}

-- 'The store is 23,808 lent bytes: 16 blocks of 1,488'
abbrev pub block_count : ℕ
block_count = 16

abbrev pub block_length : ℕ
block_length = slots_of_day * longest_month

abbrev pub store_length : ℕ
store_length = block_count * block_length

abbrev pub block_of : List ℕ → ℕ → List ℕ
block_of store b = part store (b * block_length) block_length

-- 'byte i is the rate of its slot i, 255 where no file gave one'
abbrev pub no_rate : ℕ
no_rate = 255

abbrev pub to_byte : Option ℕ → ℕ
to_byte None = no_rate
to_byte (Some r) = r

unfoldable pub rate_bytes : List ℕ → List ℕ
rate_bytes rates = map (λ r. to_byte (Some r)) rates

unfoldable pub from_byte : ℕ → Option ℕ
from_byte x = cond (eqb x no_rate) None (Some x)

-- 'bytes are 0 to 100 or 255'
abbrev pub lawful_byte : ℕ → Bool
lawful_byte x = leb x highest_rate || eqb x no_rate

-- ---- tests on lists of numbers

unfoldable pub member : ℕ → List ℕ → Bool
member x [] = false
member x (y ∷ ys) = eqb x y || member x ys

unfoldable pub distinct : List ℕ → Bool
distinct [] = true
distinct (x ∷ xs) = not (member x xs) && distinct xs

unfoldable pub all : (ℕ → Bool) → List ℕ → Bool
all p [] = true
all p (x ∷ xs) = p x && all p xs

-- whether each number below k passes
unfoldable pub all_below : ℕ → (ℕ → Bool) → Bool
all_below zero p = true
all_below (suc k) p = p k && all_below k p

-- ---- the unit's values

-- a held month, and its block
pub record Held : Type 0 where
  pub month : ℕ
  pub block : ℕ

-- the wanted flag (w), the held flag (h), the failures (k), the fixed time (f) and the update time (u)
pub record Requests : Type 0 where
  pub wanted_flag : ℕ
  pub held_flag : ℕ
  pub failures : ℕ
  pub fixed_at : ℕ
  pub update_at : ℕ

-- 'flags 0 to 10 (10 is none)'
abbrev pub no_flag : ℕ
no_flag = 10

-- 'failures 0 to 5'
abbrev pub retries : Settings → ℕ
retries s = 5

pub record Values : Type 0 where
  pub plant : List ℕ
  pub mac : List ℕ
  pub settings : Settings
  pub clock : Option ℕ
  pub floor : ℕ
  pub held : List Held
  pub free : ℕ → Bool
  pub requests : Requests
  pub command : ℕ

-- 'held months are distinct and between floor and 1199'
unfoldable pub sound_months : ℕ → List ℕ → Bool
sound_months floor ms = distinct ms && all (λ m. leb floor m && ltb m month_count) ms

-- 'their blocks distinct, the other blocks exactly the free ones'
unfoldable pub sound_blocks : (ℕ → Bool) → List ℕ → Bool
sound_blocks free bs =
    distinct bs
    && all (λ b. ltb b block_count) bs
    && all_below block_count (λ b. beq (free b) (not (member b bs)))

-- two days: no wait is longer
abbrev pub longest_wait : ℕ
longest_wait = 172800

-- 'flags 0 to 10 (10 is none), failures 0 to 5, f and u below T + 172,800'
unfoldable pub sound_requests : Settings → Requests → Bool
sound_requests s q =
    leb q.wanted_flag no_flag
    && leb q.held_flag no_flag
    && leb q.failures (retries s)
    && ltb q.fixed_at (end_of_time + longest_wait)
    && ltb q.update_at (end_of_time + longest_wait)

-- 'clock unset or below T'
abbrev pub sound_clock : Option ℕ → Bool
sound_clock None = true
sound_clock (Some t) = ltb t end_of_time

-- 'A unit is sound when ..'
unfoldable pub sound_unit : Values → Bool
sound_unit v =
    plant_id v.plant
    && mac_address v.mac
    && valid_settings v.settings
    && ltb v.floor month_count
    && sound_months v.floor (map (λ h. h.month) v.held)
    && sound_blocks v.free (map (λ h. h.block) v.held)
    && sound_requests v.settings v.requests
    && sound_clock v.clock
    && leb v.command (full_command v.settings)

-- 'A store is sound when each held block's bytes are 0 to 100 or 255, and 255 past its month's end'
unfoldable pub sound_block : ℕ → List ℕ → Bool
sound_block m bytes =
    all lawful_byte (take (slots_of_month m) bytes)
    && all (λ x. eqb x no_rate) (drop (slots_of_month m) bytes)

unfoldable pub sound_store : List Held → List ℕ → Bool
sound_store [] store = true
sound_store (h ∷ hs) store = sound_block h.month (block_of store h.block) && sound_store hs store

-- ---- 'Fresh values in brackets' (The plain machine)

abbrev pub fresh_requests : Requests
fresh_requests = record { wanted_flag = no_flag; held_flag = no_flag; failures = 0; fixed_at = 0; update_at = 0 }

unfoldable pub fresh_values : List ℕ → List ℕ → Settings → Values
fresh_values plant mac s = record {
  plant = plant;
  mac = mac;
  settings = s;
  clock = None;
  floor = 0;
  held = [];
  free = λ b. true;
  requests = fresh_requests;
  command = 0;
}
