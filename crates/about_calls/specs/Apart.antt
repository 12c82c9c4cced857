-- The auditor's sentence, whole: 'can two months of a schedule ever occupy the same memory?' After every list of calls the months that the plain
-- machine holds and the blocks that are not free are matched one to one, and from call to call no month changes its block.
use Rattle.std.specs.Prelude.{ℕ, ◌+◌, ◌≤◌, ◌<◌, ◌≡◌, ◌⊎◌, true, false, List, length, get_or, Ok}
use Rattle.rules.specs.Plant.{Settings}
use Rattle.rules.specs.Store.{block_count, block_length, store_length, block_of, no_rate, to_byte}
use Rattle.rules.specs.Machine.{Machine, Told, Call, fresh_machine, is_held, held_count, step as machine_step, after as machine_after}
use Rattle.plant.specs.Plant.{valid_plant}
use Rattle.plant.specs.declared.Plant.{Plant}
use Rattle.pool.specs.Blocks.{is_free, free_count}
use Rattle.pool.specs.Held.{InBlock}
use Rattle.pool.specs.declared.Pool.{Pool}
use Rattle.schedule.specs.Stored.{place}
use Rattle.about_store.specs.Agrees.{rate_at, month_bytes}
use Rattle.unit.specs.Values.{installed_unit}
use Rattle.calls.specs.Step.{State, step, after}
use Rattle.about_calls.specs.Theorem.{fresh, told, installed_state, told_by}

-- b is the block of month m, and m has no other
pub record BlockOf (q : Pool) (m b : ℕ) : Type 0 where
  pub there : InBlock q m b
  pub only : (c : ℕ) → InBlock q m c → c ≡ b

-- no byte of block b is a byte of block c
abbrev pub NoByteShared : ℕ → ℕ → Type 0
NoByteShared b c = (i j : ℕ) → i < block_length → j < block_length → place b i ≡ place c j → ⊥

-- block b is the block of exactly one held month
pub record Owned (q : Pool) (M : Machine) (b : ℕ) : Type 0 where
  pub month : ℕ
  pub held : is_held M month ≡ true
  pub block : BlockOf q month b
  pub alone : (n : ℕ) → InBlock q n b → n ≡ month

-- block b is free, and no month's
pub record Unowned (q : Pool) (b : ℕ) : Type 0 where
  pub free : is_free q b ≡ true
  pub none : (n : ℕ) → InBlock q n b → ⊥

-- the machine's held months in the unit's memory
pub record Matched (s : State) (M : Machine) : Type 0 where
  -- each held month has a block, and only one
  pub block : (m : ℕ) → is_held M m ≡ true → (b : ℕ) × BlockOf s.unit.pool m b
  -- every byte of it is a byte of a store of 01's length
  pub inside : (m b i : ℕ) → is_held M m ≡ true → InBlock s.unit.pool m b → i < block_length → place b i < store_length
  -- the blocks of two held months differ, and share no byte
  pub apart : (m n b c : ℕ) → is_held M m ≡ true → is_held M n ≡ true → (m ≡ n → ⊥)
      → InBlock s.unit.pool m b → InBlock s.unit.pool n c → (b ≡ c → ⊥) × NoByteShared b c
  -- in a store of 01's length the bytes of a held month's block are the month's rates
  pub bytes : length s.store ≡ store_length → (m b : ℕ) → is_held M m ≡ true → InBlock s.unit.pool m b → block_of s.store b ≡ month_bytes M m
  -- 'byte i is the rate of its slot i, 255 where no file gave one': the same, byte by byte at its place
  pub byte : length s.store ≡ store_length → (m b i : ℕ) → is_held M m ≡ true → InBlock s.unit.pool m b → i < block_length
      → get_or s.store (place b i) no_rate ≡ to_byte (rate_at M m i)
  -- every block is free or exactly one held month's
  pub each : (b : ℕ) → b < block_count → Unowned s.unit.pool b ⊎ Owned s.unit.pool M b
  -- free blocks and held months are sixteen
  pub sum : free_count s.unit.pool + held_count M ≡ block_count

-- from the state s with the machine M to a later t with N: a held month is held on, and its block stays where it was, unless floor passes the month
abbrev pub Stays : State → State → Machine → Machine → Type 0
Stays s t M N =
    (m b : ℕ) → is_held M m ≡ true → N.floor ≤ m → InBlock s.unit.pool m b → (is_held N m ≡ true) × BlockOf t.unit.pool m b

-- from one call to the next, refused or not
pub record Moved (s t : State) (M N : Machine) : Type 0 where
  pub same : Stays s t M N
  -- a month held after and not before has a block that was free
  pub new : (m b : ℕ) → is_held M m ≡ false → is_held N m ≡ true → InBlock t.unit.pool m b → is_free s.unit.pool b ≡ true
  -- a block that becomes free was the block of a month that floor has passed
  pub freed : (b : ℕ) → b < block_count → is_free s.unit.pool b ≡ false → is_free t.unit.pool b ≡ true
      → (m : ℕ) × (is_held M m ≡ true) × BlockOf s.unit.pool m b × (m < N.floor)

-- from the state s with the machine M, told w: after every list of calls cs; from there over every call c; and over every further list ds
abbrev pub MatchedFrom : Told → State → Machine → Type 0
MatchedFrom w s M =
    (cs : List Call)
    → Matched (after cs s) (machine_after w cs M)
    × ((c : Call) → Moved (after cs s) (step c (after cs s)).1 (machine_after w cs M) (machine_step w c (machine_after w cs M)).1)
    × ((ds : List Call) → Stays (after cs s) (after ds (after cs s)) (machine_after w cs M) (machine_after w ds (machine_after w cs M)))

-- for every valid plant, from its fresh unit and a store of any length and bytes
abbrev pub MonthsMatched : Type 0
MonthsMatched = (p : Plant) → valid_plant p ≡ true → (store : List ℕ) → MatchedFrom (told p store) (fresh p store) fresh_machine

-- for every install that is accepted, from the unit that it gave, the machine told the caller's own ID and settings
abbrev pub InstalledMatched : Type 0
InstalledMatched =
    (id mac : List ℕ) (set : Settings) → (installed_unit id mac set).answer ≡ Ok tt → (store : List ℕ)
    → MatchedFrom (told_by id set store) (installed_state id mac set store) fresh_machine
