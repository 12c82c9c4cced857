-- The laws of the agreement, each as a statement; proofs/Laws.antt has their proofs under the same names in small letters.
use Rattle.std.specs.Prelude.{ℕ, ◌-◌, ◌≤◌, ◌<◌, ◌≡◌, true, List, map, leb, length}
use Rattle.rules.specs.Calendar.{slot_count, last_month}
use Rattle.rules.specs.Store.{block_count, store_length, block_of, member, distinct, sound_store}
use Rattle.rules.specs.Body.{Record}
use Rattle.rules.specs.File.{File, file, take_file, records_in}
use Rattle.rules.specs.Machine.{Machine, fresh_machine, rate_of, is_held, held_count, any_record, with_file}
use Rattle.pool.specs.Blocks.{free_count, release_of, all_free}
use Rattle.pool.specs.Held.{InBlock, held_of, sound_pool}
use Rattle.pool.specs.declared.Pool.{Pool}
use Rattle.schedule.specs.Stored.{Stored, store_holds, stored_rate, put_run, meets, missing}
use Rattle.about_store.specs.Agrees.{Agrees, BlocksHave, month_bytes}
use Rattle.about_store.specs.Run.{GoodFile, run_start, run_length, put_records}
use Rattle.about_store.specs.Untouched.{Untouched}

-- ---- pool and store agree with the machine, and go on doing so

-- a pool whose blocks are all free, and any store of 01's length, agree with the fresh machine
abbrev pub FreshAgrees : Type 0
FreshAgrees =
    (p : Pool) (store : List ℕ) → length p.months ≡ block_count → p.free ≡ all_free → length store ≡ store_length
    → Agrees (record { pool = p; store = store }) fresh_machine

-- the machine's clock, requests and command make no difference
abbrev pub SameAgrees : Type 0
SameAgrees = (st : Stored) (M N : Machine) → N.floor ≡ M.floor → N.files ≡ M.files → Agrees st M → Agrees st N

-- the floor rises to f, and the blocks of the months below it are released
abbrev pub ReleaseAgrees : Type 0
ReleaseAgrees =
    (st : Stored) (M N : Machine) (f : ℕ) → N.floor ≡ f → N.files ≡ M.files → M.floor ≤ f → f ≤ last_month
    → Agrees st M → Agrees (record { pool = release_of st.pool f; store = st.store }) N

-- a file is put whose months there is room for, taken at any clock
abbrev pub PutAgrees : Type 0
PutAgrees =
    (st : Stored) (M : Machine) (c : ℕ) (f : File) → GoodFile f → held_count (with_file c f M) ≤ block_count
    → Agrees st M → Agrees (put_records M.floor (records_in f.body) st) (with_file c f M)

-- every file that is taken is such a file
abbrev pub TakenGood : Type 0
TakenGood = (plant name body : List ℕ) (f : File) → take_file plant name body ≡ file f → GoodFile f

-- ---- what pool and store answer is what the machine answers

-- the rate of a slot
abbrev pub RateAgrees : Type 0
RateAgrees = (st : Stored) (M : Machine) → Agrees st M → (s : ℕ) → s < slot_count → stored_rate st.pool st.store s ≡ rate_of M s

-- the free blocks
abbrev pub FreeAgrees : Type 0
FreeAgrees = (st : Stored) (M : Machine) → Agrees st M → free_count st.pool ≡ block_count - held_count M

-- the machine holds no more months than there are blocks
abbrev pub HeldFew : Type 0
HeldFew = (st : Stored) (M : Machine) → Agrees st M → held_count M ≤ block_count

-- whether there is room for a file's months: cause 14
abbrev pub RoomAgrees : Type 0
RoomAgrees =
    (st : Stored) (M : Machine) → Agrees st M → (c : ℕ) (f : File) → GoodFile f
    → leb (missing st.pool M.floor (run_start (records_in f.body)) (run_length (records_in f.body))) (free_count st.pool)
    ≡ leb (held_count (with_file c f M)) block_count

-- ---- pool and store are sound, and say what the machine's files say

-- 'held months are distinct and between floor and 1199, their blocks distinct, the other blocks exactly the free ones'
abbrev pub PoolSound : Type 0
PoolSound = (st : Stored) (M : Machine) → Agrees st M → sound_pool st.pool M.floor ≡ true

-- 'each held block's bytes are 0 to 100 or 255, and 255 past its month's end'
abbrev pub StoreSound : Type 0
StoreSound = (st : Stored) (M : Machine) → Agrees st M → sound_store (held_of st.pool) st.store ≡ true

-- the store has 01's length too
abbrev pub StoreHolds : Type 0
StoreHolds = (st : Stored) (M : Machine) → Agrees st M → store_holds st.pool st.store ≡ true

-- the held months are the machine's
abbrev pub MonthsAgree : Type 0
MonthsAgree = (st : Stored) (M : Machine) → Agrees st M → (m : ℕ) → member m (map (λ h. h.month) (held_of st.pool)) ≡ is_held M m

-- no two of them share a block
abbrev pub BlocksApart : Type 0
BlocksApart = (st : Stored) (M : Machine) → Agrees st M → distinct (map (λ h. h.block) (held_of st.pool)) ≡ true

-- each one's block has the machine's rates, 255 where there is none and past the month's end
abbrev pub BlocksAgree : Type 0
BlocksAgree = (st : Stored) (M : Machine) → Agrees st M → BlocksHave M (held_of st.pool) st.store

-- the same of a month m whose block is b
abbrev pub BytesAgree : Type 0
BytesAgree = (st : Stored) (M : Machine) → Agrees st M → (m b : ℕ) → InBlock st.pool m b → block_of st.store b ≡ month_bytes M m

-- ---- what a put leaves as it was, of any pool and store

-- a run of rates changes bytes of the months that it has slots in, from floor on, and no others
abbrev pub RunUntouched : Type 0
RunUntouched =
    (floor s : ℕ) (rates : List ℕ) (st : Stored) → length st.pool.months ≡ block_count
    → Untouched floor (λ m. meets m s (length rates)) st (put_run floor s rates st)

-- records put in order change bytes of the months that one of them has slots in
abbrev pub RecordsUntouched : Type 0
RecordsUntouched =
    (floor : ℕ) (rs : List Record) (st : Stored) → length st.pool.months ≡ block_count
    → Untouched floor (λ m. any_record m rs) st (put_records floor rs st)
