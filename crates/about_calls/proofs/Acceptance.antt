-- Every lawful file that fits is accepted.
use Rattle.std.specs.Prelude.{Option, Some, None, is_none}
use Prim.Native.Nat.{ℕ, ◌+◌, ◌≤◌}
use mathlib.Core.Path.{◌≡◌, refl, sym, ap, ◌∙◌}
use mathlib.Core.Bool.{true, false, not, ◌&&◌, ◌||◌}
use native.Mathlib.Omega.{arith}
use lib.Dec.{leb, ltb}
use lib.ListN.{length}
use borrow.Author.Tests.{eq-eqb, le-ltb}
use Rattle.rules.specs.Calendar.{month_count}
use Rattle.rules.specs.Name.{encode_name}
use Rattle.rules.specs.Body.{encode_body}
use Rattle.rules.specs.File.{File, file, take_file, records_in}
use Rattle.rules.specs.Store.{store_length, member, block_count}
use Rattle.rules.specs.Machine.{any_record, count_below}
use Rattle.rules.specs.Table.{first_of}
use Rattle.laws.proofs.Tests.{both, isnt}
use Rattle.about_files.proofs.Reading.{taken-exactly}
use Rattle.pool.specs.Blocks.{find_of, free_count}
use Rattle.pool.specs.Held.{Held, Sound, held_months, sound_pool}
use Rattle.pool.proofs.Laws.{find_at, find_in, free-is, months-held, months-once, held-months, months-few}
use Rattle.pool.proofs.SoundLaws.{pool-facts}
use Rattle.schedule.specs.Stored.{meets, missing}
use Rattle.about_store.specs.Run.{GoodFile, run_start, run_length}
use Rattle.about_store.proofs.Rooms.{any-run}
use Rattle.about_store.proofs.Counts.{count_add, count-list, count_same, member-mem, mem-member, one_more}
use Rattle.about_store.proofs.Laws.{taken-good}
use Rattle.unit.specs.Values.{is_sound}
use Rattle.taking.specs.Taken.{outcome_taken, full_row}
use Rattle.unit.specs.declared.Unit.{Unit}
use Rattle.unit.proofs.CallLaws.{sound_is}
use Rattle.about_calls.specs.Acceptance.{holds_month, together, AcceptsLawful}

-- ---- the pool of a sound unit

pub sound-pool : (u : Unit) → is_sound u ≡ true → Sound u.pool u.floor
sound-pool u e =
    let q = Rattle.rules.specs.Store.sound_requests (Rattle.plant.specs.Plant.settings_of u.plant) (Rattle.polling.specs.Requests.requests_of u.requests) in
    let c = Rattle.rules.specs.Store.sound_clock (u.clock) in
    let v = Rattle.plant.specs.Plant.valid_plant u.plant && ltb u.floor month_count in
    let s = sound_pool u.pool u.floor in
    let e₃ = both (v && s && q && c) _ (sym (sound_is u) ∙ e) in
    let e₂ = both (v && s && q) c e₃.0 in
    let e₁ = both (v && s) q e₂.0 in
    pool-facts u.pool u.floor (both v s e₁.0).1

module _ (u : Unit) (good : is_sound u ≡ true) where
  facts : Sound u.pool u.floor
  facts = sound-pool u good

  -- a month has a block exactly where it is held
  nothing-held : (m : ℕ) → is_none (find_of u.pool m) ≡ not (holds_month u m)
  nothing-held m = rw (held-months block_count u.pool) (go (find_of u.pool m) refl)
    where
      go : (o : Option ℕ) → find_of u.pool m ≡ o → is_none o ≡ not (member m (held_months u.pool))
      go (Some b) e = rw (mem-member m (held_months u.pool) ((months-held u.pool m).1 (b, find_at u.pool m b e)))
      go None e = rw (isnt (λ d. none-at e ((months-held u.pool m).0 (member-mem m (held_months u.pool) d))))
        where
          none-at : find_of u.pool m ≡ None → Held u.pool m → ⊥
          none-at e h =
              let at : Some h.0 ≡ None = sym (find_in u.pool u.floor m h.0 facts h.1) ∙ e in
              let z : ◌≡◌ {A = ℕ} 0 1 = cc in
              omega arith

  pub held-count : count_below month_count (holds_month u) ≡ length (held_months u.pool)
  held-count =
      count_same month_count (holds_month u) (λ m. member m (held_months u.pool)) (λ m l. ap (member m) (held-months block_count u.pool))
      ∙ count-list month_count (held_months u.pool) (months-once u.pool u.floor block_count (omega arith) facts)
      (λ m d. let h = (months-held u.pool m).0 d in omega (arith, facts.high m h.0 h.1))

  -- the months together are those held and those that have no block yet
  pub together-is : (f : File) → GoodFile f
      → together u f ≡ count_below month_count (holds_month u) + missing u.pool u.floor (run_start (records_in f.body)) (run_length (records_in f.body))
  unfolding together missing
  together-is f g =
      let rs = records_in f.body in
      count_add month_count (holds_month u) (λ m. leb u.floor m && meets m (run_start rs) (run_length rs) && is_none (find_of u.pool m))
      (λ m. leb u.floor m && any_record m rs || holds_month u m)
      (λ m. rw (any-run m (run_start rs) rs g, nothing-held m) (one_more (leb u.floor m) (meets m (run_start rs) (run_length rs)) (holds_month u m)))

  fits : (f : File) → GoodFile f → together u f ≤ block_count → (full_row f u).applies ≡ false
  unfolding full_row
  fits f g few =
      let rs = records_in f.body in
      le-ltb (free_count u.pool) (missing u.pool u.floor (run_start rs) (run_length rs))
      (omega (arith, together-is f g, held-count, free-is u.pool, months-few block_count u.pool))

pub accepts-lawful : AcceptsLawful
unfolding outcome_taken first_of
accepts-lawful u store t f good long bytes clock law kind few =
    let read : take_file u.plant.id (encode_name f.name) (encode_body f.body) ≡ file f =
    (taken-exactly u.plant.id (encode_name f.name) (encode_body f.body) f).1 (record { name_bytes = refl; body_bytes = refl; fields = law }, kind) in
    let room = fits u good f (taken-good u.plant.id _ _ f read) few in
    rw (eq-eqb (length store) store_length long, good, bytes, ap Rattle.unit.specs.Rows.is_unset clock, read, room) refl
