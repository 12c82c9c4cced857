-- The laws of the command over the seconds of a tick: it splits at any second, reads only the slots of its seconds, stays legal, and
-- stands on a slot's goal after the whole of it.
use Rattle.std.specs.Prelude.{Some, None, Option}
use Prim.Native.Nat.{ℕ, zero, suc, ◌+◌, ◌-◌, ◌*◌, ◌^◌, ◌≤◌, ◌<◌, min, max, zero-le}
use native.Mathlib.Nat.{add-zero, zero-add, add-suc, suc-add, le_trans}
use native.Mathlib.Omega.{arith}
use mathlib.Core.Path.{◌≡◌, refl, sym, ap, ap₂, ◌∙◌}
use mathlib.Core.Bool.{Bool, true, false, cond, ◌&&◌}
use mathlib.Core.List.{List, [], ◌∷◌}
use lib.Dec.{leb, eqb}
use lib.ListN.{get_or}
use borrow.Author.Tests.{leb-true, leb-false, le-leb, lt-leb, eqb-false}
use Rattle.rules.specs.Calendar.{slot_of, slot_length}
use Rattle.rules.specs.Plant.{Settings, percent, parts_of}
use Rattle.rules.specs.Store.{no_rate, from_byte, block_length}
use Rattle.rules.specs.Machine.{target, or_zero, approach}
use Rattle.plant.specs.Plant.{settings_of}
use Rattle.plant.specs.declared.Plant.{Plant}
use Rattle.plant.proofs.Laws.{percent-le, product-below}
use Rattle.pool.specs.Blocks.{find_of}
use Rattle.pool.specs.declared.Pool.{Pool}
use Rattle.schedule.specs.Stored.{rate_found, stored_rate}
use Rattle.ceiling.specs.Ceiling.{slot_ceiling}
use Rattle.rules.specs.declared.Ceiling.{Ceiling}
use Rattle.ceiling.proofs.Laws.{rated-some, unrated-none}
use Rattle.ramp.specs.Command.{goal_of, command_over, moved, command_after, last_second}

-- ---- seconds toward one goal

pub moved_up : (goal n x : ℕ) → x ≤ goal → moved goal n x ≡ min goal (x + 100 * n)
unfolding moved
moved_up goal n x h = rw (le-leb x goal h)

pub moved_down : (goal n x : ℕ) → goal ≤ x → moved goal n x ≡ max goal (x - 100 * n)
unfolding moved
moved_down goal n x h = go (leb x goal) refl
  where
    go : (t : Bool) → leb x goal ≡ t → cond t (min goal (x + 100 * n)) (max goal (x - 100 * n)) ≡ max goal (x - 100 * n)
    go true e = omega (arith, leb-true x goal e)
    go false e = refl

-- both ways at once, with numbers of 64 bits
pub clamped : (goal n x : ℕ) → goal < 2 ^ 64 → max (x - 100 * n) (min goal (min (x + 100 * n) (2 ^ 64 - 1))) ≡ moved goal n x
clamped goal n x h = go (leb x goal) refl
  where
    go : (t : Bool) → leb x goal ≡ t → max (x - 100 * n) (min goal (min (x + 100 * n) (2 ^ 64 - 1))) ≡ moved goal n x
    go true e = let k = leb-true x goal e in omega (arith, moved_up goal n x k)
    go false e = let k = leb-false x goal e in omega (arith, moved_down goal n x (omega arith))

pub moved_none : (goal x : ℕ) → moved goal 0 x ≡ x
moved_none goal x = go (leb x goal) refl
  where
    go : (t : Bool) → leb x goal ≡ t → moved goal 0 x ≡ x
    go true e = moved_up goal 0 x (leb-true x goal e) ∙ omega (arith, leb-true x goal e)
    go false e = let h = leb-false x goal e in moved_down goal 0 x (omega arith) ∙ omega arith

-- one second and n more
pub moved_more : (goal n x : ℕ) → moved goal n (approach goal x) ≡ moved goal (suc n) x
unfolding approach
moved_more goal n x = go (leb x goal) refl
  where
    go : (t : Bool) → leb x goal ≡ t → moved goal n (cond t (min goal (x + 100)) (max goal (x - 100))) ≡ moved goal (suc n) x
    go true e =
        let h = leb-true x goal e in
        moved_up goal n (min goal (x + 100)) (omega arith) ∙ omega arith ∙ sym (moved_up goal (suc n) x h)
    go false e =
        let h : goal ≤ x = omega (arith, leb-false x goal e) in
        moved_down goal n (max goal (x - 100)) (omega arith) ∙ omega arith ∙ sym (moved_down goal (suc n) x h)

-- a goal within reach is reached
pub moved-reaches : (goal n x : ℕ) → x ≤ goal + 100 * n → goal ≤ x + 100 * n → moved goal n x ≡ goal
moved-reaches goal n x a b = go (leb x goal) refl
  where
    go : (t : Bool) → leb x goal ≡ t → moved goal n x ≡ goal
    go true e = moved_up goal n x (leb-true x goal e) ∙ omega arith
    go false e = let h = leb-false x goal e in moved_down goal n x (omega arith) ∙ omega arith

pub moved-most : (goal n x most : ℕ) → goal ≤ most → x ≤ most → moved goal n x ≤ most
unfolding moved
moved-most goal n x most g h = go (leb x goal)
  where
    go : (t : Bool) → cond t (min goal (x + 100 * n)) (max goal (x - 100 * n)) ≤ most
    go true = omega arith
    go false = omega arith

-- a second never leads above both the goal and where it began
pub approach-most : (goal x most : ℕ) → goal ≤ most → x ≤ most → approach goal x ≤ most
unfolding approach
approach-most goal x most g h = go (leb x goal)
  where
    go : (t : Bool) → cond t (min goal (x + 100)) (max goal (x - 100)) ≤ most
    go true = omega arith
    go false = omega arith

-- ---- the seconds of a tick

module _ (s : Settings) (p : Pool) (store : List ℕ) where
  -- the seconds split at any point
  pub command_over-add : (n k c x : ℕ) → command_over s p store (n + k) c x ≡ command_over s p store k (c + n) (command_over s p store n c x)
  unfolding command_over
  command_over-add zero k c x = rw (zero-add, add-zero)
  command_over-add (suc n) k c x = rw (suc-add n k, add-suc c n, ← suc-add c n) (command_over-add n k (suc c) _)

  -- while the goal stays, they are one move
  pub command_over-moved : (goal n c x : ℕ) → ((t : ℕ) → c < t → t ≤ c + n → goal_of s p store (slot_of t) ≡ goal)
      → command_over s p store n c x ≡ moved goal n x
  unfolding command_over
  command_over-moved goal zero c x h = sym (moved_none goal x)
  command_over-moved goal (suc n) c x h =
      rw (h (suc c) (omega arith) (omega arith))
      (command_over-moved goal n (suc c) (approach goal x) (λ t a b. h t (omega arith) (omega arith)) ∙ moved_more goal n x)

  -- within a slot it stays
  pub command_over-slot : (slot n c x : ℕ) → slot_length * slot ≤ c + 1 → c + n < slot_length * slot + slot_length
      → command_over s p store n c x ≡ moved (goal_of s p store slot) n x
  command_over-slot slot n c x from until =
      command_over-moved (goal_of s p store slot) n c x
      (λ t a b. let e : slot_of t ≡ slot = omega arith in ap (goal_of s p store) e)

  -- the command stays below what bounds its start and every goal that it meets
  pub command_over-most : (most n c x : ℕ) → x ≤ most → ((t : ℕ) → c < t → t ≤ c + n → goal_of s p store (slot_of t) ≤ most)
      → command_over s p store n c x ≤ most
  unfolding command_over
  command_over-most most zero c x h g = h
  command_over-most most (suc n) c x h g =
      command_over-most most n (suc c) (approach (goal_of s p store (slot_of (suc c))) x)
      (approach-most (goal_of s p store (slot_of (suc c))) x most (g (suc c) (omega arith) (omega arith)) h)
      (λ t a b. g t (omega arith) (omega arith))

-- only the slots of these seconds are read
pub command_over-same : (s : Settings) (p q : Pool) (store other : List ℕ) (n c x : ℕ)
    → ((t : ℕ) → c < t → t ≤ c + n → stored_rate p store (slot_of t) ≡ stored_rate q other (slot_of t))
    → command_over s p store n c x ≡ command_over s q other n c x
unfolding command_over
command_over-same s p q store other zero c x h = refl
command_over-same s p q store other (suc n) c x h =
    rw (h (suc c) (omega arith) (omega arith))
    (command_over-same s p q store other n (suc c) (approach (goal_of s q other (slot_of (suc c))) x) (λ t a b. h t (omega arith) (omega arith)))

-- ---- the goal of a slot's ceiling

module _ (s : Settings) (o : Option ℕ) where
  pub goal_rated : (c : Ceiling) → slot_ceiling s o ≡ Some c → parts_of s c.percent ≡ target s o
  goal_rated c e =
      let w = rated-some s o c e in
      ap (parts_of s) w.1 ∙ ap (target s) (sym w.0)

  pub goal-none : slot_ceiling s o ≡ None → parts_of s (percent s 0) ≡ target s o
  goal-none e = ap (target s) (sym (unrated-none s o e))

-- ---- bytes, N at most 10: every goal is within a slot's reach

-- past the end stands 255
byte-most : (store : List ℕ) → ((i : ℕ) → get_or store i 0 < 256) → (i : ℕ) → get_or store i no_rate ≤ no_rate
byte-most [] h i = omega arith
byte-most (b ∷ bs) h zero = omega (arith, h 0)
byte-most (b ∷ bs) h (suc i) = byte-most bs (λ j. h (suc j)) i

-- 255 is no rate
from-byte-most : (b : ℕ) → b ≤ no_rate → or_zero (from_byte b) ≤ 254
unfolding from_byte
from-byte-most b h = go (eqb b no_rate) refl
  where
    go : (t : Bool) → eqb b no_rate ≡ t → or_zero (cond t None (Some b)) ≤ 254
    go true e = zero-le
    go false e = omega (arith, eqb-false b no_rate e)

pub stored-most : (p : Pool) (store : List ℕ) → ((i : ℕ) → get_or store i 0 < 256) → (slot : ℕ) → or_zero (stored_rate p store slot) ≤ 254
unfolding stored_rate
stored-most p store bytes slot = go (find_of p _) _
  where
    go : (f : Option ℕ) (i : ℕ) → or_zero (rate_found f store i) ≤ 254
    go (Some b) i = from-byte-most (get_or store (b * block_length + i) no_rate) (byte-most store bytes (b * block_length + i))
    go None i = zero-le

pub goal-most : (s : Settings) (p : Pool) (store : List ℕ) → s.minutes ≤ 10 → ((i : ℕ) → get_or store i 0 < 256) → (slot : ℕ) → goal_of s p store slot ≤ 152400
goal-most s p store few bytes slot =
    let r = or_zero (stored_rate p store slot) in
    product-below (60 * s.minutes) (percent s r) 600 254 (omega arith) (le_trans (percent-le s r) (stored-most p store bytes slot))

-- ---- the whole slots of a tick

module _ (s : Settings) (p : Pool) (store : List ℕ) (reach : (slot : ℕ) → goal_of s p store slot ≤ 180000) where
  -- the 1,800 seconds of the next slot lead to its goal
  pub command_over-whole : (slot x : ℕ) → x ≤ 180000 → command_over s p store slot_length (last_second slot) x ≡ goal_of s p store (suc slot)
  command_over-whole slot x h =
      let goal = goal_of s p store (suc slot) in
      let g = reach (suc slot) in
      command_over-slot s p store (suc slot) slot_length (last_second slot) x (omega arith) (omega arith)
      ∙ moved-reaches goal slot_length x (omega arith) (omega arith)

  -- of several whole slots only the last counts
  pub command_over-wholes : (slot k x : ℕ) → x ≤ 180000 → command_over s p store (slot_length * suc k) (last_second slot) x ≡ goal_of s p store (slot + suc k)
  command_over-wholes slot k x h =
      let c = last_second slot in
      let many : slot_length * suc k ≡ slot_length * k + slot_length = omega arith in
      let start : c + slot_length * k ≡ last_second (slot + k) = omega arith in
      let most = command_over-most s p store 180000 (slot_length * k) c x h (λ t a b. reach (slot_of t)) in
      ap (λ (n : ℕ). command_over s p store n c x) many
      ∙ command_over-add s p store (slot_length * k) slot_length c x
      ∙ ap (λ (d : ℕ). command_over s p store slot_length d (command_over s p store (slot_length * k) c x)) start
      ∙ command_over-whole (slot + k) (command_over s p store (slot_length * k) c x) most
      ∙ ap (goal_of s p store) (sym (add-suc slot k))

-- the whole slots after slot `first` and before slot `last`
module _ (s : Settings) (p : Pool) (store : List ℕ) where
  pub between-some : s.minutes ≤ 10 → ((i : ℕ) → get_or store i 0 < 256) → (first last whole x : ℕ) → first < whole → whole + 1 ≡ last → x ≤ 180000
      → goal_of s p store whole ≡ command_over s p store (slot_length * (last - first - 1)) (last_second first) x
  between-some few bytes first last whole x l e h =
      let k = whole - first - 1 in
      let n : suc k ≡ last - first - 1 = omega arith in
      let slot : whole ≡ first + suc k = omega arith in
      let reach : (slot : ℕ) → goal_of s p store slot ≤ 180000 = λ slot. le_trans (goal-most s p store few bytes slot) (omega arith) in
      ap (goal_of s p store) slot
      ∙ sym (command_over-wholes s p store reach first k x h)
      ∙ ap (λ (m : ℕ). command_over s p store (slot_length * m) (last_second first) x) n

  pub between_none : (first last x : ℕ) → last ≤ first + 1 → x ≡ command_over s p store (slot_length * (last - first - 1)) (last_second first) x
  unfolding command_over
  between_none first last x l = let n : slot_length * (last - first - 1) ≡ 0 = omega arith in rw n refl

-- ---- a tick in three parts

module _ (s : Settings) (p : Pool) (store : List ℕ) (clock until x : ℕ) (later : clock < until) where
  -- all seconds in one slot
  pub over-one : (slot : ℕ) → slot ≡ slot_of (clock + 1) → slot ≡ slot_of until
      → command_over s p store (until - clock) clock x ≡ moved (goal_of s p store slot) (until - clock) x
  over-one slot ef el = command_over-slot s p store slot (until - clock) clock x (omega arith) (omega arith)

  -- r is the command after the rest of the first slot, the whole slots after it, and the seconds of the last one
  pub over-parts : (first last rest end left stands r : ℕ)
      → left ≡ moved (goal_of s p store first) rest x
      → stands ≡ command_over s p store (slot_length * (last - first - 1)) (last_second first) left
      → r ≡ moved (goal_of s p store last) end stands
      → first ≡ slot_of (clock + 1)
      → last ≡ slot_of until
      → first < last
      → clock + rest ≡ last_second first
      → until + 1 ≡ slot_length * last + end
      → r ≡ command_over s p store (until - clock) clock x
  over-parts first last rest end left stands r el es er ef eu l to from =
      let whole = slot_length * (last - first - 1) in
      let c = last_second first in
      let n : rest + (whole + end) ≡ until - clock = omega arith in
      let start : command_over s p store rest clock x ≡ left = command_over-slot s p store first rest clock x (omega arith) (omega arith) ∙ sym el in
      let parts : command_over s p store (rest + (whole + end)) clock x ≡ command_over s p store end (c + whole) stands =
      command_over-add s p store rest (whole + end) clock x
      ∙ ap₂ (λ (d y : ℕ). command_over s p store (whole + end) d y) to start
      ∙ command_over-add s p store whole end c left
      ∙ ap (λ (y : ℕ). command_over s p store end (c + whole) y) (sym es) in
      er
      ∙ sym (command_over-slot s p store last end (c + whole) stands (omega arith) (omega arith))
      ∙ sym parts
      ∙ ap (λ (k : ℕ). command_over s p store k clock x) n

-- ---- the command after a tick

module _ (plant : Plant) (p : Pool) (store : List ℕ) (clock until x : ℕ) where
  -- no second passes, or the values are none that a sound unit has: the command stays
  pub after-no-second : until ≤ clock → command_after plant p store clock until x ≡ x
  unfolding command_after command_over
  after-no-second h =
      let still : until - clock ≡ 0 = omega arith in
      rw still (same (leb plant.settings.minutes 10 && leb x 60000))
    where
      same : (t : Bool) → cond t x x ≡ x
      same true = refl
      same false = refl

  pub after-long-ramp : 10 < plant.settings.minutes → command_after plant p store clock until x ≡ x
  unfolding command_after
  after-long-ramp h = rw (lt-leb plant.settings.minutes 10 h) refl

  pub after-high-command : 60000 < x → command_after plant p store clock until x ≡ x
  unfolding command_after
  after-high-command h = rw (lt-leb x 60000 h) (never (leb plant.settings.minutes 10))
    where
      never : (t : Bool) → cond (t && false) (command_over (settings_of plant) p store (until - clock) clock x) x ≡ x
      never true = refl
      never false = refl

  -- a sound unit has such values: its command goes second by second
  pub after-over : plant.settings.minutes ≤ 10 → x ≤ 60000
      → command_after plant p store clock until x ≡ command_over (settings_of plant) p store (until - clock) clock x
  unfolding command_after
  after-over m h = rw (le-leb plant.settings.minutes 10 m, le-leb x 60000 h) refl

-- what a goal, and the command after a tick, take
pub ruleset goal_steps = (goal_rated, goal-none)

pub ruleset after_steps = (after-no-second, after-long-ramp, after-high-command, after-over)
