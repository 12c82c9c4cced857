-- A put changes no byte but in the blocks of months from floor on that it covers, and no held month's block.
use Rattle.std.specs.Prelude.{Option, Some, None}
use mathlib.Core.Path.{◌≡◌, refl, sym, ◌∙◌, subst}
use mathlib.Core.Logic.{⊎_elim}
use mathlib.Core.Bool.{Bool, true, false, cond, or-true}
use mathlib.Core.List.{[], ◌∷◌}
use Prim.Native.Nat.{ℕ, suc, ◌+◌, ◌≤◌, ◌<◌}
use native.Mathlib.Omega.{arith}
use native.Mathlib.Nat.{eq-zero-or-pos}
use lib.Dec.{leb}
use lib.ListN.{length, get_or}
use lib.Seq.{length-sets}
use borrow.Author.Tests.{leb-true}
use Rattle.rules.specs.Calendar.{month_of_slot}
use Rattle.rules.specs.Store.{no_rate, rate_bytes, block_count, block_length}
use Rattle.rules.specs.File.{start_of}
use Rattle.rules.specs.Machine.{touches, any_record}
use Rattle.laws.proofs.Tests.{both}
use Rattle.pool.specs.Blocks.{is_free, free_count, find_of, given}
use Rattle.pool.specs.Held.{InBlock}
use Rattle.pool.specs.declared.Pool.{Pool}
use Rattle.pool.specs.declared.Taken.{Taken}
use Rattle.pool.proofs.Laws.{find_at, take-full, take_in}
use Rattle.schedule.specs.Stored.{Stored, Piece, place, blank, opened, open_by, open_month, lay_by, lay_piece, put_piece, piece_in, meets, can_put, put_run}
use Rattle.about_store.specs.Run.{put_records}
use Rattle.about_store.specs.Untouched.{Keeps, Untouched}
use Rattle.about_store.specs.Laws.{RunUntouched, RecordsUntouched}
use Rattle.about_store.proofs.Bytes.{write-there, laid-there, length-blank}
use Rattle.about_store.proofs.Given.{given-new, given-keeps}
use Rattle.about_store.proofs.Put.{live}
use Rattle.about_store.proofs.Pieces.{piece-month, piece_inside}
use Rattle.about_store.proofs.Runs.{piece_live}

-- ---- steps

keeps_same : (p : Pool) → length p.months ≡ block_count → Keeps p p
keeps_same p e = record { long = e; kept = λ x c i. i }

keeps_then : (p q r : Pool) → Keeps p q → Keeps q r → Keeps p r
keeps_then p q r a b = record { long = b.long; kept = λ x c i. b.kept x c (a.kept x c i) }

-- byte i of block b is the same before and after
abbrev SameByte : ℕ → ℕ → Stored → Stored → Type 0
SameByte b i st u = get_or u.store (place b i) no_rate ≡ get_or st.store (place b i) no_rate

-- a step that changes bytes in the block of month m only, and none where t is false
record Leaves (t : Bool) (m : ℕ) (st u : Stored) : Type 0 where
  keeps : Keeps st.pool u.pool
  size : length u.store ≡ length st.store
  leaves : (b i : ℕ) → i < block_length → (t ≡ true → InBlock u.pool m b → ⊥) → SameByte b i st u

stays : (t : Bool) (m : ℕ) (st : Stored) → length st.pool.months ≡ block_count → Leaves t m st st
stays t m st long = record { keeps = keeps_same st.pool long; size = refl; leaves = λ b i l n. refl }

-- ---- a month opened, a piece laid

open_leaves : (m : ℕ) (st : Stored) → length st.pool.months ≡ block_count → Leaves true m st (open_month m st)
unfolding open_month
open_leaves m st long = go (find_of st.pool m)
  where
    Open : Taken → Type 0
    Open t = Leaves true m st (opened t.pool t.place st.store)

    filled : (c : ℕ) → c < block_count → is_free st.pool c ≡ true → Open (record { pool = given st.pool m c; place = Some c })
    filled c l free = record {
      keeps = given-keeps st.pool m c long l free;
      size = length-sets st.store (place c 0) blank;
      leaves = λ b i k n.
          write-there st.store blank c 0 b i no_rate
          (λ e. n refl (subst (λ (x : ℕ). InBlock (given st.pool m c) m x) (sym e) (given-new st.pool m c long l free)))
          k (omega (arith, length-blank));
    }

    go : (o : Option ℕ) → Leaves true m st (open_by o m st)
    go (Some c) = stays true m st long
    go None =
        ⊎_elim (λ z. subst Open (sym (take-full st.pool m z)) (stays true m st long))
        (λ z. let w = take_in st.pool m z in subst Open (sym w.3) (filled w.0 w.1 w.2))
        (eq-zero-or-pos (free_count st.pool))

lay_leaves : (q : Piece) (st : Stored) → length st.pool.months ≡ block_count → q.from + length q.rates ≤ block_length
    → Leaves true q.month st (lay_piece q st)
unfolding lay_piece
lay_leaves q st long fits = go (find_of st.pool q.month) refl
  where
    go : (o : Option ℕ) → find_of st.pool q.month ≡ o → Leaves true q.month st (lay_by o q st)
    go None e = stays true q.month st long
    go (Some c) e = record {
      keeps = keeps_same st.pool long;
      size = length-sets st.store (place c q.from) (rate_bytes q.rates);
      leaves = λ b i k n.
          laid-there st.store q.rates c q.from b i no_rate
          (λ x. n refl (subst (λ (y : ℕ). InBlock st.pool q.month y) (sym x) (find_at st.pool q.month c e)))
          k fits;
    }

piece_leaves : (floor : ℕ) (q : Piece) (st : Stored) → length st.pool.months ≡ block_count
    → (live floor q ≡ true → q.from + length q.rates ≤ block_length)
    → Leaves (live floor q) q.month st (put_piece floor q st)
unfolding put_piece
piece_leaves floor q st long fits = go (live floor q) refl
  where
    go : (t : Bool) → live floor q ≡ t → Leaves t q.month st (cond t (lay_piece q (open_month q.month st)) st)
    go true e =
        let u = open_month q.month st in
        let a = open_leaves q.month st long in
        let c = lay_leaves q u a.keeps.long (fits e) in
        record {
          keeps = keeps_then st.pool u.pool (lay_piece q u).pool a.keeps c.keeps;
          size = c.size ∙ a.size;
          leaves = λ b i l n. c.leaves b i l n ∙ a.leaves b i l (λ x k. n x (c.keeps.kept q.month b k));
        }
    go false e = stays false q.month st long

-- ---- a run, and a file's records

stays_all : (floor : ℕ) (covered : ℕ → Bool) (st : Stored) → length st.pool.months ≡ block_count → Untouched floor covered st st
stays_all floor covered st long = record { keeps = keeps_same st.pool long; size = refl; same = λ b i l n. refl }

pub run-leaves : RunUntouched
unfolding put_run
run-leaves floor s rates st long = go (can_put s rates st)
  where
    m : ℕ
    m = month_of_slot s

    met : (k : ℕ) → live floor (piece_in k s rates) ≡ true → (floor ≤ k) × (meets k s (length rates) ≡ true)
    met k e =
        let t = sym (piece_live floor k s rates) ∙ e in
        (leb-true floor k (both (leb floor k) (meets k s (length rates)) t).0, (both (leb floor k) (meets k s (length rates)) t).1)

    part : (k : ℕ) (u : Stored) → length u.pool.months ≡ block_count → Leaves (live floor (piece_in k s rates)) k u (put_piece floor (piece_in k s rates) u)
    part k u e =
        subst (λ (x : ℕ). Leaves (live floor (piece_in k s rates)) x u (put_piece floor (piece_in k s rates) u)) (piece-month k s rates)
        (piece_leaves floor (piece_in k s rates) u e (λ x. piece_inside k s rates (met k x).1))

    go : (t : Bool) → Untouched floor (λ k. meets k s (length rates)) st
        (cond t (put_piece floor (piece_in (suc m) s rates) (put_piece floor (piece_in m s rates) st)) st)
    go true =
        let u = put_piece floor (piece_in m s rates) st in
        let w = put_piece floor (piece_in (suc m) s rates) u in
        let a = part m st long in
        let c = part (suc m) u a.keeps.long in
        record {
          keeps = keeps_then st.pool u.pool w.pool a.keeps c.keeps;
          size = c.size ∙ a.size;
          same = λ b i l n.
              c.leaves b i l (λ x. n (suc m) (met (suc m) x).0 (met (suc m) x).1)
              ∙ a.leaves b i l (λ x k. n m (met m x).0 (met m x).1 (c.keeps.kept m b k));
        }
    go false = stays_all floor (λ k. meets k s (length rates)) st long

pub records-leave : RecordsUntouched
unfolding put_records any_record
records-leave floor [] st long = stays_all floor (λ m. false) st long
records-leave floor (r ∷ rs) st long =
    let u = put_run floor (start_of r) r.rates st in
    let w = put_records floor rs u in
    let a = run-leaves floor (start_of r) r.rates st long in
    let c = records-leave floor rs u a.keeps.long in
    record {
      keeps = keeps_then st.pool u.pool w.pool a.keeps c.keeps;
      size = c.size ∙ a.size;
      same = λ b i l n. c.same b i l (λ m f e. n m f (rw e (or-true (touches m r)))) ∙ a.same b i l (λ m f e k. n m f (rw e) (c.keeps.kept m b k));
    }
