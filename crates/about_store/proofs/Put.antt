-- What a put piece does to the view of pool and store.
use Rattle.std.specs.Prelude.{Some, None, Option}
use mathlib.Core.Path.{◌≡◌, refl, sym, ap, ◌∙◌}
use mathlib.Core.Logic.{◌≢◌}
use mathlib.Core.Bool.{Bool, true, false, cond, ◌&&◌, ◌||◌, true≢false}
use Prim.Native.Nat.{ℕ, ◌+◌, ◌≤◌, ◌<◌}
use native.Mathlib.Omega.{arith}
use native.Mathlib.Decide.{ℕ_discrete}
use lib.Dec.{leb, ltb, eqb}
use lib.ListN.{length, get_or}
use lib.Seq.{sets, length-sets}
use borrow.Author.Tests.{leb-true, eq-eqb, ne_eqb}
use Rattle.rules.specs.Calendar.{last_month, month_count}
use Rattle.rules.specs.Store.{no_rate, to_byte, rate_bytes, block_length, block_count}
use Rattle.rules.specs.Machine.{count_below}
use Rattle.laws.proofs.Tests.{both}
use Rattle.pool.specs.Blocks.{find_of}
use Rattle.pool.specs.Held.{InBlock}
use Rattle.pool.proofs.Laws.{find_at}
use Rattle.schedule.specs.Stored.{Stored, Piece, place, open_month, lay_by, lay_piece, put_piece}
use Rattle.about_store.proofs.Bytes.{laid-there, laid-here}
use Rattle.about_store.proofs.View.{View, Shows, open_view, lay_view, piece_covers, piece_says, open_shows, not-held}

covers-not : (q : Piece) (k i : ℕ) → k ≢ q.month → piece_covers k i q ≡ false
covers-not q k i n = rw (ne_eqb k q.month n)

byte-cond : (t : Bool) (r : ℕ) (o : Option ℕ) → cond t (to_byte (Some r)) (to_byte o) ≡ to_byte (cond t (Some r) o)
byte-cond true r o = refl
byte-cond false r o = refl

-- a piece that fits a block is laid into its month's
pub lay_shows : (st : Stored) (v : View) → Shows st v
    → (q : Piece) → q.from + length q.rates ≤ block_length → v.held q.month ≡ true → Shows (lay_piece q st) (lay_view q v)
unfolding lay_piece
lay_shows st v h q fits e = go (find_of st.pool q.month) refl
  where
    go : (o : Option ℕ) → find_of st.pool q.month ≡ o → Shows (lay_by o q st) (lay_view q v)
    go None f = absurd (true≢false (sym e ∙ not-held st v h q.month f))
    go (Some b) f = record {
      months = h.months;
      bits = h.bits;
      full = length-sets st.store (place b q.from) (rate_bytes q.rates) ∙ h.full;
      low = h.low;
      sound = h.sound;
      held = h.held;
      bytes = λ x c i k j. at_byte x c i k j (ℕ_discrete c b);
      silent = λ x i n. rw (covers-not q x i (λ y. true≢false (sym e ∙ ap v.held (sym y) ∙ n))) (h.silent x i n);
    }
      where
        in_b : InBlock st.pool q.month b
        in_b = find_at st.pool q.month b f

        at_byte : (x c i : ℕ) → InBlock st.pool x c → i < block_length → Dec (c ≡ b)
            → get_or (sets st.store (place b q.from) (rate_bytes q.rates)) (place c i) no_rate
            ≡ to_byte (cond (piece_covers x i q) (piece_says i q) (v.says x i))
        at_byte x c i k j (yes y) =
            let m : x ≡ q.month = sym k.month ∙ ap (λ (z : ℕ). get_or st.pool.months z 0) y ∙ in_b.month in
            rw (y, m, eq-eqb q.month q.month refl, ← byte-cond)
            (laid-here st.store q.rates b q.from i no_rate fits (omega (arith, h.full, in_b.below)) ∙ rw (h.bytes q.month b i in_b j))
        at_byte x c i k j (no y) =
            laid-there st.store q.rates b q.from c i no_rate y j fits
            ∙ rw (covers-not q x i (λ z. y (h.sound.one q.month c b (rw z at k) in_b))) (h.bytes x c i k j)

-- ---- a piece

-- the piece is not passed over
abbrev pub live : ℕ → Piece → Bool
live floor q = leb floor q.month && ltb 0 (length q.rates)

unfoldable pub put_at : Bool → Piece → View → View
put_at t q v = record {
  floor = v.floor;
  held = λ k. (t && eqb k q.month) || v.held k;
  says = λ k i. cond (t && piece_covers k i q) (piece_says i q) (v.says k i);
}

abbrev pub put_view : Piece → View → View
put_view q v = put_at (live v.floor q) q v

-- a piece that fits a month's block
pub record Fits (q : Piece) : Type 0 where
  pub month : q.month ≤ last_month
  pub inside : q.from + length q.rates ≤ block_length

pub put_shows : (st : Stored) (v : View) → Shows st v → (q : Piece) → (live v.floor q ≡ true → Fits q)
    → count_below month_count (put_view q v).held ≤ block_count
    → Shows (put_piece v.floor q st) (put_view q v)
unfolding put_piece put_at
put_shows st v h q fits few = go (live v.floor q) refl few
  where
    go : (t : Bool) → live v.floor q ≡ t → count_below month_count (put_at t q v).held ≤ block_count
        → Shows (cond t (lay_piece q (open_month q.month st)) st) (put_at t q v)
    go true e l =
        let ok = fits e in
        let from = leb-true v.floor q.month (both (leb v.floor q.month) (ltb 0 (length q.rates)) e).0 in
        let opened = open_shows st v h q.month from ok.month l in
        lay_shows (open_month q.month st) (open_view q.month v) opened q ok.inside (rw (eq-eqb q.month q.month refl))
    go false e l = h
