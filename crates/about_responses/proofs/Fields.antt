-- The length and the name that header lines give are those of the lines put together: of one line that begins so, and what follows in it.
use Rattle.laws.proofs.Options.{some-injective}
use Rattle.std.specs.Prelude.{Option, None, Some}
use Prim.Native.Nat.{ℕ, zero, suc, ◌<◌}
use mathlib.Core.Path.{◌≡◌, ◌∙◌, refl, sym, ap, subst}
use mathlib.Core.Bool.{Bool, true, false, cond, not, ◌&&◌}
use mathlib.Core.List.{List, [], ◌∷◌, ◌++◌, append-nil}
use mathlib.Core.Logic.{◌↔◌}
use native.Mathlib.Omega.{arith}
use borrow.Author.Tests.{leb-true, le-leb, not-true}
use lib.Dec.{leb}
use lib.ListN.{length, get_or, drop, length-map}
use lib.Seq.{drop-append_seam}
use Rattle.rules.specs.Digits.{all_ascii, to_ascii, from_ascii, value, same_bytes}
use Rattle.rules.specs.Response.{begins, lines_with, behind, content_length, content_disposition, file_name, length_in, only_length, only_name, given_length, given_name}
use Rattle.laws.proofs.Tests.{no-some, both, join}
use Rattle.laws.proofs.Bytes.{ascii-digits}
use Rattle.about_files.proofs.Numerals.{from-to, to-from, digits-ascii}
use Rattle.about_responses.specs.Fields.{none_begins, OnlyLine, LengthLine, LengthGiven, NameLine, NameGiven}
use Rattle.about_responses.proofs.Begins.{begins-made, begins-itself}

-- ---- the only line that begins with p

module _ (p : List ℕ) where
  with_it : (l : List ℕ) (ls : List (List ℕ)) → begins p l ≡ true → lines_with p (l ∷ ls) ≡ l ∷ lines_with p ls
  unfolding lines_with
  with_it l ls e = rw e refl

  without_it : (l : List ℕ) (ls : List (List ℕ)) → begins p l ≡ false → lines_with p (l ∷ ls) ≡ lines_with p ls
  unfolding lines_with
  without_it l ls e = rw e refl

  -- lines of which none begins with p are skipped
  skipped : (before ls : List (List ℕ)) → none_begins p before ≡ true → lines_with p (before ++ ls) ≡ lines_with p ls
  unfolding none_begins
  skipped [] ls e = refl
  skipped (l ∷ before) ls e =
      let q = both (not (begins p l)) (none_begins p before) e in
      without_it l (before ++ ls) (not-true (begins p l) q.0) ∙ skipped before ls q.1

  no_lines : lines_with p [] ≡ []
  unfolding lines_with
  no_lines = refl

  none-there : (ls : List (List ℕ)) → lines_with p ls ≡ [] → none_begins p ls ≡ true
  unfolding none_begins
  none-there [] e = refl
  none-there (l ∷ ls) e = go (begins p l) refl (λ f. none-there ls f)
    where
      go : (t : Bool) → begins p l ≡ t → (lines_with p ls ≡ [] → none_begins p ls ≡ true) → (not t && none_begins p ls) ≡ true
      go true f ih = let g : length (l ∷ lines_with p ls) ≡ 0 = ap length (sym (with_it l ls f) ∙ e) in absurd (omega (arith, g))
      go false f ih = ih (sym (without_it l ls f) ∙ e)

  abbrev Only : List (List ℕ) → List ℕ → Type 0
  Only ls l = (text : List ℕ) × (l ≡ p ++ text) × OnlyLine p text ls

  only-there : (ls : List (List ℕ)) (l : List ℕ) → lines_with p ls ≡ l ∷ [] → Only ls l
  unfolding none_begins
  only-there [] l e = let g : 0 ≡ length (l ∷ []) = ap length (sym no_lines ∙ e) in absurd (omega (arith, g))
  only-there (k ∷ ls) l e = go (begins p k) refl (λ f. only-there ls l f)
    where
      go : (t : Bool) → begins p k ≡ t → (lines_with p ls ≡ l ∷ [] → Only ls l) → Only (k ∷ ls) l
      go true f ih =
          let g : k ∷ lines_with p ls ≡ l ∷ [] = sym (with_it k ls f) ∙ e in
          let h : k ≡ l = ap (λ (w : List (List ℕ)). get_or w 0 []) g in
          let m = begins-made p k f in (
            drop (length p) k,
            sym h ∙ m,
            record { before = []; after = ls; lines = ap (λ (t : List ℕ). t ∷ ls) m; others = none-there ls (ap (drop 1) g) },
          )
      go false f ih =
          let r = ih (sym (without_it k ls f) ∙ e) in
          let o = r.2 in (
            r.0,
            r.1,
            record {
              before = k ∷ o.before;
              after = o.after;
              lines = ap (λ (w : List (List ℕ)). k ∷ w) o.lines;
              others = ap (λ (t : Bool). not t && none_begins p o.before && none_begins p o.after) f ∙ o.others;
            },
          )

  only-back : (ls : List (List ℕ)) (text : List ℕ) → OnlyLine p text ls → lines_with p ls ≡ (p ++ text) ∷ []
  only-back ls text o =
      let q = both (none_begins p o.before) (none_begins p o.after) o.others in
      let rest : lines_with p o.after ≡ [] = ap (lines_with p) (sym (append-nil o.after)) ∙ skipped o.after [] q.1 ∙ no_lines in
      ap (lines_with p) o.lines
      ∙ skipped o.before ((p ++ text) ∷ o.after) q.0
      ∙ with_it (p ++ text) o.after (begins-itself p text)
      ∙ ap (λ (w : List (List ℕ)). (p ++ text) ∷ w) rest

  -- l is the only line that begins with p exactly where it is p and some text, among lines that do not
  only-exactly : (ls : List (List ℕ)) (l : List ℕ) → (lines_with p ls ≡ l ∷ []) ↔ Only ls l
  only-exactly ls l = (only-there ls l, λ r. only-back ls r.0 r.2 ∙ ap (λ (t : List ℕ). t ∷ []) (sym r.1))

-- ---- the length

module _ (ls : List (List ℕ)) (m : ℕ) where
  -- the digits that stand in the text
  text_says : (text : List ℕ) → OnlyLine content_length text ls → length_in text ≡ Some m → LengthLine ls m
  unfolding length_in
  text_says text o e = go (leb 1 (length text) && leb (length text) 6 && all_ascii text) refl e
    where
      go : (t : Bool) → (leb 1 (length text) && leb (length text) 6 && all_ascii text) ≡ t
          → cond {A = Option ℕ} t (Some (value (from_ascii text))) None ≡ Some m → LengthLine ls m
      go false f e = no-some e
      go true f e =
          let p = both (leb 1 (length text) && leb (length text) 6) (all_ascii text) f in
          let q = both (leb 1 (length text)) (leb (length text) 6) p.0 in
          let l : length (from_ascii text) ≡ length text = length-map text _ in
          record {
            number = from_ascii text;
            line = subst (λ (t : List ℕ). OnlyLine content_length t ls) (sym (to-from text p.1)) o;
            digits = ascii-digits text p.1;
            least = rw l (leb-true 1 (length text) q.0);
            most = rw l (leb-true (length text) 6 q.1);
            says = some-injective (value (from_ascii text)) m e;
          }

  length-there : (w : List (List ℕ)) → lines_with content_length ls ≡ w → only_length w ≡ Some m → LengthLine ls m
  length-there [] f e = no-some e
  length-there (l ∷ []) f e =
      let o = (only-exactly content_length ls l).0 f in
      text_says o.0 o.2 (sym (ap length_in (ap (drop (length content_length)) o.1)) ∙ e)
  length-there (l ∷ k ∷ w) f e = no-some e

  length_back : LengthLine ls m → given_length ls ≡ Some m
  unfolding length_in
  length_back h =
      let d = to_ascii h.number in
      let l : length d ≡ length h.number = length-map h.number _ in
      let small = join (le-leb 1 (length h.number) h.least) (le-leb (length h.number) 6 h.most) in
      ap only_length ((only-exactly content_length ls (content_length ++ d)).1 (d, refl, h.line))
      ∙ rw (l, digits-ascii h.number h.digits, small, from-to h.number, h.says) refl

pub length-given : LengthGiven
length-given ls m = (length-there ls m (lines_with content_length ls) refl, length_back ls m)

-- ---- the name

-- p stands in s, first behind this front
record Found (p s rest : List ℕ) : Type 0 where
  front : List ℕ
  made : s ≡ front ++ (p ++ rest)
  first : (k : ℕ) → k < length front → begins p (drop k (front ++ (p ++ rest))) ≡ false

behind-there : (p s rest : List ℕ) → behind p s ≡ Some rest → Found p s rest
unfolding behind
behind-there p [] rest e = no-some e
behind-there p (x ∷ s) rest e = go (begins p (x ∷ s)) refl (λ f. behind-there p s rest f) e
  where
    go : (t : Bool) → begins p (x ∷ s) ≡ t → (behind p s ≡ Some rest → Found p s rest)
        → cond {A = Option (List ℕ)} t (Some (drop (length p) (x ∷ s))) (behind p s) ≡ Some rest → Found p (x ∷ s) rest
    go true f ih e =
        let r = some-injective (drop (length p) (x ∷ s)) rest e in
        record { front = []; made = begins-made p (x ∷ s) f ∙ ap (λ (t : List ℕ). p ++ t) r; first = λ k h. absurd (omega arith) }
    go false f ih e =
        let r = ih e in
        record { front = x ∷ r.front; made = ap (λ (t : List ℕ). x ∷ t) r.made; first = later r }
      where
        later : (r : Found p s rest) (k : ℕ) → k < length (x ∷ r.front) → begins p (drop k (x ∷ (r.front ++ (p ++ rest)))) ≡ false
        later r zero h = subst (λ (t : List ℕ). begins p (x ∷ t) ≡ false) r.made f
        later r (suc k) h = r.first k (omega (arith, h))

behind-back : (x : ℕ) (p front rest : List ℕ)
    → ((k : ℕ) → k < length front → begins (x ∷ p) (drop k (front ++ (x ∷ p ++ rest))) ≡ false)
    → behind (x ∷ p) (front ++ (x ∷ p ++ rest)) ≡ Some rest
unfolding behind
behind-back x p [] rest h = rw (begins-itself (x ∷ p) rest, drop-append_seam (x ∷ p) rest) refl
behind-back x p (y ∷ front) rest h =
    let n = h 0 (omega arith) in
    rw n (behind-back x p front rest (λ k l. h (suc k) (omega (arith, l))))

-- what follows the first p is what was put behind it, p not empty
behind-exactly : (x : ℕ) (p s rest : List ℕ) → (behind (x ∷ p) s ≡ Some rest) ↔ Found (x ∷ p) s rest
behind-exactly x p s rest = (
  behind-there (x ∷ p) s rest,
  λ r. ap (behind (x ∷ p)) r.made ∙ behind-back x p r.front rest r.first,
)

-- no `filename=` begins within `Content-Disposition: `, which has no f: found by computing
past_label : (text : List ℕ) → behind file_name (content_disposition ++ text) ≡ behind file_name text
unfolding behind begins same_bytes
past_label text = refl

abbrev name-behind : (s n : List ℕ) → (behind file_name s ≡ Some n) ↔ Found file_name s n
name-behind = behind-exactly 102 (drop 1 file_name)

module _ (ls : List (List ℕ)) (n : List ℕ) where
  name-there : (w : List (List ℕ)) → lines_with content_disposition ls ≡ w → only_name w ≡ Some n → NameLine ls n
  name-there [] f e = no-some e
  name-there (l ∷ []) f e =
      let o = (only-exactly content_disposition ls l).0 f in
      let r = (name-behind o.0 n).0 (sym (ap (behind file_name) o.1 ∙ past_label o.0) ∙ e) in
      record { front = r.front; line = subst (λ (t : List ℕ). OnlyLine content_disposition t ls) r.made o.2; first = r.first }
  name-there (l ∷ k ∷ w) f e = no-some e

  name_back : NameLine ls n → given_name ls ≡ Some n
  name_back h =
      let text = h.front ++ (file_name ++ n) in
      ap only_name ((only-exactly content_disposition ls (content_disposition ++ text)).1 (text, refl, h.line))
      ∙ past_label text
      ∙ (name-behind text n).1 (record { front = h.front; made = refl; first = h.first })

pub name-given : NameGiven
name-given ls n = (name-there ls n (lines_with content_disposition ls) refl, name_back ls n)
