-- Laws of names: what a name that keeps the form is made of, the segment's number, and the plant ID's digits.
use Rattle.std.specs.Prelude.{Some, None, Option, is_some}
use Prim.Native.Nat.{ℕ, ◌+◌, ◌/◌, ◌%◌, ◌≤◌, ◌<◌}
use mathlib.Core.Path.{◌≡◌, refl, sym, ap}
use mathlib.Core.Bool.{Bool, true, false, cond, ◌&&◌, ◌||◌, false≢true}
use mathlib.Core.List.{List, [], ◌∷◌}
use native.Mathlib.Omega.{arith}
use lib.Dec.{leb, eqb}
use lib.ListN.{length, length-map}
use borrow.Author.Tests.{eqb-true, leb-true, eq-eqb}
use Rattle.rules.specs.Digits.{part, digits, all_at_most, all_digits, value, value_from, all_ascii, from_ascii}
use Rattle.rules.specs.Calendar.{exists, moment, seconds_of}
use Rattle.rules.specs.Name.{Name, format_of, segment_fits, segment_digit, lawful_name, name_shape, name_fields, name_with, parse_name, any_segment}
use Rattle.rules.specs.declared.Format.{Format}
use Rattle.rules.specs.declared.Format.TheVariants.{F201, F202, F203, F301}
use Rattle.laws.proofs.Tests.{both, no-some}
use Rattle.laws.proofs.Bytes.{ascii-digits, part_length}
use Rattle.laws.proofs.Facts.{name-shape, name-facts, of-digits}
use Rattle.name.specs.Read.{name_read, plant_digits, fits}
use Rattle.name.specs.declared.Fields.{Fields}

-- ---- ASCII digits as values

pub part-digits : (s : List ℕ) (i k : ℕ) → i + k ≤ length s → all_ascii (part s i k) ≡ true → digits k (from_ascii (part s i k)) ≡ true
part-digits s i k h e =
    rw (ascii-digits (part s i k) e, eq-eqb (length (from_ascii (part s i k))) k (simp length-map (part_length s i k h))) refl

-- ---- a segment as a number

-- four digits
pub record Four (s : List ℕ) : Type 0 where
  pub first : ℕ
  pub second : ℕ
  pub third : ℕ
  pub fourth : ℕ
  pub whole : s ≡ first ∷ second ∷ third ∷ fourth ∷ []
  pub first-most : first ≤ 9
  pub second-most : second ≤ 9
  pub third-most : third ≤ 9
  pub fourth-most : fourth ≤ 9

four_of : (s : List ℕ) → length s ≡ 4 → all_digits s ≡ true → Four s
unfolding all_at_most
four_of [] l e = absurd (omega arith)
four_of (a ∷ []) l e = absurd (omega arith)
four_of (a ∷ b ∷ []) l e = absurd (omega arith)
four_of (a ∷ b ∷ c ∷ []) l e = absurd (omega arith)
four_of (a ∷ b ∷ c ∷ d ∷ []) l e =
    let t = both (leb a 9) (leb b 9 && (leb c 9 && (leb d 9 && true))) e in
    let u = both (leb b 9) (leb c 9 && (leb d 9 && true)) t.1 in
    let v = both (leb c 9) (leb d 9 && true) u.1 in
    let w = both (leb d 9) true v.1 in
    record {
      first = a;
      second = b;
      third = c;
      fourth = d;
      whole = refl;
      first-most = leb-true a 9 t.0;
      second-most = leb-true b 9 u.0;
      third-most = leb-true c 9 v.0;
      fourth-most = leb-true d 9 w.0;
    }
four_of (a ∷ b ∷ c ∷ d ∷ x ∷ s) l e = absurd (omega arith)

module _ (s : List ℕ) (e : digits 4 s ≡ true) where
  four : Four s
  four = let t = both (eqb (length s) 4) (all_digits s) e in four_of s (eqb-true (length s) 4 t.0) t.1

  pub segment-below : value s < 10000
  unfolding value_from
  segment-below = let f = four in rw f.whole (omega (arith, f.first-most, f.second-most, f.third-most, f.fourth-most))

  -- the first three digits, the last two and the last
  pub segment-three : value (part s 0 3) ≡ value s / 10
  unfolding value_from
  segment-three = let f = four in rw f.whole (omega (arith, f.fourth-most))

  pub segment-low : value (part s 2 2) ≡ value s % 100
  unfolding value_from
  segment-low = let f = four in rw f.whole (omega (arith, f.third-most, f.fourth-most))

  pub segment-digit : segment_digit s ≡ value s % 10
  unfolding value_from
  segment-digit = let f = four in rw f.whole (omega (arith, f.fourth-most))

  pub segment-fits : (f : Format) → segment_fits f s ≡ fits f (value s)
  unfolding segment_fits
  segment-fits F201 = rw segment-three refl
  segment-fits F202 = rw segment-low refl
  segment-fits F203 = refl
  segment-fits F301 = refl

-- ---- the form

-- what the shape says of its parts that are read as numbers
pub name_long : (s : List ℕ) → name_shape s ≡ true → length s ≡ 55
name_long s e = (name-shape s e).long

pub name_digits : (s : List ℕ) → name_shape s ≡ true → (all_ascii (part s 0 3) ≡ true) × (all_ascii (part s 4 4) ≡ true)
name_digits s e = let t = name-shape s e in (t.format, t.segment)

-- the segment's bytes, and the creation time's
abbrev pub segment_of : List ℕ → List ℕ
segment_of s = from_ascii (part s 4 4)

abbrev pub created_of : List ℕ → List ℕ
created_of s = from_ascii (part s 36 14)

module _ (s : List ℕ) (shape : name_shape s ≡ true) where
  pub has-segment : digits 4 (segment_of s) ≡ true
  has-segment = let t = name-shape s shape in part-digits s 4 4 (omega (arith, t.long)) t.segment

  pub has-plant : digits 26 (from_ascii (part s 9 26)) ≡ true
  has-plant = let t = name-shape s shape in part-digits s 9 26 (omega (arith, t.long)) t.plant

  -- of the fields, segment and creation time decide
  pub lawful_is : (f : Format) → lawful_name (name_fields f s) ≡ (fits f (value (segment_of s)) && (digits 14 (created_of s) && exists (created_of s)))
  unfolding lawful_name
  lawful_is f =
      go (digits 4 (segment_of s)) (segment_fits f (segment_of s)) (digits 26 (from_ascii (part s 9 26)))
      (digits 14 (created_of s)) (exists (created_of s))
      has-segment (segment-fits (segment_of s) has-segment f) has-plant
    where
      go : (a b p d x : Bool) {t : Bool} → a ≡ true → b ≡ t → p ≡ true → (a && b && p && d && x) ≡ (t && (d && x))
      go true true true d x h k l = rw (sym k) refl
      go true false true d x h k l = rw (sym k) refl
      go true b false d x h k l = absurd (false≢true l)
      go false b p d x h k l = absurd (false≢true h)

-- ---- what a name that keeps the form has

pub record Parsed (s : List ℕ) (n : Name) : Type 0 where
  pub long : length s ≡ 55
  pub fields : n ≡ name_fields n.format s
  pub segment : digits 4 n.segment ≡ true
  pub fitting : segment_fits n.format n.segment ≡ true
  pub below : value n.segment < 10000
  pub plant : n.plant ≡ from_ascii (part s 9 26)
  pub plant-digits : digits 26 n.plant ≡ true
  pub created : n.created ≡ from_ascii (part s 36 14)
  pub created-digits : digits 14 n.created ≡ true
  pub date : exists n.created ≡ true

-- the fields of a shape, where they are lawful
lawful-parsed : (s : List ℕ) (f : Format) → name_shape s ≡ true → lawful_name (name_fields f s) ≡ true → Parsed s (name_fields f s)
lawful-parsed s f shape e =
    let n = name_fields f s in
    let w = name-facts n e in
    let segment = of-digits 4 n.segment w.segment in
    record {
      long = (name-shape s shape).long;
      fields = refl;
      segment = segment;
      fitting = w.fits;
      below = segment-below n.segment segment;
      plant = refl;
      plant-digits = of-digits 26 n.plant w.plant;
      created = refl;
      created-digits = of-digits 14 n.created w.created;
      date = w.date;
    }

pub parsed : (s : List ℕ) (n : Name) → parse_name s ≡ Some n → Parsed s n
unfolding parse_name
parsed s n e = go (name_shape s) refl (format_of (value (from_ascii (part s 0 3)))) e
  where
    lawful : (f : Format) (b : Bool) → name_shape s ≡ true → lawful_name (name_fields f s) ≡ b
        → cond b (Some (name_fields f s)) None ≡ Some n → Parsed s n
    lawful f true shape l h = let e : name_fields f s ≡ n = cc in rw e at (lawful-parsed s f shape l)
    lawful f false shape l h = no-some h

    go : (b : Bool) → name_shape s ≡ b → (o : Option Format) → cond b (name_with o s) None ≡ Some n → Parsed s n
    go false shape o h = no-some h
    go true shape None h = no-some h
    go true shape (Some f) h = lawful f (lawful_name (name_fields f s)) shape refl h

-- ---- the plant ID's digits

pub plant-is : (s : List ℕ) (n : Name) → parse_name s ≡ Some n → plant_digits s ≡ n.plant
unfolding plant_digits
plant-is s n e = let t = parsed s n e in rw (eq-eqb (length s) 55 t.long) (sym t.plant)

-- ---- the answer

pub read-broken : (o : Option Name) → None ≡ name_read o → o ≡ None
read-broken None e = refl
read-broken (Some n) e = let x : ◌≡◌ {A = ℕ} 0 1 = cc in absurd (omega arith)

-- what was read is the fields of a name
pub record Read (o : Option Name) (f : Fields) : Type 0 where
  pub name : Name
  pub found : o ≡ Some name
  pub format : f.format ≡ name.format
  pub segment : f.segment ≡ value name.segment

pub read_named : (o : Option Name) (f : Fields) → Some f ≡ name_read o → Read o f
read_named None f e = let x : ◌≡◌ {A = ℕ} 0 1 = cc in absurd (omega arith)
read_named (Some n) f e =
    let same : f ≡ record { format = n.format; segment = value n.segment } = cc in
    record { name = n; found = refl; format = ap (λ (x : Fields). x.format) same; segment = ap (λ (x : Fields). x.segment) same }

-- ---- a request's segment

pub segment_any : (s : List ℕ) → length s ≡ 4 → all_ascii s ≡ true → any_segment s
    ≡ (fits F201 (value (from_ascii s)) || fits F202 (value (from_ascii s)) || fits F203 (value (from_ascii s)) || fits F301 (value (from_ascii s)))
unfolding any_segment
segment_any s long e =
    let d : digits 4 (from_ascii s) ≡ true = rw (ascii-digits s e, eq-eqb (length (from_ascii s)) 4 (simp length-map long)) refl in
    let f = segment-fits (from_ascii s) d in
    rw (eq-eqb (length s) 4 long, e, f F201, f F202, f F203, f F301) refl

-- a request's segment is four bytes
pub segment-length : (s : List ℕ) → any_segment s ≡ true → length s ≡ 4
unfolding any_segment
segment-length s e =
    let d = from_ascii s in
    let any = segment_fits F201 d || segment_fits F202 d || segment_fits F203 d || segment_fits F301 d in
    eqb-true (length s) 4 (both (eqb (length s) 4) (all_ascii s) (both (eqb (length s) 4 && all_ascii s) any e).0).0

-- ---- the creation time

pub date_some : (s : List ℕ) → is_some (moment s) ≡ (digits 14 s && exists s)
unfolding moment
date_some s = go (digits 14 s && exists s)
  where
    go : (b : Bool) → is_some (cond b (Some (seconds_of s)) None) ≡ b
    go true = refl
    go false = refl
