-- The name: what is parsed as a name is exactly the bytes of a lawful one.
use Rattle.std.specs.Prelude.{Option, None, Some}
use Prim.Native.Nat.{ℕ, ◌+◌, ◌^◌, ◌≤◌, ◌<◌}
use mathlib.Core.Path.{◌≡◌, ◌∙◌, refl, sym, ap}
use mathlib.Core.Bool.{Bool, true, false}
use mathlib.Core.List.{List, ◌++◌}
use native.Mathlib.Omega.{arith}
use lib.Dec.{eqb, lit<}
use lib.ListN.{length, length-append, length-map, drop_of_length-le}
use borrow.Author.Tests.{eq-eqb, eqb-true}
use Rattle.rules.specs.Digits.{part, value, decimal, all_ascii, to_ascii, from_ascii}
use Rattle.rules.specs.Name.{Name, format_number, format_of, lawful_name, underscore, dot_data, encode_name, name_length, name_shape, name_fields, name_with, parse_name}
use Rattle.rules.specs.declared.Format.{Format}
use Rattle.rules.specs.declared.Format.TheVariants.{F201, F202, F203, F301}
use Rattle.laws.proofs.Tests.{no-some}
use Rattle.laws.proofs.Bytes.{equal-same, length-decimal, ascii-digits, part_length}
use Rattle.laws.proofs.Facts.{NameShape, name-shape, LawfulName, name-facts}
use Rattle.about_files.specs.Reading.{NameExactly}
use Rattle.about_files.proofs.Numerals.{digits_decimal, value-decimal, decimal-value, from-to, to-from, digits-ascii}
use Rattle.about_files.proofs.Pieces.{piece, here, skip}

-- ---- the format's number
pub format_back : (f : Format) → format_of (format_number f) ≡ Some f
unfolding format_of
format_back F201 = refl
format_back F202 = refl
format_back F203 = refl
format_back F301 = refl

pub format-number : (n : ℕ) (f : Format) → format_of n ≡ Some f → n ≡ format_number f
unfolding format_of
format-number n f e = go (eqb n 201) refl (eqb n 202) refl (eqb n 203) refl (eqb n 301) refl
  where
    is : (k : ℕ) (g : Format) → eqb n k ≡ true → format_number g ≡ k → Some g ≡ Some f → n ≡ format_number f
    is k g p q r = let g≡ : g ≡ f = cc in eqb-true n k p ∙ sym q ∙ ap format_number g≡

    go : (a : Bool) → eqb n 201 ≡ a → (b : Bool) → eqb n 202 ≡ b → (c : Bool) → eqb n 203 ≡ c → (d : Bool) → eqb n 301 ≡ d → n ≡ format_number f
    go true p b p₂ c p₃ d p₄ = is 201 F201 p refl (rw p at e)
    go false p true p₂ c p₃ d p₄ = is 202 F202 p₂ refl (rw (p, p₂) at e)
    go false p false p₂ true p₃ d p₄ = is 203 F203 p₃ refl (rw (p, p₂, p₃) at e)
    go false p false p₂ false p₃ true p₄ = is 301 F301 p₄ refl (rw (p, p₂, p₃, p₄) at e)
    go false p false p₂ false p₃ false p₄ = no-some (rw (p, p₂, p₃, p₄) at e)

number_small : (f : Format) → format_number f < 10 ^ 3
number_small F201 = lit< tt
number_small F202 = lit< tt
number_small F203 = lit< tt
number_small F301 = lit< tt

module _ (s : List ℕ) where
  facts_shape : NameShape s → name_shape s ≡ true
  unfolding name_shape
  facts_shape p =
      let m₁ = equal-same p.mark₁ in
      let m₂ = equal-same p.mark₂ in
      let m₃ = equal-same p.mark₃ in
      let end = equal-same p.ending in
      simp (eq-eqb (length s) name_length p.long, p.format, m₁, p.segment, m₂, p.plant, m₃, p.created, end)

-- ---- what is read as a name is that name's bytes
module _ (f : Format) (s : List ℕ) (h : name_shape s ≡ true) (v : value (from_ascii (part s 0 3)) ≡ format_number f) where
  read-bytes : s ≡ encode_name (name_fields f s)
  unfolding encode_name
  read-bytes =
      let p = name-shape s h in
      let l : length s ≡ 55 = p.long in
      let few : length s ≤ 55 = omega arith in
      let d = decimal-value (from_ascii (part s 0 3)) 3 (length-map (part s 0 3) _ ∙ part_length s 0 3 (omega arith)) (ascii-digits (part s 0 3) p.format) in
      let e : part s 0 3 ≡ to_ascii (decimal 3 (format_number f)) =
      sym (ap (λ (k : ℕ). to_ascii (decimal 3 k)) (sym v) ∙ ap to_ascii d ∙ to-from (part s 0 3) p.format) in
      piece s 0 3 e
      (piece s 3 1 p.mark₁
      (piece s 4 4 (sym (to-from (part s 4 4) p.segment))
      (piece s 8 1 p.mark₂
      (piece s 9 26 (sym (to-from (part s 9 26) p.plant))
      (piece s 35 1 p.mark₃
      (piece s 36 14 (sym (to-from (part s 36 14) p.created))
      (piece s 50 5 p.ending (drop_of_length-le s few))))))))

-- ---- a name's bytes are read as that name
module _ (n : Name) (g : LawfulName n) where
  abbrev number : List ℕ
  number = to_ascii (decimal 3 (format_number n.format))

  abbrev whole : List ℕ
  whole = encode_name n

  l-number : length number ≡ 3
  l-number = length-map (decimal 3 (format_number n.format)) _ ∙ length-decimal 3 (format_number n.format)

  l-segment : length (to_ascii n.segment) ≡ 4
  l-segment = length-map n.segment _ ∙ g.segment.long

  l-plant : length (to_ascii n.plant) ≡ 26
  l-plant = length-map n.plant _ ∙ g.plant.long

  l-created : length (to_ascii n.created) ≡ 14
  l-created = length-map n.created _ ∙ g.created.long

  long : length whole ≡ 55
  unfolding encode_name
  long =
      let a₁ = l-number in
      let a₂ = l-segment in
      let a₃ = l-plant in
      let a₄ = l-created in
      simp length-append (omega arith)

  p-number : part whole 0 3 ≡ number
  unfolding encode_name
  p-number = here number _ l-number

  p_mark₁ : part whole 3 1 ≡ underscore
  unfolding encode_name
  p_mark₁ = skip number _ l-number 0 1

  p-segment : part whole 4 4 ≡ to_ascii n.segment
  unfolding encode_name
  p-segment = skip number _ l-number 1 4 ∙ here (to_ascii n.segment) _ l-segment

  -- what stands behind the segment
  past : (i k : ℕ) → part whole (8 + i) k ≡ part (underscore ++ (to_ascii n.plant ++ (underscore ++ (to_ascii n.created ++ dot_data)))) i k
  unfolding encode_name
  past i k =
      let e : 8 + i ≡ 3 + (1 + (4 + i)) = omega arith in
      rw e (skip number _ l-number (1 + (4 + i)) k ∙ skip underscore _ refl (4 + i) k ∙ skip (to_ascii n.segment) _ l-segment i k)

  p_mark₂ : part whole 8 1 ≡ underscore
  p_mark₂ = past 0 1

  p-plant : part whole 9 26 ≡ to_ascii n.plant
  p-plant = past 1 26 ∙ here (to_ascii n.plant) _ l-plant

  -- what stands behind the plant ID
  rest : (i k : ℕ) → part whole (35 + i) k ≡ part (underscore ++ (to_ascii n.created ++ dot_data)) i k
  rest i k =
      let e : 35 + i ≡ 8 + (1 + (26 + i)) = omega arith in
      rw e (past (1 + (26 + i)) k ∙ skip underscore _ refl (26 + i) k ∙ skip (to_ascii n.plant) _ l-plant i k)

  p_mark₃ : part whole 35 1 ≡ underscore
  p_mark₃ = rest 0 1

  p-created : part whole 36 14 ≡ to_ascii n.created
  p-created = rest 1 14 ∙ here (to_ascii n.created) _ l-created

  p_ending : part whole 50 5 ≡ dot_data
  p_ending = rest 15 5 ∙ skip underscore (to_ascii n.created ++ dot_data) refl 14 5 ∙ skip (to_ascii n.created) dot_data l-created 0 5

  bytes-shape : name_shape whole ≡ true
  bytes-shape =
      facts_shape whole
      (record {
        long = long;
        format = ap all_ascii p-number ∙ digits-ascii (decimal 3 (format_number n.format)) (digits_decimal 3 (format_number n.format));
        mark₁ = p_mark₁;
        segment = ap all_ascii p-segment ∙ digits-ascii n.segment g.segment.each;
        mark₂ = p_mark₂;
        plant = ap all_ascii p-plant ∙ digits-ascii n.plant g.plant.each;
        mark₃ = p_mark₃;
        created = ap all_ascii p-created ∙ digits-ascii n.created g.created.each;
        ending = p_ending;
      })

  bytes-format : format_of (value (from_ascii (part whole 0 3))) ≡ Some n.format
  bytes-format =
      rw (p-number, from-to (decimal 3 (format_number n.format)), value-decimal 3 (format_number n.format) (number_small n.format))
      (format_back n.format)

  bytes-fields : name_fields n.format whole ≡ n
  bytes-fields = rw (p-segment, p-plant, p-created, from-to n.segment, from-to n.plant, from-to n.created) refl

-- ---- the whole name
name-made : (s : List ℕ) (n : Name) → name_shape s ≡ true → (o : Option Format) → format_of (value (from_ascii (part s 0 3))) ≡ o
    → name_with o s ≡ Some n → (s ≡ encode_name n) × (lawful_name n ≡ true)
name-made s n h None p e = no-some e
name-made s n h (Some f) p e = go (lawful_name (name_fields f s)) refl
  where
    go : (t : Bool) → lawful_name (name_fields f s) ≡ t → (s ≡ encode_name n) × (lawful_name n ≡ true)
    go true q =
        let x : Some (name_fields f s) ≡ Some n = rw q at e in
        let n≡ : name_fields f s ≡ n = cc in
        rw (sym n≡) (read-bytes f s h (format-number _ f p), q)
    go false q = no-some (rw q at e)

pub name-exactly : NameExactly
unfolding parse_name
name-exactly s n = (to (name_shape s) refl, from)
  where
    to : (t : Bool) → name_shape s ≡ t → parse_name s ≡ Some n → (s ≡ encode_name n) × (lawful_name n ≡ true)
    to true h e = name-made s n h (format_of (value (from_ascii (part s 0 3)))) refl (rw h at e)
    to false h e = no-some (rw h at e)

    from : (s ≡ encode_name n) × (lawful_name n ≡ true) → parse_name s ≡ Some n
    from m =
        let g = name-facts n m.1 in
        let f = bytes-fields n g in
        let x : lawful_name (name_fields n.format (encode_name n)) ≡ true = ap lawful_name f ∙ m.1 in
        rw m.0 (rw (bytes-shape n g, bytes-format n g) (rw x (ap (λ (q : Name). Some q) f)))
