-- A character's scalar value from its bytes, by how many they are. Assumes nothing.
use Rattle.std.specs.Prelude.{◌≡◌, List, ℕ, ◌+◌, ◌-◌, ◌*◌, ◌/◌, ◌%◌, ◌≤◌, ◌<◌, length, take, get_or}
use Rattle.std.proofs.Common.{sym, ap, subst, ◌∙◌, add-zero, arith, get_or-drop, get_or-take}
use Rattle.std.proofs.Math.Decide.{dec_le}
use Rattle.std.proofs.Math.Seq.{length-slice}
use Rattle.language.specs.Characters.{utf8}
use Rattle.utf8.specs.Wide.{wide_least}
use Rattle.utf8.specs.Spelling.{utf8_two, utf8_three, utf8_four}
use Rattle.characters.specs.Reads.{Stands, Wide}

-- a number from one to another
pub record Between (l h b : ℕ) : Type 0 where
  pub least : l ≤ b
  pub most : b ≤ h

-- a byte that is no first one
abbrev pub Tail : ℕ → Type 0
Tail b = Between 128 191 b

-- what the bytes of v say, from a up to e
pub record Digits (doc : List ℕ) (a e v : ℕ) : Type 0 where
  pub second : (a + 1 < e) × Tail (get_or doc (a + 1) 0)
  pub two : e - a ≡ 2 → Between 192 223 (get_or doc a 0) × (v ≡ 64 * (get_or doc a 0 - 192) + (get_or doc (a + 1) 0 - 128))
  pub third : (e - a ≡ 2 → ⊥) → (a + 2 < e) × Tail (get_or doc (a + 2) 0)
  pub three : e - a ≡ 3
      → Between 224 239 (get_or doc a 0) × (v ≡ 4096 * (get_or doc a 0 - 224) + 64 * (get_or doc (a + 1) 0 - 128) + (get_or doc (a + 2) 0 - 128))
  pub four : (e - a ≡ 2 → ⊥) → (e - a ≡ 3 → ⊥)
      → (a + 3 < e) × Tail (get_or doc (a + 3) 0) × Between 240 244 (get_or doc a 0)
      × (v ≡ 262144 * (get_or doc a 0 - 240) + 4096 * (get_or doc (a + 1) 0 - 128) + 64 * (get_or doc (a + 2) 0 - 128) + (get_or doc (a + 3) 0 - 128))

module _ (doc : List ℕ) (a e v : ℕ) (high : 127 < v) (s : Stands doc a v e) where
  size : (w : List ℕ) → utf8 v ≡ w → e - a ≡ length w
  size w u = sym (length-slice a e doc s.inside) ∙ ap length (s.bytes ∙ u)

  digit : (w : List ℕ) → utf8 v ≡ w → (k : ℕ) → a + k < e → get_or doc (a + k) 0 ≡ get_or w k 0
  digit w u k h = sym (get_or-take e doc (a + k) 0 h) ∙ (sym (get_or-drop a (take e doc) k 0) ∙ ap (λ l. get_or l k 0) (s.bytes ∙ u))

  digits_two : v ≤ 2047 → Digits doc a e v
  digits_two h =
      let u = utf8_two v high h in
      let n : e - a ≡ 2 = size _ u in
      let p : get_or doc a 0 ≡ 192 + v / 64 = ap (λ i. get_or doc i 0) (sym (add-zero a)) ∙ digit _ u 0 (omega arith) in
      let q : get_or doc (a + 1) 0 ≡ 128 + v % 64 = digit _ u 1 (omega arith) in
      record {
        second = omega arith;
        two = λ _. (omega arith, omega arith);
        third = λ x. absurd (x n);
        three = λ x. absurd (omega arith);
        four = λ x. absurd (x n);
      }

  digits_three : 2047 < v → v ≤ 65535 → Digits doc a e v
  digits_three l h =
      let u = utf8_three v l h in
      let n : e - a ≡ 3 = size _ u in
      let p : get_or doc a 0 ≡ 224 + v / 4096 = ap (λ i. get_or doc i 0) (sym (add-zero a)) ∙ digit _ u 0 (omega arith) in
      let q : get_or doc (a + 1) 0 ≡ 128 + v / 64 % 64 = digit _ u 1 (omega arith) in
      let r : get_or doc (a + 2) 0 ≡ 128 + v % 64 = digit _ u 2 (omega arith) in
      record {
        second = omega arith;
        two = λ x. absurd (omega arith);
        third = λ x. omega arith;
        three = λ _. (omega arith, omega arith);
        four = λ x y. absurd (y n);
      }

  digits_four : 65535 < v → v ≤ 1114111 → Digits doc a e v
  digits_four l h =
      let u = utf8_four v l in
      let n : e - a ≡ 4 = size _ u in
      let p : get_or doc a 0 ≡ 240 + v / 262144 = ap (λ i. get_or doc i 0) (sym (add-zero a)) ∙ digit _ u 0 (omega arith) in
      let q : get_or doc (a + 1) 0 ≡ 128 + v / 4096 % 64 = digit _ u 1 (omega arith) in
      let r : get_or doc (a + 2) 0 ≡ 128 + v / 64 % 64 = digit _ u 2 (omega arith) in
      let t : get_or doc (a + 3) 0 ≡ 128 + v % 64 = digit _ u 3 (omega arith) in
      let x : 64 * (v / 262144) + v / 4096 % 64 ≡ v / 4096 = omega arith in
      let y : 64 * (v / 4096) + v / 64 % 64 ≡ v / 64 = omega arith in
      let z : 64 * (v / 64) + v % 64 ≡ v = omega arith in
      record {
        second = omega arith;
        two = λ c. absurd (omega arith);
        third = λ _. omega arith;
        three = λ c. absurd (omega arith);
        four = λ _ _. (omega arith, omega arith, omega arith, omega arith);
      }

  pub digits : Digits doc a e v
  digits = by (dec_le v 2047) (dec_le v 65535)
    where
      by : Dec (v ≤ 2047) → Dec (v ≤ 65535) → Digits doc a e v
      by (yes x) y = digits_two x
      by (no x) (yes y) = digits_three (omega arith) y
      by (no x) (no y) = digits_four (omega arith) (wide_least v (s.allowed high)).1

-- what a tail byte adds
pub record Added (b r : ℕ) : Type 0 where
  pub is : r ≡ b - 128
  pub small : r < 64

-- what code learns of a character that stands from a up to e
module _ (doc : List ℕ) (a e : ℕ) (w : Wide doc a e) where
  pub wide_digits : Digits doc a e w.value
  wide_digits = digits doc a e w.value w.high w.stands

  pub stands_as : (r : ℕ) → r ≡ w.value → Stands doc a r e
  stands_as r h = subst (λ v. Stands doc a v e) (sym h) w.stands
