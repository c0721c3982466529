-- THE CHARACTERS OF A TEXT, decoded and shown: what the code of one character asks and promises. Assumes nothing.
use Rattle.std.specs.Prelude.{◌≡◌, refl, List, [], ◌∷◌, ◌++◌, Bool, true, false, ℕ, zero, suc, ◌+◌, ◌-◌, ◌*◌, ◌/◌, ◌%◌, ◌≤◌, ◌<◌, length, get_or, take, drop, ltb, Option, Some, None}
use Rattle.std.proofs.Common.{sym, ap, ◌∙◌, add-zero, arith, length-append, length-drop, get_or-drop, drop-drop, ltb-true, le-leb, eq-eqb, ne_eqb}
use Rattle.std.proofs.Math.Decide.{dec_le}
use Rattle.std.proofs.Math.Seq.{slice, take-append_seam, drop-append_seam}
use Rattle.std.proofs.lemmas.Bool.{lt-leb}
use Rattle.exact.specs.Class.{only_no}
use Rattle.exact.specs.Place.{slice_at}
use Rattle.language.specs.Characters.{utf8, ascii, character}
use Rattle.language.specs.Strings.{scalar}
use Rattle.language.specs.House.{shown, letter, hexes, hexletter}
use Rattle.utf8.specs.Spelling.{utf8_one, utf8_two, utf8_three, utf8_four}
use Rattle.house.specs.Hexes.{scalar_small}
use Rattle.shaped.specs.Shaped.{Scripted, scripted_none, scripted_more}
use Rattle.writer.specs.declared.Code.{Code}
use Rattle.writer.specs.Allowed.{low_allowed}
use Rattle.writer.specs.Puts.{ceiling, Puts, puts_none, puts_as, puts_then}
use borrow.Author.Rules.{rules}

-- the first character of a text, and what is behind it
pub record First (s : List ℕ) : Type 0 where
  pub value : ℕ
  pub good : scalar value ≡ true
  pub rest : List ℕ
  pub is : s ≡ utf8 value ++ rest
  pub script : Scripted rest

pub first : {s : List ℕ} → Scripted s → 0 < length s → First s
first scripted_none h = absurd (omega arith)
first (scripted_more {s = s} v g x) h = record { value = v; good = g; rest = s; is = refl; script = x }

-- hex digits: the last, or one more
hexes_low : (n v : ℕ) → (n ≡ 0 → ⊥) → v ≤ 15 → hexes n v ≡ hexletter v ∷ []
unfolding hexes
hexes_low zero v z l = absurd (z refl)
hexes_low (suc n) v z l = rw (le-leb v 15 l)

hexes_high : (n v : ℕ) → (n ≡ 0 → ⊥) → 15 < v → hexes n v ≡ hexes (n - 1) (v / 16) ++ hexletter (v % 16) ∷ []
unfolding hexes
hexes_high zero v z l = absurd (z refl)
hexes_high (suc n) v z l = let e : suc n - 1 ≡ n = omega arith in rw (lt-leb v 15 l, e)

-- a character: short, as itself, or by its number
short_is : (v : ℕ) → (letter v ≡ 0 → ⊥) → shown v ≡ 92 ∷ letter v ∷ []
unfolding shown
short_is v z = rw (ne_eqb (letter v) 0 z)

pub self_is : (v : ℕ) → letter v ≡ 0 → character ascii v ≡ true → shown v ≡ utf8 v
unfolding shown
self_is v z e = rw (eq-eqb (letter v) 0 z, e)

number_is : (v : ℕ) → letter v ≡ 0 → character ascii v ≡ false → shown v ≡ 92 ∷ 117 ∷ 123 ∷ hexes 6 v ++ 125 ∷ []
unfolding shown
number_is v z e = rw (eq-eqb (letter v) 0 z, e)

abbrev pub Leads : List ℕ → ℕ → Type 0
Leads s a = First (drop a s)

pub record Coded (v a : ℕ) (r : Code) : Type 0 where
  pub value : r.value ≡ v
  pub next : r.next ≡ a + length (utf8 v)

-- ASKED of a character that is shown, with its bytes s
pub record Marks (s : List ℕ) (v x : ℕ) : Type 0 where
  pub bytes : s ≡ utf8 v
  pub room : x + length (shown v) ≤ ceiling

-- a quote, a backslash or a control
pub record Special (b : ℕ) : Type 0 where
  pub small : b ≤ 127
  pub other : letter b ≡ 0 → character ascii b ≡ false

-- what the bytes of the character at a say
pub record Digits (s : List ℕ) (a v : ℕ) : Type 0 where
  pub inside : a < length s
  pub one : get_or s a 0 ≤ 127 → (get_or s a 0 ≡ v) × (length (utf8 v) ≡ 1)
  pub second : 127 < get_or s a 0 → (a + 1 < length s) × (128 ≤ get_or s (a + 1) 0)
  pub two : 127 < get_or s a 0 → get_or s a 0 ≤ 223
      → (192 ≤ get_or s a 0) × (64 * (get_or s a 0 - 192) + (get_or s (a + 1) 0 - 128) ≡ v) × (length (utf8 v) ≡ 2)
  pub third : 223 < get_or s a 0 → (a + 2 < length s) × (128 ≤ get_or s (a + 2) 0)
  pub three : 223 < get_or s a 0 → get_or s a 0 ≤ 239
      → (4096 * (get_or s a 0 - 224) + 64 * (get_or s (a + 1) 0 - 128) + (get_or s (a + 2) 0 - 128) ≡ v) × (length (utf8 v) ≡ 3)
  pub fourth : 239 < get_or s a 0 → (a + 3 < length s) × (128 ≤ get_or s (a + 3) 0)
  pub four : 239 < get_or s a 0
      → (262144 * (get_or s a 0 - 240) + 4096 * (get_or s (a + 1) 0 - 128) + 64 * (get_or s (a + 2) 0 - 128) + (get_or s (a + 3) 0 - 128) ≡ v) × (length (utf8 v) ≡ 4)

module _ (s : List ℕ) (a : ℕ) (h : Leads s a) where
  -- a byte of the character, and how many there are
  pub digit : (w : List ℕ) → utf8 h.value ≡ w → (k : ℕ) → get_or s (a + k) 0 ≡ get_or (w ++ h.rest) k 0
  digit w u k = sym (get_or-drop a s k 0) ∙ ap (λ l. get_or l k 0) (h.is ∙ ap (λ l. l ++ h.rest) u)

  pub digit_first : (w : List ℕ) → utf8 h.value ≡ w → get_or s a 0 ≡ get_or (w ++ h.rest) 0 0
  digit_first w u = ap (λ i. get_or s i 0) (sym (add-zero a)) ∙ digit w u 0

  long : (w : List ℕ) → utf8 h.value ≡ w → 0 < length w → a + length w ≤ length s
  long w u z =
      let l : length (drop a s) ≡ length w + length h.rest = ap length (h.is ∙ ap (λ l. l ++ h.rest) u) ∙ length-append w h.rest in
      omega (arith, length-drop a s)

  digits_one : h.value ≤ 127 → Digits s a h.value
  digits_one l =
      let u = utf8_one h.value l in
      let p : get_or s a 0 ≡ h.value = digit_first _ u in
      let n = long _ u (omega arith) in
      record {
        inside = omega arith;
        one = λ _. (p, ap length u);
        second = λ x. absurd (omega arith);
        two = λ x _. absurd (omega arith);
        third = λ x. absurd (omega arith);
        three = λ x _. absurd (omega arith);
        fourth = λ x. absurd (omega arith);
        four = λ x. absurd (omega arith);
      }

  digits_two : 127 < h.value → h.value ≤ 2047 → Digits s a h.value
  digits_two l m =
      let u = utf8_two h.value l m in
      let p : get_or s a 0 ≡ 192 + h.value / 64 = digit_first _ u in
      let q : get_or s (a + 1) 0 ≡ 128 + h.value % 64 = digit _ u 1 in
      let n = long _ u (omega arith) in
      record {
        inside = omega arith;
        one = λ x. absurd (omega arith);
        second = λ _. (omega arith, omega arith);
        two = λ _ _. (omega arith, omega arith, ap length u);
        third = λ x. absurd (omega arith);
        three = λ x _. absurd (omega arith);
        fourth = λ x. absurd (omega arith);
        four = λ x. absurd (omega arith);
      }

  digits_three : 2047 < h.value → h.value ≤ 65535 → Digits s a h.value
  digits_three l m =
      let u = utf8_three h.value l m in
      let p : get_or s a 0 ≡ 224 + h.value / 4096 = digit_first _ u in
      let q : get_or s (a + 1) 0 ≡ 128 + h.value / 64 % 64 = digit _ u 1 in
      let r : get_or s (a + 2) 0 ≡ 128 + h.value % 64 = digit _ u 2 in
      let n = long _ u (omega arith) in
      record {
        inside = omega arith;
        one = λ x. absurd (omega arith);
        second = λ _. (omega arith, omega arith);
        two = λ _ x. absurd (omega arith);
        third = λ _. (omega arith, omega arith);
        three = λ _ _. (omega arith, ap length u);
        fourth = λ x. absurd (omega arith);
        four = λ x. absurd (omega arith);
      }

  digits_four : 65535 < h.value → h.value ≤ 1114111 → Digits s a h.value
  digits_four l m =
      let u = utf8_four h.value l in
      let p : get_or s a 0 ≡ 240 + h.value / 262144 = digit_first _ u in
      let q : get_or s (a + 1) 0 ≡ 128 + h.value / 4096 % 64 = digit _ u 1 in
      let r : get_or s (a + 2) 0 ≡ 128 + h.value / 64 % 64 = digit _ u 2 in
      let t : get_or s (a + 3) 0 ≡ 128 + h.value % 64 = digit _ u 3 in
      let x : 64 * (h.value / 262144) + h.value / 4096 % 64 ≡ h.value / 4096 = omega arith in
      let y : 64 * (h.value / 4096) + h.value / 64 % 64 ≡ h.value / 64 = omega arith in
      let z : 64 * (h.value / 64) + h.value % 64 ≡ h.value = omega arith in
      let n = long _ u (omega arith) in
      record {
        inside = omega arith;
        one = λ c. absurd (omega arith);
        second = λ _. (omega arith, omega arith);
        two = λ _ c. absurd (omega arith);
        third = λ _. (omega arith, omega arith);
        three = λ _ c. absurd (omega arith);
        fourth = λ _. (omega arith, omega arith);
        four = λ _. (omega arith, ap length u);
      }

  pub digits : Digits s a h.value
  digits = by (dec_le h.value 127) (dec_le h.value 2047) (dec_le h.value 65535)
    where
      by : Dec (h.value ≤ 127) → Dec (h.value ≤ 2047) → Dec (h.value ≤ 65535) → Digits s a h.value
      by (yes x) y z = digits_one x
      by (no x) (yes y) z = digits_two (omega arith) y
      by (no x) (no y) (yes z) = digits_three (omega arith) z
      by (no x) (no y) (no z) = digits_four (omega arith) (scalar_small h.value h.good)

  -- the character's bytes, and what stands behind them
  pub lead_bytes : slice a (a + length (utf8 h.value)) s ≡ utf8 h.value
  lead_bytes = sym (slice_at a (length (utf8 h.value)) s) ∙ (ap (take (length (utf8 h.value))) h.is ∙ take-append_seam (utf8 h.value) h.rest)

  pub lead_rest : drop (a + length (utf8 h.value)) s ≡ h.rest
  lead_rest = sym (drop-drop (length (utf8 h.value)) a s) ∙ (ap (drop (length (utf8 h.value))) h.is ∙ drop-append_seam (utf8 h.value) h.rest)

  pub lead_inside : a < length s → a + length (utf8 h.value) ≤ length s
  lead_inside z =
      let l : length (drop a s) ≡ length (utf8 h.value) + length h.rest = ap length h.is ∙ length-append (utf8 h.value) h.rest in
      omega (arith, length-drop a s)

-- what a character of one byte, of two, of three and of four is, as code tells it
module _ (s : List ℕ) (a : ℕ) (h : Leads s a) where
  pub coded_one : {b : ℕ} → b ≡ get_or s a 0 → b ≤ 127 → Coded h.value a (record { value = b; next = a + 1 })
  coded_one e l = let d = (digits s a h).one (omega arith) in record { value = e ∙ d.0; next = omega (arith, d.1) }

  pub coded_two : {b t : ℕ} → b ≡ get_or s a 0 → t ≡ get_or s (a + 1) 0 - 128 → 127 < b → b ≤ 223 → Coded h.value a (record { value = 64 * (b - 192) + t; next = a + 2 })
  coded_two e f l m = let d = (digits s a h).two (omega arith) (omega arith) in record { value = omega (arith, d.1); next = omega (arith, d.2) }

  pub coded_three : {b t u : ℕ} → b ≡ get_or s a 0 → t ≡ get_or s (a + 1) 0 - 128 → u ≡ get_or s (a + 2) 0 - 128 → 223 < b → b ≤ 239
      → Coded h.value a (record { value = 4096 * (b - 224) + 64 * t + u; next = a + 3 })
  coded_three e f g l m = let d = (digits s a h).three (omega arith) (omega arith) in record { value = omega (arith, d.0); next = omega (arith, d.1) }

  pub coded_four : {b t u w : ℕ} → b ≡ get_or s a 0 → t ≡ get_or s (a + 1) 0 - 128 → u ≡ get_or s (a + 2) 0 - 128 → w ≡ get_or s (a + 3) 0 - 128 → 239 < b
      → Coded h.value a (record { value = 262144 * (b - 240) + 4096 * t + 64 * u + w; next = a + 4 })
  coded_four e f g k l = let d = (digits s a h).four (omega arith) in record { value = omega (arith, d.0); next = omega (arith, d.1) }

  -- the bytes that are read stand there
  pub first_inside : a < length s
  first_inside = (digits s a h).inside

  pub second_in : {b : ℕ} → b ≡ get_or s a 0 → 127 < b → a + 1 < length s
  second_in e l = ((digits s a h).second (omega arith)).0

  pub second_tail : {b : ℕ} → b ≡ get_or s a 0 → 127 < b → 128 ≤ get_or s (a + 1) 0
  second_tail e l = ((digits s a h).second (omega arith)).1

  pub two_lead : {b : ℕ} → b ≡ get_or s a 0 → 127 < b → b ≤ 223 → 192 ≤ b
  two_lead e l m = let d = (digits s a h).two (omega arith) (omega arith) in omega (arith, d.0)

  pub third_in : {b : ℕ} → b ≡ get_or s a 0 → 223 < b → a + 2 < length s
  third_in e l = ((digits s a h).third (omega arith)).0

  pub third_tail : {b : ℕ} → b ≡ get_or s a 0 → 223 < b → 128 ≤ get_or s (a + 2) 0
  third_tail e l = ((digits s a h).third (omega arith)).1

  pub fourth_in : {b : ℕ} → b ≡ get_or s a 0 → 239 < b → a + 3 < length s
  fourth_in e l = ((digits s a h).fourth (omega arith)).0

  pub fourth_tail : {b : ℕ} → b ≡ get_or s a 0 → 239 < b → 128 ≤ get_or s (a + 3) 0
  fourth_tail e l = ((digits s a h).fourth (omega arith)).1

pub ruleset coding = (coded_one, coded_two, coded_three, coded_four, first_inside, second_in, second_tail, two_lead, third_in, third_tail, fourth_in, fourth_tail)

-- HEX DIGITS of a number, one more
pub hexes_none : (n v : ℕ) {x : ℕ} {out : List ℕ} → n ≡ 0 → Puts (hexes n v) x x out out
unfolding hexes
hexes_none n v e = rw e puts_none

module _ (n v : ℕ) {x y : ℕ} {out out' : List ℕ} where
  pub hexes_one : {b : ℕ} → (n ≡ 0 → ⊥) → v ≤ 15 → b ≡ hexletter v → Puts (b ∷ []) x y out out' → Puts (hexes n v) x y out out'
  hexes_one z l e h = puts_as (sym (hexes_low n v z l ∙ ap (λ k. k ∷ []) (sym e))) h

  pub hexes_more : {z b : ℕ} {out'' : List ℕ} → (n ≡ 0 → ⊥) → 15 < v → b ≡ hexletter (v % 16) → Puts (hexes (n - 1) (v / 16)) x y out out' → Puts (b ∷ []) y z out' out'' → Puts (hexes n v) x z out out''
  hexes_more k l e g h = puts_as (ap (λ d. hexes (n - 1) (v / 16) ++ d ∷ []) e ∙ sym (hexes_high n v k l)) (puts_then g h)

-- they have room
module _ (n v x : ℕ) (room : x + length (hexes n v) ≤ ceiling) where
  pub one_room : (n ≡ 0 → ⊥) → v ≤ 15 → x < ceiling
  one_room z l = let e = ap length (hexes_low n v z l) in omega arith

  pub rest_room : (n ≡ 0 → ⊥) → 15 < v → x + length (hexes (n - 1) (v / 16)) ≤ ceiling
  rest_room z l = let e = ap length (hexes_high n v z l) in omega (arith, length-append (hexes (n - 1) (v / 16)) (hexletter (v % 16) ∷ []))

  pub last_room : {y : ℕ} {out out' : List ℕ} → (n ≡ 0 → ⊥) → 15 < v → Puts (hexes (n - 1) (v / 16)) x y out out' → y < ceiling
  last_room z l h = let e = ap length (hexes_high n v z l) in omega (arith, h.ends, length-append (hexes (n - 1) (v / 16)) (hexletter (v % 16) ∷ []))

pub ruleset hexing = (hexes_none, hexes_one, hexes_more, one_room, rest_room, last_room)

-- `\u{…}`
module _ (v x : ℕ) {a b c d : ℕ} {o p q r t : List ℕ} where
  pub numbered_puts : Puts (92 ∷ 117 ∷ []) x a o p → Puts (123 ∷ []) a b p q → Puts (hexes 6 v) b c q r → Puts (125 ∷ []) c d r t
      → Puts (92 ∷ 117 ∷ 123 ∷ hexes 6 v ++ 125 ∷ []) x d o t
  numbered_puts h k l m = puts_then h (puts_then k (puts_then l m))

module _ (v x : ℕ) (room : x + length (92 ∷ 117 ∷ 123 ∷ hexes 6 v ++ 125 ∷ []) ≤ ceiling) {a b : ℕ} {o p q : List ℕ} where
  pub code_room : Puts (92 ∷ 117 ∷ []) x a o p → Puts (123 ∷ []) a b p q → b + length (hexes 6 v) ≤ ceiling
  code_room h k = omega (arith, h.ends, k.ends, length-append (hexes 6 v) (125 ∷ []))

  pub close_room : {c : ℕ} {r : List ℕ} → Puts (92 ∷ 117 ∷ []) x a o p → Puts (123 ∷ []) a b p q → Puts (hexes 6 v) b c q r → c < ceiling
  close_room h k l = omega (arith, h.ends, k.ends, l.ends, length-append (hexes 6 v) (125 ∷ []))

pub ruleset numbering = (numbered_puts, code_room, close_room)

-- what stands behind a backslash for a character, if it is written short
pub data Lettered (v : ℕ) : Option ℕ → Type 0 where
  unlettered : letter v ≡ 0 → Lettered v None
  lettered : {b : ℕ} → letter v ≡ b → 0 < b → Lettered v (Some b)

-- "Quote, backslash and the five lettered escapes"
module _ (v : ℕ) where
  pub letter_34 : v ≡ 34 → Lettered v (Some 34)
  letter_34 e = lettered (ap letter e) (omega arith)

  pub letter_92 : v ≡ 92 → Lettered v (Some 92)
  letter_92 e = lettered (ap letter e) (omega arith)

  pub letter_8 : v ≡ 8 → Lettered v (Some 98)
  letter_8 e = lettered (ap letter e) (omega arith)

  pub letter_12 : v ≡ 12 → Lettered v (Some 102)
  letter_12 e = lettered (ap letter e) (omega arith)

  pub letter_10 : v ≡ 10 → Lettered v (Some 110)
  letter_10 e = lettered (ap letter e) (omega arith)

  pub letter_13 : v ≡ 13 → Lettered v (Some 114)
  letter_13 e = lettered (ap letter e) (omega arith)

  pub letter_9 : v ≡ 9 → Lettered v (Some 116)
  letter_9 e = lettered (ap letter e) (omega arith)

  pub letter_none : (v ≡ 34 → ⊥) → (v ≡ 92 → ⊥) → (v ≡ 8 → ⊥) → (v ≡ 12 → ⊥) → (v ≡ 10 → ⊥) → (v ≡ 13 → ⊥) → (v ≡ 9 → ⊥) → Lettered v None
  letter_none a b c d e f g =
      unlettered (simp (only_no 34 v a, only_no 92 v b, only_no 8 v c, only_no 12 v d, only_no 10 v e, only_no 13 v f, only_no 9 v g) refl)

pub ruleset letters = (letter_34, letter_92, letter_8, letter_12, letter_10, letter_13, letter_9, letter_none, rules)

no_letter : {v : ℕ} → Lettered v None → letter v ≡ 0
no_letter (unlettered e) = e

a_letter : {v b : ℕ} → Lettered v (Some b) → (letter v ≡ b) × (letter v ≡ 0 → ⊥)
a_letter (lettered e l) = (e, λ z. omega arith)

-- A CHARACTER SHOWN: short, as itself, or by its number
module _ (v : ℕ) {x y : ℕ} {out out' : List ℕ} where
  pub shown_short : {b : ℕ} → Lettered v (Some b) → Puts (92 ∷ b ∷ []) x y out out' → Puts (shown v) x y out out'
  shown_short l h = let e = a_letter l in puts_as (ap (λ k. 92 ∷ k ∷ []) (sym e.0) ∙ sym (short_is v e.1)) h

  pub shown_self : {s : List ℕ} → Lettered v None → {t : Bool} → t ≡ character ascii v → t ≡ true → s ≡ utf8 v → Puts s x y out out' → Puts (shown v) x y out out'
  shown_self l c w u h = puts_as (u ∙ sym (self_is v (no_letter l) (sym c ∙ w))) h

  pub shown_number : Lettered v None → {t : Bool} → t ≡ character ascii v → t ≡ false → Puts (92 ∷ 117 ∷ 123 ∷ hexes 6 v ++ 125 ∷ []) x y out out' → Puts (shown v) x y out out'
  shown_number l c w h = puts_as (sym (number_is v (no_letter l) (sym c ∙ w))) h

module _ (v x : ℕ) (room : x + length (shown v) ≤ ceiling) where
  pub short_room : {b : ℕ} → Lettered v (Some b) → x + 2 ≤ ceiling
  short_room l = let n = ap length (short_is v (a_letter l).1) in omega arith

  pub self_room : {s : List ℕ} → Lettered v None → {t : Bool} → t ≡ character ascii v → t ≡ true → s ≡ utf8 v → x + length s ≤ ceiling
  self_room l c w u = let n = ap length (self_is v (no_letter l) (sym c ∙ w)) in omega (arith, ap length u)

  pub number_room : Lettered v None → {t : Bool} → t ≡ character ascii v → t ≡ false → x + length (92 ∷ 117 ∷ 123 ∷ hexes 6 v ++ 125 ∷ []) ≤ ceiling
  number_room l c w = let n = ap length (number_is v (no_letter l) (sym c ∙ w)) in omega arith

pub ruleset showing = (shown_short, shown_self, shown_number, short_room, self_room, number_room)

-- special characters
module _ (b : ℕ) where
  pub special_backslash : b ≡ 92 → Special b
  special_backslash e = record { small = omega arith; other = λ z. let k : 92 ≡ letter b = ap letter (sym e) in absurd (omega arith) }

  pub special_quote : b ≡ 34 → Special b
  special_quote e = record { small = omega arith; other = λ z. let k : 34 ≡ letter b = ap letter (sym e) in absurd (omega arith) }

  pub special_low : ltb b 32 ≡ true → Special b
  special_low e =
      let l = ltb-true b 32 e in
      record {
        small = omega arith;
        other =
            λ z.
            let n : b ≡ 10 → ⊥ = λ k. let m : 110 ≡ letter b = ap letter (sym k) in omega arith in
            sym (low_allowed b l) ∙ ne_eqb b 10 n;
      }

  module _ {x y : ℕ} {out out' : List ℕ} where
    pub special_number : Special b → Lettered b None → Puts (92 ∷ 117 ∷ 123 ∷ hexes 6 b ++ 125 ∷ []) x y out out' → Puts (shown b) x y out out'
    special_number h l p = let e = no_letter l in puts_as (sym (number_is b e (h.other e))) p

  pub special_room : (x : ℕ) → x + length (shown b) ≤ ceiling → Special b → Lettered b None → x + length (92 ∷ 117 ∷ 123 ∷ hexes 6 b ++ 125 ∷ []) ≤ ceiling
  special_room x l h k = let e = no_letter k in let n = ap length (number_is b e (h.other e)) in omega arith

pub ruleset specials = (shown_short, short_room, special_number, special_room)
