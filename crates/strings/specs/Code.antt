-- The digits of `\u{..}`: a machine that counts them and keeps their number has the same words as the definition, and reads them exactly.
use Rattle.std.specs.Prelude.{◌≡◌, refl, List, [], ◌∷◌, ◌⊎◌, Bool, true, false, ℕ, suc, ◌+◌, ◌*◌, ◌≤◌, ◌<◌, length, leb}
use Rattle.std.proofs.Common.{subst, inl, inr, zero-add, arith, leb-true, leb-false}
use Rattle.std.proofs.Math.Decide.{dec_le}
use Rattle.notation.specs.Lang.{Lang, Byte, byte, Star, nil, cons, Ret, ret}
use Rattle.language.specs.Strings.{hexdigit, hexval, hex_number, scalar, Code}
use Rattle.exact.specs.Class.{Starts, pick, and, or, clash, is, within, ◌to◌, and_of, or_of, range_of, leb_yes, and_true, or_left, or_right}
use Rattle.exact.specs.Out.{Reader}
use Rattle.exact.specs.Comb.{exact_iff}
use Rattle.exact.specs.Ll.{Shape, Begun, Ll, by_first}
use Rattle.exact.specs.Run.{Run, steps, run_r, Laws, run_firm, run_full, lives, run_exact, stay, ahead}

-- nothing yet; c digits that make v; no number
pub data Num : Type 0 where
  empty : Num
  num : ℕ → ℕ → Num
  bust : Num

abbrev pub grow : Num → ℕ → Num
grow empty b = pick (is hexdigit b) (num 1 (hexval b)) bust
grow (num c v) b = pick (and (is hexdigit b) (leb c 5)) (num (suc c) (16 * v + hexval b)) bust
grow bust b = bust

-- a number that names a scalar value; and one that begins such a number: `D800` may go on as `D8000`
abbrev pub named : Num → Bool
named empty = false
named (num c v) = scalar v
named bust = false

abbrev pub begins : Num → Bool
begins empty = true
begins (num c v) = or (scalar v) (and (leb v 57343) (leb c 5))
begins bust = false

-- SCALAR VALUES: up to D7FF, and from E000 to 10FFFF
scalar_low : (v : ℕ) → v ≤ 55295 → scalar v ≡ true
scalar_low v h = or_left _ (and_true (leb_yes 0 v (omega arith)) (leb_yes v 55295 h))

scalar_yes : (v : ℕ) → 57344 ≤ v → v ≤ 1114111 → scalar v ≡ true
scalar_yes v l h = or_right (within (0 to 55295) v) (or_left false (and_true (leb_yes 57344 v l) (leb_yes v 1114111 h)))

scalar_no : (v : ℕ) → scalar v ≡ false → 55295 < v
scalar_no v e = by (dec_le v 55295)
  where
    by : Dec (v ≤ 55295) → 55295 < v
    by (yes h) = absurd (clash (scalar_low v h) e)
    by (no h) = omega arith

pub scalar_top : (v : ℕ) → scalar v ≡ true → v ≤ 1114111
scalar_top v e = by (or_of (within (0 to 55295) v) _ e)
  where
    upper : (within (57344 to 1114111) v ≡ true) ⊎ (false ≡ true) → v ≤ 1114111
    upper (inl x) = (range_of 57344 1114111 v x).1
    upper (inr x) = absurd (clash x refl)

    by : (within (0 to 55295) v ≡ true) ⊎ (or (within (57344 to 1114111) v) false ≡ true) → v ≤ 1114111
    by (inl x) = let h = (range_of 0 55295 v x).1 in omega arith
    by (inr x) = upper (or_of (within (57344 to 1114111) v) false x)

-- no scalar value, yet it begins one: at most DFFF, with a digit left
begins_no : (c v : ℕ) → begins (num c v) ≡ true → scalar v ≡ false → (v ≤ 57343) × (leb c 5 ≡ true)
begins_no c v e x =
    let y = and_of (leb v 57343) (leb c 5) (subst (λ (z : Bool). or z (and (leb v 57343) (leb c 5)) ≡ true) x e) in
    (leb-true v 57343 y.0, y.1)

begins_top : (c v : ℕ) → begins (num c v) ≡ true → v ≤ 1114111
begins_top c v e = by (or_of (scalar v) (and (leb v 57343) (leb c 5)) e)
  where
    by : (scalar v ≡ true) ⊎ (and (leb v 57343) (leb c 5) ≡ true) → v ≤ 1114111
    by (inl x) = scalar_top v x
    by (inr x) = let h = leb-true v 57343 (and_of (leb v 57343) (leb c 5) x).0 in omega arith

-- what grows has a hex digit and room
pub record Grown (c v b : ℕ) : Type 0 where
  pub digit : is hexdigit b ≡ true
  pub room : leb c 5 ≡ true
  pub low : 16 * v + hexval b ≤ 1114111

grown : (c v b : ℕ) → begins (grow (num c v) b) ≡ true → Grown c v b
grown c v b e = by (and (is hexdigit b) (leb c 5)) refl e
  where
    by : (x : Bool) → and (is hexdigit b) (leb c 5) ≡ x → begins (pick x (num (suc c) (16 * v + hexval b)) bust) ≡ true → Grown c v b
    by true x y = let z = and_of (is hexdigit b) (leb c 5) x in record { digit = z.0; room = z.1; low = begins_top (suc c) (16 * v + hexval b) y }
    by false x y = absurd (clash y refl)

first_digit : (b : ℕ) → begins (grow empty b) ≡ true → is hexdigit b ≡ true
first_digit b e = by (is hexdigit b) e
  where
    by : (x : Bool) → begins (pick x (num 1 (hexval b)) bust) ≡ true → x ≡ true
    by true y = refl
    by false y = absurd (clash y refl)

pub digit_only : (σ : Num) (b : ℕ) → begins (grow σ b) ≡ true → is hexdigit b ≡ true
digit_only empty b e = first_digit b e
digit_only (num c v) b e = (grown c v b e).digit
digit_only bust b e = absurd (clash e refl)

pub num_laws : Laws grow named begins (Starts (is hexdigit))
num_laws = record { word = word; full_lives = full_lives; lives_back = lives_back; greedy = λ σ b t e f. digit_only σ b f }
  where
    word : (σ : Num) → begins σ ≡ true → (w : List ℕ) × (named (steps grow named begins σ w) ≡ true)
    word empty e = (48 ∷ [], refl)
    word (num c v) e = by (scalar v) refl
      where
        by : (x : Bool) → scalar v ≡ x → (w : List ℕ) × (named (steps grow named begins (num c v) w) ≡ true)
        by true x = ([], x)
        by false x =
            let y = begins_no c v e x in
            let l = scalar_no v x in
            (48 ∷ [], rw y.1 (scalar_yes (16 * v + 0) (omega (arith, y.0)) (omega (arith, y.0))))
    word bust e = absurd (clash e refl)

    full_lives : (σ : Num) → named σ ≡ true → begins σ ≡ true
    full_lives empty e = refl
    full_lives (num c v) e = or_left (and (leb v 57343) (leb c 5)) e
    full_lives bust e = e

    lives_back : (σ : Num) (b : ℕ) → begins (grow σ b) ≡ true → begins σ ≡ true
    lives_back empty b e = refl
    lives_back (num c v) b e = by (scalar v) refl (leb v 57343) refl
      where
        by : (x : Bool) → scalar v ≡ x → (y : Bool) → leb v 57343 ≡ y → or x (and y (leb c 5)) ≡ true
        by true x y z = refl
        by false x true z = (grown c v b e).room
        by false x false z =
            let h = (grown c v b e).low in
            let l = leb-false v 57343 z in
            absurd (clash (scalar_yes v (omega arith) (omega arith)) x)
    lives_back bust b e = e

-- THE SAME WORDS: what the machine reads are hex digits
abbrev pub Digits : Lang (List ℕ)
Digits = Run grow named begins empty

digits_star : {σ : Num} {at : ℕ} {s w : List ℕ} {at' : ℕ} {t : List ℕ} → Run grow named begins σ at s w at' t → Star (Byte (is hexdigit)) at s w at' t
digits_star (stay e) = nil
digits_star (ahead {σ = σ} {b = b} x) = cons (byte (digit_only σ b (lives grow named begins num_laws x))) (digits_star x)

-- .. at most six, which make the number
pub record Counted (c v : ℕ) (w : List ℕ) : Type 0 where
  pub six : c + length w ≤ 6
  pub names : scalar (hex_number v w) ≡ true

lost : (w : List ℕ) → named (steps grow named begins bust w) ≡ true → ⊥
lost [] e = clash e refl
lost (b ∷ w) e = lost w e

counted : (c v : ℕ) (w : List ℕ) → c ≤ 6 → named (steps grow named begins (num c v) w) ≡ true → Counted c v w
unfolding hex_number
counted c v [] l e = record { six = omega arith; names = e }
counted c v (b ∷ w) l e = by (and (is hexdigit b) (leb c 5)) refl e (counted (suc c) (16 * v + hexval b) w)
  where
    by : (x : Bool) → and (is hexdigit b) (leb c 5) ≡ x → named (steps grow named begins (pick x (num (suc c) (16 * v + hexval b)) bust) w) ≡ true
        → (suc c ≤ 6 → named (steps grow named begins (num (suc c) (16 * v + hexval b)) w) ≡ true → Counted (suc c) (16 * v + hexval b) w)
        → Counted c v (b ∷ w)
    by true x y ih =
        let z = ih (omega (arith, leb-true c 5 (and_of (is hexdigit b) (leb c 5) x).1)) y in
        record { six = omega (arith, z.six); names = z.names }
    by false x y ih = absurd (lost w y)

next_digit : {b : ℕ} {σ τ : Num} {at : ℕ} {s w : List ℕ} {at' : ℕ} {t : List ℕ} → grow σ b ≡ τ → Run grow named begins τ (suc at) s w at' t
    → Run grow named begins σ at (b ∷ s) (b ∷ w) at' t
next_digit e x = ahead (rw (← e) at x)

star_digits : {c v at : ℕ} {s w : List ℕ} {at' : ℕ} {t : List ℕ} → Star (Byte (is hexdigit)) at s w at' t → Counted c v w → Run grow named begins (num c v) at s w at' t
unfolding hex_number
star_digits nil k = stay k.names
star_digits {c} {v} (cons {vs = w} (byte {b = b} e) z) k =
    let l : c + suc (length w) ≤ 6 = k.six in
    next_digit (rw (e, leb_yes c 5 (omega arith)) refl) (star_digits {c = suc c} {v = 16 * v + hexval b} z (record { six = omega arith; names = k.names }))

-- the first digit of a word, and the others
digits_code : (at : ℕ) (s w : List ℕ) (at' : ℕ) (t : List ℕ) → Digits at s w at' t → Code at s w at' t
unfolding hex_number
digits_code at s w at' t (stay e) = absurd (clash e refl)
digits_code at s w at' t (ahead {b = b} {w = w₁} x) =
    let e = first_digit b (lives grow named begins num_laws x) in
    let k = counted 1 (hexval b) w₁ (omega arith) (rw e at (run_full grow named begins x)) in
    record {
      word = record { value = b; middle = suc at; rest = _; first = byte e; second = record { value = w₁; middle = at'; rest = t; first = digits_star x; second = ret } };
      passes = and_true (leb_yes (suc (length w₁)) 6 (omega (arith, k.six))) (rw (zero-add (hexval b)) k.names);
    }

code_digits : (at : ℕ) (s w : List ℕ) (at' : ℕ) (t : List ℕ) → Code at s w at' t → Digits at s w at' t
unfolding hex_number
code_digits at s w at' t x = go x.word.first x.word.second.first x.word.second.second x.passes
  where
    go : {at : ℕ} {s : List ℕ} {b a₁ : ℕ} {s₁ w₁ : List ℕ} {a₂ : ℕ} {s₂ w : List ℕ} {at' : ℕ} {t : List ℕ} → Byte (is hexdigit) at s b a₁ s₁
        → Star (Byte (is hexdigit)) a₁ s₁ w₁ a₂ s₂ → Ret (b ∷ w₁) a₂ s₂ w at' t → and (leb (length w) 6) (scalar (hex_number 0 w)) ≡ true → Digits at s w at' t
    go {w₁ = w₁} (byte {b = b} e) z ret h =
        let y = and_of (leb (suc (length w₁)) 6) (scalar (hex_number (0 + hexval b) w₁)) h in
        let k : Counted 1 (hexval b) w₁ = record { six = omega (arith, leb-true (suc (length w₁)) 6 y.0); names = rw (zero-add (hexval b)) at y.1 } in
        next_digit (rw e refl) (star_digits z k)

-- THE READER
abbrev pub code_r : Reader (List ℕ)
code_r = run_r grow named begins empty

abbrev pub code_s : Shape
code_s = record { null = false; first = hexdigit; follow = hexdigit }

pub code_ll : Ll code_s Code code_r
code_ll =
    record {
      exact = exact_iff digits_code code_digits (run_exact grow named begins num_laws empty refl);
      begun = λ at s v at' t x. go x.word.first;
      firm = run_firm grow named begins empty;
    }
  where
    go : {at b at₁ : ℕ} {s s₁ t : List ℕ} → Byte (is hexdigit) at s b at₁ s₁ → Begun code_s s t
    go (byte e) = by_first e
