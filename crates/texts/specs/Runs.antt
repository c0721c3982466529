-- RUNS OF DIGITS: all the digits that begin a text are passed, and what is left is one text only. Assumes nothing.
use Rattle.std.specs.Prelude.{◌≡◌, refl, Bool, true, false, List, [], ◌∷◌, ◌++◌, ℕ, ◌+◌, max, ◌≤◌, ◌<◌, leb, length, get_or, drop}
use Rattle.std.proofs.Common.{ap, subst, arith, add-one, length-drop, drop_of_length-le, drop-cons, rules, le-leb, leb-true, leb-false}
use Rattle.std.proofs.lemmas.Bool.{lt-leb}
use Rattle.notation.specs.Class.{is}
use Rattle.exact.specs.Class.{clash}
use Rattle.exact.specs.Tells.{Tells}
use Rattle.language.specs.Scalars.{digit}
use Rattle.shaped.specs.Shaped.{Digits, digits_none, digits_more, Number, number}
use Rattle.texts.specs.Float.{Past, past_none, past_more, Digited}

-- ---- lists

pub past_stop : {s t : List ℕ} → Past s t → is digit (get_or t 0 0) ≡ false
past_stop (past_none e) = e
past_stop (past_more d x) = past_stop x

shorter : {d : ℕ} {s u : List ℕ} → is digit d ≡ true → Past (d ∷ s) u → Past s u
shorter d (past_none f) = absurd (clash d f)
shorter d (past_more f y) = y

stays : {t u : List ℕ} → is digit (get_or t 0 0) ≡ false → Past t u → t ≡ u
stays e (past_none f) = refl
stays e (past_more d y) = absurd (clash d e)

pub past_same : {s t u : List ℕ} → Past s t → Past s u → t ≡ u
past_same (past_none e) y = stays e y
past_same (past_more d x) y = past_same x (shorter d y)

pub past_over : {ds t : List ℕ} → Digits ds → is digit (get_or t 0 0) ≡ false → Past (ds ++ t) t
past_over digits_none e = past_none e
past_over (digits_more d x) e = past_more d (past_over x e)

-- the digits passed
pub record Front (s t : List ℕ) : Type 0 where
  pub run : List ℕ
  pub digits : Digits run
  pub joined : run ++ t ≡ s

pub front : {s t : List ℕ} → Past s t → Front s t
front (past_none e) = record { run = []; digits = digits_none; joined = refl }
front (past_more {d = d} e x) = let f = front x in record { run = d ∷ f.run; digits = digits_more e f.digits; joined = ap (d ∷◌) f.joined }

-- the same where there is one
pub record Led-by (s t : List ℕ) : Type 0 where
  pub run : List ℕ
  pub digits : Number run
  pub joined : run ++ t ≡ s

pub led_by : {s t : List ℕ} → Past s t → length t < length s → Led-by s t
led_by (past_none e) l = absurd (omega arith)
led_by (past_more {d = d} e x) l = let f = front x in record { run = d ∷ f.run; digits = number e f.digits; joined = ap (d ∷◌) f.joined }

pub number_first : {x : List ℕ} → Number x → is digit (get_or x 0 0) ≡ true
number_first (number d ds) = d

digits_past : {x : List ℕ} → Digits x → Past x []
digits_past digits_none = past_none refl
digits_past (digits_more d x) = past_more d (digits_past x)

pub number_past : {x : List ℕ} → Number x → Past x []
number_past (number d ds) = past_more d (digits_past ds)

past_digits : {x t : List ℕ} → Past x t → t ≡ [] → Digits x
past_digits (past_none e) z = rw z digits_none
past_digits (past_more d x) z = digits_more d (past_digits x z)

pub past_number : {x t : List ℕ} → Past x t → t ≡ [] → 0 < length x → Number x
past_number (past_none e) z l = absurd (omega (arith, ap length z))
past_number (past_more d x) z l = number d (past_digits x z)

-- ---- places

digit_is : (b : ℕ) → 48 ≤ b → b ≤ 57 → is digit b ≡ true
digit_is b l h = rw (le-leb 48 b l, le-leb b 57 h) refl

digit_low : (b : ℕ) → b < 48 → is digit b ≡ false
digit_low b h = rw (lt-leb 48 b h) refl

digit_high : (b : ℕ) → 57 < b → is digit b ≡ false
digit_high b h = rw (le-leb 48 b (omega arith), lt-leb b 57 h) refl

-- digits alone stand from a to i
pub record Coming (s : List ℕ) (a i : ℕ) : Type 0 where
  pub onward : a ≤ i
  pub inside : i ≤ max a (length s)
  pub so : (t : List ℕ) → Past (drop i s) t → Past (drop a s) t

pub coming_start : (s : List ℕ) (a : ℕ) → Coming s a a
coming_start s a = record { onward = omega arith; inside = omega arith; so = λ t x. x }

module _ (s : List ℕ) (a i : ℕ) (come : Coming s a i) where
  stopped : is digit (get_or (drop i s) 0 0) ≡ false → Digited s a i
  stopped e = record { onward = come.onward; inside = come.inside; past = come.so (drop i s) (past_none e) }

  pub coming_over : length s ≤ i → Digited s a i
  coming_over h = stopped (rw (drop_of_length-le s h) refl)

  module _ (l : i < length s) where
    here : drop i s ≡ get_or s i 0 ∷ drop (i + 1) s
    here = rw (add-one i) (drop-cons s i 0 l)

    pub coming_more : 48 ≤ get_or s i 0 → get_or s i 0 ≤ 57 → Coming s a (i + 1)
    coming_more p q =
        record { onward = omega (arith, come.onward); inside = omega (arith, come.inside); so = λ t x. come.so t (rw here (past_more (digit_is (get_or s i 0) p q) x)) }

    pub coming_low : get_or s i 0 < 48 → Digited s a i
    coming_low h = stopped (rw here (digit_low (get_or s i 0) h))

    pub coming_high : 57 < get_or s i 0 → Digited s a i
    coming_high h = stopped (rw here (digit_high (get_or s i 0) h))

module _ (s : List ℕ) (a n : ℕ) (d : Digited s a n) where
  pub number_none : n ≡ a → Number (drop a s) → ⊥
  number_none e x = clash (number_first x) (subst (λ (k : ℕ). is digit (get_or (drop k s) 0 0) ≡ false) e (past_stop d.past))

  pub number_less : n < length s → Number (drop a s) → ⊥
  number_less l x = omega (arith, length-drop n s, ap length (past_same d.past (number_past x)))

  pub number_all : (n ≡ a → ⊥) → length s ≤ n → Number (drop a s)
  number_all h l = past_number d.past (drop_of_length-le s l) (omega (arith, length-drop a s, d.onward, d.inside))

  pub number_told : (n ≡ a → ⊥) → (m : ℕ) → m ≡ length s → Tells (Number (drop a s)) (leb m n)
  number_told h m e = by (leb m n) refl
    where
      by : (r : Bool) → leb m n ≡ r → Tells (Number (drop a s)) r
      by true f = let l = leb-true m n f in number_all h (omega arith)
      by false f = let l = leb-false m n f in number_less (omega arith)

pub ruleset runs = (coming_start, coming_over, coming_more, coming_low, coming_high, number_none, number_less, number_all, rules)
