-- THE SAME ASKED WORDS (`Same`): two lists of rows agree in the words of each row that are asked, its span and its line and column aside. Assumes nothing.
use Rattle.std.specs.Prelude.{◌≡◌, refl, List, ◌++◌, true, ℕ, zero, suc, ◌+◌, ◌-◌, ◌*◌, ◌≤◌, ◌<◌, length, get_or, drop}
use Rattle.std.proofs.Common.{sym, ap, subst, ◌∙◌, arith, get_or-append-add, get_or-drop, drop_at}
use Rattle.std.proofs.Math.Decide.{dec_lt}
use Rattle.std.proofs.Math.ListN.{get_or-append}
use Rattle.notation.specs.Class.{is}
use Rattle.language.specs.Tree.{width}
use Rattle.language.specs.Sound.{asked}
use Rattle.shaped.specs.Ranges.{up_to}
use Rattle.exact.specs.Class.{clash}

-- a word that is asked is the kind, the text start, the text end, the parent or the next row
asked_low : (j : ℕ) → is asked j ≡ true → j ≤ 6
asked_low j h = up_to asked 6 j refl h

pub asked_cases : (P : ℕ → Type 0) → P 0 → P 3 → P 4 → P 5 → P 6 → (j : ℕ) → is asked j ≡ true → P j
asked_cases P a b c d e zero h = a
asked_cases P a b c d e (suc zero) h = absurd (clash h refl)
asked_cases P a b c d e (suc (suc zero)) h = absurd (clash h refl)
asked_cases P a b c d e (suc (suc (suc zero))) h = b
asked_cases P a b c d e (suc (suc (suc (suc zero)))) h = c
asked_cases P a b c d e (suc (suc (suc (suc (suc zero))))) h = d
asked_cases P a b c d e (suc (suc (suc (suc (suc (suc zero)))))) h = e
asked_cases P a b c d e (suc (suc (suc (suc (suc (suc (suc j))))))) h = let x = asked_low (suc (suc (suc (suc (suc (suc (suc j))))))) h in absurd (omega arith)

-- n rows of each
pub record Same (us vs : List ℕ) (n : ℕ) : Type 0 where
  pub words : (i j : ℕ) → i < n → is asked j ≡ true → get_or us (width * i + j) 0 ≡ get_or vs (width * i + j) 0

pub same_flip : {us vs : List ℕ} {n : ℕ} → Same us vs n → Same vs us n
same_flip x = record { words = λ i j l a. sym (x.words i j l a) }

pub same_then : {us vs ws : List ℕ} {n : ℕ} → Same us vs n → Same vs ws n → Same us ws n
same_then x y = record { words = λ i j l a. x.words i j l a ∙ y.words i j l a }

pub same_none : {us vs : List ℕ} → Same us vs 0
same_none = record { words = λ i j l a. absurd (omega arith) }

-- a word behind m rows
dropped_word : (l : List ℕ) (m i j : ℕ) → get_or (drop (width * m) l) (width * i + j) 0 ≡ get_or l (width * (m + i) + j) 0
dropped_word l m i j = get_or-drop (width * m) l (width * i + j) 0 ∙ ap (λ (q : ℕ). get_or l q 0) (omega arith)

-- m rows, and then others
module _ (us vs : List ℕ) (m n : ℕ) (h : length us ≡ width * m) where
  -- a word of the others
  other_word : (i j : ℕ) → get_or (us ++ vs) (width * (m + i) + j) 0 ≡ get_or vs (width * i + j) 0
  other_word i j = ap (λ (q : ℕ). get_or (us ++ vs) q 0) (let e : width * (m + i) + j ≡ length us + (width * i + j) = omega arith in e) ∙ get_or-append-add us vs (width * i + j) 0

  pub same_left : {l : List ℕ} → Same l (us ++ vs) (m + n) → Same l us m
  same_left x = record { words = λ i j k a. let q = asked_low j a in x.words i j (omega arith) a ∙ get_or-append us vs 0 (width * i + j) (omega arith) }

  pub same_right : {l : List ℕ} → Same l (us ++ vs) (m + n) → Same (drop (width * m) l) vs n
  same_right {l} x = record { words = λ i j k a. dropped_word l m i j ∙ (x.words (m + i) j (omega arith) a ∙ other_word i j) }

  pub same_join : {l : List ℕ} → Same l us m → Same (drop (width * m) l) vs n → Same l (us ++ vs) (m + n)
  same_join {l} x y = record { words = λ i j k a. by i j k a (dec_lt i m) }
    where
      by : (i j : ℕ) → i < m + n → is asked j ≡ true → Dec (i < m) → get_or l (width * i + j) 0 ≡ get_or (us ++ vs) (width * i + j) 0
      by i j k a (yes q) = let z = asked_low j a in x.words i j q a ∙ sym (get_or-append us vs 0 (width * i + j) (omega arith))
      by i j k a (no q) =
          let e : i ≡ m + (i - m) = omega arith in
          subst
          (λ (p : ℕ). get_or l (width * p + j) 0 ≡ get_or (us ++ vs) (width * p + j) 0)
          (sym e)
          (sym (dropped_word l m (i - m) j) ∙ (y.words (i - m) j (omega arith) a ∙ sym (other_word (i - m) j)))

pub same_self : (us : List ℕ) (n : ℕ) → Same us us n
same_self us n = record { words = λ i j l a. refl }

-- rows one behind another on both sides
pub same_append : (us vs : List ℕ) {us' vs' : List ℕ} (m n : ℕ) → length us ≡ width * m → length us' ≡ width * m → Same us us' m → Same vs vs' n
    → Same (us ++ vs) (us' ++ vs') (m + n)
same_append us vs {us'} {vs'} m n h k x y =
    same_join us' vs' m n k (same_then (same_left us vs m n h (same_self (us ++ vs) (m + n))) x)
    (subst (λ (l : List ℕ). Same l vs' n) (sym (drop_at us vs (width * m) h)) y)
