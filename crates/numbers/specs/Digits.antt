-- DIGITS, with single spaces between them where `spaced` holds: the reader, and that it is exact. Assumes nothing.
use Rattle.std.specs.Prelude.{◌≡◌, refl, List, [], ◌∷◌, ◌++◌, Bool, true, false, ℕ, suc, ◌+◌}
use Rattle.std.proofs.Common.{ap, inl, inr, arith}
use Rattle.notation.specs.Lang.{Byte, byte, Star, two}
use Rattle.exact.specs.Class.{pick, Starts, clash, and, or, and_of, is, only, nothing}
use Rattle.exact.specs.Out.{Reader, bind, Tame, Firm, firm_bind, ok, bad}
use Rattle.exact.specs.Lang.{bar, None, Exact, within_bar, within_same, weaken, ret_r, byte_r, byte_exact}
use Rattle.exact.specs.Comb.{seq_r, seq_exact, map_exact, alt_r, many_r}
use Rattle.exact.specs.Ll.{Shape, Begun, by_first, Ll, ret_ll, byte_ll, seq_ll, alt_ll, star_ll, relax, byte₁}
use Rattle.exact.specs.Block.{many_g, Clear, Looks, star_g_exact, lead, lead_near}
use Rattle.language.specs.Scalars.{digit, Further, Digits}
use Rattle.numbers.specs.Looked.{Look, On, Looked}

-- WHAT GOES ON: a space and a digit, where spaces are allowed
abbrev pub SpaceDigit : Bool → List ℕ → Type 0
SpaceDigit false t = ⊥
SpaceDigit true [] = ⊥
SpaceDigit true (b ∷ t) = (is (only 32) b ≡ true) × Starts (is digit) t

pub space_starts : (spaced : Bool) (t : List ℕ) → SpaceDigit spaced t → Starts (is (only 32)) t
space_starts false t x = absurd x
space_starts true [] x = x
space_starts true (b ∷ t) x = x.0

abbrev pub gap : Bool → Look
gap spaced = record { bars = SpaceDigit spaced; first = only 32; starts = space_starts spaced; sure = spaced ≡ false }

-- THE READER
abbrev pub next : List ℕ → Bool
next [] = false
next (b ∷ t) = is digit b

abbrev pub goes_on : List ℕ → Bool
goes_on [] = false
goes_on (b ∷ t) = or (is digit b) (and (is (only 32) b) (next t))

abbrev pub further_r : Reader ℕ
further_r = alt_r (is digit) (byte_r (is digit)) (seq_r (byte_r (is (only 32))) λ _. byte_r (is digit))

unfoldable pub more_r : Bool → Reader (List ℕ)
more_r false = many_r (is digit) (byte_r (is digit))
more_r true = many_g goes_on (lead 1) further_r

unfoldable pub digits_r : Bool → Reader (List ℕ)
digits_r spaced = seq_r (byte_r (is digit)) λ d. seq_r (more_r spaced) λ ds. ret_r (d ∷ ds)

-- FURTHER DIGITS by a look at one byte, or two
further_ll : Ll (record { null = false; first = digit ++ only 32; follow = [] }) (Further true) further_r
further_ll = relax _ refl refl refl (alt_ll refl refl (byte_ll digit 48 refl) (seq_ll refl (byte₁ 32) λ _. byte_ll digit 48 refl))

further_exact : Exact 1 (Further true) None further_r
further_exact = weaken 1 None (omega arith) (within_bar _ None nothing) further_ll.exact

pub next_starts : (t : List ℕ) → next t ≡ true → Starts (is digit) t
next_starts [] e = absurd (clash e refl)
next_starts (b ∷ t) e = e

look : (s : List ℕ) → goes_on s ≡ true → Clear (Further true) (On (gap true) digit) s
look [] e = absurd (clash e refl)
look (b ∷ s) e = by (is digit b) refl e
  where
    far : (s : List ℕ) → is (only 32) b ≡ true → next s ≡ true → Clear (Further true) (On (gap true) digit) (b ∷ s)
    far [] x y = absurd (clash y refl)
    far (c ∷ s) x y =
        record {
          m = 1;
          fits = omega arith;
          taken = λ t. inr (x, y);
          alive = λ K ne at.
              let n = ne c (suc (suc at)) in
              record {
                more = c ∷ n.more;
                value = n.value;
                word =
                    record {
                      value = c;
                      next = suc (suc at);
                      rest = n.more;
                      first = two (record { value = b; middle = suc at; rest = c ∷ n.more; first = byte x; second = byte y });
                      others = n.word;
                    };
              };
        }

    by : (x : Bool) → is digit b ≡ x → or x (and (is (only 32) b) (next s)) ≡ true → Clear (Further true) (On (gap true) digit) (b ∷ s)
    by true x z = record { m = 0; fits = omega arith; taken = λ t. inl x; alive = λ K ne at. further_exact.some K ne at }
    by false x z = let u = and_of (is (only 32) b) (next s) z in far s u.0 u.1

fails : (at : ℕ) (s : List ℕ) → goes_on s ≡ false → further_r at s ≡ bad (at + lead 1 s)
fails at [] e = ap bad (omega arith)
fails at (b ∷ s) e = by (is digit b) (is (only 32) b) s e
  where
    second : (s : List ℕ) → next s ≡ false → byte_r (is digit) (suc at) s ≡ bad (at + 1)
    second [] y = ap bad (omega arith)
    second (c ∷ s) y = rw y (ap bad (omega arith))

    by : (x y : Bool) (s : List ℕ) → or x (and y (next s)) ≡ false
        → pick x (pick x (ok b (suc at) s) (bad at)) (bind (pick y (ok b (suc at) s) (bad at)) (λ _. byte_r (is digit))) ≡ bad (at + pick y 1 0)
    by true y s h = absurd (clash refl h)
    by false true s h = second s h
    by false false s h = ap bad (omega arith)

looks : Looks (Further true) None further_r (On (gap true) digit) goes_on (lead 1) (λ b. false) 0
looks =
    record {
      into = λ t x. absurd x;
      avoids = λ at s v at' t x y. y;
      keeps = λ at b s v at' t x e. clash e refl;
      look = λ s e. inl (look s e);
      fails = fails;
      near = lead_near 1;
      blank = λ at b t e. absurd (clash e refl);
    }

-- EXACT
bytes_ll : Ll (record { null = true; first = digit; follow = digit }) (Star (Byte (is digit))) (many_r (is digit) (byte_r (is digit)))
bytes_ll = relax _ refl refl refl (star_ll refl refl (byte_ll digit 48 refl))

more_exact : (spaced : Bool) → Exact 0 (Star (Further spaced)) (bar (On (gap spaced) digit)) (more_r spaced)
unfolding more_r
more_exact false = weaken 0 (bar (On (gap false) digit)) (omega arith) (within_bar _ _ (λ t x. inl x)) bytes_ll.exact
more_exact true = star_g_exact looks further_exact

pub more_tame : (spaced : Bool) → Tame 0 (more_r spaced)
more_tame spaced = (more_exact spaced).moves

abbrev pub digits_s : Shape
digits_s = record { null = false; first = digit; follow = digit }

digits_begun : (spaced : Bool) (at : ℕ) (s : List ℕ) (v : List ℕ) (at' : ℕ) (t : List ℕ) → Digits spaced at s v at' t → Begun digits_s s t
digits_begun spaced at s v at' t x = go s x.first
  where
    go : {d a : ℕ} (s : List ℕ) {u : List ℕ} → Byte (is digit) at s d a u → Begun digits_s s t
    go _ (byte e) = by_first e

digits_firm : (spaced : Bool) → spaced ≡ false → (at : ℕ) (s : List ℕ) → Firm (digits_r spaced at s)
unfolding digits_r more_r
digits_firm true e at s = absurd (clash refl e)
digits_firm false e at s = firm_bind _ ((byte_ll digit 48 refl).firm at s) (λ d a t. firm_bind _ (bytes_ll.firm a t) (λ ds a' t'. (ret_ll (d ∷ ds)).firm a' t'))

pub digits_looked : (spaced : Bool) → Looked (gap spaced) digits_s (Digits spaced) (digits_r spaced)
unfolding digits_r
digits_looked spaced =
    record {
      exact =
          weaken
          1
          (bar (On (gap spaced) digit))
          (omega arith)
          (within_same _)
          (seq_exact (byte_exact (is digit) 48 refl) (λ d. map_exact (d ∷◌) (more_exact spaced)) (λ x at s y at' t b g z. z));
      begun = digits_begun spaced;
      firm = digits_firm spaced;
    }
