-- Keywords and numbers with common beginnings read once: the words that a reader can tell from left to right, and that they are those of Plain. Assumes nothing.
use Rattle.std.specs.Prelude.{List, [], ◌∷◌, ◌++◌, Bool, ℕ}
use Rattle.notation.specs.Class.{is, only}
use Rattle.notation.specs.Lang.{Lang, Ret, ret, Here, Byte, Seq, ◌>>=◌, ◌>>◌, Alt, one, two, Word}
use Rattle.language.specs.Kind.{NULL, FALSE, TRUE, INTEGER, FLOAT}
use Rattle.language.specs.Tree.{unescaped, Tree, leaf}
use Rattle.language.specs.Characters.{Option}
use Rattle.language.specs.Scalars.{null_word, true_word, false_word, nan_word, infinity_word, Keyword, Digits, One, signed, Pointed, Exponent, Plain}
use Rattle.numbers.specs.Same.{Same, seq, given, same_trans, alt_same, Found, found, Close, Spanned, spanned_same, spanned_alt}

-- WHAT IS READ: a keyword
abbrev pub Said : ℕ → List ℕ → List ℕ → Lang Found
Said kind word text = Word word >> Ret (found kind text)

-- `.d`, behind the sign m
abbrev pub Fraction : Bool → List ℕ → Lang Found
Fraction spaced m = do
  p ← One (only 46)
  fs ← Digits spaced
  x ← Option (Exponent spaced)
  Ret (found FLOAT (m ++ ((p ++ fs) ++ x)))

-- what tells a float from an integer, behind the digits ds
abbrev pub Dotted : Bool → List ℕ → List ℕ → Lang Found
Dotted spaced m ds = do
  p ← One (only 46)
  fs ← Option (Digits spaced)
  x ← Option (Exponent spaced)
  Ret (found FLOAT (m ++ ((ds ++ p ++ fs) ++ x)))

abbrev pub Powered : Bool → List ℕ → List ℕ → Lang Found
Powered spaced m ds = do
  x ← Exponent spaced
  Ret (found FLOAT (m ++ (ds ++ x)))

abbrev pub After : Bool → List ℕ → List ℕ → Lang Found
After spaced m ds = Alt (Dotted spaced m ds) (Alt (Powered spaced m ds) (Ret (found INTEGER (signed m ds))))

abbrev pub Unsigned : Bool → List ℕ → Lang Found
Unsigned spaced m = Alt (Fraction spaced m) (Seq (Digits spaced) (After spaced m))

-- `n` begins two keywords, `-` a keyword and a number
abbrev pub Nan : Lang Found
Nan = do
  Byte (is (only 110))
  Alt (Said FLOAT (97 ∷ 110 ∷ []) nan_word) (Said NULL (117 ∷ 108 ∷ 108 ∷ []) [])

abbrev pub Signed : Bool → Lang Found
Signed spaced = do
  m ← One (only 45)
  Alt (Said FLOAT infinity_word (45 ∷ infinity_word)) (Unsigned spaced m)

abbrev pub Body : Bool → Lang Found
Body spaced =
    Alt Nan (Alt (Said TRUE true_word []) (Alt (Said FALSE false_word []) (Alt (Said FLOAT infinity_word infinity_word) (Alt (Signed spaced) (Unsigned spaced [])))))

-- WHAT IS WRITTEN in document 01, without its span
abbrev Keywords' : Lang Found
Keywords' =
    Alt
    (Alt (Said NULL null_word []) (Alt (Said TRUE true_word []) (Said FALSE false_word [])))
    (Alt (Said FLOAT nan_word nan_word) (Alt (Said FLOAT infinity_word infinity_word) (Said FLOAT (45 ∷ infinity_word) (45 ∷ infinity_word))))

abbrev Whole : Bool → List ℕ → Lang Found
Whole spaced m = do
  ds ← Digits spaced
  Ret (found INTEGER (signed m ds))

abbrev Written : Bool → Lang (List ℕ)
Written spaced =
    Alt (do p ← Pointed spaced; x ← Option (Exponent spaced); Ret (p ++ x)) (do ds ← Digits spaced; x ← Exponent spaced; Ret (ds ++ x))

abbrev Broken : Bool → List ℕ → Lang Found
Broken spaced m = do
  w ← Written spaced
  Ret (found FLOAT (m ++ w))

abbrev Loose : Bool → Lang Found
Loose spaced = Alt Keywords' (Alt (Seq (Option (One (only 45))) (Whole spaced)) (Seq (Option (One (only 45))) (Broken spaced)))

-- A NUMBER WITHOUT ITS SIGN
module _ (spaced : Bool) (m : List ℕ) where
  broken_to : {at : ℕ} {s : List ℕ} {v : Found} {at' : ℕ} {t : List ℕ} → Broken spaced m at s v at' t → Unsigned spaced m at s v at' t
  broken_to {at} {s} {v} {at'} {t} x = by x.first x.second
    where
      pointed : {p w : List ℕ} {at₁ : ℕ} {s₁ : List ℕ} {at₂ : ℕ} {s₂ : List ℕ} → Pointed spaced at s p at₁ s₁
          → Seq (Option (Exponent spaced)) (λ x. Ret (p ++ x)) at₁ s₁ w at₂ s₂ → Ret (found FLOAT (m ++ w)) at₂ s₂ v at' t → Unsigned spaced m at s v at' t
      pointed {w = w} {at₂ = at₂} {s₂} (one q) y z =
          let u = given (λ p. Seq (Option (Exponent spaced)) (λ x. Ret (p ++ x))) q.second.second.second y in
          two
          (seq _ _ _ q.first (one (seq _ _ _ q.second.first (seq _ _ _ q.second.second.first (seq _ _ _ u.first (given (λ w. Ret (found FLOAT (m ++ w))) u.second z))))))
      pointed (two q) y z =
          let u = given (λ p. Seq (Option (Exponent spaced)) (λ x. Ret (p ++ x))) q.second.second y in
          one (seq _ _ _ q.first (seq _ _ _ q.second.first (seq _ _ _ u.first (given (λ w. Ret (found FLOAT (m ++ w))) u.second z))))

      by : {w : List ℕ} {at₁ : ℕ} {s₁ : List ℕ} → Written spaced at s w at₁ s₁ → Ret (found FLOAT (m ++ w)) at₁ s₁ v at' t → Unsigned spaced m at s v at' t
      by (one p) z = pointed p.first p.second z
      by (two p) z = two (seq _ _ _ p.first (two (one (seq _ _ _ p.second.first (given (λ w. Ret (found FLOAT (m ++ w))) p.second.second z)))))

  unsigned_to : {at : ℕ} {s : List ℕ} {v : Found} {at' : ℕ} {t : List ℕ} → Alt (Whole spaced m) (Broken spaced m) at s v at' t → Unsigned spaced m at s v at' t
  unsigned_to (one x) = two (seq _ _ _ x.first (two (two x.second)))
  unsigned_to (two x) = broken_to x

  after_from : {at : ℕ} {s : List ℕ} {ds : List ℕ} {at₁ : ℕ} {s₁ : List ℕ} {v : Found} {at' : ℕ} {t : List ℕ}
      → Digits spaced at s ds at₁ s₁ → After spaced m ds at₁ s₁ v at' t → Alt (Whole spaced m) (Broken spaced m) at s v at' t
  after_from d (one x) = two (seq _ _ _ (one (seq _ _ _ (one (seq _ _ _ d (seq _ _ _ x.first (seq _ _ _ x.second.first ret)))) (seq _ _ _ x.second.second.first ret))) x.second.second.second)
  after_from d (two (one x)) = two (seq _ _ _ (two (seq _ _ _ d (seq _ _ _ x.first ret))) x.second)
  after_from d (two (two x)) = one (seq _ _ _ d x)

  unsigned_from : {at : ℕ} {s : List ℕ} {v : Found} {at' : ℕ} {t : List ℕ} → Unsigned spaced m at s v at' t → Alt (Whole spaced m) (Broken spaced m) at s v at' t
  unsigned_from (one x) = two (seq _ _ _ (one (seq _ _ _ (two (seq _ _ _ x.first (seq _ _ _ x.second.first ret))) (seq _ _ _ x.second.second.first ret))) x.second.second.second)
  unsigned_from (two x) = after_from x.first x.second

-- THE WHOLE
module _ (spaced : Bool) where
  number_to : {at : ℕ} {s m : List ℕ} {at₁ : ℕ} {s₁ : List ℕ} {v : Found} {at' : ℕ} {t : List ℕ}
      → Option (One (only 45)) at s m at₁ s₁ → Alt (Whole spaced m) (Broken spaced m) at₁ s₁ v at' t → Body spaced at s v at' t
  number_to {m = m} (one x) y = two (two (two (two (one (seq _ _ _ x (two (unsigned_to spaced m y)))))))
  number_to (two x) y = two (two (two (two (two (unsigned_to spaced [] (given (λ m. Alt (Whole spaced m) (Broken spaced m)) x y))))))

  body_to : {at : ℕ} {s : List ℕ} {v : Found} {at' : ℕ} {t : List ℕ} → Loose spaced at s v at' t → Body spaced at s v at' t
  body_to (one (one (one x))) = one (seq _ _ _ x.first.first (two (seq _ _ _ x.first.second x.second)))
  body_to (one (one (two (one x)))) = two (one x)
  body_to (one (one (two (two x)))) = two (two (one x))
  body_to (one (two (one x))) = one (seq _ _ _ x.first.first (one (seq _ _ _ x.first.second x.second)))
  body_to (one (two (two (one x)))) = two (two (two (one x)))
  body_to (one (two (two (two x)))) = two (two (two (two (one (seq _ _ _ (seq _ _ _ x.first.first ret) (one (seq _ _ _ x.first.second x.second)))))))
  body_to (two (one x)) = number_to x.first (one x.second)
  body_to (two (two x)) = number_to x.first (two x.second)

  number_from : {at : ℕ} {s m : List ℕ} {at₁ : ℕ} {s₁ : List ℕ} {v : Found} {at' : ℕ} {t : List ℕ}
      → Option (One (only 45)) at s m at₁ s₁ → Alt (Whole spaced m) (Broken spaced m) at₁ s₁ v at' t → Loose spaced at s v at' t
  number_from x (one y) = two (one (seq _ _ _ x y))
  number_from x (two y) = two (two (seq _ _ _ x y))

  nan_from : {at b : ℕ} {s : List ℕ} {at₁ : ℕ} {s₁ : List ℕ} {v : Found} {at' : ℕ} {t : List ℕ}
      → Byte (is (only 110)) at s b at₁ s₁ → Alt (Said FLOAT (97 ∷ 110 ∷ []) nan_word) (Said NULL (117 ∷ 108 ∷ 108 ∷ []) []) at₁ s₁ v at' t → Loose spaced at s v at' t
  nan_from b (one y) = one (two (one (seq _ _ _ (seq _ _ _ b y.first) y.second)))
  nan_from b (two y) = one (one (one (seq _ _ _ (seq _ _ _ b y.first) y.second)))

  signed_from : {at : ℕ} {s m : List ℕ} {at₁ : ℕ} {s₁ : List ℕ} {v : Found} {at' : ℕ} {t : List ℕ}
      → One (only 45) at s m at₁ s₁ → Alt (Said FLOAT infinity_word (45 ∷ infinity_word)) (Unsigned spaced m) at₁ s₁ v at' t → Loose spaced at s v at' t
  signed_from x (one y) =
      let z = given (λ m. Said FLOAT infinity_word (45 ∷ infinity_word)) x.second y in
      one (two (two (two (seq _ _ _ (seq _ _ _ x.first z.first) z.second))))
  signed_from {m = m} x (two y) = number_from (one x) (unsigned_from spaced m y)

  body_from : {at : ℕ} {s : List ℕ} {v : Found} {at' : ℕ} {t : List ℕ} → Body spaced at s v at' t → Loose spaced at s v at' t
  body_from (one x) = nan_from x.first x.second
  body_from (two (one x)) = one (one (two (one x)))
  body_from (two (two (one x))) = one (one (two (two x)))
  body_from (two (two (two (one x)))) = one (two (two (one x)))
  body_from (two (two (two (two (one x))))) = signed_from x.first x.second
  body_from (two (two (two (two (two x))))) = number_from (two ret) (unsigned_from spaced [] x)

-- WITH ITS SPAN
keyword_same : (kind : ℕ) (word text : List ℕ) → Same (Keyword kind word text) (Spanned (Said kind word text))
keyword_same kind word text =
    record {
      to = λ x. seq _ _ _ x.first (seq _ _ _ (seq _ _ _ x.second.first ret) x.second.second);
      from = λ x. seq _ _ _ x.first (seq _ _ _ x.second.first.first (given (Close x.value) x.second.first.second x.second.second));
    }

number_same : {X : Type 0} (kind : ℕ) (A : Lang X) (text : List ℕ → X → List ℕ)
    → Same
    (do a ← Here; m ← Option (One (only 45)); w ← A; e ← Here; Ret (leaf kind a e (unescaped (text m w))))
    (Spanned (do m ← Option (One (only 45)); w ← A; Ret (found kind (text m w))))
number_same kind A text =
    record {
      to = λ x. seq _ _ _ x.first (seq _ _ _ (seq _ _ _ x.second.first (seq _ _ _ x.second.second.first ret)) x.second.second.second);
      from = λ x.
          let y = x.second.first in
          seq _ _ _ x.first (seq _ _ _ y.first (seq _ _ _ y.second.first (given (Close x.value) y.second.second x.second.second)));
    }

both : {A B : Lang Tree} {F G : Lang Found} → Same A (Spanned F) → Same B (Spanned G) → Same (Alt A B) (Spanned (Alt F G))
both {F = F} {G} e g = same_trans (alt_same e g) (spanned_alt F G)

pub plain_same : (spaced : Bool) → Same (Plain spaced) (Spanned (Body spaced))
plain_same spaced =
    same_trans
    (both
    (both
    (both (keyword_same NULL null_word []) (both (keyword_same TRUE true_word []) (keyword_same FALSE false_word [])))
    (both
    (keyword_same FLOAT nan_word nan_word)
    (both (keyword_same FLOAT infinity_word infinity_word) (keyword_same FLOAT (45 ∷ infinity_word) (45 ∷ infinity_word)))))
    (both (number_same INTEGER (Digits spaced) signed) (number_same FLOAT (Written spaced) ◌++◌)))
    (spanned_same (record { to = body_to spaced; from = body_from spaced }))
