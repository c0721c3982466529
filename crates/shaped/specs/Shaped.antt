-- TREES AS DOCUMENTS HAVE THEM (`Shaped`), spans and escapes aside: which texts a scalar of each kind has, and how containers hold their children. Assumes nothing.
use Rattle.std.specs.Prelude.{◌≡◌, true, List, [], ◌∷◌, ◌++◌, ℕ, suc, ◌<◌}
use Rattle.notation.specs.Class.{is}
use Rattle.language.specs.Kind.{NULL, FALSE, TRUE, INTEGER, FLOAT, STRING, BYTES, ARRAY, OBJECT, KEY}
use Rattle.language.specs.Tree.{Decoded, Tree, leaf, node, Forest, none, more}
use Rattle.language.specs.Characters.{utf8}
use Rattle.language.specs.Scalars.{digit, nan_word, infinity_word}
use Rattle.language.specs.Strings.{scalar}
use Rattle.integers.specs.Integer.{is_integer}

-- the UTF-8 of scalar values, one behind another: "any scalar values, .. controls and noncharacters too, since `\u{…}` names them"
pub data Scripted : List ℕ → Type 0 where
  scripted_none : Scripted []
  scripted_more : {s : List ℕ} (v : ℕ) → scalar v ≡ true → Scripted s → Scripted (utf8 v ++ s)

-- bytes, of which each is below 256
pub data Octets : List ℕ → Type 0 where
  octets_none : Octets []
  octets_more : {b : ℕ} {s : List ℕ} → b < 256 → Octets s → Octets (b ∷ s)

-- any number of digits
pub data Digits : List ℕ → Type 0 where
  digits_none : Digits []
  digits_more : {d : ℕ} {ds : List ℕ} → is digit d ≡ true → Digits ds → Digits (d ∷ ds)

-- "Each d is one or more digits"
pub data Number : List ℕ → Type 0 where
  number : {d : ℕ} {ds : List ℕ} → is digit d ≡ true → Digits ds → Number (d ∷ ds)

-- "optional `-`"
pub data Minus : List ℕ → Type 0 where
  plus : Minus []
  minus : Minus (45 ∷ [])

-- "exponent `e`, optional sign, `d`"
pub data Power : List ℕ → Type 0 where
  power : {ds : List ℕ} → Number ds → Power (101 ∷ ds)
  power_plus : {ds : List ℕ} → Number ds → Power (101 ∷ 43 ∷ ds)
  power_minus : {ds : List ℕ} → Number ds → Power (101 ∷ 45 ∷ ds)

pub data Powers : List ℕ → Type 0 where
  no_power : Powers []
  one_power : {x : List ℕ} → Power x → Powers x

-- "`d.`, `d.d`, `.d` or `d`, then an optional exponent; the form `d` needs the exponent"
pub data Decimal : List ℕ → Type 0 where
  pointed : {ds fs x : List ℕ} → Number ds → Digits fs → Powers x → Decimal (ds ++ 46 ∷ fs ++ x)
  broken : {fs x : List ℕ} → Number fs → Powers x → Decimal (46 ∷ fs ++ x)
  raised : {ds x : List ℕ} → Number ds → Power x → Decimal (ds ++ x)

-- a float's text: "any float of the grammar without its spaces"
pub data FloatText : List ℕ → Type 0 where
  no_number : FloatText nan_word
  infinite : FloatText infinity_word
  less_infinite : FloatText (45 ∷ infinity_word)
  decimal : {m w : List ℕ} → Minus m → Decimal w → FloatText (m ++ w)

-- a scalar of this kind has this text
pub data Scalar : ℕ → List ℕ → Type 0 where
  is_null : Scalar NULL []
  is_false : Scalar FALSE []
  is_true : Scalar TRUE []
  is_an_integer : {s : List ℕ} → is_integer s ≡ true → Scalar INTEGER s
  is_float : {s : List ℕ} → FloatText s → Scalar FLOAT s
  is_string : {s : List ℕ} → Scripted s → Scalar STRING s
  is_bytes : {s : List ℕ} → Octets s → Scalar BYTES s

-- A TREE with at most k containers one inside another; an object's children are key, value, key, value
mutual
  pub data Shaped : ℕ → Tree → Type 0 where
    shaped_leaf : {k kind a e : ℕ} {s : Decoded} → Scalar kind s.bytes → Shaped k (leaf kind a e s)
    shaped_array : {k a e n : ℕ} {ts : Forest} → Elements k n ts → Shaped (suc k) (node ARRAY a e n ts)
    shaped_object : {k a e n : ℕ} {ts : Forest} → Pairs k n ts → Shaped (suc k) (node OBJECT a e n ts)

  -- n elements; n pairs
  pub data Elements : ℕ → ℕ → Forest → Type 0 where
    elements_none : {k : ℕ} → Elements k 0 none
    elements_more : {k n : ℕ} {t : Tree} {ts : Forest} → Shaped k t → Elements k n ts → Elements k (suc n) (more t ts)

  pub data Pairs : ℕ → ℕ → Forest → Type 0 where
    pairs_none : {k : ℕ} → Pairs k 0 none
    pairs_more : {k a e n : ℕ} {s : Decoded} {v : Tree} {ts : Forest} → Scripted s.bytes → Shaped k v → Pairs k n ts
        → Pairs k (suc n) (more (leaf KEY a e s) (more v ts))
