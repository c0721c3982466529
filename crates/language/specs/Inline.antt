-- INLINE VALUES (01, Scalars), with at most k containers one inside another. Assumes nothing.
use Rattle.std.specs.Prelude.{List, [], ◌∷◌, Bool, false, true, ℕ, zero, suc}
use Rattle.notation.specs.Class.{is, only}
use Rattle.notation.specs.Lang.{Lang, Ret, Here, Byte, Seq, ◌>>=◌, ◌>>◌, Alt, Star, Word}
use Rattle.language.specs.Tree.{Tree, Field, field, array_tree, object_tree}
use Rattle.language.specs.Scalars.{Plain}
use Rattle.language.specs.Strings.{String, Key, InlineBytes}

-- "comma and one space .. no other space; empty allowed": nothing, or As with a comma and a space between, up to a closing byte
abbrev pub Listed : {X : Type 0} → ℕ → Lang X → Lang (List X)
Listed close A =
    Alt
    (do Byte (is (only close)); Ret [])
    (do v ← A; vs ← Star (Word (44 ∷ 32 ∷ []) >> A); Byte (is (only close)); Ret (v ∷ vs))

-- "Inline array `[a, b]`"
abbrev pub InlineArray : Lang Tree → Lang Tree
InlineArray A = do
  a ← Here
  Byte (is (only 91))
  vs ← Listed 93 A
  e ← Here
  Ret (array_tree a e vs)

-- "and object `{k: v, k: v}`: .. colon and one space"
abbrev pub InlinePair : Lang Tree → Lang Field
InlinePair A = do
  k ← Key
  Word (58 ∷ 32 ∷ [])
  v ← A
  Ret (field k v)

abbrev pub InlineObject : Lang Tree → Lang Tree
InlineObject A = do
  a ← Here
  Byte (is (only 123))
  fs ← Listed 125 (InlinePair A)
  e ← Here
  Ret (object_tree a e fs)

abbrev pub Scalar : Bool → Lang Tree
Scalar spaced = Alt (Plain spaced) (Alt String InlineBytes)

-- "An array's element may be an object, and an object's value an array." Inside them digits have no spaces between
abbrev pub Value : Bool → ℕ → Lang Tree
Value spaced zero = Scalar spaced
Value spaced (suc k) = Alt (Scalar spaced) (Alt (InlineArray (Value false k)) (InlineObject (Value false k)))

-- "A line value is any of these but a key."
abbrev pub LineValue : ℕ → Lang Tree
LineValue k = Value true k
