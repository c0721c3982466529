-- SCALARS, as the house style writes them on a line. Assumes nothing.
use Rattle.std.specs.Prelude.{◌≡◌, refl, List, Bool, false, ℕ, zero, suc, ◌+◌, length, eqb}
use Rattle.notation.specs.Lang.{Lang}
use Rattle.language.specs.Kind.{KEY}
use Rattle.language.specs.Tree.{unescaped, Tree, leaf}
use Rattle.language.specs.Scalars.{null_word, true_word, false_word}
use Rattle.language.specs.Strings.{Key}
use Rattle.language.specs.Inline
use Rattle.language.specs.Inline.{Value}
use Rattle.language.specs.House.{scalar_text, is_key}
use Rattle.shaped.specs.Shaped.{Scripted, Scalar, is_null, is_false, is_true, is_an_integer, is_float, is_string, is_bytes, Shaped, shaped_leaf, shaped_array, shaped_object}
use Rattle.house.specs.Spells.{Reads, Spells, one_reads, two_reads, one_spells, two_spells}
use Rattle.house.specs.Same.{Leaf, leaf_of}
use Rattle.house.specs.Numbers.{keyword_reads, plain_float}
use Rattle.house.specs.Integers.{integer_reads}
use Rattle.house.specs.Strings.{string_spells, key_spells, bytes_reads}

leaf_spells : {A : Lang Tree} {kind at e : ℕ} {w s : List ℕ} → Reads A at w (leaf kind at e (unescaped s)) → Spells A at w (Leaf kind at e s)
leaf_spells r = record { value = _; reads = r; good = leaf_of refl }

-- what is written for a scalar_text is a scalar_text of this kind and text, from its first byte to its last
pub scalar_spells : {kind : ℕ} {s : List ℕ} (spaced : Bool) (at : ℕ) → Scalar kind s
    → Spells (Inline.Scalar spaced) at (scalar_text kind s) (Leaf kind at (at + length (scalar_text kind s)) s)
unfolding scalar_text
scalar_spells spaced at is_null = leaf_spells (one_reads (one_reads (one_reads (one_reads (keyword_reads null_word _)))))
scalar_spells spaced at is_true = leaf_spells (one_reads (one_reads (one_reads (two_reads (one_reads (keyword_reads true_word _))))))
scalar_spells spaced at is_false = leaf_spells (one_reads (one_reads (one_reads (two_reads (two_reads (keyword_reads false_word _))))))
scalar_spells spaced at (is_an_integer e) = leaf_spells (one_reads (two_reads (one_reads (integer_reads spaced _ e))))
scalar_spells spaced at (is_float x) = leaf_spells (one_reads (plain_float spaced x))
scalar_spells spaced at (is_string x) = two_spells (one_spells (string_spells x))
scalar_spells spaced at (is_bytes x) = leaf_spells (two_reads (two_reads (bytes_reads x)))

pub key_written : (at : ℕ) {s : List ℕ} → Scripted s → Spells Key at (scalar_text KEY s) (Leaf KEY at (at + length (scalar_text KEY s)) s)
unfolding scalar_text
key_written at x = key_spells _ x

-- a scalar_text is a value at any depth
pub value_scalar : (spaced : Bool) (k : ℕ) {at : ℕ} {w : List ℕ} {P : Tree → Type 0} → Spells (Inline.Scalar spaced) at w P → Spells (Value spaced k) at w P
value_scalar spaced zero r = r
value_scalar spaced (suc k) r = one_spells r

-- no value is a key
scalar_no_key : {kind : ℕ} {s : List ℕ} → Scalar kind s → eqb kind KEY ≡ false
scalar_no_key is_null = refl
scalar_no_key is_false = refl
scalar_no_key is_true = refl
scalar_no_key (is_an_integer e) = refl
scalar_no_key (is_float x) = refl
scalar_no_key (is_string x) = refl
scalar_no_key (is_bytes x) = refl

pub no_key : {k : ℕ} {t : Tree} → Shaped k t → is_key t ≡ false
no_key (shaped_leaf x) = scalar_no_key x
no_key (shaped_array x) = refl
no_key (shaped_object x) = refl
