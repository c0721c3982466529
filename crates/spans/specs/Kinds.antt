-- KINDS AT ANY DEPTH: what each container and each leaf of a value's tree is, and where keys stand. Assumes nothing.
use Rattle.std.specs.Prelude.{◌≡◌, refl, [], ◌⊎◌, ℕ, ◌≤◌}
use Rattle.std.proofs.Common.{inl, inr}
use Rattle.language.specs.Kind.{NULL, TRUE, INTEGER, BYTES, ARRAY, OBJECT, KEY}
use Rattle.language.specs.Tree.{Decoded, unescaped, Tree, leaf, node, Forest}
use Rattle.spans.specs.Placed.{Among, Child, Within, among_first, among_later, child, itself, below}
use Rattle.spans.specs.Formed.{Formed, Elements, Pairs, IsKey, formed_word, formed_text, formed_array, formed_object, element, pair, is_a_key}

-- a value or a key
abbrev pub Either : Tree → Type 0
Either t = Formed t ⊎ IsKey t

element_formed : {c : ℕ} {u : Tree} {ts : Forest} → Elements c ts → Among u ts → Formed u
element_formed {u = u} Rattle.spans.specs.Formed.no_element x4 = elim x4 [ ]
element_formed (element x y) among_first = x
element_formed (element x y) (among_later m) = element_formed y m

pair_either : {c : ℕ} {u : Tree} {ts : Forest} → Pairs c ts → Among u ts → Either u
pair_either {u = u} Rattle.spans.specs.Formed.no_pair x4 = elim x4 [ ]
pair_either (pair x y z) among_first = inr x
pair_either (pair x y z) (among_later among_first) = inl y
pair_either (pair x y z) (among_later (among_later m)) = pair_either z m

child_either : {u t : Tree} → Formed t → Child u t → Either u
child_either {u = u} (formed_word {k = k} {a = a} {e = e} {s = s} _ _ _) x9 = elim x9 [ ]
child_either {u = u} (formed_text {k = k} {a = a} {e = e} {s = s} _ _) x8 = elim x8 [ ]
child_either (formed_array x) (child m) = inl (element_formed x m)
child_either (formed_object x) (child m) = pair_either x m

-- a key has no child
abbrev pub Container : Tree → Type 0
Container (leaf k a e s) = ⊥
Container (node k a e c ts) = Unit {0}

pub has_child : {u t : Tree} → Child u t → Container t
has_child (child m) = tt

key_childless : {t : Tree} → IsKey t → Container t → ⊥
key_childless is_a_key x = x

pub within_either : {u t : Tree} → Either t → Within u t → Either u
within_either x itself = x
within_either (inl x) (below c w) = within_either (child_either x c) w
within_either (inr x) (below c w) = absurd (key_childless x (has_child c))

-- A CONTAINER is an array or an object
pub data Contains (c : ℕ) (ts : Forest) : ℕ → Type 0 where
  array_of : Elements c ts → Contains c ts ARRAY
  object_of : Pairs c ts → Contains c ts OBJECT

formed_contains : {k a e c : ℕ} {ts : Forest} → Formed (node k a e c ts) → Contains c ts k
formed_contains (formed_array x) = array_of x
formed_contains (formed_object x) = object_of x

pub either_contains : {k a e c : ℕ} {ts : Forest} → Either (node k a e c ts) → Contains c ts k
either_contains (inl x) = formed_contains x
either_contains (inr x) = absurd (key_childless x tt)

-- A LEAF is a value or a key; null, false and true have no text, and no escape
pub data Tells (s : Decoded) (k : ℕ) : Type 0 where
  word_of : NULL ≤ k → k ≤ TRUE → s ≡ unescaped [] → Tells s k
  text_of : INTEGER ≤ k → k ≤ BYTES → Tells s k
  key_of : k ≡ KEY → Tells s k

formed_tells : {k a e : ℕ} {s : Decoded} → Formed (leaf k a e s) → Tells s k
formed_tells (formed_word h l i) = word_of h l i
formed_tells (formed_text h l) = text_of h l

key_tells : {k a e : ℕ} {s : Decoded} → IsKey (leaf k a e s) → Tells s k
key_tells is_a_key = key_of refl

pub either_tells : {k a e : ℕ} {s : Decoded} → Either (leaf k a e s) → Tells s k
either_tells (inl x) = formed_tells x
either_tells (inr x) = key_tells x
