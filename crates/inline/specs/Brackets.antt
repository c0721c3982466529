-- Inline arrays and objects as one: `object` says which. What opens and closes them, their members, which are elements or pairs, and their reader.
use Rattle.std.specs.Prelude.{◌≡◌, refl, List, [], ◌∷◌, ◌++◌, Bool, true, false, ℕ, ◌<◌, ◌+◌}
use Rattle.std.proofs.Common.{sym, ap, ◌∙◌, arith}
use Rattle.language.specs.Kind.{ARRAY, OBJECT}
use Rattle.language.specs.Tree.{Tree, node, Field, field, forest, fields, count}
use Rattle.exact.specs.Class.{is, only}
use Rattle.exact.specs.Out.{Reader, bind}
use Rattle.exact.specs.Lang.{ret_r, byte_r}
use Rattle.exact.specs.Answers.{bind_bind, bind_same}
use Rattle.exact.specs.Comb.{seq_r}
use Rattle.exact.specs.Ll.{here_r, word_r}
use Rattle.strings.specs.Keys.{key_r}
use Rattle.inline.specs.Lists.{listed_r, inline_array_r, inline_pair_r, inline_object_r}

abbrev pub opens : Bool → ℕ
opens false = 91
opens true = 123

abbrev pub closes : Bool → ℕ
closes false = 93
closes true = 125

abbrev pub kind_of : Bool → ℕ
kind_of false = ARRAY
kind_of true = OBJECT

-- a member, and the children that members have
abbrev pub Member : Bool → Type 0
Member false = Tree
Member true = Field

abbrev pub children : (o : Bool) → List (Member o) → List Tree
children false vs = vs
children true fs = fields fs

-- the trees of one member
abbrev pub members : (o : Bool) → Member o → List Tree
members o m = children o (m ∷ [])

abbrev pub member_r : (o : Bool) → Reader Tree → Reader (Member o)
member_r false r = r
member_r true r = inline_pair_r r

abbrev pub enclosed : (o : Bool) → ℕ → ℕ → List (Member o) → Tree
enclosed o a e ms = node (kind_of o) a e (count ms) (forest (children o ms))

unfoldable pub bracket_r : Bool → Reader Tree → Reader Tree
bracket_r o r = seq_r here_r λ a. seq_r (byte_r (is (only (opens o)))) λ _. seq_r (listed_r (closes o) (member_r o r)) λ ms. seq_r here_r λ e. ret_r (enclosed o a e ms)

pub array_bracket : (r : Reader Tree) → inline_array_r r ≡ bracket_r false r
unfolding inline_array_r bracket_r
array_bracket r = refl

pub object_bracket : (r : Reader Tree) → inline_object_r r ≡ bracket_r true r
unfolding inline_object_r bracket_r
object_bracket r = refl

-- laws of the two
pub closes_small : (o : Bool) → closes o < 256
closes_small false = omega arith
closes_small true = omega arith

pub closes_other : (o : Bool) → closes o ≡ 44 → ⊥
closes_other false e = omega arith
closes_other true e = omega arith

pub opens_small : (o : Bool) → opens o < 256
opens_small false = omega arith
opens_small true = omega arith

pub children_none : (o : Bool) → children o [] ≡ []
children_none false = refl
children_none true = refl

pub fields_append : (fs gs : List Field) → fields (fs ++ gs) ≡ fields fs ++ fields gs
fields_append [] gs = refl
fields_append (field k v ∷ fs) gs = ap (λ ts. k ∷ v ∷ ts) (fields_append fs gs)

pub children_append : (o : Bool) (ms ns : List (Member o)) → children o (ms ++ ns) ≡ children o ms ++ children o ns
children_append false ms ns = refl
children_append true ms ns = fields_append ms ns

pub count_then : {X : Type 0} (ms : List X) (m : X) → count (ms ++ m ∷ []) ≡ count ms + 1
count_then [] m = refl
count_then (n ∷ ms) m = let h = count_then ms m in omega arith

-- a pair's key with its colon, which code reads first
unfoldable pub label_r : Reader Tree
label_r = seq_r key_r λ k. seq_r (word_r (58 ∷ 32 ∷ [])) λ _. ret_r k

pub pair_label : (r : Reader Tree) (at : ℕ) (s : List ℕ) → inline_pair_r r at s ≡ bind (label_r at s) (λ k. seq_r r λ v. ret_r (field k v))
unfolding label_r inline_pair_r
pair_label r at s =
    sym
    (bind_bind (key_r at s) _ _
    ∙ bind_same (key_r at s) _ _ (λ k a t. bind_bind (word_r (58 ∷ 32 ∷ []) a t) (λ _. ret_r k) (λ k. seq_r r λ v. ret_r (field k v))))
