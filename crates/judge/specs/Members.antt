-- Block arrays and objects as one: `object` says which. Their members, which are items or properties, what these begin with, and their readers.
use Rattle.std.specs.Prelude.{◌≡◌, refl, List, [], ◌∷◌, ◌++◌, Bool, true, false, ℕ, suc}
use Rattle.std.proofs.Common.{ap}
use Rattle.language.specs.Kind.{ARRAY}
use Rattle.language.specs.Tree.{Tree, node, Field, field, Entry, entry, forest, count, first, fields, entries, end_of, block_array, block_object}
use Rattle.exact.specs.Class.{Class, only}
use Rattle.exact.specs.Out.{Reader}
use Rattle.exact.specs.Comb.{map_r}
use Rattle.strings.specs.Keys.{key_s}
use Rattle.inline.specs.Brackets.{fields_append}
pub use Rattle.inline.specs.Brackets.{kind_of}
use Rattle.blocks.specs.Lines.{lines_r}
use Rattle.blocks.specs.Property.{property_r, object_r}
use Rattle.blocks.specs.Array.{dashed_r, array_r}
use Rattle.blocks.specs.Nested.{nested_r, item_r}

abbrev pub Member : Bool → Type 0
Member false = Entry
Member true = Field

-- what a member begins with, and its first byte's place
abbrev pub firsts : Bool → Class
firsts false = only 45
firsts true = key_s.first

abbrev pub begin : (o : Bool) → Member o → ℕ
begin false (entry d v) = d
begin true (field k v) = first k

abbrev pub children : (o : Bool) → List (Member o) → List Tree
children false es = entries es
children true fs = fields fs

-- the trees of one member
abbrev pub members : (o : Bool) → Member o → List Tree
members o m = children o (m ∷ [])

abbrev pub block_of : (o : Bool) → List (Member o) → Tree
block_of false es = block_array es
block_of true fs = block_object fs

unfoldable pub member_r : (o : Bool) → ℕ → ℕ → Reader (Member o)
member_r false k n = dashed_r (item_r k (suc (suc n)))
member_r true k n = property_r k n (nested_r k (suc (suc n)))

-- a container of them at n
unfoldable pub block_r : Bool → ℕ → ℕ → Reader Tree
block_r o k n = map_r (block_of o) (lines_r (firsts o) n (member_r o k n))

pub array_block : (k n : ℕ) → array_r n (item_r k (suc (suc n))) ≡ block_r false k n
unfolding array_r block_r member_r
array_block k n = refl

pub object_block : (k n : ℕ) → object_r k n (nested_r k (suc (suc n))) ≡ block_r true k n
unfolding object_r block_r member_r
object_block k n = refl

-- laws of the two
entries_append : (es fs : List Entry) → entries (es ++ fs) ≡ entries es ++ entries fs
entries_append [] fs = refl
entries_append (entry d v ∷ es) fs = ap (λ ts. v ∷ ts) (entries_append es fs)

pub children_none : (o : Bool) → children o [] ≡ []
children_none false = refl
children_none true = refl

pub children_append : (o : Bool) (ms ns : List (Member o)) → children o (ms ++ ns) ≡ children o ms ++ children o ns
children_append false ms ns = entries_append ms ns
children_append true ms ns = fields_append ms ns

-- a block ends where its last member does
end_entries : (e : ℕ) (ms : List Entry) (m : Entry) → end_of e (entries (ms ++ m ∷ [])) ≡ end_of 0 (entries (m ∷ []))
end_entries e [] (entry d v) = refl
end_entries e (entry d v ∷ ms) m = end_entries _ ms m

end_fields : (e : ℕ) (ms : List Field) (m : Field) → end_of e (fields (ms ++ m ∷ [])) ≡ end_of 0 (fields (m ∷ []))
end_fields e [] (field k v) = refl
end_fields e (field k v ∷ ms) m = end_fields _ ms m

pub end_last : (o : Bool) (ms : List (Member o)) (m : Member o) → end_of 0 (children o (ms ++ m ∷ [])) ≡ end_of 0 (children o (m ∷ []))
end_last false ms m = end_entries 0 ms m
end_last true ms m = end_fields 0 ms m

count_entries : (es : List Entry) → count (entries es) ≡ count es
count_entries [] = refl
count_entries (entry d v ∷ es) = ap suc (count_entries es)

-- the tree of a block
pub block_is : (o : Bool) (m : Member o) (ms : List (Member o))
    → block_of o (m ∷ ms) ≡ node (kind_of o) (begin o m) (end_of 0 (children o (m ∷ ms))) (count (m ∷ ms)) (forest (children o (m ∷ ms)))
block_is false (entry d v) ms = ap (λ (n : ℕ). node ARRAY d (end_of 0 (v ∷ entries ms)) n (forest (v ∷ entries ms))) (ap suc (count_entries ms))
block_is true (field k v) ms = refl
