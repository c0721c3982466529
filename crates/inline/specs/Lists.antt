-- The reader of a comma list up to a closing byte, and that it is exact, over whatever reads an element; so are those of inline arrays, pairs and objects.
use Rattle.std.specs.Prelude.{◌≡◌, refl, List, [], ◌∷◌, ◌++◌, true, ℕ}
use Rattle.language.specs.Tree.{Tree, Field, field, array_tree, object_tree}
use Rattle.language.specs.Strings.{keybyte}
use Rattle.language.specs.Inline.{Listed, InlineArray, InlinePair, InlineObject}
use Rattle.exact.specs.Class.{Class, ◌to◌, is, only, apart}
use Rattle.exact.specs.Out.{Reader}
use Rattle.exact.specs.Lang.{Lang, ret_r, byte_r}
use Rattle.exact.specs.Comb.{seq_r, alt_r}
use Rattle.exact.specs.Ll.{Shape, Ll, ret_s, ret_ll, byte_s, seq_s, seq_ll, alt_s, alt_ll, star_s, star_ll, relax, here_r, here_ll, word_r, word_s, word_ll, byte₁}
use Rattle.exact.specs.Place.{list_r}
use Rattle.numbers.specs.Plain.{plain_first, plain_s}
use Rattle.strings.specs.Bytes.{inline_bytes_s}
use Rattle.strings.specs.Keys.{key_r}
use Rattle.strings.proofs.KeysLaws.{key_ll}
use Rattle.strings.specs.Quoted.{string_s}
use Rattle.strings.specs.Spans.{solid}

-- READERS
-- nothing, or elements with a comma and a space between, up to a closing byte
unfoldable pub listed_r : {X : Type 0} → ℕ → Reader X → Reader (List X)
listed_r close r = alt_r (is (only close)) (seq_r (byte_r (is (only close))) λ _. ret_r []) (list_r close r)

unfoldable pub inline_array_r : Reader Tree → Reader Tree
inline_array_r r = seq_r here_r λ a. seq_r (byte_r (is (only 91))) λ _. seq_r (listed_r 93 r) λ vs. seq_r here_r λ e. ret_r (array_tree a e vs)

unfoldable pub inline_pair_r : Reader Tree → Reader Field
inline_pair_r r = seq_r key_r λ k. seq_r (word_r (58 ∷ 32 ∷ [])) λ _. seq_r r λ v. ret_r (field k v)

unfoldable pub inline_object_r : Reader Tree → Reader Tree
inline_object_r r = seq_r here_r λ a. seq_r (byte_r (is (only 123))) λ _. seq_r (listed_r 125 (inline_pair_r r)) λ fs. seq_r here_r λ e. ret_r (object_tree a e fs)

-- SHAPES
-- what a scalar begins with; what a value begins with; what a number would go on with
abbrev pub scalar_first : Class
scalar_first = plain_first ++ (string_s.first ++ inline_bytes_s.first)

abbrev pub openings : Class
openings = (91 to 91) ∷ (123 to 123) ∷ []

abbrev pub value_first : Class
value_first = scalar_first ++ openings

abbrev pub value_s : Shape
value_s = solid value_first plain_s.follow

-- an element of a list, be it a value or a pair
abbrev pub element_s : Shape
element_s = solid (value_first ++ keybyte) plain_s.follow

abbrev pub listed_s : ℕ → Shape
listed_s close = alt_s (seq_s (byte_s (only close)) ret_s) (seq_s element_s (seq_s (star_s (seq_s (word_s (44 ∷ 32 ∷ [])) element_s)) (seq_s (byte_s (only close)) ret_s)))

-- EXACT
-- a closing byte begins no element, and an element goes on neither with it nor with a comma
pub record Closing (close : ℕ) : Type 0 where
  pub begins_none : apart element_s.first (only close) ≡ true
  pub goes_on_none : apart (only 44 ++ only close) element_s.follow ≡ true
  pub no_comma : apart (only close) (element_s.follow ++ only 44) ≡ true

pub listed_ll : {X : Type 0} {A : Lang X} {r : Reader X} (close : ℕ) → Closing close → Ll element_s A r → Ll (listed_s close) (Listed close A) (listed_r close r)
unfolding listed_r
listed_ll close c l =
    alt_ll
    refl
    c.begins_none
    (seq_ll refl (byte₁ close) λ _. ret_ll [])
    (seq_ll c.goes_on_none l λ v. seq_ll c.no_comma (star_ll refl refl (seq_ll refl (word_ll (44 ∷ 32 ∷ [])) λ _. l)) λ vs. seq_ll refl (byte₁ close) λ _. ret_ll (v ∷ vs))

pub inline_array_ll : {A : Lang Tree} {r : Reader Tree} → Ll value_s A r → Ll (solid (only 91) []) (InlineArray A) (inline_array_r r)
unfolding inline_array_r
inline_array_ll l =
    relax
    (solid (only 91) [])
    refl
    refl
    refl
    (seq_ll refl here_ll λ a.
    seq_ll refl (byte₁ 91) λ _. seq_ll refl (listed_ll 93 (record { begins_none = refl; goes_on_none = refl; no_comma = refl }) (relax element_s refl refl refl l)) λ vs. seq_ll refl here_ll λ e. ret_ll (array_tree a e vs))

pub inline_pair_ll : {A : Lang Tree} {r : Reader Tree} → Ll value_s A r → Ll element_s (InlinePair A) (inline_pair_r r)
unfolding inline_pair_r
inline_pair_ll l = relax element_s refl refl refl (seq_ll refl key_ll λ k. seq_ll refl (word_ll (58 ∷ 32 ∷ [])) λ _. seq_ll refl l λ v. ret_ll (field k v))

pub inline_object_ll : {A : Lang Tree} {r : Reader Tree} → Ll value_s A r → Ll (solid (only 123) []) (InlineObject A) (inline_object_r r)
unfolding inline_object_r
inline_object_ll l =
    relax
    (solid (only 123) [])
    refl
    refl
    refl
    (seq_ll refl here_ll λ a.
    seq_ll refl (byte₁ 123) λ _. seq_ll refl (listed_ll 125 (record { begins_none = refl; goes_on_none = refl; no_comma = refl }) (inline_pair_ll l)) λ fs. seq_ll refl here_ll λ e. ret_ll (object_tree a e fs))
