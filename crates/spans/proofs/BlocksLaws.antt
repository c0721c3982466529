-- BLOCKS in their bytes: values on lines, properties, objects, arrays, nested content and items, by the containers that may stand one inside another. Assumes nothing.
use Rattle.std.specs.Prelude.{◌≡◌, List, [], ◌∷◌, ℕ, zero, suc, ◌+◌, ◌≤◌, ◌<◌, true}
use Rattle.std.proofs.Common.{arith}
use Rattle.notation.specs.Lang.{Lang, Indented}
use Rattle.language.specs.Tree.{Tree, Field, field, Entry, entry, entries, block_array, block_object}
use Rattle.language.specs.Blocks.{Lines, ValueLine, Property, Object, Dashed, Array, Open, Nested, Item}
use Rattle.spans.specs.Every.{Every, InFront, Extends, ret_every, here_then, byte_then, bind_every, via, map_every, alt_every, star_every, word_then, indented_every}
use Rattle.spans.specs.Formed.{Formed, IsKey}
use Rattle.spans.specs.Lies.{LiesIn, Lies, ElementsLie, PairsLie, elements_none, pairs_none}
use Rattle.spans.proofs.LiesLaws.{lies_from, lies_line, lies_behind, lies_less, elements_more, pairs_more, block_array_lies, block_object_lies}
use Rattle.spans.specs.Texts.{option_goes, line_comment_goes}
use Rattle.spans.proofs.StringsLaws.{key_lies}
use Rattle.spans.proofs.InlineLaws.{value_lies}
use Rattle.spans.proofs.BodyLaws.{open_string_lies, property_string_lies}
use Rattle.spans.proofs.PartsLaws.{open_bytes_lies, property_bytes_lies, joined_lies}
use Rattle.spans.specs.Blocks.{EntriesLie, OnLines, Roomy, lines_every}

pub on_lines : {A : Lang Tree} → Roomy A → OnLines A
on_lines g at = via (g at) (λ v e x. lies_less x)

value_line_lies : (k : ℕ) → Roomy (ValueLine k)
value_line_lies k at =
    bind_every
    (value_lies true k at)
    (λ v m x. bind_every (option_goes m (line_comment_goes m)) (λ c e h. byte_then (λ b. ret_every (lies_line (on h) x))))
  where
    on : {m e : ℕ} → m ≤ e → m < suc e
    on h = omega arith

-- a key, a colon, a space or an LF, a value
module _ (k n : ℕ) {N : Lang Tree} (g : Roomy N) where
  property_every : (at : ℕ) {R : Field → ℕ → Type 0}
      → ((ky v : Tree) (m e : ℕ) → Lies IsKey 0 at ky m → Lies Formed 1 (suc (suc m)) v e → R (field ky v) e) → Every (Property k n N) at R
  property_every at f =
      bind_every
      (key_lies at)
      (λ ky m x. byte_then
      (λ b. bind_every
      {P = Lies Formed 1 (suc (suc m))}
      (alt_every
      (byte_then (λ c. alt_every (value_line_lies k (suc (suc m))) (alt_every (property_string_lies n (suc (suc m))) (property_bytes_lies n (suc (suc m))))))
      (bind_every
      (option_goes (suc m) (line_comment_goes (suc m)))
      (λ c o h. byte_then (λ d. via (g (suc o)) (λ v e y. lies_from (on h) y)))))
      (λ v e y. ret_every (f ky v m e x y))))
    where
      on : {m o : ℕ} → suc m ≤ o → suc (suc m) ≤ suc o
      on h = omega arith

  pub properties_extend : Extends PairsLie (Property k n N)
  properties_extend at b h = property_every b (λ ky v m e x y fs at' z. pairs_more (lies_from h x) (omega arith) y z)

  pub object_lies : OnLines (Object k n N)
  object_lies at = map_every block_object (lines_every n PairsLie pairs_none properties_extend (property_every at (λ ky v m e x y fs at' z. block_object_lies x y z)))

-- a dash, a space, an item
module _ {I : Lang Tree} (g : OnLines I) where
  dashed_every : (at : ℕ) {R : Entry → ℕ → Type 0} → ((v : Tree) (e : ℕ) → LiesIn Formed 1 1 (suc (suc at)) v e → R (entry at v) e) → Every (Dashed I) at R
  dashed_every at f = here_then (word_then (45 ∷ 32 ∷ []) (λ m h. bind_every (g m) (λ v e x. ret_every (f v e (lies_from (on h) x)))))
    where
      on : {m : ℕ} → m ≡ at + 2 → suc (suc at) ≤ m
      on h = omega arith

  pub entries_extend : Extends (EntriesLie g) (Dashed I)
  entries_extend at b h = dashed_every b (λ v e x es at' z. elements_more (lies_from (on h) x) z)
    where
      on : {at b : ℕ} → at ≤ b → at ≤ suc (suc b)
      on h = omega arith

  pub array_lies : (n : ℕ) → Roomy (Array n I)
  array_lies n at = map_every block_array (lines_every n (EntriesLie g) elements_none entries_extend (dashed_every at (λ v e x es at' z. block_array_lies es (elements_more x z))))

  one_lies : (at : ℕ) → Every (Dashed I) at (λ i e. Lies Formed 1 at (block_array (i ∷ [])) e)
  one_lies at = dashed_every at (λ v e x. block_array_lies [] (elements_more x (elements_none e)))

pub open_lies : (c : ℕ) → Roomy (Open c)
open_lies c at = alt_every (open_string_lies c at) (open_bytes_lies c at)

-- behind a space or more
indented_lies : {A : Lang Tree} (n : ℕ) → OnLines A → Roomy (Indented (suc n) A)
indented_lies n g at = byte_then λ b. indented_every n (λ m h. via (g m) (λ v e x. lies_behind (omega arith) x))

mutual
  pub nested_lies : (k m : ℕ) → Roomy (Nested k (suc m))
  nested_lies zero m at = indented_lies m (on_lines (λ b. alt_every (open_string_lies (suc m) b) (joined_lies (suc m) b))) at
  nested_lies (suc k) m at =
      indented_lies
      m
      (λ b. alt_every
      (alt_every
      (on_lines (array_lies (λ x. item_lies k (suc (suc (suc m))) x) (suc m)) b)
      (object_lies k (suc m) (λ x. nested_lies k (suc (suc m)) x) b))
      (on_lines (λ c. alt_every (open_string_lies (suc m) c) (joined_lies (suc m) c)) b))
      at

  pub item_lies : (k c : ℕ) → OnLines (Item k c)
  item_lies zero c at = on_lines (λ b. alt_every (value_line_lies zero b) (open_lies c b)) at
  item_lies (suc k) c at =
      alt_every
      (on_lines (λ b. alt_every (value_line_lies (suc k) b) (open_lies c b)) at)
      (alt_every (on_lines (λ b. map_every _ (one_lies (λ x. item_lies k (suc (suc c)) x) b)) at) (object_lies k c (λ x. nested_lies k (suc c) x) at))
