-- Worked examples of the stored form and of the spans in it, computed. ⏎ is LF.
use Rattle.std.specs.Prelude.{◌≡◌, refl, List, [], ◌∷◌, ℕ, ◌+◌, ◌*◌, length, take, drop, replicate}
use Rattle.std.proofs.Common.{arith}
use Rattle.language.specs.Kind.{NULL, FALSE, TRUE, INTEGER, FLOAT, STRING, BYTES, ARRAY, OBJECT, KEY}
use Rattle.language.specs.Tree.{unescaped, Tree, leaf, node, none, more, Field, field, array_tree, object_tree, unlined, size, sizes, text_of, rows_of}
use Rattle.stored.specs.Form.{head, widest, parted, cut, content, form, placed, loaded}
use Rattle.stored.proofs.PartsLaws.{cut_length}
use Rattle.stored.specs.Vectors.{scalar}

-- 131,070 bytes are a part and a full end, 131,071 two parts and one byte
b₃ : (s : List ℕ) → length s ≡ 131070 → length (form (scalar BYTES s)) ≡ 131070 + 2 * head
unfolding widest content
b₃ s e = omega (arith, cut_length BYTES s)

b₄ : (s : List ℕ) → length s ≡ 131071 → length (form (scalar BYTES s)) ≡ 131071 + 3 * head
unfolding widest content
b₄ s e = omega (arith, cut_length BYTES s)
