-- HOW MANY BYTES ARE WRITTEN at most, by the rows and the text: no place that is counted comes near the ceiling. Assumes nothing.
use Rattle.std.specs.Prelude.{List, [], ◌∷◌, ◌++◌, Bool, true, false, ℕ, zero, suc, ◌+◌, ◌-◌, ◌*◌, ◌/◌, ◌%◌, ◌≤◌, length, drop, eqb, leb}
use Rattle.std.proofs.Common.{arith, length-append, length-drop}
use Rattle.notation.specs.Class.{pick, or, is}
use Rattle.language.specs.Kind.{NULL, FALSE, TRUE, STRING, BYTES, KEY, ARRAY}
use Rattle.language.specs.Tree.{Tree, leaf, node, Forest, none, more, size, sizes, text_of, texts_of}
use Rattle.language.specs.Characters.{utf8, ascii, character}
use Rattle.language.specs.BlockText.{spaces}
use Rattle.language.specs.Lines.{tail}
use Rattle.language.specs.House.{hexletter, hexes, letter, shown, value_at, shown_text, quoted, bareable, hex_pairs, scalar_text, is_key, is_none, between, inline, inlines, one_line, flat, is_array, value, item, block, items, properties, house}
use Rattle.shaped.specs.Shaped.{Shaped, shaped_leaf, shaped_array, shaped_object, Elements, elements_none, elements_more, Pairs, pairs_none, pairs_more}
use Rattle.writer.specs.Puts.{length_spaces}
use Rattle.writer.specs.Leaves.{length_pairs}
use Rattle.house.specs.Leaves.{no_key}
use Rattle.writer.specs.Flat.{size_some}
use Rattle.writer.specs.Lines.{columns}

-- a choice is at most what both are
pick_most : {m : ℕ} (c : Bool) (u w : List ℕ) → length u ≤ m → length w ≤ m → length (pick c u w) ≤ m
pick_most true u w h k = h
pick_most false u w h k = k

-- a character: at most ten bytes
hexes_most : (n v : ℕ) → length (hexes n v) ≤ n
unfolding hexes
hexes_most zero v = omega arith
hexes_most (suc n) v =
    pick_most (leb v 15) (hexletter v ∷ []) (hexes n (v / 16) ++ hexletter (v % 16) ∷ []) (omega arith) (omega (arith, hexes_most n (v / 16), length-append (hexes n (v / 16)) (hexletter (v % 16) ∷ [])))

utf8_most : (v : ℕ) → length (utf8 v) ≤ 4
utf8_most v =
    pick_most (leb v 127) _ _ (omega arith) (pick_most (leb v 2047) _ _ (omega arith) (pick_most (leb v 65535) _ _ (omega arith) (omega arith)))

shown_most : (v : ℕ) → length (shown v) ≤ 10
unfolding shown
shown_most v =
    pick_most
    (eqb (letter v) 0)
    (pick (character ascii v) (utf8 v) (92 ∷ 117 ∷ 123 ∷ hexes 6 v ++ 125 ∷ []))
    (92 ∷ letter v ∷ [])
    (pick_most (character ascii v) (utf8 v) (92 ∷ 117 ∷ 123 ∷ hexes 6 v ++ 125 ∷ []) (omega (arith, utf8_most v)) (omega (arith, hexes_most 6 v, length-append (hexes 6 v) (125 ∷ []))))
    (omega arith)

text_most : (s : List ℕ) → length (shown_text s) ≤ 10 * length s
unfolding shown_text
text_most [] = omega arith
text_most (b ∷ s) =
    let w = pick (is tail b) [] (shown (value_at b s)) in
    let m : length w ≤ 10 = pick_most (is tail b) [] (shown (value_at b s)) (omega arith) (shown_most (value_at b s)) in
    omega (arith, text_most s, length-append w (shown_text s))

-- a scalar or a key
quoted_most : (s : List ℕ) → length (quoted s) ≤ 5 + 10 * length s
quoted_most s = omega (arith, text_most s, length-append (shown_text s) (34 ∷ []))

scalar_most : (k : ℕ) (s : List ℕ) → length (scalar_text k s) ≤ 5 + 10 * length s
unfolding scalar_text
scalar_most k s =
    pick_most (eqb k NULL) _ _ (omega arith)
    (pick_most (eqb k FALSE) _ _ (omega arith)
    (pick_most (eqb k TRUE) _ _ (omega arith)
    (pick_most (eqb k STRING) _ _ (quoted_most s)
    (pick_most (eqb k BYTES) _ _ (omega (arith, length_pairs s, length-append (hex_pairs s) (62 ∷ [])))
    (pick_most (eqb k KEY) _ _ (pick_most (bareable s) _ _ (omega arith) (quoted_most s)) (omega arith))))))

-- on one line: ten bytes a row and ten a byte of text, with two to spare
mutual
  unfolding inline inlines size sizes text_of texts_of

  pub inline_most : (t : Tree) → length (inline t) + 2 ≤ 10 * size t + 10 * length (text_of t)
  inline_most (leaf k a e s) = omega (arith, scalar_most k s.bytes)
  inline_most (node k a e c ts) =
      let m : length (pick (eqb k ARRAY) (91 ∷ inlines ts ++ 93 ∷ []) (123 ∷ inlines ts ++ 125 ∷ [])) ≤ 2 + length (inlines ts) =
      pick_most (eqb k ARRAY) (91 ∷ inlines ts ++ 93 ∷ []) (123 ∷ inlines ts ++ 125 ∷ []) (omega (arith, length-append (inlines ts) (93 ∷ []))) (omega (arith, length-append (inlines ts) (125 ∷ []))) in
      omega (arith, inlines_most ts)

  inlines_most : (ts : Forest) → length (inlines ts) ≤ 10 * sizes ts + 10 * length (texts_of ts)
  inlines_most none = omega arith
  inlines_most (more t ts) =
      let b : length (between t ts) ≤ 2 = pick_most (is_key t) (58 ∷ 32 ∷ []) (pick (is_none ts) [] (44 ∷ 32 ∷ [])) (omega arith) (pick_most (is_none ts) [] (44 ∷ 32 ∷ []) (omega arith) (omega arith)) in
      omega (arith, inline_most t, inlines_most ts, length-append (inline t ++ between t ts) (inlines ts), length-append (inline t) (between t ts), length-append (text_of t) (texts_of ts))

-- as a block at the column n: a hundred bytes a row
line_most : (t : Tree) → length (one_line t) + 1 ≤ 10 * size t + 10 * length (text_of t)
line_most t = omega (arith, inline_most t, length-append (inline t) (10 ∷ []))

value_most : (n : ℕ) (t : Tree) → length (block n t) + 100 ≤ 100 * size t + 10 * length (text_of t) → length (value t (block n t)) ≤ 100 * size t + 10 * length (text_of t)
value_most n t h = pick_most (flat t) (32 ∷ one_line t) (10 ∷ block n t) (omega (arith, line_most t)) (omega arith)

item_most : (n : ℕ) (t : Tree) → n ≤ columns → length (block n t) + 100 ≤ 100 * size t + 10 * length (text_of t)
    → n + length (item n t (block n t)) ≤ 100 * size t + 10 * length (text_of t)
item_most n t l h =
    let m : length (pick (or (flat t) (is_array t)) (one_line t) (drop n (block n t))) ≤ 100 * size t + 10 * length (text_of t) - n =
    pick_most (or (flat t) (is_array t)) (one_line t) (drop n (block n t)) (omega (arith, line_most t, size_some t)) (omega (arith, length-drop n (block n t))) in
    omega (arith, size_some t)

mutual
  unfolding block items properties size sizes text_of texts_of

  pub block_most : {k : ℕ} {t : Tree} → Shaped k t → (n : ℕ) → n + 2 * k ≤ columns → length (block n t) + 100 ≤ 100 * size t + 10 * length (text_of t)
  block_most (shaped_leaf x) n h = omega arith
  block_most (shaped_array x) n h = omega (arith, elements_most x n (omega arith))
  block_most (shaped_object x) n h = omega (arith, pairs_most x n (omega arith))

  elements_most : {k c : ℕ} {ts : Forest} → Elements k c ts → (n : ℕ) → suc (suc n) + 2 * k ≤ columns → length (items n ts) ≤ 100 * sizes ts + 10 * length (texts_of ts)
  elements_most elements_none n h = omega arith
  elements_most (elements_more {t = t} {ts = ts} x xs) n h =
      let w = item (suc (suc n)) t (block (suc (suc n)) t) in
      let m : suc (suc n) + length w ≤ 100 * size t + 10 * length (text_of t) = item_most (suc (suc n)) t (omega arith) (block_most x (suc (suc n)) h) in
      omega (arith, elements_most xs n h, length-append (spaces n ++ 45 ∷ 32 ∷ w) (items n ts), length-append (spaces n) (45 ∷ 32 ∷ w), length_spaces n, length-append (text_of t) (texts_of ts))

  pairs_most : {k c : ℕ} {ts : Forest} → Pairs k c ts → (n : ℕ) → suc (suc n) + 2 * k ≤ columns → length (properties n ts) ≤ 100 * sizes ts + 10 * length (texts_of ts)
  pairs_most pairs_none n h = omega arith
  pairs_most (pairs_more {a = a} {e = e} {s = s} {v = v} {ts = ts} y x xs) n h =
      let w = value v (block (suc (suc n)) v) in
      let m : length w ≤ 100 * size v + 10 * length (text_of v) = value_most (suc (suc n)) v (block_most x (suc (suc n)) h) in
      let u = inline (leaf KEY a e s) in
      rw (no_key x)
      (omega (
        arith,
        pairs_most xs n h,
        inline_most (leaf KEY a e s),
        length-append ((spaces n ++ u) ++ 58 ∷ []) (w ++ properties n ts),
        length-append (spaces n ++ u) (58 ∷ []),
        length-append (spaces n) u,
        length_spaces n,
        length-append w (properties n ts),
        length-append s.bytes (text_of v ++ texts_of ts),
        length-append (text_of v) (texts_of ts),
      ))

-- A WHOLE PROFILE
pub house_most : {k : ℕ} {t : Tree} → Shaped k t → 2 * k ≤ columns → length (house t) ≤ 100 * size t + 10 * length (text_of t)
unfolding house
house_most {t = t} x h = pick_most (flat t) (one_line t) (block 0 t) (omega (arith, line_most t)) (omega (arith, block_most x 0 (omega arith)))
