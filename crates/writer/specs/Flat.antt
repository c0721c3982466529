-- VALUES ON ONE LINE: what the code of a row and of the children of a row asks, and how it keeps its promise row by row. Assumes nothing.
use Rattle.std.specs.Prelude.{◌≡◌, List, [], ◌∷◌, ◌++◌, Bool, true, false, ℕ, ◌+◌, ◌-◌, ◌*◌, ◌≤◌, ◌<◌, get_or, take, drop, eqb, leb}
use Rattle.std.proofs.Math.Path.{refl, sym, ap, subst}
use Rattle.std.proofs.Common.{◌∙◌, arith, le-leb, eq-eqb, ne_eqb}
use Rattle.std.proofs.Math.Decide.{dec_le}
use Rattle.std.proofs.Math.ListN.{length, length-append}
use Rattle.std.proofs.Math.Seq.{slice}
use Rattle.std.proofs.lemmas.Bool.{lt-leb}
use Rattle.notation.specs.Class.{pick}
use Rattle.exact.specs.Place.{slice_at}
use Rattle.language.specs.Kind.{TRUE}
use Rattle.language.specs.Tree.{Tree, leaf, Forest, Decoded, width}
use Rattle.language.specs.House.{scalar_text, inline, inlines}
use Rattle.spans.specs.Formed.{kind_of}
use Rattle.shaped.specs.Leaves.{word_row, part_row, part_is, part_fits}
use Rattle.shaped.specs.Shaped.{Scripted, Scalar, is_null, is_false, is_true, is_an_integer, is_float, is_string, is_bytes, shaped_leaf, shaped_array, shaped_object}
pub use Rattle.sound.specs.Standing.{Kept, kept_key, kept_value, Kepts, kepts_none, kepts_more, elements_kept, pairs_kept, size_some, sizes_some, At, Along, word_in, kind_word, next_word, node_along}
use Rattle.writer.specs.Puts.{ceiling, Puts, puts_none, puts_as, puts_then}
use Rattle.writer.specs.Leaves.{Spelt}

-- a scalar is no container; a null, a false and a true have no text; a string is a text of characters
pub scalar_low : {kind : ℕ} {s : List ℕ} → Scalar kind s → kind ≤ 7
scalar_low is_null = omega arith
scalar_low is_false = omega arith
scalar_low is_true = omega arith
scalar_low (is_an_integer x) = omega arith
scalar_low (is_float x) = omega arith
scalar_low (is_string x) = omega arith
scalar_low (is_bytes x) = omega arith

scalar_bare : {kind : ℕ} {s : List ℕ} → Scalar kind s → kind ≤ 3 → s ≡ []
scalar_bare is_null h = refl
scalar_bare is_false h = refl
scalar_bare is_true h = refl
scalar_bare (is_an_integer x) h = absurd (omega arith)
scalar_bare (is_float x) h = absurd (omega arith)
scalar_bare (is_string x) h = absurd (omega arith)
scalar_bare (is_bytes x) h = absurd (omega arith)

scalar_string : {kind : ℕ} {s : List ℕ} → Scalar kind s → kind ≡ 6 → Scripted s
scalar_string is_null h = absurd (omega arith)
scalar_string is_false h = absurd (omega arith)
scalar_string is_true h = absurd (omega arith)
scalar_string (is_an_integer x) h = absurd (omega arith)
scalar_string (is_float x) h = absurd (omega arith)
scalar_string (is_string x) h = x
scalar_string (is_bytes x) h = absurd (omega arith)

-- what stands between a child of this kind and those behind it
abbrev pub separator : ℕ → Bool → List ℕ
separator kind last = pick (eqb kind 10) (58 ∷ 32 ∷ []) (pick last [] (44 ∷ 32 ∷ []))

module _ (kind : ℕ) (last : Bool) where
  separator_key : kind ≡ 10 → separator kind last ≡ 58 ∷ 32 ∷ []
  separator_key e = rw (eq-eqb kind 10 e)

  separator_last : (kind ≡ 10 → ⊥) → last ≡ true → separator kind last ≡ []
  separator_last n e = rw (ne_eqb kind 10 n, e)

  separator_more : (kind ≡ 10 → ⊥) → last ≡ false → separator kind last ≡ 44 ∷ 32 ∷ []
  separator_more n e = rw (ne_eqb kind 10 n, e)

  pub between_key : {x y : ℕ} {o p : List ℕ} → kind ≡ 10 → Puts (58 ∷ 32 ∷ []) x y o p → Puts (separator kind last) x y o p
  between_key e h = puts_as (sym (separator_key e)) h

  pub between_last : {x : ℕ} {o : List ℕ} → (kind ≡ 10 → ⊥) → last ≡ true → Puts (separator kind last) x x o o
  between_last n e = puts_as (sym (separator_last n e)) puts_none

  pub between_more : {x y : ℕ} {o p : List ℕ} → (kind ≡ 10 → ⊥) → last ≡ false → Puts (44 ∷ 32 ∷ []) x y o p → Puts (separator kind last) x y o p
  between_more n e h = puts_as (sym (separator_more n e)) h

  pub key_room : (x : ℕ) → x + length (separator kind last) ≤ ceiling → kind ≡ 10 → x + 2 ≤ ceiling
  key_room x h e = omega (arith, ap length (separator_key e))

  pub more_room : (x : ℕ) → x + length (separator kind last) ≤ ceiling → (kind ≡ 10 → ⊥) → last ≡ false → x + 2 ≤ ceiling
  more_room x h n e = omega (arith, ap length (separator_more n e))

pub ruleset parting = (between_key, between_last, between_more, key_room, more_room)

module _ (table text : List ℕ) where
  -- ASKED of a row, and of rows, that are written at x
  pub record Inline (r x : ℕ) : Type 0 where
    pub tree : Tree
    pub kept : Kept tree
    pub here : At table text r tree
    pub room : x + length (inline tree) < ceiling

  pub record Inlines (from stop x : ℕ) : Type 0 where
    pub trees : Forest
    pub kept : Kepts trees
    pub here : Along table text from stop trees
    pub room : x + length (inlines trees) < ceiling

  record Opened (r : ℕ) (t : Tree) (a b : ℕ) : Type 0 where
    trees : Forest
    kept : Kepts trees
    here : Along table text (r + 1) (get_or table (width * r + 6) 0) trees
    is : inline t ≡ a ∷ inlines trees ++ b ∷ []

  open_array : {r : ℕ} {t : Tree} → Kept t → kind_of t ≡ 8 → At table text r t → Opened r t 91 93
  unfolding inline
  open_array (kept_key x) e h = absurd (omega arith)
  open_array (kept_value (shaped_leaf x)) e h = absurd (omega (arith, scalar_low x))
  open_array (kept_value (shaped_array {ts = ts} x)) e h = record { trees = ts; kept = elements_kept x; here = node_along table text h; is = refl }
  open_array (kept_value (shaped_object x)) e h = absurd (omega arith)

  open_object : {r : ℕ} {t : Tree} → Kept t → kind_of t ≡ 9 → At table text r t → Opened r t 123 125
  unfolding inline
  open_object (kept_key x) e h = absurd (omega arith)
  open_object (kept_value (shaped_leaf x)) e h = absurd (omega (arith, scalar_low x))
  open_object (kept_value (shaped_array x)) e h = absurd (omega arith)
  open_object (kept_value (shaped_object {ts = ts} x)) e h = record { trees = ts; kept = pairs_kept x; here = node_along table text h; is = refl }

  -- what is between the brackets is asked for, and what is written is the container
  module _ {r x a b stop : ℕ} (h : Inline r x) (o : Opened r h.tree a b) (e : stop ≡ get_or table (width * r + 6) 0) {y : ℕ} {p q : List ℕ} (f : Puts (a ∷ []) x y p q) where
    inner : Inlines (r + 1) stop y
    inner =
        record {
          trees = o.trees;
          kept = o.kept;
          here = subst (λ i. Along table text (r + 1) i o.trees) (sym e) o.here;
          room = omega (arith, h.room, ap length o.is, length-append (inlines o.trees) (b ∷ []), f.ends);
        }

    closing : {z : ℕ} {s : List ℕ} → ((i : Inlines (r + 1) stop y) → Puts (inlines i.trees) y z q s) → z < ceiling
    unfolding inner
    closing g = omega (arith, h.room, ap length o.is, length-append (inlines o.trees) (b ∷ []), f.ends, (g inner).ends)

    closed : {z w : ℕ} {s t : List ℕ} → ((i : Inlines (r + 1) stop y) → Puts (inlines i.trees) y z q s) → Puts (b ∷ []) z w s t → Puts (inline h.tree) x w p t
    unfolding inner
    closed g k = puts_as (sym o.is) (puts_then f (puts_then (g inner) k))

  -- A LEAF: its text stands where its words say
  record Texted (r : ℕ) (t : Tree) (from to : ℕ) : Type 0 where
    rises : from ≤ to
    inside : to ≤ length text
    is : inline t ≡ scalar_text (kind_of t) (slice from to text)
    string : kind_of t ≡ 6 → Scripted (slice from to text)
    key : kind_of t ≡ 10 → Scripted (slice from to text)

  text_part : {r k a e : ℕ} {s : Decoded} → (k ≡ 6 → Scripted s.bytes) → (k ≡ 10 → Scripted s.bytes) → leb k TRUE ≡ false → At table text r (leaf k a e s)
      → Texted r (leaf k a e s) (get_or table (width * r + 3) 0) (get_or table (width * r + 4) 0)
  unfolding inline
  text_part {r} {k} {a} {e} {s} f g l h =
      let w = part_row table text l h.rows in
      let u : slice (get_or table (width * r + 3) 0) (get_or table (width * r + 4) 0) text ≡ s.bytes =
      ap (λ i. slice i (get_or table (width * r + 4) 0) text) w.from_is ∙ (ap (λ i. slice h.start i text) w.to_is ∙ sym (part_is table text h.rows)) in
      let m = part_fits table text h.rows in
      record {
        rises = omega (arith, w.from_is, w.to_is);
        inside = omega (arith, w.to_is);
        is = ap (scalar_text k) (sym u);
        string = λ z. subst Scripted (sym u) (f z);
        key = λ z. subst Scripted (sym u) (g z);
      }

  text_word : {r k a e : ℕ} {s : Decoded} → s.bytes ≡ [] → k ≤ 3 → At table text r (leaf k a e s)
      → Texted r (leaf k a e s) (get_or table (width * r + 3) 0) (get_or table (width * r + 4) 0)
  unfolding inline
  text_word {r} {k} {a} {e} {s} z l h =
      let w = word_row table text (le-leb k TRUE l) h.rows in
      let u : slice (get_or table (width * r + 3) 0) (get_or table (width * r + 4) 0) text ≡ s.bytes =
      ap (λ i. slice i (get_or table (width * r + 4) 0) text) w.from_is ∙ (ap (λ i. slice 0 i text) w.to_is ∙ sym z) in
      record {
        rises = omega (arith, w.from_is, w.to_is);
        inside = omega (arith, w.to_is);
        is = ap (scalar_text k) (sym u);
        string = λ n. absurd (omega arith);
        key = λ n. absurd (omega arith);
      }

  texted : {r : ℕ} {t : Tree} → Kept t → (kind_of t ≡ 8 → ⊥) → (kind_of t ≡ 9 → ⊥) → At table text r t → Texted r t (get_or table (width * r + 3) 0) (get_or table (width * r + 4) 0)
  texted (kept_key x) m n h = text_part (λ _. x) (λ _. x) refl h
  texted {r} (kept_value (shaped_leaf {kind = kind} {a = a} {e = e} {s = s} x)) m n h = by (dec_le kind 3)
    where
      by : Dec (kind ≤ 3) → Texted r (leaf kind a e s) (get_or table (width * r + 3) 0) (get_or table (width * r + 4) 0)
      by (yes l) = text_word (scalar_bare x l) l h
      by (no l) = text_part (λ z. scalar_string x z) (λ z. absurd (omega (arith, scalar_low x))) (lt-leb kind 3 (omega arith)) h
  texted (kept_value (shaped_array x)) m n h = absurd (m refl)
  texted (kept_value (shaped_object x)) m n h = absurd (n refl)

  module _ {r x kind : ℕ} (h : Inline r x) (e : kind ≡ get_or table (width * r + 0) 0) (m : kind ≡ 8 → ⊥) (n : kind ≡ 9 → ⊥) where
    k : kind ≡ kind_of h.tree
    k = kind_word table text h.here e

    leaf_texted : Texted r h.tree (get_or table (width * r + 3) 0) (get_or table (width * r + 4) 0)
    leaf_texted = texted h.kept (λ z. m (k ∙ z)) (λ z. n (k ∙ z)) h.here

    module _ {from to : ℕ} (f : from ≡ get_or table (width * r + 3) 0) (g : to ≡ get_or table (width * r + 4) 0) where
      pub leaf_rises : from ≤ to
      leaf_rises = omega (arith, leaf_texted.rises)

      pub leaf_inside : to ≤ length text
      leaf_inside = omega (arith, leaf_texted.inside)

      same_text : slice (get_or table (width * r + 3) 0) (get_or table (width * r + 4) 0) text ≡ take (to - from) (drop from text)
      same_text =
          let l = leaf_rises in
          let n : to ≡ from + (to - from) = omega arith in
          ap (λ i. slice i (get_or table (width * r + 4) 0) text) (sym f) ∙ (ap (λ i. slice from i text) (sym g ∙ n) ∙ sym (slice_at from (to - from) text))

      leaf_is : inline h.tree ≡ scalar_text kind (take (to - from) (drop from text))
      leaf_is = leaf_texted.is ∙ (ap (scalar_text (kind_of h.tree)) same_text ∙ ap (λ i. scalar_text i (take (to - from) (drop from text))) (sym k))

      pub leaf_spelt : Spelt kind (take (to - from) (drop from text)) x
      leaf_spelt =
          record {
            string = λ z. subst Scripted same_text (leaf_texted.string (sym k ∙ z));
            key = λ z. subst Scripted same_text (leaf_texted.key (sym k ∙ z));
            room = omega (arith, h.room, ap length leaf_is);
          }

      pub leaf_puts : {y : ℕ} {p q : List ℕ} → Puts (scalar_text kind (take (to - from) (drop from text))) x y p q → Puts (inline h.tree) x y p q
      leaf_puts z = puts_as (sym leaf_is) z

  -- ---- a container as its row says it

  module _ {r x kind stop : ℕ} (h : Inline r x) (e : kind ≡ get_or table (width * r + 0) 0) (f : stop ≡ get_or table (width * r + 6) 0) where
    array : kind ≡ 8 → Opened r h.tree 91 93
    array z = open_array h.kept (sym (kind_word table text h.here e) ∙ z) h.here

    object : kind ≡ 9 → Opened r h.tree 123 125
    object z = open_object h.kept (sym (kind_word table text h.here e) ∙ z) h.here

    module _ {y : ℕ} {p q : List ℕ} where
      pub array_inner : kind ≡ 8 → Puts (91 ∷ []) x y p q → Inlines (r + 1) stop y
      array_inner z = inner h (array z) f

      pub array_closing : kind ≡ 8 → Puts (91 ∷ []) x y p q → {w : ℕ} {s : List ℕ} → ((i : Inlines (r + 1) stop y) → Puts (inlines i.trees) y w q s) → w < ceiling
      array_closing z g = closing h (array z) f g

      pub array_closed : kind ≡ 8 → Puts (91 ∷ []) x y p q → {w v : ℕ} {s t : List ℕ} → ((i : Inlines (r + 1) stop y) → Puts (inlines i.trees) y w q s) → Puts (93 ∷ []) w v s t
          → Puts (inline h.tree) x v p t
      array_closed z g = closed h (array z) f g

      pub object_inner : kind ≡ 9 → Puts (123 ∷ []) x y p q → Inlines (r + 1) stop y
      object_inner z = inner h (object z) f

      pub object_closing : kind ≡ 9 → Puts (123 ∷ []) x y p q → {w : ℕ} {s : List ℕ} → ((i : Inlines (r + 1) stop y) → Puts (inlines i.trees) y w q s) → w < ceiling
      object_closing z g = closing h (object z) f g

      pub object_closed : kind ≡ 9 → Puts (123 ∷ []) x y p q → {w v : ℕ} {s t : List ℕ} → ((i : Inlines (r + 1) stop y) → Puts (inlines i.trees) y w q s) → Puts (125 ∷ []) w v s t
          → Puts (inline h.tree) x v p t
      object_closed z g = closed h (object z) f g
