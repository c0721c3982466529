-- BLOCKS: what the code of a row's lines asks, and what stands before and behind each child. Assumes nothing.
use Rattle.std.specs.Prelude.{◌≡◌, refl, List, [], ◌∷◌, ◌++◌, Bool, true, false, ℕ, suc, ◌+◌, ◌-◌, ◌*◌, ◌≤◌, ◌<◌, length, get_or, drop, eqb}
use Rattle.std.proofs.Common.{sym, ap, subst, ◌∙◌, length-append, eq-eqb, ne_eqb}
use native.Mathlib.Omega.{arith}
use Rattle.notation.specs.Class.{pick}
use Rattle.exact.specs.Class.{clash, or_right}
use Rattle.language.specs.Tree.{Tree, leaf, node, Forest, none, more, width, size, sizes}
use Rattle.language.specs.BlockText.{spaces}
use Rattle.language.specs.House.{flat, is_none, is_array, inline, one_line, item, value, block, house}
use Rattle.spans.specs.Formed.{kind_of}
use Rattle.shaped.specs.RowsAt.{next_at}
use Rattle.shaped.specs.Shaped.{Shaped, shaped_leaf, shaped_array, shaped_object}
use Rattle.writer.specs.Puts.{ceiling, Puts, puts_as, puts_then, length_spaces}
use Rattle.writer.specs.Flat.{Kept, kept_value, scalar_low, size_some, At, Inline, kind_word, word_in}

-- before a child with m spaces: a dash, or the key t; and behind it, with the column n
abbrev pub head_text : Bool → ℕ → Tree → List ℕ
head_text true m t = spaces m ++ 45 ∷ 32 ∷ []
head_text false m t = spaces m ++ inline t ++ 58 ∷ []

abbrev pub child_text : Bool → ℕ → Tree → List ℕ
child_text true n t = item (n + 2) t (block (n + 2) t)
child_text false n t = value t (block (n + 2) t)

-- the columns of at most 32 containers, one inside another
abbrev pub columns : ℕ
columns = 66

-- a row's next row tells how many rows it has
pub record Row (table : List ℕ) (r : ℕ) : Type 0 where
  pub tree : Tree
  pub next : get_or table (width * r + 6) 0 ≡ r + size tree
  pub inside : width * r + 6 < length table

pub flat_word : {table : List ℕ} {r n : ℕ} (h : Row table r) → n ≡ get_or table (width * r + 6) 0 → eqb n (r + 1) ≡ flat h.tree
unfolding size sizes
flat_word {table} {r} {n} h e = by h.tree (e ∙ h.next)
  where
    below : (ts : Forest) → n ≡ r + suc (sizes ts) → eqb n (r + 1) ≡ is_none ts
    below none z = eq-eqb n (r + 1) (omega arith)
    below (more t ts) z = ne_eqb n (r + 1) (λ k. omega (arith, size_some t))

    by : (t : Tree) → n ≡ r + size t → eqb n (r + 1) ≡ flat t
    by (leaf k a e s) z = eq-eqb n (r + 1) z
    by (node k a e c ts) z = below ts z

module _ (table text : List ℕ) where
  -- ASKED of what stands before a child, of a child, of a container that is not empty, and of the root
  pub record Head (r : ℕ) (item : Bool) (m x : ℕ) : Type 0 where
    pub tree : Tree
    pub kept : Kept tree
    pub here : At table text r tree
    pub room : x + length (head_text item m tree) ≤ ceiling

  pub record Child (r : ℕ) (item : Bool) (n x : ℕ) : Type 0 where
    pub tree : Tree
    pub deep : ℕ
    pub shaped : Shaped deep tree
    pub here : At table text r tree
    pub column : n + 2 + 2 * deep ≤ columns
    pub room : x + length (child_text item n tree) ≤ ceiling

  pub record Block (r n lead x : ℕ) : Type 0 where
    pub tree : Tree
    pub deep : ℕ
    pub shaped : Shaped deep tree
    pub here : At table text r tree
    pub full : flat tree ≡ false
    pub column : n + 2 * deep ≤ columns
    pub low : lead ≤ n
    pub room : x + length (drop (n - lead) (block n tree)) ≤ ceiling

  pub record Root : Type 0 where
    pub tree : Tree
    pub deep : ℕ
    pub shaped : Shaped deep tree
    pub here : At table text 0 tree
    pub column : 2 * deep ≤ columns
    pub room : length (house tree) ≤ ceiling

  -- ---- before a child

  module _ {r m x : ℕ} where
    dash_room : (h : Head r true m x) → x + (m + 2) ≤ ceiling
    dash_room h = omega (arith, h.room, length-append (spaces m) (45 ∷ 32 ∷ []), length_spaces m)

    label_room : (h : Head r false m x) → x + (m + (length (inline h.tree) + 1)) ≤ ceiling
    label_room h = omega (arith, h.room, length-append (spaces m ++ inline h.tree) (58 ∷ []), length-append (spaces m) (inline h.tree), length_spaces m)

    pub lead_room : (b : Bool) → Head r b m x → x + m ≤ ceiling
    lead_room true h = omega (arith, dash_room h)
    lead_room false h = omega (arith, label_room h)

    module _ {y : ℕ} {p q : List ℕ} (f : Puts (spaces m) x y p q) where
      pub head_dash : {b : Bool} → b ≡ true → Head r b m x → y + 2 ≤ ceiling
      head_dash {b} e h = omega (arith, dash_room (subst (λ c. Head r c m x) e h), f.ends, length_spaces m)

      pub head_dashed : {z : ℕ} {s : List ℕ} (b : Bool) → b ≡ true → (h : Head r b m x) → Puts (45 ∷ 32 ∷ []) y z q s → Puts (head_text b m h.tree) x z p s
      head_dashed true e h g = puts_then f g
      head_dashed false e h g = absurd (clash refl (sym e))

      label_inline : Head r false m x → Inline table text r y
      label_inline h = record { tree = h.tree; kept = h.kept; here = h.here; room = omega (arith, label_room h, f.ends, length_spaces m) }

      pub head_inline : {b : Bool} → b ≡ false → Head r b m x → Inline table text r y
      head_inline {b} e h = label_inline (subst (λ c. Head r c m x) e h)

      module _ {z : ℕ} {s : List ℕ} (g : (i : Inline table text r y) → Puts (inline i.tree) y z q s) where
        label_close : Head r false m x → z < ceiling
        unfolding label_inline
        label_close h = omega (arith, label_room h, f.ends, length_spaces m, (g (label_inline h)).ends)

        pub head_close : {b : Bool} → b ≡ false → Head r b m x → z < ceiling
        head_close {b} e h = label_close (subst (λ c. Head r c m x) e h)

        label_puts : {w : ℕ} {t : List ℕ} (h : Head r false m x) → Puts (58 ∷ []) z w s t → Puts (head_text false m h.tree) x w p t
        unfolding label_inline
        label_puts h k = puts_then (puts_then f (g (label_inline h))) k

        pub head_labelled : {w : ℕ} {t : List ℕ} (b : Bool) → b ≡ false → (h : Head r b m x) → Puts (58 ∷ []) z w s t → Puts (head_text b m h.tree) x w p t
        head_labelled true e h k = absurd (clash refl e)
        head_labelled false e h k = label_puts h k

  -- ---- behind it

  -- an array is told by its kind
  array_kind : {k : ℕ} {t : Tree} → Shaped k t → is_array t ≡ eqb (kind_of t) 8
  array_kind (shaped_leaf {kind = kind} x) = sym (ne_eqb kind 8 (λ e. omega (arith, scalar_low x)))
  array_kind (shaped_array x) = refl
  array_kind (shaped_object x) = refl

  pub child_row : {r n x : ℕ} {b : Bool} → Child r b n x → Row table r
  child_row h = record { tree = h.tree; next = next_at table text h.tree h.here.rows; inside = word_in table text h.here 6 (omega arith) }

  pub row_flat : {r n x : ℕ} {b flats : Bool} (h : Child r b n x) → ((i : Row table r) → flats ≡ flat i.tree) → flats ≡ flat h.tree
  unfolding child_row
  row_flat h g = g (child_row h)

  -- an item, or a value
  pub child_item : {r n x : ℕ} (b : Bool) → b ≡ true → Child r b n x → Child r true n x
  child_item true e h = h
  child_item false e h = absurd (clash refl (sym e))

  pub child_itemed : {r n x y : ℕ} {p q : List ℕ} (b : Bool) → b ≡ true → (h : Child r b n x) → ((i : Child r true n x) → Puts (child_text true n i.tree) x y p q)
      → Puts (child_text b n h.tree) x y p q
  child_itemed true e h g = g h
  child_itemed false e h g = absurd (clash refl (sym e))

  pub child_value : {r n x : ℕ} (b : Bool) → b ≡ false → Child r b n x → Child r false n x
  child_value true e h = absurd (clash refl e)
  child_value false e h = h

  pub child_valued : {r n x y : ℕ} {p q : List ℕ} (b : Bool) → b ≡ false → (h : Child r b n x) → ((i : Child r false n x) → Puts (child_text false n i.tree) x y p q)
      → Puts (child_text b n h.tree) x y p q
  child_valued true e h g = absurd (clash refl e)
  child_valued false e h g = g h

  pub value_put : {r n x : ℕ} → Child r false n x → x < ceiling
  value_put {r} {n} {x} h = by (flat h.tree) h.room
    where
      by : (c : Bool) → x + length (pick c (32 ∷ one_line h.tree) (10 ∷ block (n + 2) h.tree)) ≤ ceiling → x < ceiling
      by true l = omega arith
      by false l = omega arith

  -- on its line
  line_inline : {r k x : ℕ} {t : Tree} → Shaped k t → At table text r t → x + length (one_line t) ≤ ceiling → Inline table text r x
  line_inline {t = t} s a l = record { tree = t; kept = kept_value s; here = a; room = omega (arith, length-append (inline t) (10 ∷ [])) }

  -- what a child's rows tell
  module _ {r n x : ℕ} where
    module _ (h : Child r true n x) where
      line_is : flat h.tree ≡ true → child_text true n h.tree ≡ one_line h.tree
      line_is e = rw e

      array_is : {kind : ℕ} → kind ≡ get_or table (width * r + 0) 0 → kind ≡ 8 → child_text true n h.tree ≡ one_line h.tree
      array_is {kind} e z =
          let a : is_array h.tree ≡ true = array_kind h.shaped ∙ eq-eqb (kind_of h.tree) 8 (sym (kind_word table text h.here e) ∙ z) in
          rw (a, or_right (flat h.tree) refl)

      object_is : {kind : ℕ} → flat h.tree ≡ false → kind ≡ get_or table (width * r + 0) 0 → (kind ≡ 8 → ⊥) → child_text true n h.tree ≡ drop (n + 2) (block (n + 2) h.tree)
      object_is {kind} f e z =
          let a : is_array h.tree ≡ false = array_kind h.shaped ∙ ne_eqb (kind_of h.tree) 8 (λ k. z (kind_word table text h.here e ∙ k)) in
          rw (f, a)

    module _ (h : Child r true n x) {flats : Bool} (f : flats ≡ flat h.tree) where
      module _ (e : flats ≡ true) where
        pub item_line : Inline table text r x
        item_line = line_inline h.shaped h.here (omega (arith, h.room, ap length (line_is h (sym f ∙ e))))

        pub item_lined : {y : ℕ} {p q : List ℕ} → ((i : Inline table text r x) → Puts (one_line i.tree) x y p q) → Puts (child_text true n h.tree) x y p q
        unfolding item_line line_inline
        item_lined g = puts_as (sym (line_is h (sym f ∙ e))) (g item_line)

      module _ {kind : ℕ} (k : kind ≡ get_or table (width * r + 0) 0) where
        module _ (e : kind ≡ 8) where
          pub item_array : Inline table text r x
          item_array = line_inline h.shaped h.here (omega (arith, h.room, ap length (array_is h k e)))

          pub item_arrayed : {y : ℕ} {p q : List ℕ} → ((i : Inline table text r x) → Puts (one_line i.tree) x y p q) → Puts (child_text true n h.tree) x y p q
          unfolding item_array line_inline
          item_arrayed g = puts_as (sym (array_is h k e)) (g item_array)

        module _ (e : flats ≡ false) (z : kind ≡ 8 → ⊥) where
          dropped : child_text true n h.tree ≡ drop (n + 2 - 0) (block (n + 2) h.tree)
          dropped = object_is h (sym f ∙ e) k z ∙ ap (λ i. drop i (block (n + 2) h.tree)) (let m : n + 2 ≡ n + 2 - 0 = omega arith in m)

          pub item_block : Block r (n + 2) 0 x
          item_block =
              record {
                tree = h.tree;
                deep = h.deep;
                shaped = h.shaped;
                here = h.here;
                full = sym f ∙ e;
                column = h.column;
                low = omega arith;
                room = omega (arith, h.room, ap length dropped);
              }

          pub item_blocked : {y : ℕ} {p q : List ℕ} → ((i : Block r (n + 2) 0 x) → Puts (drop (n + 2 - 0) (block (n + 2) i.tree)) x y p q) → Puts (child_text true n h.tree) x y p q
          unfolding item_block
          item_blocked g = puts_as (sym dropped) (g item_block)

    module _ (h : Child r false n x) {flats : Bool} (f : flats ≡ flat h.tree) {y : ℕ} {p q : List ℕ} where
      module _ (e : flats ≡ true) (s : Puts (32 ∷ []) x y p q) where
        spaced : child_text false n h.tree ≡ 32 ∷ one_line h.tree
        spaced = rw (sym f ∙ e)

        pub value_line : Inline table text r y
        value_line = line_inline h.shaped h.here (omega (arith, h.room, ap length spaced, s.ends))

        pub value_lined : {z : ℕ} {t : List ℕ} → ((i : Inline table text r y) → Puts (one_line i.tree) y z q t) → Puts (child_text false n h.tree) x z p t
        unfolding value_line line_inline
        value_lined g = puts_as (sym spaced) (puts_then s (g value_line))

      module _ (e : flats ≡ false) (s : Puts (10 ∷ []) x y p q) where
        below : child_text false n h.tree ≡ 10 ∷ drop (n + 2 - (n + 2)) (block (n + 2) h.tree)
        below = let z : n + 2 - (n + 2) ≡ 0 = omega arith in rw (sym f ∙ e, z)

        pub value_block : Block r (n + 2) (n + 2) y
        value_block =
            record {
              tree = h.tree;
              deep = h.deep;
              shaped = h.shaped;
              here = h.here;
              full = sym f ∙ e;
              column = h.column;
              low = omega arith;
              room = omega (arith, h.room, ap length below, s.ends);
            }

        pub value_blocked : {z : ℕ} {t : List ℕ} → ((i : Block r (n + 2) (n + 2) y) → Puts (drop (n + 2 - (n + 2)) (block (n + 2) i.tree)) y z q t) → Puts (child_text false n h.tree) x z p t
        unfolding value_block
        value_blocked g = puts_as (sym below) (puts_then s (g value_block))

  -- ---- the root

  pub root_row : Root → Row table 0
  root_row h = record { tree = h.tree; next = next_at table text h.tree h.here.rows; inside = word_in table text h.here 6 (omega arith) }

  module _ (h : Root) {flats : Bool} (g : (i : Row table 0) → flats ≡ flat i.tree) where
    flats_is : flats ≡ flat h.tree
    unfolding root_row
    flats_is = g (root_row h)

    module _ (e : flats ≡ true) where
      root_is : house h.tree ≡ one_line h.tree
      unfolding house
      root_is = rw (sym flats_is ∙ e)

      pub root_line : Inline table text 0 0
      root_line = line_inline h.shaped h.here (omega (arith, h.room, ap length root_is))

      pub root_lined : {y : ℕ} {p q : List ℕ} → ((i : Inline table text 0 0) → Puts (one_line i.tree) 0 y p q) → Puts (house h.tree) 0 y p q
      unfolding root_line line_inline
      root_lined f = puts_as (sym root_is) (f root_line)

    module _ (e : flats ≡ false) where
      lines_are : house h.tree ≡ drop (0 - 0) (block 0 h.tree)
      unfolding house
      lines_are = let z : 0 - 0 ≡ 0 = omega arith in rw (sym flats_is ∙ e, z)

      pub root_block : Block 0 0 0 0
      root_block =
          record {
            tree = h.tree;
            deep = h.deep;
            shaped = h.shaped;
            here = h.here;
            full = sym flats_is ∙ e;
            column = omega (arith, h.column);
            low = omega arith;
            room = omega (arith, h.room, ap length lines_are);
          }

      pub root_blocked : {y : ℕ} {p q : List ℕ} → ((i : Block 0 0 0 0) → Puts (drop (0 - 0) (block 0 i.tree)) 0 y p q) → Puts (house h.tree) 0 y p q
      unfolding root_block
      root_blocked f = puts_as (sym lines_are) (f root_block)
