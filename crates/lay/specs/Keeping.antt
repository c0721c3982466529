-- A KEY OR A VALUE KEPT, with all that is below it: what the code of a row and of the rows below it asks, and how it keeps its promise row by row. Assumes nothing.
use Rattle.std.specs.Prelude.{◌≡◌, refl, List, [], ◌++◌, true, false, get_or, leb}
use Rattle.std.proofs.Math.Path.{sym, ap, ap₂, subst}
use Rattle.std.proofs.Common.{◌∙◌, length-append, rules}
use Prim.Native.Nat.{ℕ, suc, ◌+◌, ◌-◌, ◌*◌, ◌≤◌, ◌<◌}
use native.Mathlib.Omega.{arith}
use Rattle.std.proofs.Math.ListN.{length}
use Rattle.std.proofs.Math.Seq.{sets, slice}
use Rattle.exact.specs.Class.{clash}
use Rattle.language.specs.Kind.{TRUE, has_text}
use Rattle.language.specs.Tree.{Tree, leaf, node, Forest, none, more, Decoded, width, unlined, size, sizes, text_of, texts_of, row_list}
use Rattle.language.specs.Alike.{unspan, unspans}
use Rattle.spans.specs.Formed.{kind_of}
use Rattle.shaped.specs.RowsAt.{first_at, rest_at, node_row, next_at, ForestAt}
use Rattle.shaped.specs.Leaves.{word_row, part_row, part_is, part_fits}
use Rattle.shaped.specs.Shaped.{Scalar, is_null, is_false, is_true, is_an_integer, is_float, is_string, is_bytes, shaped_leaf, shaped_array, shaped_object}
use Rattle.shaped.specs.Bare.{alike_size, alike_text}
use Rattle.shaped.specs.Beside.{beside, beside_size, beside_text}
use Rattle.overlay.specs.Unspanned.{unspan_twice}
use Rattle.sound.specs.Standing.{Kept, kept_key, kept_value, Kepts, kepts_none, kepts_more, elements_kept, pairs_kept, size_some, sizes_some, At, Along, word_in, kind_word, next_word, node_along}
use Rattle.lay.specs.declared.Spot.{Spot}
use Rattle.lay.specs.Targets.{ceiling, Stored, stored_none, stored_then, stored_as, stored_head, alone, head_row, own_text, below, head_size, own_length}

-- how many rows and what text trees have is the same without spans
pub bare_size : (t : Tree) → size (unspan t) ≡ size t
bare_size t = alike_size (unspan t) t (unspan_twice t)

pub bare_text : (t : Tree) → text_of (unspan t) ≡ text_of t
bare_text t = alike_text (unspan t) t (unspan_twice t)

pub bare_sizes : (ts : Forest) → sizes (unspans ts) ≡ sizes ts
unfolding unspan size
bare_sizes ts = omega (arith, bare_size (node 0 0 0 0 ts))

pub bare_texts : (ts : Forest) → texts_of (unspans ts) ≡ texts_of ts
unfolding unspan text_of
bare_texts ts = bare_text (node 0 0 0 0 ts)

pub bare_beside : (ts us : Forest) → unspans (beside ts us) ≡ beside (unspans ts) (unspans us)
unfolding unspans beside
bare_beside none us = refl
bare_beside (more t ts) us = ap (more (unspan t)) (bare_beside ts us)

bare_below : (t : Tree) → below (unspan t) ≡ unspans (below t)
unfolding unspan unspans
bare_below (leaf k a e s) = refl
bare_below (node k a e c ts) = refl

pub beside_none : (ts : Forest) → beside ts none ≡ ts
unfolding beside
beside_none none = refl
beside_none (more t ts) = ap (more t) (beside_none ts)

pub beside_beside : (ts us vs : Forest) → beside (beside ts us) vs ≡ beside ts (beside us vs)
unfolding beside
beside_beside none us vs = refl
beside_beside (more t ts) us vs = ap (more t) (beside_beside ts us vs)

kept_below : {t : Tree} → Kept t → Kepts (below t)
kept_below (kept_key x) = kepts_none
kept_below (kept_value (shaped_leaf x)) = kepts_none
kept_below (kept_value (shaped_array x)) = elements_kept x
kept_below (kept_value (shaped_object x)) = pairs_kept x

-- a scalar has a text, or none
scalar_texted : {kind : ℕ} {s : List ℕ} → Scalar kind s → has_text kind ≡ true → leb kind TRUE ≡ false
scalar_texted is_null e = absurd (clash e refl)
scalar_texted is_false e = absurd (clash e refl)
scalar_texted is_true e = absurd (clash e refl)
scalar_texted (is_an_integer x) e = refl
scalar_texted (is_float x) e = refl
scalar_texted (is_string x) e = refl
scalar_texted (is_bytes x) e = refl

scalar_blank : {kind : ℕ} {s : List ℕ} → Scalar kind s → has_text kind ≡ false → (s ≡ []) × (leb kind TRUE ≡ true)
scalar_blank is_null e = (refl, refl)
scalar_blank is_false e = (refl, refl)
scalar_blank is_true e = (refl, refl)
scalar_blank (is_an_integer x) e = absurd (clash refl e)
scalar_blank (is_float x) e = absurd (clash refl e)
scalar_blank (is_string x) e = absurd (clash refl e)
scalar_blank (is_bytes x) e = absurd (clash refl e)

module _ (table text : List ℕ) where
  -- ASKED of a row, and of rows, that are stored at a spot of the targets
  pub record Keep (r : ℕ) (a : Spot) : Type 0 where
    pub tree : Tree
    pub kept : Kept tree
    pub here : At table text r tree
    pub rows_fit : a.row + size tree < ceiling
    pub text_fit : a.text + length (text_of tree) < ceiling

  pub record Keeps (from stop : ℕ) (a : Spot) : Type 0 where
    pub trees : Forest
    pub kept : Kepts trees
    pub here : Along table text from stop trees
    pub rows_fit : a.row + sizes trees < ceiling
    pub text_fit : a.text + length (texts_of trees) < ceiling

-- PROMISED of the row alone: it is stored with its own text, and x is behind that
pub record Headed (t : Tree) (p : ℕ) (a : Spot) (x : ℕ) (rows rows' room room' : List ℕ) : Type 0 where
  pub text_is : x ≡ a.text + length (own_text (unspan t))
  pub table : rows' ≡ sets rows (width * a.row) (head_row a.row p a.text (unspan t))
  pub texts : room' ≡ sets room a.text (own_text (unspan t))

module _ (table text : List ℕ) where
  abbrev from : ℕ → ℕ
  from r = get_or table (width * r + 3) 0

  abbrev to : ℕ → ℕ
  to r = get_or table (width * r + 4) 0

  -- A ROW WITH A TEXT
  record Spelled (r : ℕ) (t : Tree) : Type 0 where
    rises : from r ≤ to r
    inside : to r ≤ length text
    own : slice (from r) (to r) text ≡ own_text (unspan t)
    count : length (own_text (unspan t)) ≡ to r - from r
    row : (i p x : ℕ) → head_row i p x (unspan t) ≡ row_list unlined (kind_of t) 0 0 x (x + (to r - from r)) p (i + size t)

  spelled_leaf : {r k a e : ℕ} {s : Decoded} → leb k TRUE ≡ false → At table text r (leaf k a e s) → Spelled r (leaf k a e s)
  unfolding unspan size
  spelled_leaf {r} {k} {a} {e} {s} l h =
      let w = part_row table text l h.rows in
      let m = part_fits table text h.rows in
      let n : length s.bytes ≡ to r - from r = omega (arith, w.from_is, w.to_is) in
      record {
        rises = omega (arith, w.from_is, w.to_is);
        inside = omega (arith, w.to_is);
        own = ap₂ (λ (i j : ℕ). slice i j text) w.from_is w.to_is ∙ sym (part_is table text h.rows);
        count = n;
        row = λ i p x. rw l (ap (λ (j : ℕ). row_list unlined k 0 0 x (x + j) p (i + 1)) n);
      }

  spelled : {r : ℕ} {t : Tree} → Kept t → has_text (kind_of t) ≡ true → At table text r t → Spelled r t
  spelled (kept_key x) e h = spelled_leaf refl h
  spelled (kept_value (shaped_leaf x)) e h = spelled_leaf (scalar_texted x e) h
  spelled (kept_value (shaped_array x)) e h = absurd (clash e refl)
  spelled (kept_value (shaped_object x)) e h = absurd (clash e refl)

  -- A ROW WITH NONE
  record Blank (r : ℕ) (t : Tree) : Type 0 where
    own : own_text (unspan t) ≡ []
    row : (i p x : ℕ) → head_row i p x (unspan t) ≡ row_list unlined (kind_of t) 0 0 0 (to r) p (i + size t)

  blank_leaf : {r k a e : ℕ} {s : Decoded} → s.bytes ≡ [] → leb k TRUE ≡ true → At table text r (leaf k a e s) → Blank r (leaf k a e s)
  unfolding unspan size
  blank_leaf {r} {k} {a} {e} {s} z l h =
      let w = word_row table text l h.rows in
      record { own = z; row = λ i p x. rw l (ap (λ (j : ℕ). row_list unlined k 0 0 0 j p (i + 1)) (sym w.to_is)) }

  blank_node : {r k a e c : ℕ} {ts : Forest} → At table text r (node k a e c ts) → Blank r (node k a e c ts)
  unfolding unspan size
  blank_node {r} {k} {a} {e} {c} {ts} h =
      let w = node_row table text h.rows in
      record {
        own = refl;
        row =
            λ i p x.
            ap (λ (j : ℕ). row_list unlined k 0 0 0 j p (i + 1 + sizes (unspans ts))) (sym w.to_is)
            ∙ ap (λ (j : ℕ). row_list unlined k 0 0 0 (to r) p j) (let q : i + 1 + sizes (unspans ts) ≡ i + suc (sizes ts) = omega (arith, bare_sizes ts) in q);
      }

  blank : {r : ℕ} {t : Tree} → Kept t → has_text (kind_of t) ≡ false → At table text r t → Blank r t
  blank (kept_key x) e h = absurd (clash refl e)
  blank (kept_value (shaped_leaf x)) e h = let z = scalar_blank x e in blank_leaf z.0 z.1 h
  blank (kept_value (shaped_array x)) e h = blank_node h
  blank (kept_value (shaped_object x)) e h = blank_node h

-- ---- A ROW'S TEXT
pub record Spelling (table text : List ℕ) (r x : ℕ) : Type 0 where
  pub tree : Tree
  pub kept : Kept tree
  pub here : At table text r tree
  pub texted : has_text (kind_of tree) ≡ true
  pub text_fit : x + length (text_of tree) < ceiling

pub record Spelt (t : Tree) (x y : ℕ) (room room' : List ℕ) : Type 0 where
  pub ends : y ≡ x + length (own_text (unspan t))
  pub texts : room' ≡ sets room x (own_text (unspan t))
  pub row : (i p : ℕ) → head_row i p x (unspan t) ≡ row_list unlined (kind_of t) 0 0 x y p (i + size t)

module _ (table text : List ℕ) (r x : ℕ) (h : Spelling table text r x) where
  spells : Spelled table text r h.tree
  spells = spelled table text h.kept h.texted h.here

  part : length (text_of h.tree) ≡ length (own_text (unspan h.tree)) + length (texts_of (below (unspan h.tree)))
  part = sym (ap length (bare_text h.tree)) ∙ own_length (unspan h.tree)

  pub spell_from_word : width * r + 3 < length table
  spell_from_word = word_in table text h.here 3 (omega arith)

  pub spell_to_word : width * r + 4 < length table
  spell_to_word = word_in table text h.here 4 (omega arith)

  module _ (u v : ℕ) (f : u ≡ get_or table (width * r + 3) 0) (t : v ≡ get_or table (width * r + 4) 0) where
    pub spell_rises : u ≤ v
    spell_rises = omega (arith, spells.rises)

    pub spell_inside : v ≤ length text
    spell_inside = omega (arith, spells.inside)

    pub spell_end : x + (v - u) < ceiling
    spell_end = omega (arith, h.text_fit, spells.count, part)

    pub spell_asks : (u ≤ v) × (v ≤ length text) × (x + (v - u) < ceiling)
    spell_asks = (spell_rises, spell_inside, spell_end)

    pub spell_told : {m m' : List ℕ} → m' ≡ sets m x (slice u v text) → Spelt h.tree x (x + (v - u)) m m'
    spell_told {m} j =
        record {
          ends = omega (arith, spells.count);
          texts = j ∙ ap (sets m x) (ap₂ (λ (y z : ℕ). slice y z text) f t ∙ spells.own);
          row = λ i p. spells.row i p x ∙ ap₂ (λ (y z : ℕ). row_list unlined (kind_of h.tree) 0 0 x (x + (y - z)) p (i + size h.tree)) (sym t) (sym f);
        }

pub ruleset spelling = (spell_from_word, spell_to_word, spell_rises, spell_inside, spell_end, spell_asks, rules)

-- ---- A ROW'S WORDS
pub record Storing (table : List ℕ) (r row : ℕ) : Type 0 where
  pub text : List ℕ
  pub tree : Tree
  pub here : At table text r tree
  pub rows_fit : row + size tree < ceiling

module _ (table : List ℕ) (r row : ℕ) (h : Storing table r row) where
  pub store_word : width * r + 6 < length table
  store_word = word_in table h.text h.here 6 (omega arith)

  pub store_row : row < ceiling
  store_row = omega (arith, h.rows_fit)

  module _ (n : ℕ) (g : n ≡ get_or table (width * r + 6) 0) where
    behind : n ≡ r + size h.tree
    behind = next_word table h.text h.here g

    pub store_rises : r ≤ n
    store_rises = omega (arith, behind)

    pub store_next : row + (n - r) < ceiling
    store_next = omega (arith, behind, h.rows_fit)

    pub store_told : (kind u v p : ℕ) (l l' : List ℕ) → l' ≡ sets l (width * row) (row_list unlined kind 0 0 u v p (row + (n - r)))
        → l' ≡ sets l (width * row) (row_list unlined kind 0 0 u v p (row + size h.tree))
    store_told kind u v p l l' e = e ∙ ap (λ (i : ℕ). sets l (width * row) (row_list unlined kind 0 0 u v p i)) (let z : row + (n - r) ≡ row + size h.tree = omega (arith, behind) in z)

pub ruleset rowing = (store_word, store_row, store_rises, store_next, rules)

-- ---- A ROW
module _ (table text : List ℕ) (r : ℕ) (a : Spot) (h : Keep table text r a) where
  pub head_kind_word : width * r + 0 < length table
  head_kind_word = word_in table text h.here 0 (omega arith)

  pub head_to_word : width * r + 4 < length table
  head_to_word = word_in table text h.here 4 (omega arith)

  pub head_next_word : width * r + 6 < length table
  head_next_word = word_in table text h.here 6 (omega arith)

  pub head_ahead : {n : ℕ} → n ≡ get_or table (width * r + 6) 0 → r < n
  head_ahead e = omega (arith, next_word table text h.here e, size_some h.tree)

  pub head_row_lem : a.row + 1 < ceiling + 1
  head_row_lem = omega (arith, h.rows_fit, size_some h.tree)

  pub head_spot : a.text < ceiling
  head_spot = omega (arith, h.text_fit)

  pub head_storing : Storing table r a.row
  head_storing = record { text = text; tree = h.tree; here = h.here; rows_fit = h.rows_fit }

  module _ (kind : ℕ) (k : kind ≡ get_or table (width * r + 0) 0) where
    kind_is : kind ≡ kind_of h.tree
    kind_is = kind_word table text h.here k

    pub head_spelling : has_text kind ≡ true → Spelling table text r a.text
    head_spelling q = record { tree = h.tree; kept = h.kept; here = h.here; texted = ap has_text (sym kind_is) ∙ q; text_fit = h.text_fit }

    pub head_spelt : (q : has_text kind ≡ true) → {p x : ℕ} {l l' m m' : List ℕ} → ((i : Spelling table text r a.text) → Spelt i.tree a.text x m m')
        → ((i : Storing table r a.row) → l' ≡ sets l (width * a.row) (row_list unlined kind 0 0 a.text x p (a.row + size i.tree))) → Headed h.tree p a x l l' m m'
    unfolding head_spelling head_storing
    head_spelt q {p} {x} {l} f g =
        let s = f (head_spelling q) in
        record {
          text_is = s.ends;
          table = g head_storing ∙ (ap (λ (i : ℕ). sets l (width * a.row) (row_list unlined i 0 0 a.text x p (a.row + size h.tree))) kind_is ∙ ap (sets l (width * a.row)) (sym (s.row a.row p)));
          texts = s.texts;
        }

    pub head_blank : has_text kind ≡ false → (v : ℕ) → v ≡ get_or table (width * r + 4) 0 → {p : ℕ} {l l' m : List ℕ}
        → ((i : Storing table r a.row) → l' ≡ sets l (width * a.row) (row_list unlined kind 0 0 0 v p (a.row + size i.tree))) → Headed h.tree p a a.text l l' m m
    unfolding head_storing
    head_blank q v t {p} {l} {m = m} g =
        let b = blank table text h.kept (ap has_text (sym kind_is) ∙ q) h.here in
        record {
          text_is = omega (arith, ap length b.own);
          table =
              g head_storing
              ∙ (ap₂ (λ (i j : ℕ). sets l (width * a.row) (row_list unlined i 0 0 0 j p (a.row + size h.tree))) kind_is t ∙ ap (sets l (width * a.row)) (sym (b.row a.row p a.text)));
          texts = sym (ap (sets m a.text) b.own);
        }

pub ruleset heading = (head_kind_word, head_to_word, head_spot, head_storing, head_spelling, rules)

-- ---- A ROW AND THOSE BELOW IT
module _ (table text : List ℕ) where
  module _ (r : ℕ) (a : Spot) (h : Keep table text r a) (p x : ℕ) {l m u v : List ℕ} (g : Headed h.tree p a x l m u v) (n : ℕ) (e : n ≡ get_or table (width * r + 6) 0) where
    along : Along table text (r + 1) n (below h.tree)
    unfolding size
    along = by h.tree h.here
      where
        by : (t : Tree) → At table text r t → Along table text (r + 1) n (below t)
        by (leaf k b c s) z =
            let w = next_word table text z e in
            let f = part_fits table text z.rows in
            record { parent = 0; start = z.start; rows = Rattle.shaped.specs.RowsAt.none_at table text (omega arith); ends = sz w; fits = omega (arith, z.fits) }
          where
            sz : n ≡ r + size (leaf k b c s) → r + 1 + sizes none ≡ n
            sz w = omega arith
        by (node k b c d ts) z = subst (λ (i : ℕ). Along table text (r + 1) i ts) (sym e) (node_along table text z)

    pub kept_inner : (b : Spot) → b.row ≡ a.row + 1 → b.text ≡ x → Keeps table text (r + 1) n b
    kept_inner b i j =
        let t = h.tree in
        record {
          trees = below t;
          kept = kept_below h.kept;
          here = along;
          rows_fit = omega (arith, h.rows_fit, head_size t);
          text_fit = omega (arith, h.text_fit, g.text_is, own_length (unspan t), ap length (bare_text t), ap length (bare_texts (below t)), ap (λ (f : Forest). length (texts_of f)) (bare_below t));
        }

    pub kept_all : (b : Spot) → (i : b.row ≡ a.row + 1) → (j : b.text ≡ x) → {c : Spot} {l' u' : List ℕ}
        → ((k : Keeps table text (r + 1) n b) → Stored a.row (unspans k.trees) b c m l' v u') → Stored p (alone (unspan h.tree)) a c l l' u u'
    unfolding kept_inner
    kept_all b i j f = stored_head (unspan h.tree) g.table g.texts b i (j ∙ g.text_is) (stored_as (sym (bare_below h.tree)) (f (kept_inner b i j)))

-- ---- ROWS, one behind another
module _ (table text : List ℕ) where
  record Turn (r stop : ℕ) (ts : Forest) : Type 0 where
    tree : Tree
    rest : Forest
    is : ts ≡ more tree rest
    kept : Kept tree
    kepts : Kepts rest
    here : At table text r tree
    behind : Along table text (get_or table (width * r + 6) 0) stop rest

  turn : {r stop : ℕ} (ts : Forest) → Kepts ts → Along table text r stop ts → r < stop → Turn r stop ts
  unfolding sizes
  turn none kepts_none h l = absurd (omega (arith, h.ends))
  turn {r} {stop} (more t ts) (kepts_more x xs) h l =
      let n = next_at table text t (first_at table text h.rows) in
      record {
        tree = t;
        rest = ts;
        is = refl;
        kept = x;
        kepts = xs;
        here = record { parent = h.parent; start = h.start; rows = first_at table text h.rows; fits = omega (arith, h.ends, h.fits) };
        behind =
            record {
              parent = h.parent;
              start = h.start + length (text_of t);
              rows = subst (λ i. ForestAt table text i h.parent (h.start + length (text_of t)) ts) (sym n) (rest_at table text h.rows);
              ends = omega (arith, h.ends);
              fits = h.fits;
            };
      }

  -- what is left of the trees ts, of which some are stored from a up to b
  pub record Left (p stop : ℕ) (ts : Forest) (a : Spot) (r : ℕ) (b : Spot) (l m u v : List ℕ) : Type 0 where
    pub trees : Forest
    pub kept : Kepts trees
    pub here : Along table text r stop trees
    pub done : Forest
    pub is : ts ≡ beside done trees
    pub stored : Stored p (unspans done) a b l m u v

  pub left_start : {p from stop : ℕ} {a : Spot} {l u : List ℕ} (h : Keeps table text from stop a) → Left p stop h.trees a from a l l u u
  unfolding unspans beside
  left_start h = record { trees = h.trees; kept = h.kept; here = h.here; done = none; is = refl; stored = stored_none }

  module _ {p stop : ℕ} {ts : Forest} {a : Spot} {r : ℕ} {b : Spot} {l m u v : List ℕ} (h : Left p stop ts a r b l m u v) where
    pub left_end : stop ≤ r → Stored p (unspans ts) a b l m u v
    left_end g = stored_as (ap unspans (sym (h.is ∙ (ap (beside h.done) (by h.trees h.here) ∙ beside_none h.done)))) h.stored
      where
        by : (us : Forest) → Along table text r stop us → us ≡ none
        by none k = refl
        by (more t us) k = absurd (omega (arith, k.ends, sizes_some t us))

    module _ (g : r < stop) where
      one : Turn r stop h.trees
      one = turn h.trees h.kept h.here g

      all_is : ts ≡ beside h.done (more one.tree one.rest)
      all_is = h.is ∙ ap (beside h.done) one.is

      sum_rows : sizes ts ≡ sizes h.done + (size one.tree + sizes one.rest)
      unfolding sizes
      sum_rows = ap sizes all_is ∙ beside_size h.done (more one.tree one.rest)

      sum_text : length (texts_of ts) ≡ length (texts_of h.done) + (length (text_of one.tree) + length (texts_of one.rest))
      unfolding texts_of
      sum_text =
          ap (λ (f : Forest). length (texts_of f)) all_is
          ∙ (ap length (beside_text h.done (more one.tree one.rest))
          ∙ (length-append (texts_of h.done) (text_of one.tree ++ texts_of one.rest) ∙ ap (λ (i : ℕ). length (texts_of h.done) + i) (length-append (text_of one.tree) (texts_of one.rest))))

      pub turn_word : (i : ℕ) → i ≤ 8 → width * r + i < length table
      turn_word i k = word_in table text one.here i k

      pub turn_ahead : {n : ℕ} → n ≡ get_or table (width * r + 6) 0 → (r < n) × (n ≤ stop)
      turn_ahead e =
          let k = next_at table text one.tree one.here.rows in
          (omega (arith, size_some one.tree), omega (arith, one.behind.ends))

      module _ (rows_fit : a.row + sizes ts < ceiling) (text_fit : a.text + length (texts_of ts) < ceiling) where
        pub turn_keep : Keep table text r b
        turn_keep =
            record {
              tree = one.tree;
              kept = one.kept;
              here = one.here;
              rows_fit = omega (arith, sum_rows, h.stored.row_is, bare_sizes h.done);
              text_fit = omega (arith, sum_text, h.stored.text_is, ap length (bare_texts h.done));
            }

        pub turn_again : {n : ℕ} {c : Spot} {m' v' : List ℕ} → n ≡ get_or table (width * r + 6) 0 → ((k : Keep table text r b) → Stored p (alone (unspan k.tree)) b c m m' v v')
            → Left p stop ts a n c l m' u v'
        unfolding turn_keep unspans beside
        turn_again {n} e f =
            record {
              trees = one.rest;
              kept = one.kepts;
              here = subst (λ i. Along table text i stop one.rest) (sym e) one.behind;
              done = beside h.done (alone one.tree);
              is = all_is ∙ sym (beside_beside h.done (alone one.tree) one.rest);
              stored = stored_as (sym (bare_beside h.done (alone one.tree))) (stored_then h.stored (f turn_keep));
            }
