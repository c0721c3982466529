-- FILLING A CONTAINER FROM STORED BYTES: its children's rows one behind another, and then its own. Assumes nothing.
use Rattle.std.specs.Prelude.{◌≡◌, ℕ, ◌+◌, ◌*◌, ◌≤◌, ◌<◌, get_or}
use Rattle.std.proofs.Math.Path.{refl, sym, ap, subst}
use Rattle.std.proofs.Common.{ap₂, ◌∙◌}
use mathlib.Core.List.{List, [], ◌++◌, append_assoc, append-nil}
use native.Mathlib.Omega.{arith}
use Rattle.std.proofs.Math.ListN.{length, length-append}
use Rattle.std.proofs.lemmas.List.Edits.{sets}
use Rattle.language.specs.Tree.{unlined, Tree, leaf, node, Forest, none, more, width, row_list, size, sizes, text_of, texts_of, rows_of, rowss}
use Rattle.language.specs.Lent.{lent}
use Rattle.rooms.specs.Stores.{row_behind}
use Rattle.shaped.specs.Shaped.{shaped_leaf, shaped_array, shaped_object}
use Rattle.stored.specs.Form.{head, tag}
use Rattle.stored.specs.Old.{content, forms, form, placed, placeds}
use Rattle.stored.specs.Bytes.{At, at_left, at_right}
use Rattle.stored.proofs.OldLengthsLaws.{form_length, forms_length}
use Rattle.fields.specs.Puts.{Puts, puts_none, puts_as, puts_then}
use Rattle.fields.specs.Rows.{Kept, kept_key, kept_value, Kepts, kepts_none, kepts_more, elements_kept, pairs_kept, scalar_low, size_some}
use Rattle.uncut.specs.Heads.{end_at, at_as, at_place, field_end, field_content}
use Rattle.uncut.specs.Tested.{few_rows}
use Rattle.uncut.specs.Filling.{trees, elements_trees, pairs_trees, members_of, placed_size, placed_text, Fill, FillAt, FillAll, FillRoom, FillRoot, Fills, FillsAll, FilledRooms, tag_is}

-- a container's children
record Opened (t : Tree) : Type 0 where
  first : ℕ
  after : ℕ
  count : ℕ
  children : Forest
  is : t ≡ node (tag t) first after count children
  kept : Kepts children
  members : count ≡ members_of (tag t) (trees children)

opened : (t : Tree) → Kept t → 8 ≤ tag t → tag t ≤ 9 → Opened t
opened (leaf k f e s) (kept_key y) l m = absurd (omega arith)
opened (leaf k f e s) (kept_value (shaped_leaf y)) l m = absurd (let z = scalar_low y in omega arith)
opened (node k f e c ts) (kept_value (shaped_array y)) l m =
    record { first = f; after = e; count = c; children = ts; is = refl; kept = elements_kept y; members = sym (elements_trees y) }
opened (node k f e c ts) (kept_value (shaped_object y)) l m =
    record { first = f; after = e; count = c; children = ts; is = refl; kept = pairs_kept y; members = let z = pairs_trees y in omega arith }

-- the rows of a container as it is placed: its own, and its children's
node_rows : (a k f e c : ℕ) (ts : Forest) (r p x end r' : ℕ) → end ≡ a + length (form (node k f e c ts)) → r' ≡ r + 1 + sizes ts
    → rows_of unlined r p x (placed a (node k f e c ts)) ≡ row_list unlined k a end 0 c p r' ++ rowss unlined (r + 1) r x (placeds (a + head) ts)
unfolding placed rows_of size
node_rows a k f e c ts r p x end r' h g =
    let z = placed_size a (node k f e c ts) in
    let n : r + 1 + sizes (placeds (a + head) ts) ≡ r' = omega arith in
    ap₂ (λ i j. row_list unlined k a i 0 c p j ++ rowss unlined (r + 1) r x (placeds (a + head) ts)) (sym h) n

module _ (stored : List ℕ) {b a r p x e : ℕ} (h : FillAt stored b a r p x) (l : 8 ≤ get_or stored a 0) (m : get_or stored a 0 ≤ 9) (f : e ≡ a + length (form h.tree)) where
  inner : Opened h.tree
  inner = let k = tag_is stored h in opened h.tree h.kept (omega arith) (omega arith)

  content_is : content h.tree ≡ forms inner.children
  unfolding content
  content_is = ap (λ (t : Tree). content t) inner.is

  pub fill_children : FillAll stored b (a + 3) e (r + 1) r x
  unfolding size text_of
  fill_children =
      let o = inner in
      record {
        trees = o.children;
        kept = o.kept;
        here = at_as content_is (field_content h.tree h.here);
        total = omega (arith, ap length content_is);
        inside = omega (arith, h.inside);
        few = omega (arith, h.few);
        few_bytes = omega (arith, h.few_bytes);
        few_rows = omega (arith, h.few_rows, ap (λ (t : Tree). size t) o.is);
        few_text = omega (arith, h.few_text, ap (λ (t : Tree). length (text_of t)) o.is);
        parent = omega (arith, h.few_rows);
      }

  -- .. whose texts are the container's
  pub fill_texts : {w : ℕ} → x + length (text_of h.tree) ≤ w → FillRoom stored w b (a + 3) e (r + 1) r x
  unfolding fill_children text_of
  fill_texts l = record { asked = fill_children; room = omega (arith, ap (λ (t : Tree). length (text_of t)) inner.is) }

  pub fill_node : {r' x' n : ℕ} {table table₁ table' text text' : List ℕ} → ((i : FillAll stored b (a + 3) e (r + 1) r x) → FillsAll i.trees (b + (a + 3)) (r + 1) r x r' x' n table table₁ text text')
      → table' ≡ sets table₁ (width * r) (row_list unlined (get_or stored a 0) (b + a) (b + e) 0 (members_of (get_or stored a 0) n) p r') → Fills h.tree (b + a) r p x r' x' table table' text text'
  unfolding fill_children size text_of
  fill_node {r'} {x'} {n} {table} {table₁} {table'} {text} {text'} g w = subst (λ (t : Tree). Fills t (b + a) r p x r' x' table table' text text') (sym o.is) by
    where
      o : Opened h.tree
      o = inner

      q : FillsAll o.children (b + (a + 3)) (r + 1) r x r' x' n table table₁ text text'
      q = g fill_children

      k : ℕ
      k = tag h.tree

      t : Tree
      t = node k o.first o.after o.count o.children

      us : List ℕ
      us = row_list unlined k (b + a) (b + e) 0 o.count p r'

      vs : List ℕ
      vs = rowss unlined (r + 1) r x (placeds (b + (a + 3)) o.children)

      ends : b + e ≡ b + a + length (form t)
      ends = let g = f ∙ ap (λ (t : Tree). a + length (form t)) o.is in omega arith

      rows_are : rows_of unlined r p x (placed (b + a) t) ≡ us ++ vs
      rows_are =
          let z : b + a + head ≡ b + (a + 3) = omega arith in
          node_rows (b + a) k o.first o.after o.count o.children r p x (b + e) r' ends q.row
          ∙ ap (λ (i : ℕ). us ++ rowss unlined (r + 1) r x (placeds i o.children)) z

      row_is : row_list unlined (get_or stored a 0) (b + a) (b + e) 0 (members_of (get_or stored a 0) n) p r' ≡ us
      row_is =
          let z : members_of (get_or stored a 0) n ≡ o.count = ap₂ (λ i j. members_of i j) (tag_is stored h) q.count ∙ sym o.members in
          ap₂ (λ i j. row_list unlined i (b + a) (b + e) 0 j p r') (tag_is stored h) z

      stored_rows : table' ≡ sets table (width * r) (us ++ vs)
      stored_rows =
          w
          ∙ (ap (sets table₁ (width * r)) row_is
          ∙ (ap (λ (u : List ℕ). sets u (width * r) us) q.rows.holds ∙ row_behind table (width * r) (width * (r + 1)) us vs (omega arith)))

      by : Fills t (b + a) r p x r' x' table table' text text'
      by =
          record {
            row = omega (arith, q.row);
            rows = puts_as (sym rows_are) (record { ends = omega (arith, q.rows.ends, length-append us vs); holds = stored_rows });
            bytes = q.bytes;
          }

-- ---- the loop over the children

module _ (stored : List ℕ) where
  -- of the trees ts from a on some are filled, and these are left, from `at` on
  pub record Left (ts : Forest) (b a e r p x : ℕ) (at row y n : ℕ) (table table' text text' : List ℕ) : Type 0 where
    pub rest : FillAll stored b at e row p y
    pub done_rows : List ℕ
    pub done_text : List ℕ
    pub rows_are : rowss unlined r p x (placeds (b + a) ts) ≡ done_rows ++ rowss unlined row p y (placeds (b + at) rest.trees)
    pub text_is : texts_of ts ≡ done_text ++ texts_of rest.trees
    pub sizes_are : row + sizes rest.trees ≡ r + sizes ts
    pub counts_are : n + trees rest.trees ≡ trees ts
    pub rows : Puts done_rows (width * r) (width * row) table table'
    pub bytes : Puts done_text x y text text'

  pub left_start : {b a e r p x : ℕ} {table text : List ℕ} (h : FillAll stored b a e r p x) → Left h.trees b a e r p x a r x 0 table table text text
  left_start h =
      record { rest = h; done_rows = []; done_text = []; rows_are = refl; text_is = refl; sizes_are = refl; counts_are = omega arith; rows = puts_none; bytes = puts_none }

  -- nothing is left
  none_left : {b a e r p x : ℕ} (h : FillAll stored b a e r p x) → e ≤ a → h.trees ≡ none
  none_left {b} {a} {e} h l = by h.trees h.total
    where
      by : (ts : Forest) → a + length (forms ts) ≡ e → ts ≡ none
      by none t = refl
      by (more u us) t = absurd (omega (arith, forms_length u us))

  pub left_end : {ts : Forest} {b a e r p x at row y n : ℕ} {table table' text text' : List ℕ} → Left ts b a e r p x at row y n table table' text text' → e ≤ at
      → FillsAll ts (b + a) r p x row y n table table' text text'
  unfolding placed rows_of size text_of trees
  left_end {ts} {b} {a} {e} {r} {p} {x} {at} {row} {y} h l =
      let z = none_left h.rest l in
      let i : rowss unlined row p y (placeds (b + at) h.rest.trees) ≡ [] = ap (λ (us : Forest). rowss unlined row p y (placeds (b + at) us)) z in
      let j : texts_of h.rest.trees ≡ [] = ap (λ (us : Forest). texts_of us) z in
      record {
        row = omega (arith, h.sizes_are, ap (λ (us : Forest). sizes us) z);
        count = omega (arith, h.counts_are, ap (λ (us : Forest). trees us) z);
        rows = puts_as (sym (h.rows_are ∙ (ap (λ (w : List ℕ). h.done_rows ++ w) i ∙ append-nil h.done_rows))) h.rows;
        bytes = puts_as (sym (h.text_is ∙ (ap (λ (w : List ℕ). h.done_text ++ w) j ∙ append-nil h.done_text))) h.bytes;
      }

  -- the first that is left
  record First (b at e row p y : ℕ) (us : Forest) : Type 0 where
    tree : Tree
    others : Forest
    is : us ≡ more tree others
    fill : FillAt stored b at row p y
    same : fill.tree ≡ tree
    kepts : Kepts others
    behind : At stored (at + length (form tree)) (forms others)
    total : at + length (form tree) + length (forms others) ≡ e

  first : {b at e row p y : ℕ} (h : FillAll stored b at e row p y) → at < e → First b at e row p y h.trees
  unfolding content size text_of
  first {b} {at} {e} {row} {p} {y} h l = by h.trees h.kept h.here h.total h.few_rows h.few_text
    where
      by : (us : Forest) → Kepts us → At stored at (forms us) → at + length (forms us) ≡ e → row + sizes us ≤ lent → y + length (texts_of us) ≤ lent → First b at e row p y us
      by none k i t fr ft = absurd (omega arith)
      by (more u us) (kepts_more k ks) i t fr ft =
          let n = forms_length u us in
          record {
            tree = u;
            others = us;
            is = refl;
            fill =
                record {
                  tree = u;
                  kept = k;
                  here = at_left stored (form u) (forms us) i;
                  inside = omega (arith, h.inside);
                  few = omega (arith, h.few);
                  few_bytes = omega (arith, h.few_bytes);
                  few_rows = omega (arith, fr);
                  few_text = omega (arith, ft, length-append (text_of u) (texts_of us));
                  parent = h.parent;
                };
            same = refl;
            kepts = ks;
            behind = at_right stored (form u) (forms us) refl i;
            total = omega arith;
          }

  module _ {ts : Forest} {b a e r p x at row y n : ℕ} {table table' text text' : List ℕ} (h : Left ts b a e r p x at row y n table table' text text') (l : at < e) where
    one : First b at e row p y h.rest.trees
    one = first h.rest l

    pub left_fill : FillAt stored b at row p y
    left_fill = one.fill

    -- its text has room where all texts have
    pub left_room : {w : ℕ} → x + length (texts_of ts) ≤ w → y + length (text_of left_fill.tree) ≤ w
    unfolding left_fill text_of
    left_room m =
        omega (arith, ap length h.text_is, length-append h.done_text (texts_of h.rest.trees), ap (λ (us : Forest). length (texts_of us)) one.is, length-append (text_of one.tree) (texts_of one.others), ap (λ (t : Tree). length (text_of t)) one.same, h.bytes.ends)

    here : At stored at (form one.tree)
    here = subst (λ (t : Tree). At stored at (form t)) one.same one.fill.here

    left_end_is : {next : ℕ} → next ≡ end_at stored at → next ≡ at + length (form one.tree)
    left_end_is f = f ∙ field_end one.tree here

    pub left_ahead : (next : ℕ) → next ≡ end_at stored at → (at < next) × (next ≤ e)
    left_ahead next f = let z = left_end_is f in (omega arith, omega (arith, one.total))

    module _ {next row' y' : ℕ} {table'' text'' : List ℕ} (f : next ≡ end_at stored at) (g : (i : FillAt stored b at row p y) → Fills i.tree (b + at) row p y row' y' table' table'' text' text'') where
      q : Fills one.tree (b + at) row p y row' y' table' table'' text' text''
      unfolding left_fill
      q = subst (λ (t : Tree). Fills t (b + at) row p y row' y' table' table'' text' text'') one.same (g left_fill)

      rest_fill : FillAll stored b next e row' p y'
      unfolding size text_of
      rest_fill =
          let z = left_end_is f in
          let t = one.tree in
          record {
            trees = one.others;
            kept = one.kepts;
            here = at_place (sym z) one.behind;
            total = omega (arith, one.total);
            inside = h.rest.inside;
            few = h.rest.few;
            few_bytes = h.rest.few_bytes;
            few_rows = omega (arith, h.rest.few_rows, q.row, ap (λ (us : Forest). sizes us) one.is);
            few_text = omega (arith, h.rest.few_text, q.bytes.ends, ap (λ (us : Forest). length (texts_of us)) one.is, length-append (text_of t) (texts_of one.others));
            parent = h.rest.parent;
          }

      rows_split : rowss unlined row p y (placeds (b + at) h.rest.trees) ≡ rows_of unlined row p y (placed (b + at) one.tree) ++ rowss unlined row' p y' (placeds (b + next) one.others)
      unfolding placed rows_of
      rows_split =
          let t = one.tree in
          let i : row + size (placed (b + at) t) ≡ row' = omega (arith, q.row, placed_size (b + at) t) in
          let j : y + length (text_of (placed (b + at) t)) ≡ y' = omega (arith, q.bytes.ends, ap length (placed_text (b + at) t)) in
          let z : b + at + length (form t) ≡ b + next = let g = left_end_is f in omega arith in
          ap (λ (us : Forest). rowss unlined row p y (placeds (b + at) us)) one.is
          ∙ (ap₂ (λ i j. rows_of unlined row p y (placed (b + at) t) ++ rowss unlined i p j (placeds (b + at + length (form t)) one.others)) i j
          ∙ ap (λ (o : ℕ). rows_of unlined row p y (placed (b + at) t) ++ rowss unlined row' p y' (placeds o one.others)) z)

      pub left_more : Left ts b a e r p x next row' y' (n + 1) table table'' text text''
      unfolding rest_fill size text_of trees
      left_more =
          let t = one.tree in
          let w = rows_of unlined row p y (placed (b + at) t) in
          record {
            rest = rest_fill;
            done_rows = h.done_rows ++ w;
            done_text = h.done_text ++ text_of t;
            rows_are = h.rows_are ∙ (ap (λ (u : List ℕ). h.done_rows ++ u) rows_split ∙ sym (append_assoc h.done_rows w (rowss unlined row' p y' (placeds (b + next) one.others))));
            text_is = h.text_is ∙ (ap (λ (us : Forest). h.done_text ++ texts_of us) one.is ∙ sym (append_assoc h.done_text (text_of t) (texts_of one.others)));
            sizes_are = omega (arith, h.sizes_are, q.row, ap (λ (us : Forest). sizes us) one.is);
            counts_are = omega (arith, h.counts_are, ap (λ (us : Forest). trees us) one.is);
            rows = puts_then h.rows q.rows;
            bytes = puts_then h.bytes q.bytes;
          }

-- ---- the root: one field is the whole

module _ (stored : List ℕ) where
  -- a text is no longer than its field without a head
  text_few : {t : Tree} → Kept t → length (text_of t) + head ≤ length (form t)
  unfolding content text_of
  text_few (kept_key y) = omega arith
  text_few (kept_value {t = t} y) = omega (arith, form_length y, size_some t)

  root_all : (h : Fill stored 0 0 0 0) → length (form h.tree) ≡ length stored → FillAll stored 0 0 (length stored) 0 0 0
  unfolding content size text_of
  root_all h e =
      record {
        trees = more h.tree none;
        kept = kepts_more h.kept kepts_none;
        here = at_as (sym (append-nil (form h.tree))) h.here;
        total = omega (arith, length-append (form h.tree) []);
        inside = omega arith;
        few = omega (arith, h.few);
        few_bytes = omega (arith, h.few);
        few_rows = omega (arith, few_rows h.tree, h.few);
        few_text = omega (arith, text_few h.kept, h.few, length-append (text_of h.tree) []);
        parent = omega arith;
      }

  pub root_room : {w : ℕ} → FillRoot stored w → FillRoom stored w 0 0 (length stored) 0 0 0
  unfolding root_all text_of
  root_room g = record { asked = root_all g.asked g.whole; room = omega (arith, g.room, length-append (text_of g.asked.tree) []) }

  pub root_filled : {w r x n : ℕ} {table table' text text' : List ℕ} → FillRoot stored w → ((i : FillAll stored 0 0 (length stored) 0 0 0) → FillsAll i.trees 0 0 0 0 r x n table table' text text')
      → (h : Fill stored 0 0 0 0) → FilledRooms h.tree table table' text text'
  unfolding root_all placed rows_of text_of
  root_filled {table = table} {text = text} g q h =
      let e : length (form h.tree) ≡ length stored = omega (arith, field_end h.tree h.here, field_end g.asked.tree g.asked.here, g.whole) in
      let f = q (root_all h e) in
      record { rows = f.rows.holds ∙ ap (sets table 0) (append-nil (rows_of unlined 0 0 0 (placed 0 h.tree))); bytes = f.bytes.holds ∙ ap (sets text 0) (append-nil (text_of h.tree)) }
