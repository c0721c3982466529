-- A FIELD THAT IS CUT, OR IN PARTS: the tree whose field stands there has the tag and the content told, and its rows and text are a leaf's, or a container's behind those of its children. Assumes nothing.
use Rattle.std.specs.Prelude.{◌≡◌, refl, Bool, true, false, ℕ, ◌+◌, ◌-◌, ◌*◌, ◌≤◌, ◌<◌, take, leb}
use Rattle.std.proofs.Math.Path.{sym, ap, ap₂, subst}
use Rattle.std.proofs.Common.{◌∙◌, arith, le-leb}
use mathlib.Core.List.{List, ◌++◌}
use Rattle.std.proofs.Math.ListN.{length, length-append}
use Rattle.std.proofs.lemmas.List.Edits.{sets}
use Rattle.std.proofs.lemmas.Bool.{lt-leb}
use Rattle.notation.specs.Class.{pick}
use Rattle.language.specs.Tree.{unlined, Tree, node, Forest, none, more, width, row_list, size, sizes, text_of, texts_of, rows_of, rowss}
use Rattle.language.specs.Lent.{lent}
use Rattle.rooms.specs.Contract.{ample}
use Rattle.rooms.specs.Stores.{row_behind}
use Rattle.stored.specs.Form.{inside, tag, cut, content, forms, form, placed, placeds}
use Rattle.stored.specs.Parts as parts
use Rattle.stored.proofs.PartsLaws.{cut_length, cut_apart}
use Rattle.stored.proofs.LengthsLaws.{form_longer}
use Rattle.stored.specs.Bytes.{At, at_left, at_as, at_inside}
use Rattle.fields.specs.Puts.{Puts, puts_none, puts_as}
use Rattle.fields.specs.Rows.{size_some}
use Rattle.views.specs.Views.{viewed, view_less, place_of, Content, Deeper, deeper_view}
use Rattle.views.specs.Joined.{within}
use Rattle.uncut.specs.Filling.{members_of, kept_bare}
use Rattle.wide.specs.Cut.{content_at, content_is}
use Rattle.cutfill.specs.Placed.{places, places_are, places_inside}
use Rattle.cutfill.specs.Wholes.{first_alone, alone_form}
use Rattle.cutfill.specs.Trees.{Container, Deep, Deeps, deeps_more, deep_kept, deep_true, deep_low, trees_few, Leafed, deep_leaf, Opened, opened, node_rows}
use Rattle.cutfill.specs.Filling.{Rowed, FillCut, FillRoom, FillOne, Fills, Steps, fills_one}

-- ---- the first of the trees, of which this is told

record First (stored starts : List ℕ) (d allow at k n end : ℕ) (us : Forest) : Type 0 where
  tree : Tree
  others : Forest
  is : us ≡ more tree others
  deep : Deep allow tree
  kind : tag tree ≡ k
  long : length (content tree) ≡ n
  held : At (within (viewed stored starts d) at) 0 (content tree)
  taken : take n (within (viewed stored starts d) at) ≡ content tree
  ends : end ≡ at + length (form tree)

module _ (stored starts : List ℕ) (d at k n end r p x : ℕ) (h : FillOne stored starts d at k n end r p x) where
  abbrev v : List ℕ
  v = viewed stored starts d

  one : First stored starts d h.asked.allow at k n end h.asked.trees
  unfolding content
  one = by h.asked.trees h.asked.kept h.asked.here h.asked.total
    where
      by : (us : Forest) → Deeps h.asked.allow us → At v at (forms us) → at + length (forms us) ≡ h.stop → First stored starts d h.asked.allow at k n end us
      by none y i t = absurd (omega (arith, h.told.ends, h.told.below, cut_length k h.told.content))
      by (more u us) (deeps_more y ys) i t =
          let w = h.told in
          let j = at_left v (form u) (forms us) i in
          let q : parts.Fields (tag u) k (content u) w.content j.behind w.here.behind = cut_apart (content u) w.content (deep_true y) w.true_tag (sym j.is ∙ w.here.is) in
          record {
            tree = u;
            others = us;
            is = refl;
            deep = y;
            kind = q.kind;
            long = ap length q.content ∙ w.count;
            held = at_as (sym q.content) (content_at v w);
            taken = content_is v w ∙ sym q.content;
            ends = w.ends ∙ ap₂ (λ (j : ℕ) (c : List ℕ). at + length (cut j c)) (sym q.kind) (sym q.content);
          }

  -- its rows, its text and its place are few
  one_rows : r + size one.tree ≤ lent
  unfolding size
  one_rows = omega (arith, h.asked.few_rows, ap (λ (us : Forest). sizes us) one.is)

  one_text : {w : ℕ} → x + length (texts_of h.asked.trees) ≤ w → x + length (text_of one.tree) ≤ w
  unfolding text_of
  one_text l = omega (arith, ap (λ (us : Forest). length (texts_of us)) one.is, length-append (text_of one.tree) (texts_of one.others))

  pub one_end : (at + 3 ≤ end) × (end ≤ length v) × (n + 3 ≤ end - at)
  one_end = (omega (arith, one.ends, form_longer one.tree), omega (arith, h.told.below, h.asked.inside), omega (arith, one.ends, one.long, form_longer one.tree))

  pub one_next : r + 1 ≤ lent
  one_next = omega (arith, one_rows, size_some one.tree)

  pub one_low : d + 1 ≤ 34
  one_low = omega (arith, h.asked.deep)

  pub one_few : end ≤ lent
  one_few = let l = view_less stored starts d in let e = one_end in omega (arith, h.asked.few, e.1)

  -- a row of it
  pub one_rowed : {from to next : ℕ} → from < ample → to < ample → next < ample → Rowed starts d at end r k p from to next
  one_rowed a b c =
      let e = one_end in
      let s = size_some one.tree in
      let q = one_rows in
      record {
        low = omega (arith, one_low);
        first = record { stored = stored; few = h.asked.few; inside_view = omega (arith, e.0, e.1) };
        some = omega (arith, e.0);
        last = record { stored = stored; few = h.asked.few; inside_view = omega (arith, e.0, e.1) };
        row = omega arith;
        kind = omega (arith, deep_low one.deep, one.kind);
        above = omega (arith, h.asked.parent);
        from_fits = a;
        to_fits = b;
        next_fits = c;
      }

  -- .. stands where it is placed
  first_place : places starts d at 0 ≡ place_of starts d at
  first_place = places_are starts d at 0 ∙ ap (place_of starts d) (let e : at + 0 ≡ at = omega arith in e)

  last_place : (t : Tree) → t ≡ one.tree → places starts d at (length (form t) - 1) + 1 ≡ place_of starts d (end - 1) + 1
  last_place t e =
      let y = ap (λ (t : Tree). length (form t)) e in
      let m = form_longer t in
      ap (λ (i : ℕ). i + 1) (places_are starts d at (length (form t) - 1) ∙ ap (place_of starts d) (let z : at + (length (form t) - 1) ≡ end - 1 = omega (arith, one.ends) in z))

  -- ONE TREE FILLED
  one_steps : {r' x' : ℕ} {table table' text text' : List ℕ} → r' ≡ r + size one.tree → Puts (rows_of unlined r p x (placed (places starts d at) one.tree)) (width * r) (width * r') table table' → Puts (text_of one.tree) x x' text text'
      → Steps starts d h.asked.trees at r p x end r' x' 1 table table' text text'
  one_steps e g b =
      let t = one.tree in
      record {
        front = more t none;
        rest = one.others;
        is = one.is ∙ first_alone t one.others;
        some = let q = one_end in omega (arith, q.0);
        ends = omega (arith, one.ends, ap length (alone_form t));
        fills = fills_one t e g b;
      }

  -- ---- a leaf
  module _ (o : Container k → ⊥) where
    leafed : Leafed (places starts d at) one.tree r p x
    leafed = deep_leaf (places starts d at) one.tree r p x one.deep (λ c. o (subst Container one.kind c))

    leaf_row : rows_of unlined r p x (placed (places starts d at) one.tree) ≡ row_list unlined k (place_of starts d at) (place_of starts d (end - 1) + 1) (pick (leb k 3) 0 x) (pick (leb k 3) 0 (x + length (text_of one.tree))) p (r + 1)
    leaf_row =
        let t = one.tree in
        let y = x + length (text_of t) in
        leafed.rows_are
        ∙ (ap (λ (i : ℕ). row_list unlined i (places starts d at 0) (places starts d at (length (form t) - 1) + 1) (pick (leb i 3) 0 x) (pick (leb i 3) 0 y) p (r + 1)) one.kind
        ∙ ap₂ (λ (i j : ℕ). row_list unlined k i j (pick (leb k 3) 0 x) (pick (leb k 3) 0 y) p (r + 1)) first_place (last_place t refl))

    leaf_long : length (text_of one.tree) ≡ n
    leaf_long = sym (ap length leafed.text_is) ∙ one.long

    -- its text is the content
    pub leaf_few : {w : ℕ} → x + length (texts_of h.asked.trees) ≤ w → (x + n ≤ w) × (x + n ≤ lent)
    leaf_few l = let a = one_text l in let b = one_text h.asked.few_text in (omega (arith, leaf_long), omega (arith, leaf_long))

    -- A NULL, FALSE OR TRUE
    pub bare_steps : {table table' text : List ℕ} → k < 4 → table' ≡ sets table (width * r) (row_list unlined k (place_of starts d at) (place_of starts d (end - 1) + 1) 0 0 p (r + 1))
        → Steps starts d h.asked.trees at r p x end (r + 1) x 1 table table' text text
    bare_steps {table} {table'} l w =
        let t = one.tree in
        let i : leb k 3 ≡ true = le-leb k 3 (omega arith) in
        let b = kept_bare t (deep_kept one.deep) (omega (arith, one.kind)) in
        let z = leaf_row ∙ ap (λ (c : Bool). row_list unlined k (place_of starts d at) (place_of starts d (end - 1) + 1) (pick c 0 x) (pick c 0 (x + length (text_of t))) p (r + 1)) i in
        one_steps (omega (arith, leafed.one_row)) (puts_as (sym z) (record { ends = omega arith; holds = w })) (puts_as (sym b) puts_none)

    -- A SCALAR WITH A TEXT, OR A KEY
    pub text_steps : {table table' text text' new : List ℕ} → 4 ≤ k → table' ≡ sets table (width * r) (row_list unlined k (place_of starts d at) (place_of starts d (end - 1) + 1) x (x + n) p (r + 1))
        → Deeper starts d at new → text' ≡ sets text x (take n (viewed stored new (d + 1))) → Steps starts d h.asked.trees at r p x end (r + 1) (x + n) 1 table table' text text'
    text_steps {table} {table'} {text} {text'} {new} l w q s =
        let t = one.tree in
        let i : leb k 3 ≡ false = lt-leb k 3 (omega arith) in
        let e : x + length (text_of t) ≡ x + n = ap (λ (m : ℕ). x + m) leaf_long in
        let z = leaf_row ∙ (ap (λ (c : Bool). row_list unlined k (place_of starts d at) (place_of starts d (end - 1) + 1) (pick c 0 x) (pick c 0 (x + length (text_of t))) p (r + 1)) i
        ∙ ap (λ (y : ℕ). row_list unlined k (place_of starts d at) (place_of starts d (end - 1) + 1) x y p (r + 1)) e) in
        let b : take n (viewed stored new (d + 1)) ≡ text_of t = ap (take n) (deeper_view stored q) ∙ (one.taken ∙ leafed.text_is) in
        one_steps (omega (arith, leafed.one_row)) (puts_as (sym z) (record { ends = omega arith; holds = w })) (puts_as b (record { ends = omega (arith, ap length b, leaf_long); holds = s }))

  -- the content seen in the view inside
  pub one_content : {new : List ℕ} → Deeper starts d at new → Content stored new (d + 1) n
  one_content {new} q =
      record {
        low = one_low;
        few = h.asked.few;
        fits = omega (arith, ap length (deeper_view stored q), at_inside (content one.tree) one.held (omega arith), one.long);
      }

  -- ---- a container
  module _ (o : Container k) where
    inner : Opened h.asked.allow one.tree
    inner = opened one.tree one.deep (subst Container (sym one.kind) o)

    content_forms : content one.tree ≡ forms inner.children
    unfolding content
    content_forms = ap (λ (t : Tree). content t) inner.is

    module _ {new : List ℕ} (q : Deeper starts d at new) where
      pub inner_cut : FillCut stored new (d + 1) 0 n (r + 1) r x
      unfolding size text_of
      inner_cut =
          let c = inner in
          let b = one_text h.asked.few_text in
          record {
            trees = c.children;
            allow = c.allow;
            deep = omega (arith, h.asked.deep, c.less);
            kept = c.kept;
            here = subst (λ (u : List ℕ). At u 0 (forms c.children)) (sym (deeper_view stored q)) (at_as content_forms one.held);
            total = omega (arith, ap length content_forms, one.long);
            inside = let g = one_content q in g.fits;
            few = h.asked.few;
            few_rows = omega (arith, one_rows, ap (λ (t : Tree). size t) c.is);
            few_text = omega (arith, ap (λ (t : Tree). length (text_of t)) c.is);
            parent = omega (arith, h.asked.few_rows);
          }

      pub inner_room : {w : ℕ} → x + length (texts_of h.asked.trees) ≤ w → FillRoom stored new (d + 1) w 0 n (r + 1) r x
      unfolding inner_cut text_of
      inner_room l = let b = one_text l in record { asked = inner_cut; room = omega (arith, ap (λ (t : Tree). length (text_of t)) inner.is) }

      module _ {r' x' m : ℕ} {table table₁ text text' : List ℕ} (g : (i : FillCut stored new (d + 1) 0 n (r + 1) r x) → Fills i.trees (places new (d + 1) 0) (r + 1) r x r' x' m table table₁ text text') where
        filled : Fills inner.children (places new (d + 1) 0) (r + 1) r x r' x' m table table₁ text text'
        unfolding inner_cut
        filled = g inner_cut

        pub inner_few : (m ≤ lent) × (r' ≤ lent)
        unfolding inner_cut
        inner_few =
            let f = filled in
            let i = inner_cut in
            let t = trees_few inner.children in
            (omega (arith, f.count, i.few_rows), omega (arith, f.row, i.few_rows))

        pub node_steps : {table' : List ℕ} → table' ≡ sets table₁ (width * r) (row_list unlined k (place_of starts d at) (place_of starts d (end - 1) + 1) 0 (members_of k m) p r')
            → Steps starts d h.asked.trees at r p x end r' x' 1 table table' text text'
        unfolding size text_of
        node_steps {table'} w = one_steps (omega (arith, f.row, ap (λ (t : Tree). size t) c.is)) (puts_as (sym rows_are) (record { ends = omega (arith, f.rows.ends, length-append us vs); holds = holds })) (puts_as (sym (ap (λ (t : Tree). text_of t) c.is)) f.bytes)
          where
            c : Opened h.asked.allow one.tree
            c = inner

            f : Fills c.children (places new (d + 1) 0) (r + 1) r x r' x' m table table₁ text text'
            f = filled

            us : List ℕ
            us = row_list unlined k (place_of starts d at) (place_of starts d (end - 1) + 1) 0 (members_of k m) p r'

            vs : List ℕ
            vs = rowss unlined (r + 1) r x (placeds (places new (d + 1) 0) c.children)

            t : Tree
            t = node (tag one.tree) c.first c.after c.count c.children

            count_is : c.count ≡ members_of k m
            count_is = c.members ∙ ap₂ (λ (i j : ℕ). members_of i j) one.kind (sym f.count)

            rows_are : rows_of unlined r p x (placed (places starts d at) one.tree) ≡ us ++ vs
            rows_are =
                ap (λ (t : Tree). rows_of unlined r p x (placed (places starts d at) t)) c.is
                ∙ (node_rows (places starts d at) (tag one.tree) c.first c.after c.count c.children r p x r' f.row
                ∙ (ap₂ (λ (i j : ℕ). row_list unlined i (places starts d at 0) (places starts d at (length (form t) - 1) + 1) 0 j p r' ++ rowss unlined (r + 1) r x (placeds (λ i. places starts d at (inside i)) c.children)) one.kind count_is
                ∙ (ap₂ (λ (i j : ℕ). row_list unlined k i j 0 (members_of k m) p r' ++ rowss unlined (r + 1) r x (placeds (λ i. places starts d at (inside i)) c.children)) first_place (last_place t (sym c.is))
                ∙ ap (λ (g : ℕ → ℕ). us ++ rowss unlined (r + 1) r x (placeds g c.children)) (places_inside q))))

            holds : table' ≡ sets table (width * r) (us ++ vs)
            holds = w ∙ (ap (λ (u : List ℕ). sets u (width * r) us) f.rows.holds ∙ row_behind table (width * r) (width * (r + 1)) us vs (omega arith))
