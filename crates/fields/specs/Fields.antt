-- FIELDS OF ROWS: what the code of a row's field, of its content and of its children's fields asks, and how it keeps its promise. Assumes nothing.
use Rattle.std.specs.Prelude.{◌≡◌, ◌⊎◌, false, ℕ, suc, ◌+◌, ◌-◌, ◌*◌, ◌/◌, ◌≤◌, ◌<◌, get_or, set, leb}
use Rattle.std.proofs.Math.Path.{refl, sym, ap, subst}
use Rattle.std.proofs.Common.{inl, inr, ap₂, ◌∙◌, arith, length-append, le-leb}
use mathlib.Core.List.{List, [], ◌∷◌, ◌++◌, append_assoc, append-nil}
use Rattle.std.proofs.Math.Decide.{dec_le}
use Rattle.std.proofs.Math.ListN.{length}
use Rattle.std.proofs.lemmas.List.Edits.{sets}
use Rattle.std.proofs.Math.Seq.{slice, length-slice, length-sets}
use Rattle.std.proofs.lemmas.Bool.{lt-leb}
use Rattle.language.specs.Kind.{TRUE, KEY}
use Rattle.language.specs.Tree.{Decoded, Tree, leaf, node, Forest, none, more, width, sizes, text_of}
use Rattle.spans.specs.Formed.{kind_of}
use Rattle.shaped.specs.RowsAt.{ForestAt, first_at, rest_at, next_at}
use Rattle.shaped.specs.Leaves.{word_row, part_row, part_is, part_fits}
use Rattle.shaped.specs.Shaped.{Scalar, is_null, is_false, is_true, is_an_integer, is_float, is_string, is_bytes, shaped_leaf, shaped_array, shaped_object}
use Rattle.fields.specs.Puts.{Puts, puts_none, puts_as, puts_then}
use Rattle.fields.specs.Rows.{Kept, kept_key, kept_value, Kepts, kepts_none, kepts_more, elements_kept, pairs_kept, scalar_low, size_some, sizes_some, At, Along, word_in, kind_word, node_along}
use Rattle.stored.specs.Form.{widest, tag, cut, content, forms, form}
use Rattle.stored.proofs.PartsLaws.{cut_length}
use Rattle.stored.specs.Lengths.{scalar_content}
use Rattle.fields.specs.Spread.{Closes, sets_over, slice_sets}

-- the kind of an array or else of an object, as code tells it
abbrev pub Container : ℕ → Type 0
Container kind = (kind ≡ 8) ⊎ ((kind ≡ 8 → ⊥) × (kind ≡ 9))

pub container_kind : {kind : ℕ} → Container kind → (8 ≤ kind) × (kind ≤ 9)
container_kind (inl e) = (omega arith, omega arith)
container_kind (inr (n, e)) = (omega arith, omega arith)

-- three stores in a row
pub three : (o p q s : List ℕ) (x a b c : ℕ) → p ≡ set o x a → q ≡ set p (x + 1) b → s ≡ set q (x + 2) c → s ≡ sets o x (a ∷ b ∷ c ∷ [])
three o p q s x a b c h k l =
    let i : x + 1 ≡ suc x = omega arith in
    let j : x + 2 ≡ suc (suc x) = omega arith in
    cc

module _ (table text : List ℕ) where
  -- ASKED of a row's field, of its content, and of the fields of rows, that are written at x of an output of n bytes
  pub record Field (n r x : ℕ) : Type 0 where
    pub tree : Tree
    pub kept : Kept tree
    pub here : At table text r tree
    pub fits : x + length (form tree) ≤ n

  pub record Content (n r x : ℕ) : Type 0 where
    pub tree : Tree
    pub kept : Kept tree
    pub here : At table text r tree
    pub fits : x + length (content tree) ≤ n

  pub record Fields (n from stop x : ℕ) : Type 0 where
    pub trees : Forest
    pub kept : Kepts trees
    pub here : Along table text from stop trees
    pub fits : x + length (forms trees) ≤ n

  -- ---- a field: its content, and then its head

  kept_low : {t : Tree} → Kept t → kind_of t ≤ 10
  kept_low (kept_key x) = omega arith
  kept_low (kept_value (shaped_leaf x)) = let l = scalar_low x in omega arith
  kept_low (kept_value (shaped_array x)) = omega arith
  kept_low (kept_value (shaped_object x)) = omega arith

  tag_kind : (t : Tree) → tag t ≡ kind_of t
  tag_kind (leaf k a e s) = refl
  tag_kind (node k a e c ts) = refl

  module _ {n r x : ℕ} (h : Field n r x) where
    pub field_content : Content n r (x + 3)
    field_content = record { tree = h.tree; kept = h.kept; here = h.here; fits = omega (arith, h.fits, cut_length (tag h.tree) (content h.tree)) }

    pub field_kind : width * r + 0 < length table
    field_kind = word_in table text h.here 0 (omega arith)

    pub field_fewer : {t : ℕ} → t ≡ 3 * (get_or table (width * r + 6) 0 - r) + 1 → 3 * (get_or table (width * r + 6) 0 - r) < t
    field_fewer z = omega arith

    module _ {y : ℕ} {o p : List ℕ} (f : (i : Content n r (x + 3)) → Puts (content i.tree) (x + 3) y o p) where
      inside : Puts (content h.tree) (x + 3) y o p
      unfolding field_content
      inside = f field_content

      module _ {kind : ℕ} (e : kind ≡ get_or table (width * r + 0) 0) where
        true_tag : kind ≡ tag h.tree
        true_tag = kind_word table text h.here e ∙ sym (tag_kind h.tree)

        module _ (b : n ≡ length o) where
          size_is : length (form h.tree) ≡ length (content h.tree) + 3 * ((length (content h.tree) - 1) / 65535 + 1)
          unfolding widest
          size_is = cut_length (tag h.tree) (content h.tree)

          written : slice (x + 3) y p ≡ content h.tree
          written =
              let i = inside in
              ap₂ (λ (w : List ℕ) (j : ℕ). slice (x + 3) j w) i.holds i.ends ∙ slice_sets o (x + 3) (content h.tree) (omega (arith, h.fits, size_is))

          pub field_closes : Closes p x kind y
          field_closes =
              let i = inside in
              let l = kept_low h.kept in
              let k = kind_word table text h.here e in
              let m : length (content h.tree) ≡ y - (x + 3) = omega (arith, i.ends) in
              let q : length p ≡ length o = ap length i.holds ∙ length-sets o (x + 3) (content h.tree) in
              record {
                low = omega arith;
                rises = omega (arith, i.ends);
                fits = subst (λ j. x + j + 3 * ((j - 1) / 65535 + 1) ≤ length p) m (omega (arith, h.fits, size_is));
              }

          pub field_puts : {z : ℕ} {q : List ℕ} → Puts (cut kind (slice (x + 3) y p)) x z p q → Puts (form h.tree) x z o q
          field_puts {z} {q} w =
              let c = content h.tree in
              let g : Puts (form h.tree) x z p q = puts_as (ap₂ (λ (k : ℕ) (s : List ℕ). cut k s) true_tag written) w in
              let i : sets p x (form h.tree) ≡ sets o x (form h.tree) =
              ap (λ (s : List ℕ). sets s x (form h.tree)) inside.holds ∙ sets_over o x (x + 3) (form h.tree) c (omega arith) (omega (arith, size_is)) (omega (arith, h.fits)) in
              record { ends = g.ends; holds = g.holds ∙ i }

  -- ---- a container's content: its children's fields

  pub record Opened (r : ℕ) (t : Tree) : Type 0 where
    pub trees : Forest
    pub kept : Kepts trees
    pub here : Along table text (r + 1) (get_or table (width * r + 6) 0) trees
    pub is : content t ≡ forms trees

  pub opened : {r : ℕ} {t : Tree} → Kept t → 8 ≤ kind_of t → kind_of t ≤ 9 → At table text r t → Opened r t
  unfolding content
  opened (kept_key x) l m h = absurd (omega arith)
  opened (kept_value (shaped_leaf x)) l m h = absurd (let z = scalar_low x in omega arith)
  opened (kept_value (shaped_array {ts = ts} x)) l m h = record { trees = ts; kept = elements_kept x; here = node_along table text h; is = refl }
  opened (kept_value (shaped_object {ts = ts} x)) l m h = record { trees = ts; kept = pairs_kept x; here = node_along table text h; is = refl }

  module _ {n r x kind stop : ℕ} (h : Content n r x) (e : kind ≡ get_or table (width * r + 0) 0) (l : 8 ≤ kind) (m : kind ≤ 9) (f : stop ≡ get_or table (width * r + 6) 0) where
    children : Opened r h.tree
    children = let k = kind_word table text h.here e in opened h.kept (omega arith) (omega arith) h.here

    pub content_fields : Fields n (r + 1) stop x
    content_fields =
        let o = children in
        record { trees = o.trees; kept = o.kept; here = subst (λ i. Along table text (r + 1) i o.trees) (sym f) o.here; fits = omega (arith, h.fits, ap length o.is) }

    pub content_puts : {y : ℕ} {o p : List ℕ} → ((i : Fields n (r + 1) stop x) → Puts (forms i.trees) x y o p) → Puts (content h.tree) x y o p
    unfolding content_fields
    content_puts g = puts_as (sym children.is) (g content_fields)

  -- ---- a leaf's content: the part of the text that its words tell

  pub record Texted (t : Tree) (from to : ℕ) : Type 0 where
    pub rises : from ≤ to
    pub inside : to ≤ length text
    pub is : content t ≡ slice from to text

  scalar_bare : {kind : ℕ} {s : List ℕ} → Scalar kind s → kind ≤ 3 → s ≡ []
  scalar_bare is_null h = refl
  scalar_bare is_false h = refl
  scalar_bare is_true h = refl
  scalar_bare (is_an_integer x) h = absurd (omega arith)
  scalar_bare (is_float x) h = absurd (omega arith)
  scalar_bare (is_string x) h = absurd (omega arith)
  scalar_bare (is_bytes x) h = absurd (omega arith)

  text_part : {r k a e : ℕ} {s : Decoded} → content (leaf k a e s) ≡ s.bytes → leb k TRUE ≡ false → At table text r (leaf k a e s)
      → Texted (leaf k a e s) (get_or table (width * r + 3) 0) (get_or table (width * r + 4) 0)
  text_part {r} {k} {a} {e} {s} c l h =
      let w = part_row table text l h.rows in
      let m = part_fits table text h.rows in
      record {
        rises = omega (arith, w.from_is, w.to_is);
        inside = omega (arith, w.to_is);
        is = c ∙ sym (ap (λ i. slice i (get_or table (width * r + 4) 0) text) w.from_is ∙ (ap (λ i. slice h.start i text) w.to_is ∙ sym (part_is table text h.rows)));
      }

  text_word : {r k a e : ℕ} {s : Decoded} → content (leaf k a e s) ≡ s.bytes → s.bytes ≡ [] → k ≤ 3 → At table text r (leaf k a e s)
      → Texted (leaf k a e s) (get_or table (width * r + 3) 0) (get_or table (width * r + 4) 0)
  text_word {r} {k} {a} {e} {s} c z l h =
      let w = word_row table text (le-leb k TRUE l) h.rows in
      record {
        rises = omega (arith, w.from_is, w.to_is);
        inside = omega (arith, w.to_is);
        is = c ∙ (z ∙ sym (ap (λ i. slice i (get_or table (width * r + 4) 0) text) w.from_is ∙ ap (λ i. slice 0 i text) w.to_is));
      }

  key_content : (a e : ℕ) (s : Decoded) → content (leaf KEY a e s) ≡ s.bytes
  unfolding content
  key_content a e s = refl

  pub texted : {r : ℕ} {t : Tree} → Kept t → (kind_of t ≡ 8 → ⊥) → (kind_of t ≡ 9 → ⊥) → At table text r t → Texted t (get_or table (width * r + 3) 0) (get_or table (width * r + 4) 0)
  texted (kept_key {a = a} {e = e} {s = s} x) m n h = text_part (key_content a e s) refl h
  texted {r} (kept_value (shaped_leaf {kind = kind} {a = a} {e = e} {s = s} x)) m n h = by (dec_le kind 3)
    where
      by : Dec (kind ≤ 3) → Texted (leaf kind a e s) (get_or table (width * r + 3) 0) (get_or table (width * r + 4) 0)
      by (yes l) = text_word (scalar_content kind a e s x) (scalar_bare x l) l h
      by (no l) = text_part (scalar_content kind a e s x) (lt-leb kind 3 (omega arith)) h
  texted (kept_value (shaped_array x)) m n h = absurd (m refl)
  texted (kept_value (shaped_object x)) m n h = absurd (n refl)

  -- asked of a row that is no container's
  pub record Leaf (n r x : ℕ) : Type 0 where
    pub asked : Content n r x
    pub no_array : get_or table (width * r + 0) 0 ≡ 8 → ⊥
    pub no_object : get_or table (width * r + 0) 0 ≡ 9 → ⊥

  leaf_texted : {b r x : ℕ} (h : Leaf b r x) → Texted h.asked.tree (get_or table (width * r + 3) 0) (get_or table (width * r + 4) 0)
  leaf_texted h =
      let k = kind_word table text h.asked.here refl in
      texted h.asked.kept (λ z. h.no_array (k ∙ z)) (λ z. h.no_object (k ∙ z)) h.asked.here

  module _ {b r x : ℕ} (h : Leaf b r x) where
    pub leaf_start : width * r + 3 < length table
    leaf_start = word_in table text h.asked.here 3 (omega arith)

    pub leaf_end : width * r + 4 < length table
    leaf_end = word_in table text h.asked.here 4 (omega arith)

    module _ {from to : ℕ} (f : from ≡ get_or table (width * r + 3) 0) (g : to ≡ get_or table (width * r + 4) 0) where
      pub leaf_rises : from ≤ to
      leaf_rises = let q = leaf_texted h in omega (arith, q.rises)

      pub leaf_inside : to ≤ length text
      leaf_inside = let q = leaf_texted h in omega (arith, q.inside)

      leaf_is : content h.asked.tree ≡ slice from to text
      leaf_is = (leaf_texted h).is ∙ (ap (λ i. slice i (get_or table (width * r + 4) 0) text) (sym f) ∙ ap (λ i. slice from i text) (sym g))

      pub leaf_fits : x + (to - from) ≤ b
      leaf_fits = let l = leaf_inside in omega (arith, h.asked.fits, ap length leaf_is, length-slice from to text l)

      pub leaf_puts : {y : ℕ} {o p : List ℕ} → y ≡ x + (to - from) → p ≡ sets o x (slice from to text) → Puts (content h.asked.tree) x y o p
      leaf_puts z w = let l = leaf_inside in puts_as (sym leaf_is) (record { ends = omega (arith, length-slice from to text l); holds = w })

  -- ---- a content as code finds it: an array's, an object's, a leaf's; and how far the rows below are fewer

  module _ {n r x : ℕ} (h : Content n r x) where
    pub content_kind : width * r + 0 < length table
    content_kind = word_in table text h.here 0 (omega arith)

    pub content_next : width * r + 6 < length table
    content_next = word_in table text h.here 6 (omega arith)

    module _ {kind : ℕ} (e : kind ≡ get_or table (width * r + 0) 0) where
      pub content_leaf : (kind ≡ 8 → ⊥) → (kind ≡ 9 → ⊥) → Leaf n r x
      content_leaf a b = record { asked = h; no_array = λ z. a (e ∙ z); no_object = λ z. b (e ∙ z) }

      pub leaf_content : {y : ℕ} {o p : List ℕ} → (kind ≡ 8 → ⊥) → (kind ≡ 9 → ⊥) → ((i : Leaf n r x) → Puts (content i.asked.tree) x y o p) → Puts (content h.tree) x y o p
      unfolding content_leaf
      leaf_content a b f = f (content_leaf a b)

      module _ {stop : ℕ} (f : stop ≡ get_or table (width * r + 6) 0) where
        pub container_fields : Container kind → Fields n (r + 1) stop x
        container_fields z = let b = container_kind z in content_fields h e b.0 b.1 f

        pub container_puts : {y : ℕ} {o p : List ℕ} (z : Container kind) → ((i : Fields n (r + 1) stop x) → Puts (forms i.trees) x y o p) → Puts (content h.tree) x y o p
        container_puts z g = let b = container_kind z in content_puts h e b.0 b.1 f g

    pub fewer_fields : {stop t : ℕ} → t ≡ 3 * (get_or table (width * r + 6) 0 - r) → stop ≡ get_or table (width * r + 6) 0 → 3 * (stop - (r + 1)) + 2 < t
    fewer_fields z f = let k = next_at table text h.tree h.here.rows in omega (arith, size_some h.tree)

  -- ---- children's fields, one behind another

  -- the first of rows that are left
  pub record Turn (at stop : ℕ) (ts : Forest) : Type 0 where
    pub tree : Tree
    pub rest : Forest
    pub is : ts ≡ more tree rest
    pub kept : Kept tree
    pub kepts : Kepts rest
    pub here : At table text at tree
    pub behind : Along table text (get_or table (width * at + 6) 0) stop rest

  pub turn : {at stop : ℕ} (ts : Forest) → Kepts ts → Along table text at stop ts → at < stop → Turn at stop ts
  unfolding sizes
  turn none kepts_none h l = absurd (omega (arith, h.ends))
  turn {at} {stop} (more t ts) (kepts_more x xs) h l =
      let n = next_at table text t (first_at table text h.rows) in
      record {
        tree = t;
        rest = ts;
        is = refl;
        kept = x;
        kepts = xs;
        here = record { parent = h.parent; start = h.start; rows = first_at table text h.rows; fits = omega (arith, h.ends, h.fits) };
        behind =
            record {
              parent = h.parent;
              start = h.start + length (text_of t);
              rows = subst (λ i. ForestAt table text i h.parent (h.start + length (text_of t)) ts) (sym n) (rest_at table text h.rows);
              ends = omega (arith, h.ends);
              fits = h.fits;
            };
      }

  -- what is left of the trees ts, of which some are written from x up to y
  pub record Left (x stop : ℕ) (ts : Forest) (at y : ℕ) (out out' : List ℕ) : Type 0 where
    pub trees : Forest
    pub kept : Kepts trees
    pub here : Along table text at stop trees
    pub bytes : List ℕ
    pub is : forms ts ≡ bytes ++ forms trees
    pub puts : Puts bytes x y out out'

  pub left_start : {n from stop x : ℕ} {out : List ℕ} (h : Fields n from stop x) → Left x stop h.trees from x out out
  left_start h = record { trees = h.trees; kept = h.kept; here = h.here; bytes = []; is = refl; puts = puts_none }

  -- nothing is left
  pub left_end : {x stop at y : ℕ} {ts : Forest} {out out' : List ℕ} → Left x stop ts at y out out' → stop ≤ at → Puts (forms ts) x y out out'
  unfolding content
  left_end {stop = stop} {at = at} h l = puts_as (sym (h.is ∙ (ap (λ w. h.bytes ++ w) (by h.trees h.here) ∙ append-nil h.bytes))) h.puts
    where
      by : (us : Forest) → Along table text at stop us → forms us ≡ []
      by none a = refl
      by (more t us) a = absurd (omega (arith, a.ends, sizes_some t us))

  module _ {b x stop at y : ℕ} {ts : Forest} {out out' : List ℕ} (fits : x + length (forms ts) ≤ b) (h : Left x stop ts at y out out') (l : at < stop) where
    one : Turn at stop h.trees
    one = turn h.trees h.kept h.here l

    all_is : forms ts ≡ h.bytes ++ (form one.tree ++ forms one.rest)
    unfolding content
    all_is = h.is ∙ ap (λ us. h.bytes ++ forms us) one.is

    pub turn_field : {n : ℕ} → n ≡ b → Field n at y
    turn_field q =
        let w = form one.tree in
        let u = forms one.rest in
        let m : length (forms ts) ≡ length h.bytes + (length w + length u) = ap length all_is ∙ omega (arith, length-append h.bytes (w ++ u), length-append w u) in
        record { tree = one.tree; kept = one.kept; here = one.here; fits = omega (arith, h.puts.ends) }

    pub turn_word : (i : ℕ) → i ≤ 8 → width * at + i < length table
    turn_word i m = word_in table text one.here i m

    pub turn_ahead : {n : ℕ} → n ≡ get_or table (width * at + 6) 0 → (at < n) × (n ≤ stop)
    turn_ahead e =
        let k = next_at table text one.tree one.here.rows in
        (omega (arith, size_some one.tree), omega (arith, one.behind.ends))

    pub turn_fewer : {from t : ℕ} → t ≡ 3 * (stop - from) + 2 → from ≤ at → 3 * (get_or table (width * at + 6) 0 - at) + 1 < t
    turn_fewer z m = let a = turn_ahead refl in omega (arith, a.0, a.1)

    pub turn_again : {n z next : ℕ} {new : List ℕ} → n ≡ b → ((i : Field n at y) → Puts (form i.tree) y z out' new) → next ≡ get_or table (width * at + 6) 0 → Left x stop ts next z out new
    unfolding turn_field
    turn_again q p f =
        let w = form one.tree in
        let u = forms one.rest in
        record {
          trees = one.rest;
          kept = one.kepts;
          here = subst (λ i. Along table text i stop one.rest) (sym f) one.behind;
          bytes = h.bytes ++ w;
          is = all_is ∙ sym (append_assoc h.bytes w u);
          puts = puts_then h.puts (p (turn_field q));
        }

-- found by what the code has read
pub ruleset leafing = (leaf_start, leaf_end, leaf_rises, leaf_inside, leaf_fits, leaf_puts)

pub ruleset contents = (content_kind, content_next, content_leaf, leaf_content, container_fields, container_puts, fewer_fields)

pub ruleset fielding = (field_kind, field_fewer, field_content, field_closes, field_puts)
