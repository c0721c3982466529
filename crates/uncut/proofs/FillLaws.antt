-- Laws of rooms filled from stored bytes, as `search` takes them. Assumes nothing.
use mathlib.Core.Path.{◌≡◌, refl, sym, ap, ◌∙◌}
use mathlib.Core.List.{List}
use mathlib.Core.Bool.{Bool, true, false}
use Prim.Native.Nat.{ℕ, ◌+◌, ◌*◌, ◌-◌, ◌/◌, ◌≤◌, ◌<◌}
use native.Mathlib.Omega.{arith}
use lib.ListN.{length, get_or}
use lib.Seq.{sets, slice}
use lib.Dec.{eqb}
use mir.Syntax.{w32, w64}
use mir.Val.{Fits}
use borrow.Author.Rules.{rules}
use borrow.Author.Tests.{eq-eqb, ne_eqb}
use Rattle.exact.specs.Tells.{Tells, tells_yes, tells_no}
use Rattle.notation.specs.Class.{pick}
use Rattle.language.specs.Tree.{Forest, none, more, unlined, width, row_list, size, sizes, text_of}
use Rattle.language.specs.Lent.{lent}
use Rattle.rooms.specs.Contract.{ample, Small}
use Rattle.rooms.specs.declared.Words.{Words}
use Rattle.stored.specs.Old.{form}
use Rattle.uncut.specs.Short.{longest}
use Rattle.fields.specs.Rows.{size_some}
use Rattle.uncut.specs.Heads.{end_at, Behind, end_after}
use Rattle.uncut.specs.Filling.{trees, members_of, Placing, Container, FillLeaf, FillNode, FillAt, FillAll, FillRoom, Fills, FillsAll, end_is, fill_bare, leaf_text, fill_text}
use Rattle.uncut.specs.Children.{fill_texts, fill_node, Left, left_fill, left_room, left_ahead, left_more}

-- ---- a row in its place

module _ (n b a e r p from to next : ℕ) (h : Placing n b a e r p from to next) where
  pub placing_inside : a < n
  placing_inside = h.inside

  pub placing_parent : Fits w32 p
  placing_parent = omega (arith, h.parent)

  pub placing_first : Fits w64 (b + a)
  placing_first = omega (arith, h.small.first_fits)

  pub placing_after : Fits w64 (b + e)
  placing_after = omega (arith, h.small.after_fits)

  pub placing_small : Small (b + a) (b + e) from to next
  placing_small = h.small

  pub placing_row : r < ample
  placing_row = h.row

pub place_told : (stored table table' : List ℕ) (b a e r p from to next k : ℕ) (w : Words) → k ≡ get_or stored a 0 → w ≡ record { kind = k; first = b + a; after = b + e; from = from; to = to; parent = p; next = next }
    → table' ≡ sets table (width * r) (row_list unlined w.kind w.first w.after w.from w.to w.parent w.next)
    → table' ≡ sets table (width * r) (row_list unlined (get_or stored a 0) (b + a) (b + e) from to p next)
place_told stored table table' b a e r p from to next k w f g h = h ∙ (ap (λ (v : Words). sets table (width * r) (row_list unlined v.kind v.first v.after v.from v.to v.parent v.next)) g ∙ ap (λ (i : ℕ). sets table (width * r) (row_list unlined i (b + a) (b + e) from to p next)) f)

pub ruleset placing = (placing_inside, placing_parent, placing_first, placing_after, placing_small, placing_row, place_told, rules)

-- ---- the count of members

pub members_pairs : (k n : ℕ) → k ≡ 9 → n / 2 ≡ members_of k n
members_pairs k n h = sym (ap (λ (b : Bool). pick b (n / 2) n) (eq-eqb k 9 h))

pub members_all : (k n : ℕ) → (k ≡ 9 → ⊥) → n ≡ members_of k n
members_all k n h = sym (ap (λ (b : Bool). pick b (n / 2) n) (ne_eqb k 9 h))

pub ruleset membering = (members_pairs, members_all, rules)

-- ---- a field

module _ (stored : List ℕ) (b a r p x : ℕ) (h : FillAt stored b a r p x) where
  pub fill_begins : a + 3 ≤ length stored
  fill_begins = omega (arith, h.inside)

  pub fill_inside : a < length stored
  fill_inside = omega (arith, h.inside)

  pub fill_few : a ≤ longest
  fill_few = omega (arith, h.few)

  pub fill_head : Fits w64 (a + 3)
  fill_head = omega (arith, h.few)

  pub fill_row : Fits w64 (r + 1)
  fill_row = omega (arith, h.few_rows)

-- ---- whether it is a container's

module _ (stored : List ℕ) (a : ℕ) where
  pub below_containers : get_or stored a 0 < 8 → Tells (Container stored a) false
  below_containers l = λ c. omega (arith, c.least)

  pub above_containers : 9 < get_or stored a 0 → Tells (Container stored a) false
  above_containers l = λ c. omega (arith, c.most)

  pub among_containers : 8 ≤ get_or stored a 0 → get_or stored a 0 ≤ 9 → Tells (Container stored a) true
  among_containers l m = record { least = l; most = m }

pub ruleset telling_containers = (below_containers, above_containers, among_containers, rules)

-- ---- a leaf

module _ (stored : List ℕ) (w b a e r p x : ℕ) (g : FillLeaf stored w b a e r p x) where
  ends : e ≡ a + length (form g.asked.tree)
  ends = end_is stored g.asked g.ends

  no_array : get_or stored a 0 ≡ 8 → ⊥
  no_array z = g.other (record { least = omega arith; most = omega arith })

  no_object : get_or stored a 0 ≡ 9 → ⊥
  no_object z = g.other (record { least = omega arith; most = omega arith })

  text : length (text_of g.asked.tree) ≡ e - (a + 3)
  text = leaf_text stored g.asked ends no_array no_object

  pub leaf_inside : a < length stored
  leaf_inside = omega (arith, g.asked.inside)

  pub leaf_head : Fits w64 (a + 3)
  leaf_head = omega (arith, g.asked.few)

  pub leaf_row : Fits w64 (r + 1)
  leaf_row = omega (arith, g.asked.few_rows)

  pub leaf_rises : a + 3 ≤ e
  leaf_rises = omega (arith, ends)

  pub leaf_ends : e ≤ length stored
  leaf_ends = omega (arith, ends, g.asked.inside)

  pub leaf_end_fits : Fits w64 (x + (e - (a + 3)))
  leaf_end_fits = omega (arith, text, g.asked.few_text)

  pub leaf_room : x + (e - (a + 3)) ≤ w
  leaf_room = omega (arith, g.room, text)

  pub bare_placing : Placing (length stored) b a e r p 0 0 (r + 1)
  bare_placing =
      let h = g.asked in
      record {
        inside = omega (arith, h.inside);
        row = omega (arith, h.few_rows);
        parent = omega (arith, h.parent);
        small = record { first_fits = omega (arith, h.few_bytes); after_fits = omega (arith, ends, h.few_bytes); from_fits = omega arith; to_fits = omega arith; next_fits = omega (arith, h.few_rows) };
      }

  pub text_placing : Placing (length stored) b a e r p x (x + (e - (a + 3))) (r + 1)
  text_placing =
      let h = g.asked in
      record {
        inside = omega (arith, h.inside);
        row = omega (arith, h.few_rows);
        parent = omega (arith, h.parent);
        small = record { first_fits = omega (arith, h.few_bytes); after_fits = omega (arith, ends, h.few_bytes); from_fits = omega (arith, h.few_text); to_fits = omega (arith, text, h.few_text); next_fits = omega (arith, h.few_rows) };
      }

  module _ (h : FillAt stored b a r p x) (table table' text : List ℕ) where
    pub bare_told : get_or stored a 0 < 4 → table' ≡ sets table (width * r) (row_list unlined (get_or stored a 0) (b + a) (b + e) 0 0 p (r + 1)) → Fills h.tree (b + a) r p x (r + 1) x table table' text text
    bare_told l v = fill_bare stored h (end_is stored h g.ends) l v

    pub text_told : 4 ≤ get_or stored a 0 → (text' : List ℕ) → table' ≡ sets table (width * r) (row_list unlined (get_or stored a 0) (b + a) (b + e) x (x + (e - (a + 3))) p (r + 1))
        → text' ≡ sets text x (slice (a + 3) e stored) → Fills h.tree (b + a) r p x (r + 1) (x + (e - (a + 3))) table table' text text'
    text_told l text' u v = fill_text stored h (end_is stored h g.ends) refl l no_array no_object u v

pub ruleset leaf_filling = (leaf_inside, leaf_head, leaf_row, leaf_rises, leaf_ends, leaf_end_fits, leaf_room, bare_placing, text_placing, bare_told, text_told, rules)

-- ---- a container

trees_few : (ts : Forest) → trees ts ≤ sizes ts
unfolding trees size
trees_few none = omega arith
trees_few (more t ts) = let h = trees_few ts in omega (arith, size_some t)

members_few : (k n : ℕ) → members_of k n ≤ n
members_few k n = by (eqb k 9)
  where
    by : (b : Bool) → pick b (n / 2) n ≤ n
    by true = omega arith
    by false = omega arith

module _ (stored : List ℕ) (w b a e r p x : ℕ) (g : FillNode stored w b a e r p x) where
  pub node_asked : FillAt stored b a r p x
  node_asked = g.asked

  pub node_children : FillRoom stored w b (a + 3) e (r + 1) r x
  node_children = fill_texts stored g.asked g.container.least g.container.most (end_is stored g.asked g.ends) g.room

  pub node_fewer : (t : ℕ) → 2 * (e - a) ≡ t → 2 * (e - (a + 3)) + 1 < t
  node_fewer t z = omega (arith, g.ends.is, end_after stored a)

  module _ (r' x' n : ℕ) (table table₁ text text' : List ℕ) (q : (i : FillAll stored b (a + 3) e (r + 1) r x) → FillsAll i.trees (b + (a + 3)) (r + 1) r x r' x' n table table₁ text text') (c : ℕ) (d : c ≡ members_of (get_or stored a 0) n) where
    pub node_placing : Placing (length stored) b a e r p 0 c r'
    node_placing =
        let h = g.asked in
        let i = node_children.asked in
        let z = q i in
        let m = trees_few i.trees in
        let s = members_few (get_or stored a 0) n in
        record {
          inside = omega (arith, h.inside);
          row = omega (arith, h.few_rows);
          parent = omega (arith, h.parent);
          small =
              record {
                first_fits = omega (arith, h.few_bytes);
                after_fits = omega (arith, i.few_bytes);
                from_fits = omega arith;
                to_fits = omega (arith, i.few_rows, z.count);
                next_fits = omega (arith, i.few_rows, z.row);
              };
        }

    pub node_told : (h : FillAt stored b a r p x) (table' : List ℕ) → table' ≡ sets table₁ (width * r) (row_list unlined (get_or stored a 0) (b + a) (b + e) 0 c p r') → Fills h.tree (b + a) r p x r' x' table table' text text'
    node_told h table' w = fill_node stored h g.container.least g.container.most (end_is stored h g.ends) q (w ∙ ap (λ (i : ℕ). sets table₁ (width * r) (row_list unlined (get_or stored a 0) (b + a) (b + e) 0 i p r')) d)

pub ruleset node_filling = (node_asked, fill_inside, fill_head, fill_row, node_children, node_fewer, node_placing, node_told, rules)

-- ---- the loop over the children

module _ {stored : List ℕ} {b a e r p x at row y n : ℕ} {table table' text text' : List ℕ} (g : FillRoom stored (length text) b a e r p x) (h : (i : FillAll stored b a e r p x) → Left stored i.trees b a e r p x at row y n table table' text text')
    (f : length text' ≡ length text) where
  left : Left stored g.asked.trees b a e r p x at row y n table table' text text'
  left = h g.asked

  pub left_count : n ≤ lent
  left_count = let i = g.asked in omega (arith, left.counts_are, trees_few i.trees, i.few_rows)

  pub left_row : row ≤ lent
  left_row = let i = left.rest in omega (arith, i.few_rows)

  module _ (l : at < e) where
    pub left_asked : FillAt stored b at row p y
    left_asked = left_fill stored left l

    pub left_falls : (end : ℕ) → end ≡ end_at stored at → (at < end) × (end ≤ e)
    left_falls end z = left_ahead stored left l end z

    module _ {end : ℕ} (z : Behind stored at end) {c : Bool} (t : Tells (Container stored at) c) where
      pub left_node : c ≡ true → FillNode stored (length text') b at end row p y
      left_node u = record { asked = left_fill stored left l; ends = z; container = tells_yes c u t; room = let m = left_room stored left l g.room in omega (arith, f) }

      pub left_leaf : c ≡ false → FillLeaf stored (length text') b at end row p y
      left_leaf u = record { asked = left_fill stored left l; ends = z; other = tells_no c u t; room = let m = left_room stored left l g.room in omega (arith, f) }

    -- .. the next, by which way ever it was filled
    pub left_again : {end row₁ y₁ row₂ y₂ : ℕ} {table₁ table₂ text₁ text₂ : List ℕ} → Behind stored at end → ((i : FillAt stored b at row p y) → Fills i.tree (b + at) row p y row₁ y₁ table' table₁ text' text₁) → table₂ ≡ table₁ → text₂ ≡ text₁ → row₂ ≡ row₁ → y₂ ≡ y₁
        → (i : FillAll stored b a e r p x) → Left stored i.trees b a e r p x end row₂ y₂ (n + 1) table table₂ text text₂
    left_again z q u v c d i = rw (u, v, c, d) (left_more stored (h i) l z.is q)
