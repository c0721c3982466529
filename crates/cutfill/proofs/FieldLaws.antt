-- Laws of a field that is cut, as `search` takes them. Assumes nothing.
use mathlib.Core.Path.{◌≡◌, ap, ◌∙◌}
use mathlib.Core.List.{List}
use mathlib.Core.Bool.{Bool, true, false}
use Prim.Native.Nat.{ℕ, ◌+◌, ◌-◌, ◌*◌, ◌/◌, ◌≤◌, ◌<◌}
use native.Mathlib.Omega.{arith}
use lib.ListN.{take}
use lib.Seq.{sets}
use lib.Dec.{eqb}
use mir.Syntax.{w64}
use mir.Val.{Fits}
use borrow.Author.Rules.{rules}
use Rattle.notation.specs.Class.{pick}
use Rattle.language.specs.Tree.{unlined, width, row_list}
use Rattle.language.specs.Lent.{lent}
use Rattle.views.specs.Views.{viewed, place_of, Content, Deeper}
use Rattle.uncut.specs.Filling.{members_of}
use Rattle.cutfill.specs.Placed.{places}
use Rattle.cutfill.specs.Filling.{Rowed, FillCut, FillRoom, FillOne, FillLeaf, FillNode, Fills, Steps}
use Rattle.cutfill.specs.Fields.{one_end, one_next, one_low, one_few, one_rowed, one_content, leaf_few, bare_steps, text_steps, inner_room, inner_few, node_steps}

module _ (stored starts : List ℕ) (d at k n end r p x : ℕ) (h : FillOne stored starts d at k n end r p x) where
  next_fits : Fits w64 (r + 1)
  next_fits = omega (arith, one_next stored starts d at k n end r p x h)

  inner_fits : Fits w64 (d + 1)
  inner_fits = omega (arith, one_low stored starts d at k n end r p x h)

  opens : (d < 34) × (at ≤ lent)
  opens = let e = one_end stored starts d at k n end r p x h in (omega (arith, one_low stored starts d at k n end r p x h), omega (arith, e.0, one_few stored starts d at k n end r p x h))

-- ---- a leaf

module _ (stored starts : List ℕ) (d w at k n end r p x : ℕ) (g : FillLeaf stored starts d w at k n end r p x) where
  pub leaf_next : Fits w64 (r + 1)
  leaf_next = next_fits stored starts d at k n end r p x g.one

  pub leaf_inner : Fits w64 (d + 1)
  leaf_inner = inner_fits stored starts d at k n end r p x g.one

  pub leaf_opens : (d < 34) × (at ≤ lent)
  leaf_opens = opens stored starts d at k n end r p x g.one

  few : (x + n ≤ w) × (x + n ≤ lent)
  few = leaf_few stored starts d at k n end r p x g.one g.other g.room

  pub leaf_sum : Fits w64 (x + n)
  leaf_sum = let f = few in omega (arith, f.1)

  pub leaf_bare_row : Rowed starts d at end r k p 0 0 (r + 1)
  leaf_bare_row = one_rowed stored starts d at k n end r p x g.one (omega arith) (omega arith) (omega (arith, one_next stored starts d at k n end r p x g.one))

  pub leaf_text_row : Rowed starts d at end r k p x (x + n) (r + 1)
  leaf_text_row = let f = few in one_rowed stored starts d at k n end r p x g.one (omega (arith, f.1)) (omega (arith, f.1)) (omega (arith, one_next stored starts d at k n end r p x g.one))

  pub leaf_content : {new : List ℕ} → Deeper starts d at new → Content stored new (d + 1) n
  leaf_content q = one_content stored starts d at k n end r p x g.one q

  pub leaf_room : x + n ≤ w
  leaf_room = let f = few in f.0

  module _ (h : FillOne stored starts d at k n end r p x) (table table' : List ℕ) where
    pub leaf_bare_told : (text : List ℕ) → k < 4 → table' ≡ sets table (width * r) (row_list unlined k (place_of starts d at) (place_of starts d (end - 1) + 1) 0 0 p (r + 1))
        → Steps starts d h.asked.trees at r p x end (r + 1) x 1 table table' text text
    leaf_bare_told text l e = bare_steps stored starts d at k n end r p x h g.other l e

    pub leaf_text_told : (text text' new : List ℕ) → 4 ≤ k → table' ≡ sets table (width * r) (row_list unlined k (place_of starts d at) (place_of starts d (end - 1) + 1) x (x + n) p (r + 1))
        → Deeper starts d at new → text' ≡ sets text x (take n (viewed stored new (d + 1))) → Steps starts d h.asked.trees at r p x end (r + 1) (x + n) 1 table table' text text'
    leaf_text_told text text' new l e q s = text_steps stored starts d at k n end r p x h g.other l e q s

pub ruleset leaf_filling = (leaf_next, leaf_inner, leaf_opens, leaf_sum, leaf_bare_row, leaf_text_row, leaf_content, leaf_room, leaf_bare_told, leaf_text_told, rules)

-- ---- a container

members_few : (k n : ℕ) → members_of k n ≤ n
members_few k n = by (eqb k 9)
  where
    by : (b : Bool) → pick b (n / 2) n ≤ n
    by true = omega arith
    by false = omega arith

module _ (stored starts : List ℕ) (d w at k n end r p x : ℕ) (g : FillNode stored starts d w at k n end r p x) where
  pub node_next : Fits w64 (r + 1)
  node_next = next_fits stored starts d at k n end r p x g.one

  pub node_inner : Fits w64 (d + 1)
  node_inner = inner_fits stored starts d at k n end r p x g.one

  pub node_opens : (d < 34) × (at ≤ lent)
  node_opens = opens stored starts d at k n end r p x g.one

  pub node_fewer : (t : ℕ) → 3 * (end - at) ≡ t → 3 * n + 2 < t
  node_fewer t e = let f = one_end stored starts d at k n end r p x g.one in omega (arith, f.2)

  module _ {new : List ℕ} (q : Deeper starts d at new) where
    pub node_children : FillRoom stored new (d + 1) w 0 n (r + 1) r x
    node_children = inner_room stored starts d at k n end r p x g.one g.container q g.room

    pub node_content : Content stored new (d + 1) n
    node_content = let h = node_children in record { low = omega (arith, h.asked.deep); few = h.asked.few; fits = h.asked.inside }

    module _ {r' x' m : ℕ} {table table₁ text text' : List ℕ} (f : (i : FillCut stored new (d + 1) 0 n (r + 1) r x) → Fills i.trees (places new (d + 1) 0) (r + 1) r x r' x' m table table₁ text text') {c : ℕ} (z : c ≡ members_of k m) where
      pub node_row : Rowed starts d at end r k p 0 c r'
      node_row =
          let b = inner_few stored starts d at k n end r p x g.one g.container q f in
          let s = members_few k m in
          one_rowed stored starts d at k n end r p x g.one (omega arith) (omega (arith, b.0)) (omega (arith, b.1))

      pub node_told : (h : FillOne stored starts d at k n end r p x) {table' : List ℕ} → table' ≡ sets table₁ (width * r) (row_list unlined k (place_of starts d at) (place_of starts d (end - 1) + 1) 0 c p r')
          → Steps starts d h.asked.trees at r p x end r' x' 1 table table' text text'
      node_told h e =
          node_steps stored starts d at k n end r p x h g.container q f
          (e ∙ ap (λ (i : ℕ). sets table₁ (width * r) (row_list unlined k (place_of starts d at) (place_of starts d (end - 1) + 1) 0 i p r')) z)

pub ruleset node_filling = (node_next, node_inner, rules)
