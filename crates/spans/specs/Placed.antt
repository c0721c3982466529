-- SPANS IN THEIR PLACE: each child's span lies inside its parent's, and siblings' spans are disjoint and in order (01, What the reader takes and gives). Assumes nothing.
use Rattle.std.specs.Prelude.{List, [], ◌∷◌, ℕ, ◌≤◌, ◌<◌}
use Rattle.std.proofs.Common.{arith}
use Rattle.language.specs.Tree.{Decoded, Tree, leaf, node, Forest, none, more, forest, first, after, end_of}

-- Placed: a span is not empty, and a node's children lie one after another in its span. Along: trees lie so from the byte a up to the byte e
mutual
  pub data Placed : Tree → Type 0 where
    placed_leaf : {k a e : ℕ} {s : Decoded} → a < e → Placed (leaf k a e s)
    placed_node : {k a e c : ℕ} {ts : Forest} → a < e → Along a ts e → Placed (node k a e c ts)

  pub data Along : ℕ → Forest → ℕ → Type 0 where
    along_none : {a e : ℕ} → a ≤ e → Along a none e
    along_more : {a e : ℕ} {t : Tree} {ts : Forest} → a ≤ first t → Placed t → Along (after t) ts e → Along a (more t ts) e

pub span_some : {t : Tree} → Placed t → first t < after t
span_some (placed_leaf h) = h
span_some (placed_node h l) = h

pub along_le : {a e : ℕ} {ts : Forest} → Along a ts e → a ≤ e
along_le (along_none h) = h
along_le (along_more b p l) = let x = span_some p in let y = along_le l in omega arith

pub along_wide : {a b e f : ℕ} {ts : Forest} → a ≤ b → e ≤ f → Along b ts e → Along a ts f
along_wide {a} {f = f} h k (along_none l) = along_none {a = a} {e = f} (omega arith)
along_wide {a} {b} h k (along_more {t = t} x p l) =
    let y : a ≤ first t = omega arith in
    let z : after t ≤ after t = omega arith in
    along_more y p (along_wide z k l)

-- trees that lie from a on lie up to the end of the last one
pub along_end : {a e : ℕ} (ts : List Tree) → Along a (forest ts) e → Along a (forest ts) (end_of a ts)
along_end {a} [] (along_none h) = along_none {a = a} {e = a} (omega arith)
along_end (t ∷ ts) (along_more b p l) = along_more b p (along_end ts l)

pub end_le : {a e : ℕ} (ts : List Tree) → Along a (forest ts) e → end_of a ts ≤ e
end_le [] (along_none h) = h
end_le (t ∷ ts) (along_more b p l) = end_le ts l

-- u is among these trees; u is among them, and w behind it
pub data Among (u : Tree) : Forest → Type 0 where
  among_first : {ts : Forest} → Among u (more u ts)
  among_later : {t : Tree} {ts : Forest} → Among u ts → Among u (more t ts)

pub data Ordered (u w : Tree) : Forest → Type 0 where
  ordered_first : {ts : Forest} → Among w ts → Ordered u w (more u ts)
  ordered_later : {t : Tree} {ts : Forest} → Ordered u w ts → Ordered u w (more t ts)

-- u is a child of t; u and w are children of t, w behind u; u is t, or stands anywhere below it
pub data Child (u : Tree) : Tree → Type 0 where
  child : {k a e c : ℕ} {ts : Forest} → Among u ts → Child u (node k a e c ts)

pub data Siblings (u w : Tree) : Tree → Type 0 where
  siblings : {k a e c : ℕ} {ts : Forest} → Ordered u w ts → Siblings u w (node k a e c ts)

pub data Within (u : Tree) : Tree → Type 0 where
  itself : Within u u
  below : {t p : Tree} → Child t p → Within u t → Within u p

-- u's span lies inside t's
pub record Inside (t u : Tree) : Type 0 where
  pub begins : first t ≤ first u
  pub ends : after u ≤ after t

among_placed : {a e : ℕ} {u : Tree} {ts : Forest} → Along a ts e → Among u ts → Placed u
among_placed {u = u} (along_none {a = a} {e = e} _) x6 = elim x6 [ ]
among_placed (along_more b p l) among_first = p
among_placed (along_more b p l) (among_later m) = among_placed l m

among_begins : {a e : ℕ} {u : Tree} {ts : Forest} → Along a ts e → Among u ts → a ≤ first u
among_begins {u = u} (along_none {a = a} {e = e} _) x6 = elim x6 [ ]
among_begins (along_more b p l) among_first = b
among_begins (along_more b p l) (among_later m) = let x = span_some p in let y = among_begins l m in omega arith

among_ends : {a e : ℕ} {u : Tree} {ts : Forest} → Along a ts e → Among u ts → after u ≤ e
among_ends {u = u} (along_none {a = a} {e = e} _) x6 = elim x6 [ ]
among_ends (along_more b p l) among_first = along_le l
among_ends (along_more b p l) (among_later m) = among_ends l m

among_ordered : {a e : ℕ} {u w : Tree} {ts : Forest} → Along a ts e → Ordered u w ts → after u ≤ first w
among_ordered {u = u} {w = w} (along_none {a = a} {e = e} _) x6 = elim x6 [ ]
among_ordered (along_more b p l) (ordered_first m) = among_begins l m
among_ordered (along_more b p l) (ordered_later m) = among_ordered l m

pub child_placed : {t u : Tree} → Placed t → Child u t → Placed u
child_placed {u = u} (placed_leaf {k = k} {a = a} {e = e} {s = s} _) x5 = elim x5 [ ]
child_placed (placed_node h l) (child m) = among_placed l m

pub child_inside : {t u : Tree} → Placed t → Child u t → Inside t u
child_inside {u = u} (placed_leaf {k = k} {a = a} {e = e} {s = s} _) x5 = elim x5 [ ]
child_inside (placed_node h l) (child m) = record { begins = among_begins l m; ends = among_ends l m }

pub siblings_ordered : {t u w : Tree} → Placed t → Siblings u w t → after u ≤ first w
siblings_ordered {u = u} {w = w} (placed_leaf {k = k} {a = a} {e = e} {s = s} _) x5 = elim x5 [ ]
siblings_ordered (placed_node h l) (siblings m) = among_ordered l m

pub within_placed : {u t : Tree} → Placed t → Within u t → Placed u
within_placed p itself = p
within_placed p (below c w) = within_placed (child_placed p c) w

pub within_inside : {u t : Tree} → Placed t → Within u t → Inside t u
within_inside p itself = record { begins = omega arith; ends = omega arith }
within_inside p (below c w) =
    let x = child_inside p c in
    let y = within_inside (child_placed p c) w in
    record { begins = omega (arith, x.begins, y.begins); ends = omega (arith, x.ends, y.ends) }
