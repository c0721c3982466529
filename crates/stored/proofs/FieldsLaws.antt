-- THE BYTES OF A SPAN ARE THE ROW'S FIELD (`span_field`): of a tree that stored bytes hold, each span runs "from a field's first tag to the end of its last byte", and between them stand the field's bytes, one
use Rattle.std.specs.Prelude.{◌≡◌, List, ◌++◌, ℕ, ◌+◌, ◌-◌, ◌*◌, ◌/◌, ◌<◌, length, get_or}
use Rattle.std.proofs.Math.Path.{refl}
use Rattle.std.proofs.Common.{sym, ap, subst, ◌∙◌, length-append, get_or-append-add}
use native.Mathlib.Omega.{arith}
use Rattle.std.proofs.Math.ListN.{get_or-append}
use Rattle.language.specs.Tree.{Tree, leaf, node, Forest, none, more, first, after}
use Rattle.spans.specs.Placed.{Among, among_first, among_later, Child, child, Within, itself, below}
use Rattle.stored.specs.Form.{head, widest, cut, content, forms, form, inside, placed, placeds, loaded}
use Rattle.stored.specs.Parts.{inside_rises}
use Rattle.stored.proofs.PartsLaws.{cut_byte, inside_in}
use Rattle.stored.specs.Unspanned.{placed_like, form_alike}
use Rattle.stored.specs.Fields.{Around, FieldAt, SpanIs, Stands, around_file, around_inside, around_left, around_right, inside_apart, placed_after, placed_first}

module _ (stored : List ℕ) where
  stands_left : {at : ℕ → ℕ} (s u : List ℕ) → (Stands stored) at (s ++ u) → (Stands stored) at s
  stands_left s u x =
      record {
        in_them = λ i l. x.in_them i (omega (arith, length-append s u));
        byte = λ i l. x.byte i (omega (arith, length-append s u)) ∙ get_or-append s u 0 i l;
        apart = λ i j l m. x.apart i j l (omega (arith, length-append s u));
      }

  stands_right : {at : ℕ → ℕ} (s u : List ℕ) → (Stands stored) at (s ++ u) → (Stands stored) (λ i. at (length s + i)) u
  stands_right {at} s u x =
      record {
        in_them = λ i l. x.in_them (length s + i) (omega (arith, length-append s u));
        byte = λ i l. x.byte (length s + i) (omega (arith, length-append s u)) ∙ get_or-append-add s u i 0;
        apart = λ i j l m. let g = x.apart (length s + i) (length s + j) (omega arith) (omega (arith, length-append s u)) in record { heads = g.heads; far = g.far ∙ omega arith };
      }

  stands_inside : {at : ℕ → ℕ} (k : ℕ) (c : List ℕ) → (Stands stored) at (cut k c) → (Stands stored) (λ i. at (inside i)) c
  stands_inside {at} k c x =
      record {
        in_them = λ i l. x.in_them (inside i) (inside_in k c i l);
        byte = λ i l. x.byte (inside i) (inside_in k c i l) ∙ cut_byte k c i l;
        apart = λ i j l m. (inside_apart stored) i j l (x.apart (inside i) (inside j) (inside_rises i j l) (inside_in k c j m));
      }

  pub around_stands : {at : ℕ → ℕ} {s : List ℕ} → (Around stored) at s → (Stands stored) at s
  around_stands around_file = record { in_them = λ i l. l; byte = λ i l. refl; apart = λ i j l m. record { heads = 0; far = omega arith } }
  around_stands (around_inside k c x) = stands_inside k c (around_stands x)
  around_stands (around_left s u x) = stands_left s u (around_stands x)
  around_stands (around_right s u x) = stands_right s u (around_stands x)

  children : {at : ℕ → ℕ} {u : Tree} (ts : Forest) → (Around stored) at (forms ts) → Among u (placeds at ts) → (FieldAt stored) u
  unfolding content placed
  children none x m = elim m [ ]
  children {at} (more t ts) x among_first = record { tree = t; at = at; around = around_left (form t) (forms ts) x; is = refl }
  children {at} (more t ts) x (among_later m) = children {at = λ i. at (length (form t) + i)} ts (around_right (form t) (forms ts) x) m

  of_child : {at : ℕ → ℕ} {u : Tree} (t : Tree) → (Around stored) at (form t) → Child u (placed at t) → (FieldAt stored) u
  unfolding content placed
  of_child (leaf k f e s) x m = elim m [ ]
  of_child (node k f e c ts) x (child m) = children ts (around_inside k (forms ts) x) m

  within_field : {u v : Tree} → (FieldAt stored) v → Within u v → (FieldAt stored) u
  within_field f itself = f
  within_field f (below c w) = within_field (of_child f.tree f.around (subst (Child _) f.is c)) w

  field_span : (at : ℕ → ℕ) (t : Tree) → (Around stored) at (form t) → (SpanIs stored) (placed at t)
  field_span at t x =
      let e : form t ≡ form (placed at t) = sym (form_alike (placed at t) t (placed_like at t)) in
      let y = subst ((Around stored) at) e x in
      record {
        at = at;
        around = y;
        stands = around_stands y;
        begins = (placed_first stored) at t;
        ends = (placed_after stored) at t ∙ ap (λ (s : List ℕ). at (length s - 1) + 1) e;
      }

  -- THE THEOREM
  pub span_field : (t : Tree) → form t ≡ stored → (u : Tree) → Within u (loaded t) → (SpanIs stored) u
  span_field t e u w =
      let f = within_field (record { tree = t; at = λ i. i; around = subst ((Around stored) (λ i. i)) (sym e) around_file; is = refl }) w in
      subst (SpanIs stored) (sym f.is) (field_span f.at f.tree f.around)
