-- Trees one behind another in the rooms: what is written from one cursor up to another, put together and closed by a container's own row.
use Rattle.std.specs.Prelude.{◌≡◌, refl, ℕ, ◌+◌, ◌*◌, ◌≤◌, ◌<◌, length}
use Rattle.std.proofs.Math.Path.{sym, ap}
use Rattle.std.proofs.Common.{◌∙◌, add-zero, arith, length-append}
use mathlib.Core.List.{List, [], ◌∷◌, ◌++◌, append_assoc, append-nil}
use Rattle.std.proofs.lemmas.List.Edits.{sets}
use Rattle.language.specs.Tree.{unlined, Tree, node, forest, width, size, sizes, text_of, texts_of, escapes_of, escapes_in, rows_of, rowss, row_list}
use Rattle.rooms.specs.declared.Cursor.{Cursor}
use Rattle.rooms.specs.Told.{spot, tally}
use Rattle.rooms.specs.Contract.{Span, Filled}
use Rattle.rooms.specs.Stores.{sets_append, row_behind}
use Rattle.rooms.specs.Forest.{length_rowss}

-- ---- trees behind trees

pub sizes_append : (ts us : List Tree) → sizes (forest (ts ++ us)) ≡ sizes (forest ts) + sizes (forest us)
unfolding sizes
sizes_append [] us = omega arith
sizes_append (t ∷ ts) us = let h = sizes_append ts us in omega arith

pub texts_append : (ts us : List Tree) → texts_of (forest (ts ++ us)) ≡ texts_of (forest ts) ++ texts_of (forest us)
unfolding texts_of
texts_append [] us = refl
texts_append (t ∷ ts) us = rw (texts_append ts us) (sym (append_assoc (text_of t) (texts_of (forest ts)) (texts_of (forest us))))

pub length_texts : (ts us : List Tree) → length (texts_of (forest (ts ++ us))) ≡ length (texts_of (forest ts)) + length (texts_of (forest us))
length_texts ts us = rw (texts_append ts us) (length-append (texts_of (forest ts)) (texts_of (forest us)))

pub escapes_append : (ts us : List Tree) → escapes_in (forest (ts ++ us)) ≡ escapes_in (forest ts) + escapes_in (forest us)
unfolding escapes_in
escapes_append [] us = omega arith
escapes_append (t ∷ ts) us = let h = escapes_append ts us in omega arith

pub rowss_append : (r p x : ℕ) (ts us : List Tree)
    → rowss unlined r p x (forest (ts ++ us)) ≡ rowss unlined r p x (forest ts) ++ rowss unlined (r + sizes (forest ts)) p (x + length (texts_of (forest ts))) (forest us)
unfolding rowss sizes texts_of
rowss_append r p x [] us = rw (add-zero r, add-zero x)
rowss_append r p x (t ∷ ts) us =
    let a : r + size t + sizes (forest ts) ≡ r + (size t + sizes (forest ts)) = omega arith in
    let l = length-append (text_of t) (texts_of (forest ts)) in
    let b : x + length (text_of t) + length (texts_of (forest ts)) ≡ x + length (text_of t ++ texts_of (forest ts)) = omega arith in
    rw (rowss_append (r + size t) p (x + length (text_of t)) ts us, a, b) (sym (append_assoc (rows_of unlined r p x t) (rowss unlined (r + size t) p (x + length (text_of t)) (forest ts)) _))

-- ---- what is written from the cursor c up to n: the trees ts, with one parent

pub record Written (doc : List ℕ) (c n : Cursor) (parent : ℕ) (ts : List Tree) (R R' T T' : List ℕ) : Type 0 where
  pub onward : c.at ≤ n.at
  pub inside : n.at ≤ length doc
  pub row : n.row ≡ c.row + sizes (forest ts)
  pub text : spot n.text ≡ spot c.text + length (texts_of (forest ts))
  pub escapes : tally n.text ≡ tally c.text + escapes_in (forest ts)
  pub few_rows : c.at + sizes (forest ts) ≤ n.at
  pub few_text : c.at + length (texts_of (forest ts)) ≤ n.at
  pub few_escapes : c.at + escapes_in (forest ts) ≤ n.at
  pub table : R' ≡ sets R (width * c.row) (rowss unlined c.row parent (spot c.text) (forest ts))
  pub room : T' ≡ sets T (spot c.text) (texts_of (forest ts))

module _ (doc : List ℕ) (c n : Cursor) (p : ℕ) where
  -- bytes that are no tree's
  pub written_none : (R T : List ℕ) → c.at ≤ n.at → n.at ≤ length doc → n.row ≡ c.row → n.text ≡ c.text → Written doc c n p [] R R T T
  unfolding sizes texts_of escapes_in rowss
  written_none R T h l e f =
      record {
        onward = h;
        inside = l;
        row = omega arith;
        text = ap spot f ∙ sym (add-zero (spot c.text));
        escapes = ap tally f ∙ sym (add-zero (tally c.text));
        few_rows = omega arith;
        few_text = omega arith;
        few_escapes = omega arith;
        table = refl;
        room = refl;
      }

  pub written_one : (t : Tree) (R R' T T' : List ℕ) → Span doc c n t → Filled c p t R R' T T' → Written doc c n p (t ∷ []) R R' T T'
  unfolding sizes texts_of escapes_in rowss
  written_one t R R' T T' s f =
      record {
        onward = omega (arith, s.ahead);
        inside = s.inside;
        row = omega (arith, s.row);
        text = rw append-nil s.text;
        escapes = omega (arith, s.escapes);
        few_rows = omega (arith, s.few_rows);
        few_text = rw append-nil s.few_text;
        few_escapes = omega (arith, s.few_escapes);
        table = rw append-nil f.table;
        room = rw append-nil f.room;
      }

-- one after the other
pub written_append : (doc : List ℕ) (c m n : Cursor) (p : ℕ) (ts us : List Tree) (R R' R'' T T' T'' : List ℕ) → Written doc c m p ts R R' T T' → Written doc m n p us R' R'' T' T''
    → Written doc c n p (ts ++ us) R R'' T T''
written_append doc c m n p ts us R R' R'' T T' T'' x y =
    let s = sizes_append ts us in
    let l = length_texts ts us in
    let z = escapes_append ts us in
    let k = length_rowss unlined c.row p (spot c.text) (forest ts) in
    let i : width * m.row ≡ width * c.row + length (rowss unlined c.row p (spot c.text) (forest ts)) = omega (arith, x.row) in
    record {
      onward = omega (arith, x.onward, y.onward);
      inside = y.inside;
      row = omega (arith, x.row, y.row);
      text = omega (arith, x.text, y.text);
      escapes = omega (arith, x.escapes, y.escapes);
      few_rows = omega (arith, x.few_rows, y.few_rows);
      few_text = omega (arith, x.few_text, y.few_text);
      few_escapes = omega (arith, x.few_escapes, y.few_escapes);
      table =
          y.table
          ∙ rw (i, x.table, x.row, x.text, rowss_append c.row p (spot c.text) ts us)
          (sym (sets_append R (width * c.row) (rowss unlined c.row p (spot c.text) (forest ts)) (rowss unlined (c.row + sizes (forest ts)) p (spot c.text + length (texts_of (forest ts))) (forest us))));
      room = y.room ∙ rw (x.room, x.text, texts_append ts us) (sym (sets_append T (spot c.text) (texts_of (forest ts)) (texts_of (forest us))));
    }

-- A CONTAINER at c, whose children are written from c' on with its row for their parent, once its own row is stored
module _ (doc : List ℕ) (c c' n : Cursor) (p kind cnt : ℕ) (ts : List Tree) (R R' R'' T T' : List ℕ) (at : c.at < c'.at) (row : c'.row ≡ c.row + 1) (text : c'.text ≡ c.text)
    (w : Written doc c' n c.row ts R R' T T') where
  abbrev whole : Tree
  whole = node kind c.at n.at cnt (forest ts)

  pub node_span : Span doc c n whole
  unfolding size text_of escapes_of
  node_span =
      record {
        ahead = omega (arith, w.onward);
        inside = w.inside;
        row = omega (arith, w.row);
        text = rw text at w.text;
        escapes = rw text at w.escapes;
        few_rows = omega (arith, w.few_rows);
        few_text = omega (arith, w.few_text);
        few_escapes = omega (arith, w.few_escapes);
      }

  pub node_filled : R'' ≡ sets R' (width * c.row) (row_list unlined kind c.at n.at 0 cnt p n.row) → Filled c p whole R R'' T T'
  unfolding rows_of text_of
  node_filled h =
      let e : n.row ≡ c.row + 1 + sizes (forest ts) = omega (arith, w.row) in
      record {
        table =
            rw (h, w.table, e, row, text)
            (row_behind R (width * c.row) (width * (c.row + 1)) (row_list unlined kind c.at n.at 0 cnt p (c.row + 1 + sizes (forest ts))) (rowss unlined (c.row + 1) c.row (spot c.text) (forest ts)) (omega arith));
        room = rw text at w.room;
      }
