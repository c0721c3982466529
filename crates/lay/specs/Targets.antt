-- TREES STORED IN THE TARGETS (`Stored`), one behind another. A store past a target's end changes nothing. Assumes nothing.
use Rattle.std.specs.Prelude.{◌≡◌, List, [], ◌∷◌, ◌++◌, ℕ, zero, suc, ◌+◌, ◌-◌, ◌*◌, ◌≤◌, ◌<◌, min, length, set, take, drop}
use Rattle.std.proofs.Math.Path.{refl}
use Rattle.std.proofs.Common.{sym, ap, subst, ◌∙◌, append_assoc, append-nil, arith, length-append, length-drop, drop-drop}
use Rattle.std.proofs.lemmas.List.Edits.{sets, sets-eq}
use Rattle.std.proofs.lemmas.Slice.{between_is}
use Rattle.std.proofs.Math.Decide.{dec_le}
use Rattle.std.proofs.Math.Seq.{drop-length, take-length, slice, length-slice}
use Rattle.language.specs.Tree.{Tree, leaf, node, Forest, none, more, width, unlined, size, sizes, text_of, texts_of, row_list, leaf_row, rows_of, rowss}
use Rattle.rooms.specs.Stores.{sets_append, row_behind, sets_part as stores_part}
use Rattle.rooms.specs.Forest.{length_rowss}
use Rattle.shaped.specs.Beside.{beside, beside_size, beside_text}
use Rattle.lay.specs.declared.Spot.{Spot}

-- every row, text byte and word is below it
abbrev pub ceiling : ℕ
ceiling = 4294967296

-- a run stored in the part of a list from i on
sets_suc : (w l : List ℕ) (i a : ℕ) → sets (a ∷ l) (suc i) w ≡ a ∷ sets l i w
sets_suc [] l i a = refl
sets_suc (x ∷ w) l i a = sets_suc w (set l i x) (suc i) a

sets_part : (l w : List ℕ) (i : ℕ) → i ≤ length l → take i l ++ sets (drop i l) 0 w ≡ sets l i w
sets_part l w zero h = refl
sets_part [] w (suc i) h = absurd (omega arith)
sets_part (a ∷ l) w (suc i) h = ap (λ (m : List ℕ). a ∷ m) (sets_part l w i (omega arith)) ∙ sym (sets_suc w l i a)

pub part_stored : (l w m : List ℕ) (i : ℕ) → i < length l → m ≡ sets (take (length l - i) (drop i l)) 0 w → take i l ++ (m ++ drop (length l - i) (drop i l)) ≡ sets l i w
part_stored l w m i h e =
    let z : drop (length l - i) (drop i l) ≡ [] = drop-drop (length l - i) i l ∙ (ap (λ (n : ℕ). drop n l) (let y : i + (length l - i) ≡ length l = omega arith in y) ∙ drop-length l) in
    let y : take (length l - i) (drop i l) ≡ drop i l = ap (λ (n : ℕ). take n (drop i l)) (sym (length-drop i l)) ∙ take-length (drop i l) in
    ap (λ (n : List ℕ). take i l ++ (m ++ n)) z ∙ (ap (λ (n : List ℕ). take i l ++ n) (append-nil m ∙ (e ∙ ap (λ (n : List ℕ). sets n 0 w) y)) ∙ sets_part l w i (omega arith))

-- a run copied into a list from x on, as much of it as has room
pub copied : (l s ys : List ℕ) (x a e n i j : ℕ) → x < length l → a ≤ e → e ≤ length s → n ≡ min (e - a) (length l - x) → i ≡ n → j ≡ n → ys ≡ take j (drop a s)
    → take x l ++ (ys ++ drop i (drop x l)) ≡ sets l x (slice a e s)
copied l s ys x a e n i j h k m f p q g = whole ∙ by (dec_le (e - a) (length l - x))
  where
    here : ys ≡ slice a (a + n) s
    here = g ∙ (ap (λ (y : ℕ). take y (drop a s)) (let z : j ≡ a + n - a = omega arith in z) ∙ between_is s a (a + n))

    long : length (slice a (a + n) s) ≡ n
    long = length-slice a (a + n) s (omega arith) ∙ (let z : a + n - a ≡ n = omega arith in z)

    whole : take x l ++ (ys ++ drop i (drop x l)) ≡ sets l x (slice a (a + n) s)
    whole =
        ap (λ (y : List ℕ). take x l ++ (y ++ drop i (drop x l))) here
        ∙ (ap (λ (y : List ℕ). take x l ++ (slice a (a + n) s ++ y)) (drop-drop i x l ∙ ap (λ (y : ℕ). drop y l) (let z : x + i ≡ x + length (slice a (a + n) s) = omega (arith, long) in z))
        ∙ (sym (append_assoc (take x l) (slice a (a + n) s) (drop (x + length (slice a (a + n) s)) l)) ∙ sym (sets-eq (slice a (a + n) s) l x (omega (arith, long)))))

    by : Dec (e - a ≤ length l - x) → sets l x (slice a (a + n) s) ≡ sets l x (slice a e s)
    by (yes y) = ap (λ (z : ℕ). sets l x (slice a z s)) (omega arith)
    by (no y) = stores_part s l a e x (a + n) (omega arith) (omega arith) m (omega arith)

-- the rows and the texts of these trees, with the parent p, from one spot of the targets up to another
pub record Stored (p : ℕ) (ts : Forest) (a b : Spot) (rows rows' room room' : List ℕ) : Type 0 where
  pub row_is : b.row ≡ a.row + sizes ts
  pub text_is : b.text ≡ a.text + length (texts_of ts)
  pub table : rows' ≡ sets rows (width * a.row) (rowss unlined a.row p a.text ts)
  pub texts : room' ≡ sets room a.text (texts_of ts)

-- one tree
abbrev pub alone : Tree → Forest
alone t = more t none

rows_beside : (r p x : ℕ) (ts us : Forest) → rowss unlined r p x (beside ts us) ≡ rowss unlined r p x ts ++ rowss unlined (r + sizes ts) p (x + length (texts_of ts)) us
unfolding beside rowss sizes texts_of
rows_beside r p x none us = let a : r ≡ r + 0 = omega arith in let b : x ≡ x + 0 = omega arith in ap (λ (i : ℕ). rowss unlined i p x us) a ∙ ap (λ (i : ℕ). rowss unlined (r + 0) p i us) b
rows_beside r p x (more t ts) us =
    let v = rows_of unlined r p x t in
    let w = rowss unlined (r + size t) p (x + length (text_of t)) ts in
    let i : r + size t + sizes ts ≡ r + (size t + sizes ts) = omega arith in
    let j : x + length (text_of t) + length (texts_of ts) ≡ x + length (text_of t ++ texts_of ts) = omega (arith, length-append (text_of t) (texts_of ts)) in
    ap (λ (l : List ℕ). v ++ l) (rows_beside (r + size t) p (x + length (text_of t)) ts us ∙ ap (λ (l : List ℕ). w ++ l) (ap (λ (n : ℕ). rowss unlined n p (x + length (text_of t) + length (texts_of ts)) us) i ∙ ap (λ (n : ℕ). rowss unlined (r + (size t + sizes ts)) p n us) j))
    ∙ sym (append_assoc v w (rowss unlined (r + (size t + sizes ts)) p (x + length (text_of t ++ texts_of ts)) us))

module _ {p : ℕ} where
  pub stored_none : {a : Spot} {rows room : List ℕ} → Stored p none a a rows rows room room
  unfolding sizes texts_of rowss
  stored_none = record { row_is = omega arith; text_is = omega arith; table = refl; texts = refl }

  -- one behind another
  module _ {ts us : Forest} {a b c : Spot} {l m n x y z : List ℕ} where
    pub stored_then : Stored p ts a b l m x y → Stored p us b c m n y z → Stored p (beside ts us) a c l n x z
    stored_then h k =
        let v = rowss unlined a.row p a.text ts in
        let w = rowss unlined (a.row + sizes ts) p (a.text + length (texts_of ts)) us in
        let place : width * b.row ≡ width * a.row + length v = omega (arith, h.row_is, length_rowss unlined a.row p a.text ts) in
        let moved : rowss unlined b.row p b.text us ≡ w =
        ap (λ (i : ℕ). rowss unlined i p b.text us) h.row_is ∙ ap (λ (i : ℕ). rowss unlined (a.row + sizes ts) p i us) h.text_is in
        record {
          row_is = omega (arith, h.row_is, k.row_is, beside_size ts us);
          text_is = omega (arith, h.text_is, k.text_is, ap length (beside_text ts us), length-append (texts_of ts) (texts_of us));
          table =
              k.table
              ∙ (ap (sets m (width * b.row)) moved
              ∙ (ap (λ (i : ℕ). sets m i w) place
              ∙ (ap (λ (g : List ℕ). sets g (width * a.row + length v) w) h.table
              ∙ (sym (sets_append l (width * a.row) v w) ∙ ap (sets l (width * a.row)) (sym (rows_beside a.row p a.text ts us))))));
          texts =
              k.texts
              ∙ (ap (λ (i : ℕ). sets y i (texts_of us)) h.text_is
              ∙ (ap (λ (g : List ℕ). sets g (a.text + length (texts_of ts)) (texts_of us)) h.texts
              ∙ (sym (sets_append x a.text (texts_of ts) (texts_of us)) ∙ ap (sets x a.text) (sym (beside_text ts us)))));
        }

  pub stored_as : {ts us : Forest} {a b : Spot} {l m x y : List ℕ} → ts ≡ us → Stored p ts a b l m x y → Stored p us a b l m x y
  stored_as {a = a} {b = b} {l = l} {m = m} {x = x} {y = y} e h = subst (λ (f : Forest). Stored p f a b l m x y) e h

-- A TREE BY ITS ROW AND WHAT IS BELOW IT: the row, the text of its own, the children
abbrev pub head_row : ℕ → ℕ → ℕ → Tree → List ℕ
head_row r p x (leaf k a e s) = leaf_row unlined r p x k a e s.bytes
head_row r p x (node k a e c ts) = row_list unlined k a e 0 c p (r + 1 + sizes ts)

abbrev pub own_text : Tree → List ℕ
own_text (leaf k a e s) = s.bytes
own_text (node k a e c ts) = []

abbrev pub below : Tree → Forest
below (leaf k a e s) = none
below (node k a e c ts) = ts

head_length : (r p x : ℕ) (t : Tree) → length (head_row r p x t) ≡ width
head_length r p x (leaf k a e s) = by (lib.Dec.leb k 3)
  where
    by : (y : mathlib.Core.Bool.Bool) → length (Rattle.notation.specs.Class.pick y (row_list unlined k a e 0 0 p (r + 1)) (row_list unlined k a e x (x + length s.bytes) p (r + 1))) ≡ width
    by mathlib.Core.Bool.true = refl
    by mathlib.Core.Bool.false = refl
head_length r p x (node k a e c ts) = refl

head_rows : (r p x : ℕ) (t : Tree) → rowss unlined r p x (alone t) ≡ head_row r p x t ++ rowss unlined (r + 1) r (x + length (own_text t)) (below t)
unfolding rowss rows_of
head_rows r p x (leaf k a e s) = refl
head_rows r p x (node k a e c ts) = append-nil (row_list unlined k a e 0 c p (r + 1 + sizes ts) ++ rowss unlined (r + 1) r x ts) ∙ ap (λ (i : ℕ). row_list unlined k a e 0 c p (r + 1 + sizes ts) ++ rowss unlined (r + 1) r i ts) (let e : x ≡ x + 0 = omega arith in e)

head_texts : (t : Tree) → texts_of (alone t) ≡ own_text t ++ texts_of (below t)
unfolding texts_of
head_texts (leaf k a e s) = refl
head_texts (node k a e c ts) = append-nil (texts_of ts)

pub head_size : (t : Tree) → size t ≡ suc (sizes (below t))
unfolding size
head_size (leaf k a e s) = refl
head_size (node k a e c ts) = refl

pub alone_size : (t : Tree) → sizes (alone t) ≡ size t
unfolding sizes
alone_size t = omega arith

pub alone_text : (t : Tree) → texts_of (alone t) ≡ text_of t
unfolding texts_of
alone_text t = append-nil (text_of t)

pub own_length : (t : Tree) → length (text_of t) ≡ length (own_text t) + length (texts_of (below t))
own_length t = sym (ap length (alone_text t)) ∙ (ap length (head_texts t) ∙ length-append (own_text t) (texts_of (below t)))

-- the row stored, then what is below it
module _ {p : ℕ} (t : Tree) {a c : Spot} {l m n x y z : List ℕ} where
  pub stored_head : m ≡ sets l (width * a.row) (head_row a.row p a.text t) → y ≡ sets x a.text (own_text t)
      → (b : Spot) → b.row ≡ a.row + 1 → b.text ≡ a.text + length (own_text t) → Stored a.row (below t) b c m n y z → Stored p (alone t) a c l n x z
  stored_head g h b i j k =
      let v = head_row a.row p a.text t in
      let w = rowss unlined (a.row + 1) a.row (a.text + length (own_text t)) (below t) in
      record {
        row_is = omega (arith, k.row_is, alone_size t, head_size t);
        text_is = omega (arith, k.text_is, ap length (alone_text t), own_length t);
        table =
            k.table
            ∙ (ap (λ (e : ℕ). sets m (width * e) (rowss unlined e a.row b.text (below t))) i
            ∙ (ap (λ (e : ℕ). sets m (width * (a.row + 1)) (rowss unlined (a.row + 1) a.row e (below t))) j
            ∙ (ap (λ (e : ℕ). sets m e w) (let e : width * (a.row + 1) ≡ width * a.row + length v = omega (arith, head_length a.row p a.text t) in e)
            ∙ (ap (λ (e : List ℕ). sets e (width * a.row + length v) w) g
            ∙ (sym (sets_append l (width * a.row) v w) ∙ ap (sets l (width * a.row)) (sym (head_rows a.row p a.text t)))))));
        texts =
            k.texts
            ∙ (ap (λ (e : ℕ). sets y e (texts_of (below t))) j
            ∙ (ap (λ (e : List ℕ). sets e (a.text + length (own_text t)) (texts_of (below t))) h
            ∙ (sym (sets_append x a.text (own_text t) (texts_of (below t))) ∙ ap (sets x a.text) (sym (head_texts t)))));
      }

-- what is below a container stored, then its row
module _ {p k c : ℕ} {ts : Forest} {a b d : Spot} {l m n x y : List ℕ} where
  pub stored_node : b.row ≡ a.row + 1 → b.text ≡ a.text → Stored a.row ts b d l m x y
      → n ≡ sets m (width * a.row) (row_list unlined k 0 0 0 c p d.row) → Stored p (alone (node k 0 0 c ts)) a d l n x y
  stored_node i j h g =
      let v = row_list unlined k 0 0 0 c p (a.row + 1 + sizes ts) in
      record {
        row_is = omega (arith, h.row_is, alone_size (node k 0 0 c ts), head_size (node k 0 0 c ts));
        text_is = omega (arith, h.text_is, ap length (alone_text (node k 0 0 c ts)), own_length (node k 0 0 c ts));
        table =
            g
            ∙ (ap (λ (e : ℕ). sets m (width * a.row) (row_list unlined k 0 0 0 c p e)) (let e : d.row ≡ a.row + 1 + sizes ts = omega (arith, h.row_is) in e)
            ∙ (ap (λ (e : List ℕ). sets e (width * a.row) v) h.table
            ∙ (row_behind l (width * a.row) (width * b.row) v (rowss unlined b.row a.row b.text ts) (omega arith)
            ∙ (ap (λ (e : ℕ). sets l (width * a.row) (v ++ rowss unlined e a.row b.text ts)) i
            ∙ (ap (λ (e : ℕ). sets l (width * a.row) (v ++ rowss unlined (a.row + 1) a.row e ts)) (j ∙ (let e : a.text ≡ a.text + 0 = omega arith in e))
            ∙ ap (sets l (width * a.row)) (sym (head_rows a.row p a.text (node k 0 0 c ts))))))));
        texts = h.texts ∙ (ap (λ (e : ℕ). sets x e (texts_of ts)) j ∙ ap (sets x a.text) (sym (head_texts (node k 0 0 c ts))));
      }
