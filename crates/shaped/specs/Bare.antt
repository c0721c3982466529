-- TREES EQUAL BUT FOR SPANS (`Alike`) have as many rows, the same text and the same asked words, whatever tells their lines and columns. Assumes nothing.
use Rattle.std.specs.Prelude.{◌≡◌, refl, List, ◌++◌, ℕ, suc, ◌+◌, ◌*◌, length, drop, leb}
use Rattle.std.proofs.Common.{sym, ap, ap₂, subst, ◌∙◌, arith}
use Rattle.language.specs.Kind.{TRUE}
use Rattle.language.specs.Tree.{Positions, unlined, Tree, leaf, node, Forest, none, more, width, size, sizes, text_of, texts_of, row_list, leaf_row, rows_of, rowss}
use Rattle.language.specs.Alike.{unspan, unspans, Alike}
use Rattle.rooms.specs.Forest.{length_rows}
use Rattle.shaped.specs.Asked.{Same, same_flip, same_then, same_none, same_append}
use Rattle.shaped.specs.RowIs.{is_row}
use Rattle.shaped.specs.TextAt.{TextAt}
use Rattle.shaped.specs.RowsAt.{text_word, leaf_list, RowsAt}

mutual
  unfolding unspan size

  unspan_size : (t : Tree) → size (unspan t) ≡ size t
  unspan_size (leaf k a e s) = refl
  unspan_size (node k a e c ts) = ap suc (unspans_size ts)

  unspans_size : (ts : Forest) → sizes (unspans ts) ≡ sizes ts
  unspans_size none = refl
  unspans_size (more t ts) = ap₂ (λ (m n : ℕ). m + n) (unspan_size t) (unspans_size ts)

mutual
  unfolding unspan text_of

  unspan_text : (t : Tree) → text_of (unspan t) ≡ text_of t
  unspan_text (leaf k a e s) = refl
  unspan_text (node k a e c ts) = unspans_text ts

  unspans_text : (ts : Forest) → texts_of (unspans ts) ≡ texts_of ts
  unspans_text none = refl
  unspans_text (more t ts) = ap₂ (λ (l m : List ℕ). l ++ m) (unspan_text t) (unspans_text ts)

module _ (L M : Positions) where
  -- one row with another span
  same_row : (k a e a' e' f t p n : ℕ) → Same (row_list L k a e f t p n) (row_list M k a' e' f t p n) 1
  same_row k a e a' e' f t p n =
      is_row (row_list L k a e f t p n) 0 M k a' e' f t p n (record { kind_is = refl; from_is = refl; to_is = refl; parent_is = refl; next_is = refl })

  same_leaf : (r p x k a e a' e' : ℕ) (s : List ℕ) → Same (leaf_row L r p x k a e s) (leaf_row M r p x k a' e' s) 1
  same_leaf r p x k a e a' e' s =
      let c = leb k TRUE in
      let y = x + length s in
      subst
      (λ (l : List ℕ). Same l (leaf_row M r p x k a' e' s) 1)
      (sym (leaf_list c L k a e x y p (r + 1)))
      (subst
      (λ (l : List ℕ). Same (row_list L k a e (text_word k x) (text_word k y) p (r + 1)) l 1)
      (sym (leaf_list c M k a' e' x y p (r + 1)))
      (same_row k a e a' e' (text_word k x) (text_word k y) p (r + 1)))

  mutual
    unfolding unspan size rows_of

    unspan_rows : (r p x : ℕ) (t : Tree) → Same (rows_of L r p x t) (rows_of M r p x (unspan t)) (size t)
    unspan_rows r p x (leaf k a e s) = same_leaf r p x k a e 0 0 s.bytes
    unspan_rows r p x (node k a e c ts) =
        let w = row_list L k a e 0 c p (r + 1 + sizes ts) in
        let w' = row_list M k 0 0 0 c p (r + 1 + sizes (unspans ts)) in
        let i : Same w w' 1 =
        subst (λ (n : ℕ). Same w (row_list M k 0 0 0 c p (r + 1 + n)) 1) (sym (unspans_size ts)) (same_row k a e 0 0 0 c p (r + 1 + sizes ts)) in
        subst
        (Same (w ++ rowss L (r + 1) r x ts) (w' ++ rowss M (r + 1) r x (unspans ts)))
        (omega arith)
        (same_append w (rowss L (r + 1) r x ts) 1 (sizes ts) refl refl i (unspans_rows (r + 1) r x ts))

    unspans_rows : (r p x : ℕ) (ts : Forest) → Same (rowss L r p x ts) (rowss M r p x (unspans ts)) (sizes ts)
    unspans_rows r p x none = same_none
    unspans_rows r p x (more t ts) =
        let v = rowss L (r + size t) p (x + length (text_of t)) ts in
        let i : Same v (rowss M (r + size (unspan t)) p (x + length (text_of (unspan t))) (unspans ts)) (sizes ts) =
        rw (unspan_size t, unspan_text t) (unspans_rows (r + size t) p (x + length (text_of t)) ts) in
        same_append
        (rows_of L r p x t)
        v
        (size t)
        (sizes ts)
        (length_rows L r p x t)
        (length_rows M r p x (unspan t) ∙ ap (λ (n : ℕ). width * n) (unspan_size t))
        (unspan_rows r p x t)
        i

module _ (t u : Tree) (h : Alike t u) where
  pub alike_size : size t ≡ size u
  alike_size = sym (unspan_size t) ∙ (ap size h ∙ unspan_size u)

  pub alike_text : text_of t ≡ text_of u
  alike_text = sym (unspan_text t) ∙ (ap text_of h ∙ unspan_text u)

  pub alike_rows : (L M : Positions) (r p x : ℕ) → Same (rows_of L r p x t) (rows_of M r p x u) (size t)
  alike_rows L M r p x =
      same_then
      (unspan_rows L unlined r p x t)
      (subst
      (λ (w : Tree). Same (rows_of unlined r p x w) (rows_of M r p x u) (size t))
      (sym h)
      (subst (Same (rows_of unlined r p x (unspan u)) (rows_of M r p x u)) (sym alike_size) (same_flip (unspan_rows M unlined r p x u))))

  -- where the one stands, the other does
  pub alike_at : (table text : List ℕ) {r p x : ℕ} → RowsAt table text r p x t → RowsAt table text r p x u
  alike_at table text {r} {p} {x} k =
      record {
        rows = subst (Same (drop (width * r) table) (rows_of unlined r p x u)) alike_size (same_then k.rows (alike_rows unlined unlined r p x));
        text_is = subst (TextAt text x) alike_text k.text_is;
      }
