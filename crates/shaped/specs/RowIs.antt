-- ONE ROW (`RowIs`): its asked words, whatever its span, its line and its column are. Assumes nothing.
use Rattle.std.specs.Prelude.{◌≡◌, refl, List, true, ℕ, ◌+◌, ◌*◌, get_or, drop}
use Rattle.std.proofs.Common.{sym, ap, ◌∙◌, arith, get_or-drop}
use Rattle.notation.specs.Class.{is}
use Rattle.language.specs.Tree.{Positions, width, row_list}
use Rattle.language.specs.Sound.{asked}
use Rattle.shaped.specs.Asked.{asked_cases, Same}

-- kind, text start, text end, parent, row after the last descendant
pub record RowIs (table : List ℕ) (r kind from to parent next : ℕ) : Type 0 where
  pub kind_is : get_or table (width * r) 0 ≡ kind
  pub from_is : get_or table (width * r + 3) 0 ≡ from
  pub to_is : get_or table (width * r + 4) 0 ≡ to
  pub parent_is : get_or table (width * r + 5) 0 ≡ parent
  pub next_is : get_or table (width * r + 6) 0 ≡ next

module _ (table : List ℕ) (r : ℕ) (L : Positions) (k a e f t p n : ℕ) where
  pub row_is : Same (drop (width * r) table) (row_list L k a e f t p n) 1 → RowIs table r k f t p n
  row_is x =
      record {
        kind_is = ap (λ (q : ℕ). get_or table q 0) (let e : width * r ≡ width * r + 0 = omega arith in e) ∙ word 0 refl;
        from_is = word 3 refl;
        to_is = word 4 refl;
        parent_is = word 5 refl;
        next_is = word 6 refl;
      }
    where
      word : (j : ℕ) → is asked j ≡ true → get_or table (width * r + j) 0 ≡ get_or (row_list L k a e f t p n) (width * 0 + j) 0
      word j h =
          ap (λ (q : ℕ). get_or table q 0) (let e : width * r + j ≡ width * r + (width * 0 + j) = omega arith in e)
          ∙ (sym (get_or-drop (width * r) table (width * 0 + j) 0) ∙ x.words 0 j (omega arith) h)

  pub is_row : RowIs table r k f t p n → Same (drop (width * r) table) (row_list L k a e f t p n) 1
  is_row x = record { words = λ i j l h. by i (let e : i ≡ 0 = omega arith in e) j h }
    where
      word : (j : ℕ) → is asked j ≡ true → get_or table (width * r + j) 0 ≡ get_or (row_list L k a e f t p n) j 0
      word =
          asked_cases
          (λ j. get_or table (width * r + j) 0 ≡ get_or (row_list L k a e f t p n) j 0)
          (ap (λ (q : ℕ). get_or table q 0) (let e : width * r + 0 ≡ width * r = omega arith in e) ∙ x.kind_is)
          x.from_is
          x.to_is
          x.parent_is
          x.next_is

      by : (i : ℕ) → i ≡ 0 → (j : ℕ) → is asked j ≡ true → get_or (drop (width * r) table) (width * i + j) 0 ≡ get_or (row_list L k a e f t p n) (width * i + j) 0
      by i z j h =
          let w : width * i + j ≡ j = omega arith in
          rw w (get_or-drop (width * r) table j 0 ∙ word j h)
