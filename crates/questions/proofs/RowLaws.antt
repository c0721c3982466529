-- Laws of good rows and their texts. Assumes nothing.
use Rattle.std.proofs.Common.{◌≡◌, ℕ, ◌+◌, ◌*◌, ◌-◌, ◌/◌, ◌≤◌, ◌<◌, Bool, true, false, ◌⊎◌, inl, inr, List, [], length, take, drop, leb, ltb, eqb, Fits, w64, Option, Some, None, Result, Ok, Err, refl, sym, subst, ap, ap₂, ◌∙◌, arith, le-leb, leb-true, ltb-true, ltb-false}
use Rattle.std.specs.Borrow.{Bor}
use Rattle.std.specs.Option.{MatchOption, unwrap_or, is_some}
use Rattle.std.specs.Result.{IsErr}
use Rattle.std.specs.List.{slice_range}
use Rattle.std.proofs.lemmas.Bool.{lt-leb}
use Rattle.std.proofs.lemmas.List.{drop-take, take-take, length-take-le}
use Rattle.language.specs.Kind.{KEY, pick, has_text}
use Rattle.language.specs.Tree.{width}
use Rattle.language.specs.Lent.{words_in, bytes_in}
use Rattle.questions.specs.Both.{both_left, both_right, not_left, then_right}
use Rattle.questions.specs.Number.{BADROW}
use Rattle.questions.specs.Table.{kind, start, end, good, readable}
use Rattle.questions.specs.Text.{part, text_of, text_number}
use Rattle.questions.specs.Walk.{paired}
use Rattle.questions.specs.declared.BadRow.{BadRow}
use Rattle.questions.specs.Contract.{Held, Part, TextIn, KeyAt}

-- ---- a good row

module _ (table : List ℕ) (R r : ℕ) where
  whole_row : ltb r (words_in table / width) ≡ leb (width * (r + 1)) (words_in table)
  whole_row = go (ltb r (words_in table / width)) refl
    where
      go : (b : Bool) → ltb r (words_in table / width) ≡ b → b ≡ leb (width * (r + 1)) (words_in table)
      go true h = let l = ltb-true r (words_in table / width) h in sym (le-leb (width * (r + 1)) (words_in table) (omega arith))
      go false h = let l = ltb-false r (words_in table / width) h in sym (lt-leb (width * (r + 1)) (words_in table) (omega arith))

  pub good_below : (n : ℕ) → n ≡ words_in table / width → ltb r R ≡ true → ltb r n ≡ good table R r
  unfolding good
  good_below n e h = then_right _ _ _ h (ap (ltb r) e ∙ whole_row)

  pub good_past : ltb r R ≡ false → ltb r R ≡ good table R r
  unfolding good
  good_past h = h ∙ not_left _ _ h

  module _ (g : Bool) (said : g ≡ good table R r) (taken : g ≡ true) where
    pub good_row : r < R
    unfolding good
    good_row = ltb-true r R (both_left (ltb r R) (leb (width * (r + 1)) (words_in table)) (sym said ∙ taken))

    pub good_fits : Fits w64 R → Fits w64 (r + 1)
    good_fits f = let l = good_row in omega arith

    pub good_whole : width * (r + 1) ≤ length table
    unfolding good
    good_whole = omega (arith, leb-true (width * (r + 1)) (words_in table) (both_right (ltb r R) (leb (width * (r + 1)) (words_in table)) (sym said ∙ taken)))

    pub good_held : (k : ℕ) → k < width → Held table r k
    good_held k h = record { whole = good_whole; one = h }

-- ---- its text

module _ (table : List ℕ) (R : ℕ) (room : List ℕ) (r : ℕ) where
  pub read_bad : good table R r ≡ false → readable table R room r ≡ false
  unfolding readable
  read_bad n = simp n

  pub read_kind : good table R r ≡ true → has_text (kind table r) ≡ false → readable table R room r ≡ false
  unfolding readable
  read_kind g n = simp (g, n)

  module _ (g : good table R r ≡ true) (h : has_text (kind table r) ≡ true) where
    read_order : end table r < start table r → readable table R room r ≡ false
    unfolding readable
    read_order l = simp (g, h, lt-leb (start table r) (end table r) l)

    read_room : start table r ≤ end table r → bytes_in room < end table r → readable table R room r ≡ false
    unfolding readable
    read_room l m = simp (g, h, le-leb (start table r) (end table r) l, lt-leb (end table r) (bytes_in room) m)

    read_whole : start table r ≤ end table r → end table r ≤ bytes_in room → readable table R room r ≡ true
    unfolding readable
    read_whole l m = simp (g, h, le-leb (start table r) (end table r) l, le-leb (end table r) (bytes_in room) m)

    within : (s e n : ℕ) → s ≤ e → e ≤ n → slice_range (take n room) s e ≡ slice_range room s e
    within s e n l m =
        let d : n ≡ s + (n - s) = omega arith in
        ap (λ k. take (e - s) (drop s (take k room))) d ∙ (ap (take (e - s)) (drop-take s (n - s) room) ∙ take-take (e - s) (n - s) (drop s room) (omega arith))

    taken : (n : ℕ) → n ≡ bytes_in room → length (take n room) ≡ n
    taken n z = length-take-le n room (omega arith)

    -- what `get` tells of the part of the room that the row names
    pub read_part : (s e n : ℕ) → s ≡ start table r → e ≡ end table r → n ≡ bytes_in room → (o : Option (Bor (List ℕ)))
        → MatchOption o ((e < s) ⊎ (length (take n room) < e)) (λ x. (s ≤ e) × (e ≤ length (take n room)) × (x.now ≡ slice_range (take n room) s e) × (length x.now + s ≡ e))
        → TextIn table R room r o
    unfolding part
    read_part s e n p q z (Some x) k =
        let m = taken n z in
        let w = within s e n k.0 (omega arith) in
        record {
          read = read_whole (omega arith) (omega arith);
          is = k.2 ∙ (w ∙ ap₂ (λ i j. take (j - i) (drop i room)) p q);
        }
    read_part s e n p q z None (inl l) = read_order (omega arith)
    read_part s e n p q z None (inr l) = let m = taken n z in by (ltb e s) refl
      where
        by : (b : Bool) → ltb e s ≡ b → readable table R room r ≡ false
        by true h = let k = ltb-true e s h in read_order (omega arith)
        by false h = let k = ltb-false e s h in let m = taken n z in read_room (omega arith) (omega arith)

  module _ (read : readable table R room r ≡ true) where
    read_good : good table R r ≡ true
    unfolding readable
    read_good = both_left (good table R r) _ read

    pub read_held : (k : ℕ) → k < width → Held table r k
    read_held k h = good_held table R r true (sym read_good) refl k h

    pub read_row : r < R
    read_row = good_row table R r true (sym read_good) refl

    pub read_fits : Fits w64 R → Fits w64 (r + 1)
    read_fits f = good_fits table R r true (sym read_good) refl f

-- ---- a pair

module _ (table : List ℕ) (R : ℕ) (room : List ℕ) (r : ℕ) where
  pub some_text : {o : Option (Bor (List ℕ))} {t : Bor (List ℕ)} → TextIn table R room r o → o ≡ Some t → Part table R room r t.now
  some_text h e = subst (TextIn table R room r) e h

  pub none_text : {o : Option (Bor (List ℕ))} → TextIn table R room r o → o ≡ None → readable table R room r ≡ false
  none_text h e = subst (TextIn table R room r) e h

  pub no_name : (x : Result (Bor (List ℕ)) BadRow) → IsErr x → readable table R room r ≡ false → KeyAt table R room r x
  unfolding paired
  no_name (Ok t) h n = cc
  no_name (Err e) h n = simp n

  module _ (read : readable table R room r ≡ true) where
    pub other_kind : eqb (kind table r) KEY ≡ false → paired table R room r ≡ false
    unfolding paired
    other_kind n = simp (read, n)

    module _ (key : eqb (kind table r) KEY ≡ true) where
      pub bad_value : good table R (r + 1) ≡ false → paired table R room r ≡ false
      unfolding paired
      bad_value n = simp (read, key, n)

      pub good_value : good table R (r + 1) ≡ true → paired table R room r ≡ true
      unfolding paired
      good_value n = simp (read, key, n)

  pub pair_held : paired table R room r ≡ true → (k : ℕ) → k < width → Held table (r + 1) k
  unfolding paired
  pair_held p = good_held table R (r + 1) true (sym (both_right (eqb (kind table r) KEY) _ (both_right (readable table R room r) _ p))) refl

-- ---- the two questions of a text

module _ (table : List ℕ) (R : ℕ) (room : List ℕ) (r : ℕ) where
  pub text_told : (o : Option (Bor (List ℕ))) → TextIn table R room r o → (e : Bor (List ℕ)) → e.now ≡ [] → (unwrap_or o e).now ≡ text_of table R room r
  unfolding text_of
  text_told (Some t) h e n = h.is ∙ sym (simp h.read)
  text_told None h e n = n ∙ sym (simp h)

  pub number_told : (o : Option (Bor (List ℕ))) → TextIn table R room r o → (pick (is_some o) 0 BADROW) ≡ text_number table R room r
  unfolding text_number
  number_told (Some t) h = sym (simp h.read)
  number_told None h = sym (simp h)
