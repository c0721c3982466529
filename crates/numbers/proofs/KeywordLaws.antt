-- Laws of keywords at the cursor: what the code's returns have to show, and which keyword the first bytes say. Assumes nothing.
use mathlib.Core.Path.{◌≡◌, refl, sym, ap, ◌∙◌}
use mathlib.Core.List.{List, [], ◌∷◌}
use mathlib.Core.Bool.{Bool, true, false}
use Prim.Native.Nat.{ℕ, suc, ◌+◌, ◌*◌, ◌≤◌, ◌<◌}
use native.Mathlib.Omega.{arith}
use lib.ListN.{length, take, drop}
use lib.Seq.{sets, slice, drop-drop}
use lib.Dec.{eqb}
use borrow.Author.Rules.{rules}
use borrow.Author.Tests.{eqb-true}
use Rattle.exact.specs.Out.{bind, ok, bad}
use Rattle.exact.specs.Class.{pick}
use Rattle.exact.specs.Lang.{ret_r}
use Rattle.exact.specs.Place.{common, common_in, word_all, word_part, slice_at}
use Rattle.rooms.specs.Told.{spot}
use Rattle.rooms.specs.declared.Cursor.{Cursor}
use Rattle.rooms.specs.declared.Words.{Words}
use Rattle.std.specs.declared.result.Result.TheVariants.{Err, Ok}
use Rattle.rooms.specs.Contract.{Ready, Reaches, Small}
use Rattle.rooms.specs.Laws.{reaching, not_reached, leaf_bare}
use Rattle.language.specs.Kind.{TRUE, FLOAT}
use Rattle.language.specs.Tree.{unlined, unescaped, leaf, width, row_list}
use Rattle.numbers.specs.Keyword.{keyword_r}
use Rattle.numbers.specs.Contract.{Put}
use Rattle.numbers.proofs.PutLaws.{text_read}

-- A KEYWORD by the bytes that it has in common with the document
module _ (doc : List ℕ) (at kind : ℕ) (word text : List ℕ) (n : ℕ) (h : n ≡ common word (drop at doc)) where
  keyword_ok : n ≡ length word → keyword_r kind word text at (drop at doc) ≡ ok (leaf kind at (at + n) (unescaped text)) (at + n) (drop (at + n) doc)
  unfolding keyword_r
  keyword_ok k = ap (λ o. bind o (λ _ e. ret_r (leaf kind at e (unescaped text)) e)) (word_all word at (drop at doc) (sym h ∙ k)) ∙ rw (← k, drop-drop n at doc) refl

  keyword_bad : (n ≡ length word → ⊥) → keyword_r kind word text at (drop at doc) ≡ bad (at + n)
  unfolding keyword_r
  keyword_bad k = ap (λ o. bind o (λ _ e. ret_r (leaf kind at e (unescaped text)) e)) (word_part word at (drop at doc) (λ e. k (h ∙ e))) ∙ rw (← h) refl

-- what is in common is the word's beginning
common_take : (ws s : List ℕ) → common ws s ≡ length ws → take (length ws) s ≡ ws
unfolding common
common_take [] s h = refl
common_take (w ∷ ws) [] h = absurd (omega arith)
common_take (w ∷ ws) (b ∷ s) h = go (eqb b w) refl h (common_take ws s)
  where
    go : (y : Bool) → eqb b w ≡ y → pick y (suc (common ws s)) 0 ≡ suc (length ws) → (common ws s ≡ length ws → take (length ws) s ≡ ws) → b ∷ take (length ws) s ≡ w ∷ ws
    go true e k ih = rw (eqb-true b w e) (ap (w ∷◌) (ih (omega arith)))
    go false e k ih = absurd (omega arith)

module _ (doc : List ℕ) (c : Cursor) (p : ℕ) (word : List ℕ) (n : ℕ) (ready : Ready doc c) (some : 0 < length word) (h : n ≡ common word (drop c.at doc)) where
  keyword_in : c.at + n ≤ length doc
  keyword_in = common_in word doc c.at n h ready.inside

  pub bare_small : Small c.at (c.at + n) 0 0 (c.row + 1)
  bare_small =
      let i = keyword_in in
      let l = ready.small in
      let r = ready.few_rows in
      record { first_fits = omega arith; after_fits = omega arith; from_fits = omega arith; to_fits = omega arith; next_fits = omega arith }

  module _ (R R' T : List ℕ) (w : Words) where
    pub keyword_read : (kind : ℕ) → kind ≤ TRUE → n ≡ length word
        → w ≡ record { kind = kind; first = c.at; after = c.at + n; from = 0; to = 0; parent = p; next = c.row + 1 }
        → R' ≡ sets R (width * c.row) (row_list unlined w.kind w.first w.after w.from w.to w.parent w.next)
        → Reaches doc c p (keyword_r kind word [] c.at (drop c.at doc)) (Ok (record { at = c.at + n; row = c.row + 1; text = c.text }, 0)) R R' T T
    keyword_read kind l k e r =
        reaching doc c p (keyword_r kind word [] c.at (drop c.at doc)) R R' T T (record { at = c.at + n; row = c.row + 1; text = c.text }) 0
        (leaf_bare doc c p (keyword_r kind word [] c.at (drop c.at doc)) kind (c.at + n) 0 (omega arith) keyword_in R R' T T
        (keyword_ok doc c.at kind word [] n h k) l (rw e at r) refl)

  -- a float's word is its text, which begins at x
  pub float_read : (x : ℕ) → x ≡ spot c.text → (R R' T T' : List ℕ) (m : Cursor) → n ≡ length word → T' ≡ sets T x (slice c.at (c.at + n) doc)
      → Put R R' c p FLOAT (c.at + n) (x + n) m → Reaches doc c p (keyword_r FLOAT word word c.at (drop c.at doc)) (Ok (m, 0)) R R' T T'
  float_read x e R R' T T' m k t q =
      let z : slice c.at (c.at + n) doc ≡ word = sym (slice_at c.at n doc) ∙ (rw k (common_take word (drop c.at doc) (sym h ∙ k))) in
      text_read doc c ready word (c.at + n) (x + n) (omega arith) keyword_in (omega arith) p FLOAT 0 (keyword_r FLOAT word word c.at (drop c.at doc)) R R' T T' m
      (omega arith) (omega arith) (keyword_ok doc c.at FLOAT word word n h k) q (rw (e, z) at t)

  pub keyword_not : (R T : List ℕ) (kind : ℕ) (text : List ℕ) → (n ≡ length word → ⊥) → Reaches doc c p (keyword_r kind word text c.at (drop c.at doc)) (Err (c.at + n)) R R T T
  keyword_not R T kind text k =
      not_reached doc c p (keyword_r kind word text c.at (drop c.at doc)) R R T T (c.at + n) (keyword_bad doc c.at kind word text n h k)

pub ruleset keyword_laws = (bare_small, keyword_read, keyword_not, rules)

pub ruleset word_laws = (float_read, keyword_not, rules)
