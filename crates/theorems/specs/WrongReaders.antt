-- THE SIX WRONG READERS of document 01 (What each statement has to settle), and one that counts no escape (02, Ticket 2): none of them meets the promise, each by a witness.
use Rattle.std.specs.Prelude.{◌≡◌, refl, ℕ, suc, ◌-◌, ◌*◌, ◌≤◌, ◌<◌, length, drop, Ok}
use Rattle.std.proofs.Common.{sym, ◌∙◌}
use Rattle.std.proofs.Math.Path.{ap}
use mathlib.Core.List.{List, [], ◌∷◌, ◌++◌}
use native.Mathlib.Omega.{arith}
use Rattle.std.proofs.Math.ListN.{get_or}
use Rattle.language.specs.Kind.{INTEGER, STRING}
use Rattle.language.specs.Tree.{unescaped, escaped, Tree, leaf, width, size, text_of, escapes_of, rows_of}
use Rattle.language.specs.Lines.{line_of, column_of, feeds, characters, last_line}
use Rattle.language.specs.Answered.{CHAR, SYNTAX, END, ROWS, Answer, number, value, second, third, Reads, Answered, accepted, rows, Totals, total}
use Rattle.utf8.specs.Told.{given, refused_syntax, refused_end}
use Rattle.repeats.specs.Flat.{flat, Twice}
use Rattle.repeats.specs.Repeating.{repeats_twice}
use Rattle.theorems.specs.Proved.{one_answer, one_total}
use Rattle.theorems.specs.Borders.{reading, at_syntax, at_end, has_tree}

-- a reader: what it answers for a document and the rooms lent, and the rooms afterwards
pub record After : Type 0 where
  pub answer : Answer
  pub table : List ℕ
  pub text : List ℕ

abbrev pub Reader : Type 0
Reader = List ℕ → List ℕ → List ℕ → After

-- the promise of `read`: of the rooms and the first values, and of the third
abbrev pub Meets : Reader → Type 0
Meets r =
    (doc table text : List ℕ)
    → let a = r doc table text in
    Answered doc table text (number a.answer) (value a.answer) (second a.answer) a.table a.text × Totals doc (number a.answer) (third a.answer)

-- ---- the witnesses: `1⏎` in rooms that are just large enough, and in none; `1`; `[1,2]⏎`; `"\n"⏎`

abbrev pub one : List ℕ
one = 49 ∷ 10 ∷ []

tree₁ : Tree
tree₁ = leaf INTEGER 0 1 (unescaped (49 ∷ []))

nine : List ℕ
nine = 0 ∷ 0 ∷ 0 ∷ 0 ∷ 0 ∷ 0 ∷ 0 ∷ 0 ∷ 0 ∷ []

reads_one : Reads one tree₁
unfolding tree₁ reading flat
reads_one = record { short = omega arith; word = has_tree _ tree₁ refl; once = λ p x. never p (repeats_twice 0 0 tree₁ x) }
  where
    never : (p : ℕ) → Twice p (flat 0 0 tree₁) → ⊥
    never p x = elim x [ ]

one_given : Answered one nine (0 ∷ []) 0 1 1 (4 ∷ 0 ∷ 1 ∷ 0 ∷ 1 ∷ 0 ∷ 1 ∷ 1 ∷ 1 ∷ []) (49 ∷ [])
unfolding tree₁ nine size text_of rows_of line_of column_of feeds characters last_line
one_given = accepted tree₁ reads_one (omega arith) (omega arith)

one_needs : Answered one [] [] ROWS 1 0 [] []
unfolding tree₁ size
one_needs = rows tree₁ reads_one (omega arith)

cut : (table text : List ℕ) → Answered (49 ∷ []) table text END 1 0 table text
unfolding reading
cut = at_end _ 1 (omega arith) refl

comma : List ℕ
comma = 91 ∷ 49 ∷ 44 ∷ 50 ∷ 93 ∷ 10 ∷ []

tight : Answered comma [] [] SYNTAX 3 0 [] []
unfolding reading comma
tight = at_syntax _ 3 (omega arith) refl [] []

feed : List ℕ
feed = 34 ∷ 92 ∷ 110 ∷ 34 ∷ 10 ∷ []

tree₂ : Tree
tree₂ = leaf STRING 0 4 (escaped (10 ∷ []))

reads_feed : Reads feed tree₂
unfolding feed tree₂ reading flat
reads_feed = record { short = omega arith; word = has_tree _ tree₂ refl; once = λ p x. never p (repeats_twice 0 0 tree₂ x) }
  where
    never : (p : ℕ) → Twice p (flat 0 0 tree₂) → ⊥
    never p x = elim x [ ]

feed_given : Answered feed nine (0 ∷ []) 0 1 1 (6 ∷ 0 ∷ 4 ∷ 0 ∷ 1 ∷ 0 ∷ 1 ∷ 1 ∷ 1 ∷ []) (10 ∷ [])
unfolding tree₂ nine size text_of rows_of line_of column_of feeds characters last_line
feed_given = accepted tree₂ reads_feed (omega arith) (omega arith)

feed_total : Totals feed 0 1
unfolding tree₂ escapes_of
feed_total = total tree₂ reads_feed

module _ (r : Reader) (m : Meets r) where
  -- whoever meets the promise answers so
  must : {doc table text : List ℕ} {n v s : ℕ} {table' text' : List ℕ} → Answered doc table text n v s table' text'
      → (number (r doc table text).answer ≡ n) × (value (r doc table text).answer ≡ v) × ((r doc table text).table ≡ table')
  must {doc} {table} {text} x =
      let e = one_answer doc table text _ _ _ _ _ _ _ _ _ _ (m doc table text).0 x in
      (e.0, e.1, e.3)

  must_total : {doc table text : List ℕ} {n v s z : ℕ} {table' text' : List ℕ} → Answered doc table text n v s table' text' → Totals doc n z
      → third (r doc table text).answer ≡ z
  must_total {doc} {table} {text} x y = one_total doc _ _ _ (rw (sym (must x).0) (m doc table text).1) y

  -- "a reader that refuses everything"
  pub not_refuses_all : ((doc table text : List ℕ) → number (r doc table text).answer ≡ 0 → ⊥) → ⊥
  not_refuses_all w = w one nine (0 ∷ []) (must one_given).0

  -- "one that always answers the tree of `1`", whatever it says where the rooms are too small for that: ROWS and TEXT too
  pub not_always_one : ((doc table text : List ℕ) → width ≤ length table → 1 ≤ length text → (r doc table text).answer ≡ Ok (record { rows = record { 0 = 1 }; text = 1; escapes = 0 })) → ⊥
  unfolding nine
  not_always_one w = omega (arith, ap number (w (49 ∷ []) nine (0 ∷ []) (omega arith) (omega arith)), (must (cut nine (0 ∷ []))).0)

  -- "one that counts but writes no rows"
  pub not_rowless : ((doc table text : List ℕ) → (r doc table text).table ≡ table) → ⊥
  unfolding nine
  not_rowless w = let e = ap (λ (l : List ℕ). get_or l 0 0) (sym (w one nine (0 ∷ [])) ∙ (must one_given).2) in omega arith

  -- "one that puts every refusal at 0"
  pub not_at_zero : ((doc table text : List ℕ) → CHAR ≤ number (r doc table text).answer → number (r doc table text).answer ≤ END → value (r doc table text).answer ≡ 0) → ⊥
  not_at_zero w = let e = must (cut [] []) in omega (arith, w (49 ∷ []) [] [] (omega arith) (omega arith))

  -- "one that puts it at the last byte"
  pub not_at_last : ((doc table text : List ℕ) → CHAR ≤ number (r doc table text).answer → number (r doc table text).answer ≤ END
      → value (r doc table text).answer ≡ length doc - 1) → ⊥
  unfolding comma
  not_at_last w = let e = must tight in omega (arith, w comma [] [] (omega arith) (omega arith))

  -- "one that invents the rows needed": it says of `1⏎` that more or fewer than one row is needed
  pub not_invents_rows : (value (r one [] []).answer ≡ 1 → ⊥) → number (r one [] []).answer ≡ ROWS → ⊥
  not_invents_rows n e = n (must one_needs).1

  -- one that counts no escape: it accepts with the total 0
  pub not_uncounting : ((doc table text : List ℕ) → number (r doc table text).answer ≡ 0 → third (r doc table text).answer ≡ 0) → ⊥
  not_uncounting w = omega (arith, w feed nine (0 ∷ []) (must feed_given).0, must_total feed_given feed_total)
