-- HOW THE ANSWER FOLLOWS from a document's tree, its counts and its first repeated key, whatever rooms they were read into. Assumes nothing.
use Rattle.std.specs.Prelude.{◌≡◌, List, ◌++◌, ℕ, ◌+◌, ◌*◌, ◌≤◌, ◌<◌, length, drop}
use Rattle.std.proofs.Common.{sym, ap, subst, ◌∙◌, zero-add, arith}
use Rattle.std.proofs.lemmas.List.Edits.{sets, sets-eq}
use Rattle.rooms.specs.Forest.{length_rows}
use Rattle.language.specs.Tree.{unlined, Tree, width, size, text_of, escapes_of, rows_of, Repeats}
use Rattle.language.specs.Document.{Document}
use Rattle.language.specs.Answered.{limit, deepest, REPEAT, ROWS, TEXT, Reads, Answered, accepted, repeated, rows, bytes, Totals, total}
use Rattle.language.specs.Lines.{lines_of}
use Rattle.language.specs.Lent.{lent}
use Rattle.spans.proofs.DocumentLaws.{few_rows, few_text}
use Rattle.lined.specs.Lined.{Ranked, lined}
use Rattle.lined.specs.Rows.{lined_rows}
use Rattle.lined.specs.Ranking.{ranked_rows}
use Rattle.std.specs.Prelude.{Option}
use Rattle.std.specs.declared.option.Option.TheVariants.{None, Some}
use Rattle.repeats.specs.Later.{Names, LeastOf}

-- the document has n rows, m text bytes and z escapes, and a names its first repeated key
pub record Counted (doc : List ℕ) (n m z : ℕ) (a : Option ℕ) : Type 0 where
  pub tree : Tree
  pub short : length doc ≤ limit
  pub word : Document deepest doc tree
  pub row : n ≡ size tree
  pub text_count : m ≡ length (text_of tree)
  pub escape_count : z ≡ escapes_of tree
  pub names : Names (λ p. Repeats p tree) a

-- a run stored at the start of a room
stored : (l vs : List ℕ) → length vs ≤ length l → sets l 0 vs ≡ vs ++ drop (length vs) l
stored l vs h = sets-eq vs l 0 (omega arith) ∙ ap (λ (k : ℕ). vs ++ drop k l) (zero-add (length vs))

module _ {doc : List ℕ} {n m z : ℕ} {a : Option ℕ} (f : Counted doc n m z a) where
  reads : a ≡ None → Reads doc f.tree
  reads e = record { short = f.short; word = f.word; once = subst (Names (λ q. Repeats q f.tree)) e f.names }

  -- few enough for any room
  few : size f.tree ≤ lent
  few = omega (arith, f.short, few_rows deepest doc f.tree f.word)

  few_bytes : length (text_of f.tree) ≤ lent
  few_bytes = omega (arith, f.short, few_text deepest doc f.tree f.word)

  -- its escapes are the total
  pub counted_total : a ≡ None → Totals doc 0 z
  counted_total e = rw f.escape_count (total f.tree (reads e))

  module _ (table text : List ℕ) where
    pub counted_repeat : (p : ℕ) → a ≡ Some p → Answered doc table text REPEAT p 0 table text
    counted_repeat p e =
        let x : LeastOf (λ q. Repeats q f.tree) p = subst (Names (λ q. Repeats q f.tree)) e f.names in
        repeated f.tree p f.short f.word x.is x.least

    pub counted_rows : a ≡ None → length table < width * n → Answered doc table text ROWS n 0 table text
    counted_rows e l = subst (λ (i : ℕ). Answered doc table text ROWS i 0 table text) (sym f.row) (rows f.tree (reads e) (omega (arith, f.row, few)))

    pub counted_bytes : a ≡ None → width * n ≤ length table → length text < m → Answered doc table text TEXT m 0 table text
    counted_bytes e l k =
        subst (λ (i : ℕ). Answered doc table text TEXT i 0 table text) (sym f.text_count)
        (bytes f.tree (reads e) (omega (arith, f.row, few)) (omega (arith, f.text_count, few_bytes)))

    -- both stored in the rooms lent
    module _ (l : width * n ≤ length table) (table' : List ℕ) (x : table' ≡ sets table 0 (rows_of unlined 0 0 0 f.tree)) where
      rows_stored : table' ≡ rows_of unlined 0 0 0 f.tree ++ drop (width * size f.tree) table
      rows_stored =
          let T = rows_of unlined 0 0 0 f.tree in
          let j = length_rows unlined 0 0 0 f.tree in
          x ∙ (stored table T (omega (arith, f.row)) ∙ ap (λ (i : ℕ). T ++ drop i table) j)

      -- their lines and columns may be told
      pub counted_ranked : Ranked doc table' n
      counted_ranked = rw (rows_stored, f.row) (ranked_rows deepest doc f.tree (drop (width * size f.tree) table) f.word f.short)

      -- .. and are
      pub counted_all : a ≡ None → m ≤ length text → (table'' text' : List ℕ) → table'' ≡ lined (lines_of doc) n table' → text' ≡ sets text 0 (text_of f.tree)
          → Answered doc table text 0 n m table'' text'
      counted_all e k table'' text' w y =
          let t = f.tree in
          let p : table'' ≡ rows_of (lines_of doc) 0 0 0 t ++ drop (width * size t) table =
          w ∙ rw (rows_stored, f.row) (lined_rows (lines_of doc) t (drop (width * size t) table)) in
          let q : text' ≡ text_of t ++ drop (length (text_of t)) text = y ∙ stored text (text_of t) (omega (arith, f.text_count)) in
          rw (p, q, f.row, f.text_count) (accepted t (reads e) (omega (arith, f.row, few)) (omega (arith, f.text_count, few_bytes)))
