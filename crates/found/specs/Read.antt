-- ON WHAT `read` FILLED: on the table of an accepted document `find` answers the value of the key in that object, exactly if the object has the key
-- (01, Questions), and the spans are in their place, the rows in the order of their first bytes (01, What the reader takes and gives), and line and
-- column lead back to the first byte (02, Ticket 8). Assumes nothing.
use Rattle.std.specs.Prelude.{◌≡◌, refl, List, ◌++◌, Bool, true, false, ◌↔◌, ℕ, ◌*◌, ◌≤◌, ◌<◌, length, get_or, drop}
use Rattle.std.proofs.Common.{sym, subst, ◌∙◌, arith, length-append}
use Rattle.language.specs.Tree.{Positions, Tree, width, size, text_of, rows_of}
use Rattle.language.specs.Document.{Document}
use Rattle.language.specs.Lines.{lines_of}
use Rattle.language.specs.Answered.{deepest, Stops, char, syntax, deep, end, Reads, Answered, accepted, stopped}
use Rattle.language.specs.Lent.{words_in, bytes_in}
use Rattle.questions.specs.Walk.{found_reply, object, Finds, refused, Found, bad_row}
use Rattle.questions.specs.Unique.{one_found}
use Rattle.spans.proofs.DocumentLaws.{placed, document_formed, in_document, few_rows, few_text}
use Rattle.rooms.specs.Forest.{length_rows}
use Rattle.spans.specs.Placed.{itself}
use Rattle.spans.specs.Rising.{firsts, firsts_within}
use Rattle.spans.proofs.RisingLaws.{document_rises}
use Rattle.spans.proofs.BeginsLaws.{begins_ascii}
use Rattle.lined.specs.Back.{lines_back}
use Rattle.found.specs.Objects.{RowOf, Pair, Holds, ObjectAt}
use Rattle.found.specs.Stands.{stands_first}
use Rattle.found.specs.Once.{Once, once}
use Rattle.found.specs.Find.{Filled, Answers, answers}
use Rattle.found.specs.Kinds.{Object}
use Rattle.found.specs.Spans.{RowSpans, row_spans}
use Rattle.lined.specs.Lined.{first_byte}
use Rattle.found.specs.Firsts.{row_line, row_column, From, row_from, rows_rise}

-- the tree of a document that was read, and what its table and its room hold
pub record Filling (doc : List ℕ) (n : ℕ) (table room : List ℕ) : Type 0 where
  pub tree : Tree
  pub reads : Reads doc tree
  pub filled : Filled tree n table room
  pub lines_are : filled.lines ≡ lines_of doc

-- a document that stops has a number
pub refused_so : {doc : List ℕ} {n p : ℕ} → Stops doc n p → 0 < n
refused_so (char p l b d) = omega arith
refused_so (syntax p l b d a) = omega arith
refused_so (deep p k l b d x) = omega arith
refused_so (end b z) = omega arith

-- what acceptance leaves is within what rooms count for
filled_few : (doc : List ℕ) (t : Tree) → Reads doc t → (table : List ℕ) → width * size t ≤ words_in (rows_of (lines_of doc) 0 0 0 t ++ drop (width * size t) table)
filled_few doc t r table = omega (arith, r.short, few_rows deepest doc t r.word, length-append (rows_of (lines_of doc) 0 0 0 t) (drop (width * size t) table), length_rows (lines_of doc) 0 0 0 t)

filled_text : (doc : List ℕ) (t : Tree) → Reads doc t → (text : List ℕ) → length (text_of t) ≤ bytes_in (text_of t ++ drop (length (text_of t)) text)
filled_text doc t r text = omega (arith, r.short, few_text deepest doc t r.word, length-append (text_of t) (drop (length (text_of t)) text))

pub filling : {doc table text table' text' : List ℕ} {n m : ℕ} → Answered doc table text 0 n m table' text' → Filling doc n table' text'
filling (stopped n p l x) = let h = refused_so x in absurd (omega arith)
filling {doc = doc} {table = table} {text = text} (accepted t r l k) =
    record {
      tree = t;
      reads = r;
      filled = record { count = refl; lines = lines_of doc; rows = stands_first (rows_of (lines_of doc) 0 0 0 t) (drop (width * size t) table); text = stands_first (text_of t) (drop (length (text_of t)) text); few = filled_few doc t r table; few_text = filled_text doc t r text };
      lines_are = refl;
    }

-- OF A TREE, A TABLE WITH ITS n ROWS AND A ROOM: what each answer f that `find` may give for the row r and the key s has to be
pub record FindsExactly (t : Tree) (n : ℕ) (table room : List ℕ) : Type 0 where
  -- the rows that the walk takes for objects are those of the tree's objects
  pub objects_are : (r : ℕ) → (object table n r ≡ true) ↔ Object t r
  -- such a row has one list of pairs, in which a key stands once; and the row that a pair names is that of its value
  pub one_list : {r : ℕ} {fs gs : List Pair} → ObjectAt t r fs → ObjectAt t r gs → fs ≡ gs
  pub keys_once : {r : ℕ} {fs : List Pair} → ObjectAt t r fs → Once fs
  pub values_are : {r i : ℕ} {s : List ℕ} {v : Tree} {fs : List Pair} → ObjectAt t r fs → Holds s i v fs → RowOf i v 0 t
  -- in an object: the value of the key exactly if the object has the key, NONE exactly if not, never BADROW
  pub finding : {r : ℕ} {fs : List Pair} → ObjectAt t r fs → (s : List ℕ) (f : Found) → Finds table n room s r (found_reply f) → Answers f fs s
  -- in every other row: BADROW
  pub others : {r : ℕ} → (Object t r → ⊥) → (s : List ℕ) (f : Found) → Finds table n room s r (found_reply f) → f ≡ bad_row

pub no_object : {table room s : List ℕ} {n r : ℕ} (f : Found) (y : Bool) → object table n r ≡ y → (y ≡ true → ⊥) → Finds table n room s r (found_reply f) → f ≡ bad_row
no_object f true e n g = absurd (n refl)
no_object {table} {room} {s} {n} {r} f false e m g = one_found table n room s r f bad_row g (refused e)

-- A DOCUMENT THAT WAS ACCEPTED: its tree, and finding in it
pub record Finding (doc : List ℕ) (n : ℕ) (table room : List ℕ) : Type 0 where
  pub tree : Tree
  pub reads : Reads doc tree
  pub exactly : FindsExactly tree n table room

-- THE SPANS of an accepted document, in the words of its rows
pub spans_in_table : {doc table text table' text' : List ℕ} {n m : ℕ} → Answered doc table text 0 n m table' text' → RowSpans (length doc) n table'
spans_in_table {doc} {table' = table'} x =
    let z = filling x in
    let t = z.tree in
    let d = z.reads.word in
    subst (λ (k : ℕ). RowSpans (length doc) k table') (sym z.filled.count) (row_spans z.filled.lines table' z.filled.rows (placed deepest doc t d) (in_document deepest doc t d itself))

-- .. whose rows stand in the order of their first bytes
pub rise_in_table : {doc table text table' text' : List ℕ} {n m : ℕ} → Answered doc table text 0 n m table' text' → (r q : ℕ) → r < q → q < n
    → first_byte table' r ≤ first_byte table' q
rise_in_table {doc} {table' = table'} x r q l h =
    let z = filling x in
    let t = z.tree in
    rows_rise z.filled.lines table' t z.filled.rows (document_rises deepest doc t z.reads.word) r q l (omega (arith, z.filled.count))

-- .. and begin where their line and their column say: two rows of equal line and column start at the same byte
pub back_in_table : {doc table text table' text' : List ℕ} {n m : ℕ} → Answered doc table text 0 n m table' text' → (r q : ℕ) → r < n → q < n
    → row_line table' r ≡ row_line table' q → row_column table' r ≡ row_column table' q → first_byte table' r ≡ first_byte table' q
back_in_table {doc} {table' = table'} {n = n} x r q l h e f =
    let z = filling x in
    let t = z.tree in
    let ascii : (i : ℕ) → i < size t → get_or doc (get_or (firsts t) i 0) 128 < 128 = firsts_within (λ (p : ℕ). get_or doc p 128 < 128) t (begins_ascii deepest doc t z.reads.word) in
    let at : (i : ℕ) → i < n → From (lines_of doc) table' i (get_or (firsts t) i 0) =
    λ i j. subst (λ (L : Positions). From L table' i (get_or (firsts t) i 0)) z.lines_are (row_from z.filled.lines table' t z.filled.rows i (omega (arith, z.filled.count))) in
    (at r l).begins
    ∙ (lines_back doc (get_or (firsts t) r 0) (get_or (firsts t) q 0) (ascii r (omega (arith, z.filled.count))) (ascii q (omega (arith, z.filled.count)))
    (sym (at r l).line ∙ (e ∙ (at q h).line))
    (sym (at r l).column ∙ (f ∙ (at q h).column))
    ∙ sym (at q h).begins)
