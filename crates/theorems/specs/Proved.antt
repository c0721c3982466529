-- THE THEOREMS, by name, of every document and of every reader that meets the promise. What they say that is not in `language` stands in `spans` (Keys, Placed, Rising), `found`
-- (Objects, Once, Kinds, Spans, Read) and `exports` (Exports).
use Rattle.std.specs.Prelude.{◌≡◌, List, ◌++◌, ℕ, suc, ◌*◌, ◌≤◌, ◌<◌, length, take, get_or, ℤ}
use Rattle.language.specs.Tree.{Tree, first, after, size, text_of, escapes_of}
use Rattle.language.specs.Document.{Document}
use Rattle.language.specs.Answered.{limit, deepest, CHAR, DEEP, END, REPEAT, Answer, number, value, second, third, Viable, Answered, Totals}
use Rattle.questions.specs.Text as texts
use Rattle.questions.specs.Walk.{Found, found_reply, Finds}
use Rattle.questions.specs.Unique as questions
use Rattle.integers.specs.Order.{Compared, compared, compared_verdict}
use Rattle.integers.specs.Unique as integers
use Rattle.exports.specs.Exports.{FoundAt, ComparedTo, TextAt}
use Rattle.exports.specs.Unique as exports
use Rattle.blocks.specs.Document as readers
use Rattle.blocks.proofs.DocumentLaws as readers_laws
use Rattle.blocks.specs.Clean as clean
use Rattle.spans.specs.Keys.{keys_in}
use Rattle.spans.specs.Placed.{Within, Child, Siblings, Inside}
use Rattle.spans.specs.Rising.{Rising, firsts}
use Rattle.spans.proofs.RisingLaws.{document_rises}
use Rattle.spans.specs.Document as documents
use Rattle.spans.proofs.DocumentLaws as documents_laws
use Rattle.spans.specs.Begins as begins
use Rattle.spans.proofs.BeginsLaws as begins_laws
use Rattle.found.specs.Spans.{RowSpans}
use Rattle.lined.specs.Lined.{first_byte}
use Rattle.found.specs.Firsts.{row_line, row_column}
use Rattle.found.specs.Read as found
use Rattle.found.proofs.ReadLaws as found_laws
use Rattle.promise.specs.Unique as unique
use Rattle.promise.specs.Refusals as refusals
use Rattle.promise.specs.LargerRooms as rooms

pub known : unique.Known
known = record { one_tree = readers_laws.one_tree; allowed = clean.document_allowed }

-- ONE TREE: a document has one, whatever its nesting
pub one_tree : (k : ℕ) (doc : List ℕ) (t u : Tree) → Document k doc t → Document k doc u → t ≡ u
one_tree = readers_laws.one_tree

-- ---- ONE ANSWER

-- of `read` and `yay_read`: the promise fixes number, place or counts, and every word and byte of both rooms; and, beside the number, the total of escapes
pub one_answer : (doc table text : List ℕ) (n v s n₂ v₂ s₂ : ℕ) (table' text' table'' text'' : List ℕ)
    → Answered doc table text n v s table' text' → Answered doc table text n₂ v₂ s₂ table'' text'' → (n ≡ n₂) × (v ≡ v₂) × (s ≡ s₂) × (table' ≡ table'') × (text' ≡ text'')
one_answer doc table text n v s n₂ v₂ s₂ table' text' table'' text'' x y = unique.one_answer known x y

pub one_total : (doc : List ℕ) (n z z₂ : ℕ) → Totals doc n z → Totals doc n z₂ → z ≡ z₂
one_total doc n z z₂ x y = unique.one_total known x y

-- .. and so the number and the three values of `yay_read`
pub one_yay_read : (doc table text : List ℕ) (n v s z n₂ v₂ s₂ z₂ : ℕ) (table' text' table'' text'' : List ℕ)
    → Answered doc table text n v s table' text' → Totals doc n z → Answered doc table text n₂ v₂ s₂ table'' text'' → Totals doc n₂ z₂
    → (n ≡ n₂) × (v ≡ v₂) × (s ≡ s₂) × (z ≡ z₂) × (table' ≡ table'') × (text' ≡ text'')
one_yay_read doc table text n v s z n₂ v₂ s₂ z₂ table' text' table'' text'' x a y b =
    let e = one_answer doc table text n v s n₂ v₂ s₂ table' text' table'' text'' x y in
    (e.0, e.1, e.2, one_total doc n z z₂ a (rw e.0 b), e.3, e.4)

-- .. and the case that `read` hands back, which number and values tell
pub one_case : (a b : Answer) → number a ≡ number b → value a ≡ value b → second a ≡ second b → third a ≡ third b → a ≡ b
one_case = unique.answer_tells

pub one_read : (doc table text : List ℕ) (a b : Answer) (table' text' table'' text'' : List ℕ)
    → Answered doc table text (number a) (value a) (second a) table' text' → Totals doc (number a) (third a)
    → Answered doc table text (number b) (value b) (second b) table'' text'' → Totals doc (number b) (third b)
    → (a ≡ b) × (table' ≡ table'') × (text' ≡ text'')
one_read = unique.one_read known

-- of the questions `find`, `text_number` and `text`, and of comparing
pub one_find : (table : List ℕ) (R : ℕ) (room key : List ℕ) (r : ℕ) (f g : Found) → Finds table R room key r (found_reply f) → Finds table R room key r (found_reply g) → f ≡ g
one_find = questions.one_found

pub one_text_number : (table : List ℕ) (R : ℕ) (room : List ℕ) (r m n : ℕ) → m ≡ texts.text_number table R room r → n ≡ texts.text_number table R room r → m ≡ n
one_text_number = questions.one_number

pub one_text : (table : List ℕ) (R : ℕ) (room : List ℕ) (r : ℕ) (s t : List ℕ) → s ≡ texts.text_of table R room r → t ≡ texts.text_of table R room r → s ≡ t
one_text = questions.one_text

pub one_compare : (left right : List ℕ) (c d : Compared) → compared_verdict c ≡ compared left right → compared_verdict d ≡ compared left right → c ≡ d
one_compare = integers.one_compared

-- of `yay_find`, `yay_text` and `yay_compare`
pub one_yay_find : (table : List ℕ) (R : ℕ) (room : List ℕ) (r : ℕ) (key : List ℕ) (n v m w : ℕ) → FoundAt table R room r key n v → FoundAt table R room r key m w
    → (n ≡ m) × (v ≡ w)
one_yay_find = exports.one_found_at

pub one_yay_text : (table : List ℕ) (R : ℕ) (room : List ℕ) (r n from to m from₂ to₂ : ℕ) → TextAt table R room r n from to → TextAt table R room r m from₂ to₂
    → (n ≡ m) × (from ≡ from₂) × (to ≡ to₂)
one_yay_text = exports.one_text_at

pub one_yay_compare : (left right : List ℕ) (n m : ℕ) (v w : ℤ) → ComparedTo left right n v → ComparedTo left right m w → (n ≡ m) × (v ≡ w)
one_yay_compare = exports.one_compared_to

-- ---- WHERE REFUSALS STAND

-- EARLIEST: the bytes before a refusal from CHAR to END begin some document
pub earliest : (doc table text table' text' : List ℕ) (n p s : ℕ) → CHAR ≤ n → n ≤ END → Answered doc table text n p s table' text' → Viable (take p doc)
earliest doc table text table' text' n p s l h x = refusals.earliest l h x

-- NO LONGER: the bytes through the place of a refusal from CHAR to DEEP begin no document of any length, whether or not it repeats keys
pub no_longer : (doc table text table' text' : List ℕ) (n p s : ℕ) → CHAR ≤ n → n ≤ DEEP → Answered doc table text n p s table' text'
    → (p < length doc) × ((rest : List ℕ) (t : Tree) → Document deepest (take (suc p) doc ++ rest) t → ⊥)
no_longer doc table text table' text' n p s l h x = refusals.no_longer known l h x

-- FINAL: a document within the limit that agrees up to and including the place of a refusal from CHAR to DEEP is refused there too, with the same number
pub final : (doc doc' table text table' text' table₂ text₂ table₃ text₃ : List ℕ) (n p s n₂ p₂ s₂ : ℕ) → CHAR ≤ n → n ≤ DEEP → Answered doc table text n p s table' text'
    → take (suc p) doc ≡ take (suc p) doc' → length doc' ≤ limit → Answered doc' table₂ text₂ n₂ p₂ s₂ table₃ text₃ → (n₂ ≡ n) × (p₂ ≡ p)
final doc doc' table text table' text' table₂ text₂ table₃ text₃ n p s n₂ p₂ s₂ l h x e small y = refusals.final doc doc' known l h x e small y

-- CUT OFF: at END the whole input begins a document and is none
pub cut_off : (doc table text table' text' : List ℕ) (p s : ℕ) → Answered doc table text END p s table' text'
    → (p ≡ length doc) × Viable doc × ((t : Tree) → Document deepest doc t → ⊥)
cut_off doc table text table' text' p s x = refusals.cut_off x

-- LARGER ROOMS change neither acceptance nor a refusal from 1 to 6
pub larger_rooms : (doc table text table₂ text₂ table' text' table'' text'' : List ℕ) (n v s n₂ v₂ s₂ : ℕ) → length table ≤ length table₂ → length text ≤ length text₂ → n ≤ REPEAT
    → Answered doc table text n v s table' text' → Answered doc table₂ text₂ n₂ v₂ s₂ table'' text'' → (n ≡ n₂) × (v ≡ v₂) × (s ≡ s₂)
larger_rooms doc table text table₂ text₂ table' text' table'' text'' n v s n₂ v₂ s₂ l m h x y = rooms.larger_rooms known l m h x y

-- ---- ROWS, TEXT AND SPANS

-- FEW ROWS AND LITTLE TEXT: each fewer than the document's bytes
pub few_rows : (k : ℕ) (doc : List ℕ) (t : Tree) → Document k doc t → size t < length doc
few_rows = documents_laws.few_rows

pub few_text : (k : ℕ) (doc : List ℕ) (t : Tree) → Document k doc t → length (text_of t) < length doc
few_text = documents_laws.few_text

-- FEW ESCAPES: no more than the document's bytes
pub few_escapes : (k : ℕ) (doc : List ℕ) (t : Tree) → Document k doc t → escapes_of t ≤ length doc
few_escapes = documents_laws.few_escapes

-- FEW KEYS: four bytes or more of a document belong to each, at any depth
pub few_keys : (k : ℕ) (doc : List ℕ) (t : Tree) → Document k doc t → 4 * keys_in t ≤ length doc
few_keys = documents_laws.few_keys

-- SPANS of a tree: each child's inside its parent's; siblings' disjoint and in order; none empty, and all inside the document
pub record TreeSpans (bytes : ℕ) (t : Tree) : Type 0 where
  pub inside : {p u : Tree} → Within p t → Child u p → Inside p u
  pub in_order : {p u v : Tree} → Within p t → Siblings u v p → after u ≤ first v
  pub in_document : {u : Tree} → Within u t → (first u < after u) × (after u ≤ bytes)

pub spans : (k : ℕ) (doc : List ℕ) (t : Tree) → Document k doc t → TreeSpans (length doc) t
spans k doc t d =
    record {
      inside = λ w c. documents_laws.inside k doc t d w c;
      in_order = λ w c. documents_laws.in_order k doc t d w c;
      in_document = λ w. (documents_laws.some_span k doc t d w, documents_laws.in_document k doc t d w);
    }

-- .. and in the words of the table that is filled for an accepted document
pub spans_in_table : (doc table text table' text' : List ℕ) (n m : ℕ) → Answered doc table text 0 n m table' text' → RowSpans (length doc) n table'
spans_in_table doc table text table' text' n m x = found.spans_in_table x

-- ROWS RISE: they stand in the order of their first bytes, which all lie inside the document
pub rows_rise : (k : ℕ) (doc : List ℕ) (t : Tree) → Document k doc t → Rising 0 (firsts t) (length doc)
rows_rise = document_rises

-- .. and in the words of the table that is filled for an accepted document
pub rows_rise_in_table : (doc table text table' text' : List ℕ) (n m : ℕ) → Answered doc table text 0 n m table' text' → (r q : ℕ) → r < q → q < n
    → first_byte table' r ≤ first_byte table' q
rows_rise_in_table doc table text table' text' n m x r q l h = found.rise_in_table x r q l h

-- BEGINNINGS: every tree of a document, at any depth, keys too, begins with an ASCII byte, and so its span with a whole character
pub begins_ascii : (k : ℕ) (doc : List ℕ) (t : Tree) → Document k doc t → (u : Tree) → Within u t → get_or doc (first u) 128 < 128
begins_ascii = begins_laws.begins_ascii

-- LINES LEAD BACK to the first byte: two rows of equal line and column start at the same byte
pub lines_back : (doc table text table' text' : List ℕ) (n m : ℕ) → Answered doc table text 0 n m table' text' → (r q : ℕ) → r < n → q < n
    → row_line table' r ≡ row_line table' q → row_column table' r ≡ row_column table' q → first_byte table' r ≡ first_byte table' q
lines_back doc table text table' text' n m x r q l h e f = found.back_in_table x r q l h e f

-- FINDING in the table that is filled for an accepted document answers the value of the key in that object, exactly if the object has the key
pub find_exactly : (doc table text table' text' : List ℕ) (n m : ℕ) → Answered doc table text 0 n m table' text' → (t : Tree) → Document deepest doc t
    → found.FindsExactly t n table' text'
find_exactly doc table text table' text' n m x t d = found_laws.find_in_tree (one_tree deepest doc) x d
