-- THE ANSWER AND THE ROOMS (01, What the reader takes and gives; Numbers of refusal): what is right for a document and the rooms lent. Assumes nothing.
use Rattle.std.specs.Prelude.{List, ◌++◌, ℕ, suc, ◌*◌, ◌≤◌, ◌<◌, length, take, drop, Result, Ok, Err}
use Rattle.notation.specs.Lang.{Begins}
use Rattle.language.specs.declared.Accepted.{Accepted}
use Rattle.language.specs.declared.Refusal.{Refusal}
use Rattle.language.specs.declared.Refusal.TheVariants.{Long, Char, Syntax, Deep, End, Repeat, Rows, Text}
use Rattle.language.specs.Tree.{Tree, width, size, text_of, escapes_of, rows_of, Repeats, Once}
use Rattle.language.specs.Characters.{Allowed}
use Rattle.language.specs.Document.{Document}
use Rattle.language.specs.Lines.{lines_of}
use Rattle.language.specs.Lent.{words_in, bytes_in}

-- "Raise the length limit" to 1,048,576 bytes (02, Ticket 11); "at most 32 containers one inside another"
abbrev pub limit : ℕ
limit = 1048576

abbrev pub deepest : ℕ
deepest = 32

-- the numbers
abbrev pub LONG : ℕ
LONG = 1

abbrev pub CHAR : ℕ
CHAR = 2

abbrev pub SYNTAX : ℕ
SYNTAX = 3

abbrev pub DEEP : ℕ
DEEP = 4

abbrev pub END : ℕ
END = 5

abbrev pub REPEAT : ℕ
REPEAT = 6

abbrev pub ROWS : ℕ
ROWS = 7

abbrev pub TEXT : ℕ
TEXT = 8

abbrev pub BADROW : ℕ
BADROW = 9

-- what `read` answers
abbrev pub Answer : Type 0
Answer = Result Accepted Refusal

-- "Where an answer is an enum, a definition gives this paper's number and values for each of its cases, and the promises use that definition" (01, Expected forms by place).
-- The number is 0 for an acceptance; the values are the counts, or the place, the rows needed or the bytes needed, and 0
abbrev pub number : Answer → ℕ
number (Ok a) = 0
number (Err Long) = LONG
number (Err (Char p)) = CHAR
number (Err (Syntax p)) = SYNTAX
number (Err (Deep p)) = DEEP
number (Err (End p)) = END
number (Err (Repeat p)) = REPEAT
number (Err (Rows rows)) = ROWS
number (Err (Text bytes)) = TEXT

abbrev pub value : Answer → ℕ
value (Ok a) = a.rows.0
value (Err Long) = 0
value (Err (Char p)) = p.0
value (Err (Syntax p)) = p.0
value (Err (Deep p)) = p.0
value (Err (End p)) = p.0
value (Err (Repeat p)) = p.0
value (Err (Rows rows)) = rows.0
value (Err (Text bytes)) = bytes

abbrev pub second : Answer → ℕ
second (Ok a) = a.text
second (Err refusal) = 0

-- "Acceptance answers with the document's total" (02, Ticket 2); every refusal has none
abbrev pub third : Answer → ℕ
third (Ok a) = a.escapes
third (Err refusal) = 0

-- some document begins so, with at most 32 containers one inside another
abbrev pub Viable : List ℕ → Type 0
Viable u = Begins (Document deepest) u

-- WHERE A DOCUMENT STOPS. "p is the count of bytes in the longest prefix that begins some document, of any length"
pub data Stops (doc : List ℕ) : ℕ → ℕ → Type 0 where
  -- "bytes through p begin no sequence of allowed characters"
  char : (p : ℕ) → p < length doc → Viable (take p doc) → (Begins Allowed (take (suc p) doc) → ⊥) → Stops doc CHAR p
  -- "bytes through p begin no document even with nesting unlimited, and not CHAR"
  syntax : (p : ℕ) → p < length doc → Viable (take p doc) → ((k : ℕ) → Begins (Document k) (take (suc p) doc) → ⊥) → Begins Allowed (take (suc p) doc)
      → Stops doc SYNTAX p
  -- "they begin one only with nesting unlimited"
  deep : (p k : ℕ) → p < length doc → Viable (take p doc) → (Viable (take (suc p) doc) → ⊥) → Begins (Document k) (take (suc p) doc) → Stops doc DEEP p
  -- "all bytes begin a document but are none"
  end : Viable doc → ((t : Tree) → Document deepest doc t → ⊥) → Stops doc END (length doc)

-- t is the tree of a document within the limits, and no object of it has two equal keys
pub record Reads (doc : List ℕ) (t : Tree) : Type 0 where
  pub short : length doc ≤ limit
  pub word : Document deepest doc t
  pub once : Once t

-- THE PROMISE: the document, table and text room as they were lent; the answer's number and first two values; table and text room afterwards.
-- "All refusals leave table and text room unchanged."
pub data Answered (doc table text : List ℕ) : ℕ → ℕ → ℕ → List ℕ → List ℕ → Type 0 where
  -- the rows and the text of the tree; "words and bytes past the counts keep what they held"
  accepted : (t : Tree) → Reads doc t → width * size t ≤ words_in table → length (text_of t) ≤ bytes_in text
      → Answered
      doc
      table
      text
      0
      (size t)
      (length (text_of t))
      (rows_of (lines_of doc) 0 0 0 t ++ drop (width * size t) table)
      (text_of t ++ drop (length (text_of t)) text)
  long : limit < length doc → Answered doc table text LONG 0 0 table text
  stopped : (n p : ℕ) → length doc ≤ limit → Stops doc n p → Answered doc table text n p 0 table text
  -- "smallest start of a later equal key"
  repeated : (t : Tree) (p : ℕ) → length doc ≤ limit → Document deepest doc t → Repeats p t → ((q : ℕ) → Repeats q t → p ≤ q)
      → Answered doc table text REPEAT p 0 table text
  -- "seven times the rows needed exceeds the words lent" (01); "ROWS is reckoned with nine" (02, Ticket 8)
  rows : (t : Tree) → Reads doc t → words_in table < width * size t → Answered doc table text ROWS (size t) 0 table text
  -- "text needed exceeds the bytes lent"
  bytes : (t : Tree) → Reads doc t → width * size t ≤ words_in table → bytes_in text < length (text_of t)
      → Answered doc table text TEXT (length (text_of t)) 0 table text

-- THE PROMISE OF THE THIRD VALUE, by the number beside it: "Acceptance answers with the document's total" (02, Ticket 2); every refusal, ROWS and TEXT too, has none
pub data Totals (doc : List ℕ) : ℕ → ℕ → Type 0 where
  total : (t : Tree) → Reads doc t → Totals doc 0 (escapes_of t)
  untold : (n : ℕ) → 0 < n → Totals doc n 0
