-- HOW THE ANSWER FOLLOWS, where the rows and the text of the document's tree stand in rooms of our own. Assumes nothing.
use Rattle.std.specs.Prelude.{◌≡◌, List, ◌++◌, ℕ, ◌+◌, ◌*◌, ◌≤◌, ◌<◌, length, take, drop, get_or}
use Rattle.std.proofs.Common.{◌∙◌, arith, take_at, length-take-le}
use Rattle.std.proofs.Math.Path.{ap}
use Rattle.std.proofs.lemmas.List.Edits.{sets}
use Rattle.std.proofs.Math.Seq.{slice}
use Rattle.rooms.specs.Forest.{length_rows}
use Rattle.language.specs.Tree.{unlined, width, size, text_of, escapes_of, rows_of}
use Rattle.language.specs.Answered.{limit, REPEAT, ROWS, TEXT, Answered, Totals, untold}
use Rattle.std.specs.Prelude.{Option}
use Rattle.std.specs.declared.option.Option.TheVariants.{None, Some}
use Rattle.repeats.specs.Stands.{Stands}
use Rattle.places.specs.Places.{Placed}
use Rattle.places.specs.Log.{Log, Told, log_placed, log_told}
use Rattle.language.specs.Lines.{lines_of}
use Rattle.lined.specs.Lined.{Ranked, lined}
use Rattle.answers.specs.Counted.{Counted, counted_repeat, counted_rows, counted_bytes, counted_ranked, counted_all, counted_total}

-- ROOMS OF OUR OWN hold the n rows and the m text bytes of the document's tree, which has z escapes and whose keys are noted
pub record Held (doc keys R T : List ℕ) (n m z : ℕ) : Type 0 where
  pub log : Log doc keys
  pub short : length doc ≤ limit
  pub row : n ≡ size log.tree
  pub text_count : m ≡ length (text_of log.tree)
  pub escape_count : z ≡ escapes_of log.tree
  pub few : width * n ≤ length R
  pub fits : m ≤ length T
  pub small : n + m ≤ 2 * limit
  pub table_is : Stands R 0 (rows_of unlined 0 0 0 log.tree)
  pub text_is : Stands T 0 (text_of log.tree)

module _ {doc keys R T : List ℕ} {n m z : ℕ} (f : Held doc keys R T n m z) where
  pub table_held : slice 0 (width * n) R ≡ rows_of unlined 0 0 0 f.log.tree
  table_held =
      let j = length_rows unlined 0 0 0 f.log.tree in
      ap (take (width * n)) f.table_is.is ∙ take_at (rows_of unlined 0 0 0 f.log.tree) f.table_is.rest (width * n) (omega (arith, f.row))

  pub text_held : slice 0 m T ≡ text_of f.log.tree
  text_held = ap (take m) f.text_is.is ∙ take_at (text_of f.log.tree) f.text_is.rest m (omega (arith, f.text_count))

-- ---- what `answer` shows

pub answer_placed : (doc keys R T : List ℕ) (n m z : ℕ) → Held doc keys R T n m z → Placed doc keys (get_or keys 0 0)
answer_placed doc keys R T n m z f = log_placed doc keys f.log

module _ (doc keys R T : List ℕ) (n m z : ℕ) (f : Held doc keys R T n m z) (a : Option ℕ) (h : Told doc keys a) where
  counted : Counted doc n m z a
  counted =
      record {
        tree = f.log.tree;
        short = f.short;
        word = f.log.word;
        row = f.row;
        text_count = f.text_count;
        escape_count = f.escape_count;
        names = log_told doc keys f.log a h;
      }

  pub answer_total : a ≡ None → Totals doc 0 z
  answer_total = counted_total counted

  module _ (table text : List ℕ) where
    pub answer_repeat : (p : ℕ) → a ≡ Some p → Answered doc table text REPEAT p 0 table text
    answer_repeat = counted_repeat counted table text

    pub answer_rows : a ≡ None → length table < width * n → Answered doc table text ROWS n 0 table text
    answer_rows = counted_rows counted table text

    pub answer_bytes : a ≡ None → width * n ≤ length table → length text < m → Answered doc table text TEXT m 0 table text
    answer_bytes = counted_bytes counted table text

    module _ (l : width * n ≤ length table) (table' : List ℕ) (x : table' ≡ sets table 0 (slice 0 (width * n) R)) where
      pub answer_ranked : Ranked doc table' n
      unfolding counted
      answer_ranked = counted_ranked counted table text l table' (x ∙ ap (sets table 0) (table_held f))

      pub answer_all : a ≡ None → m ≤ length text → (table'' text' : List ℕ) → table'' ≡ lined (lines_of doc) n table' → text' ≡ sets text 0 (slice 0 m T)
          → Answered doc table text 0 n m table'' text'
      unfolding counted
      answer_all e k table'' text' w y = counted_all counted table text l table' (x ∙ ap (sets table 0) (table_held f)) e k table'' text' w (y ∙ ap (sets text 0) (text_held f))

-- a refusal has no escapes
pub no_total : (doc : List ℕ) (n : ℕ) → 0 < n → Totals doc n 0
no_total doc n h = untold n h
