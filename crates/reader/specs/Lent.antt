-- HOW THE ANSWER FOLLOWS where a document was passed over and its keys were noted, and it is read again into the rooms lent. Assumes nothing.
use Rattle.std.specs.Prelude.{◌≡◌, List, ℕ, ◌+◌, ◌*◌, ◌≤◌, ◌<◌, length, get_or, set, replicate}
use Rattle.std.proofs.Math.Path.{refl}
use Rattle.std.proofs.Common.{sym, subst, ◌∙◌, arith}
use Rattle.std.proofs.lemmas.List.Edits.{sets}
use Rattle.rooms.specs.Told.{spot, tally}
use Rattle.rooms.specs.declared.Cursor.{Cursor}
use Rattle.rooms.specs.Contract.{Ans}
use Rattle.std.specs.declared.option.Option.TheVariants.{None, Some}
use Rattle.std.specs.declared.result.Result.TheVariants.{Ok}
use Rattle.language.specs.Tree.{Tree, Repeats, unlined, rows_of, width, size, text_of, escapes_of}
use Rattle.language.specs.Answered.{limit, deepest, REPEAT, ROWS, TEXT, Answered, Totals}
use Rattle.language.specs.Document.{Document}
use Rattle.spans.proofs.DocumentLaws.{few_rows}
use Rattle.std.specs.Prelude.{Option}
use Rattle.notes.specs.Flat.{flat}
use Rattle.places.specs.Places.{Placed}
use Rattle.places.specs.Log.{Holds, Told, Windowed, windowed_plain, room_first, holds_whole, holds_placed, holds_told, names_tree}
use Rattle.exact.specs.Verdict.{acc}
use Rattle.blocks.specs.Document.{verdict}
use Rattle.repeats.specs.Later.{Names}
use Rattle.language.specs.Lines.{lines_of}
use Rattle.lined.specs.Lined.{Ranked, lined}
use Rattle.answers.specs.Counted.{Counted, counted_repeat, counted_rows, counted_bytes, counted_ranked, counted_all, counted_total}
use Rattle.judge.specs.Contract.{Known, Checked, Filled, Logged}
use Rattle.sieve.specs.Sieve.{large}
use Rattle.notes.specs.Handed.{mode}
use Rattle.reader.specs.Judged.{accepts}
use Rattle.reader.specs.Rounds.{Swept, Repeated, first_sieving, sieving_swept}

-- half of the keys that a log takes
abbrev pub half_log : ℕ
half_log = 3280

-- the document has n rows, m text bytes and z escapes
pub record Passed (doc : List ℕ) (n m z : ℕ) : Type 0 where
  pub tree : Tree
  pub short : length doc ≤ limit
  pub is : verdict deepest doc ≡ acc tree
  pub word : Document deepest doc tree
  pub row : n ≡ size tree
  pub text_count : m ≡ length (text_of tree)
  pub escape_count : z ≡ escapes_of tree
  pub few : n ≤ limit

-- .. and its first keys are noted
pub record Noted (doc keys : List ℕ) (n m z : ℕ) : Type 0 where
  pub passed : Passed doc n m z
  pub log : Windowed doc keys (flat 0 0 passed.tree) half_log 0 half_log

-- so it is after a pass over the document with a room that had none
module _ (doc : List ℕ) (a : Ans) (c : Cursor) (n m z : ℕ) (o : n ≡ c.row) (p : m ≡ spot c.text) (q : z ≡ tally c.text) (l : length doc ≤ limit) (x : Checked deepest doc a) (e : a ≡ Ok c) where
  known : Known deepest doc c
  unfolding Checked
  known = rw e at x

  pub passes : Passed doc n m z
  unfolding known
  passes =
      let d = accepts deepest doc known.tree known.is in
      record {
        tree = known.tree;
        short = l;
        is = known.is;
        word = d;
        row = o ∙ known.row;
        text_count = p ∙ known.text;
        escape_count = q ∙ known.escapes;
        few = omega (arith, o, known.row, few_rows deepest doc known.tree d);
      }

  pub passes_noted : (keys : List ℕ) → Logged deepest doc (replicate (4 + 4 * half_log) 0) keys → Noted doc keys n m z
  unfolding passes
  passes_noted keys w =
      record {
        passed = passes;
        log =
            windowed_plain doc (replicate (4 + 4 * half_log) 0) keys (flat 0 0 known.tree) half_log 0 half_log 0 (room_first (4 + 4 * half_log) half_log refl) (omega arith) (omega arith) refl l
            (w.logged known.tree known.is);
      }

  pub passes_sieved : (keys : List ℕ) → Logged deepest doc (set (replicate large 0) mode 1) keys → Swept doc keys 1
  passes_sieved keys w = sieving_swept doc (set (replicate large 0) mode 1) 0 (first_sieving doc known.tree l known.is keys (w.logged known.tree known.is)) keys w

-- ---- what `noted` shows

module _ (doc keys : List ℕ) (n m z : ℕ) (f : Noted doc keys n m z) where
  pub noted_room : 3 < length keys
  noted_room = omega (arith, f.log.long)

  pub noted_passed : Passed doc n m z
  noted_passed = f.passed

  module _ (v : ℕ) (e : v ≡ get_or keys 3 0) (l : v ≤ 0) where
    whole : Holds doc keys (flat 0 0 f.passed.tree)
    whole = holds_whole doc keys (flat 0 0 f.passed.tree) half_log f.log (omega arith)

    pub noted_placed : Placed doc keys (get_or keys 0 0)
    noted_placed = holds_placed doc keys (flat 0 0 f.passed.tree) whole

    pub noted_repeated : (r : Option ℕ) → Told doc keys r → Repeated doc r
    noted_repeated r t = told
      where
        told : (u : Tree) → verdict deepest doc ≡ acc u → Names (λ p. Repeats p u) r
        told u g =
            let y : acc f.passed.tree ≡ acc u = sym f.passed.is ∙ g in
            let w : f.passed.tree ≡ u = cc in
            subst (λ (s : Tree). Names (λ p. Repeats p s) r) w (names_tree f.passed.tree r (holds_told doc keys (flat 0 0 f.passed.tree) whole r t))

-- ---- what `filled` shows, once the first repeated key is known

module _ (doc : List ℕ) (n m z : ℕ) (f : Passed doc n m z) (a : Option ℕ) (h : Repeated doc a) (table text : List ℕ) where
  counted : Counted doc n m z a
  counted =
      record {
        tree = f.tree;
        short = f.short;
        word = f.word;
        row = f.row;
        text_count = f.text_count;
        escape_count = f.escape_count;
        names = h f.tree f.is;
      }

  pub filled_repeat : (p : ℕ) → a ≡ Some p → Answered doc table text REPEAT p 0 table text
  filled_repeat = counted_repeat counted table text

  pub filled_rows : a ≡ None → length table < width * n → Answered doc table text ROWS n 0 table text
  filled_rows = counted_rows counted table text

  pub filled_bytes : a ≡ None → width * n ≤ length table → length text < m → Answered doc table text TEXT m 0 table text
  filled_bytes = counted_bytes counted table text

  module _ (l : width * n ≤ length table) (table' text' : List ℕ) (w : Filled deepest doc table table' text text') where
    rooms : (table' ≡ sets table 0 (rows_of unlined 0 0 0 f.tree)) × (text' ≡ sets text 0 (text_of f.tree))
    rooms = w.filled f.tree f.is

    pub filled_ranked : Ranked doc table' n
    unfolding counted
    filled_ranked = counted_ranked counted table text l table' rooms.0

    pub filled_all : a ≡ None → m ≤ length text → (table'' : List ℕ) → table'' ≡ lined (lines_of doc) n table' → Answered doc table text 0 n m table'' text'
    unfolding counted
    filled_all e k table'' v = counted_all counted table text l table' rooms.0 e k table'' text' v rooms.1

  pub filled_total : a ≡ None → Totals doc 0 z
  filled_total e = counted_total counted e
