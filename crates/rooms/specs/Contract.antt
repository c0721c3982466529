-- What a reader in code promises of the reader that it runs: where it stands afterwards, and what the rooms hold. Assumes nothing.
use Rattle.std.specs.Prelude.{◌≡◌, List, ℕ, ◌+◌, ◌*◌, ◌≤◌, ◌<◌, length, drop}
use Rattle.std.proofs.lemmas.List.Edits.{sets}
use Rattle.exact.specs.Out.{Out, bad}
use Rattle.exact.specs.Lines.{reached}
use Rattle.exact.specs.Place.{peek}
use Rattle.language.specs.Tree.{unlined, Tree, after, width, size, text_of, escapes_of, rows_of}
use Rattle.language.specs.Answered.{limit, deepest}
use Rattle.rooms.specs.Told.{spot, tally}
use Rattle.rooms.specs.declared.Cursor.{Cursor}
use Rattle.std.specs.declared.option.Option.{Option}
use Rattle.std.specs.declared.option.Option.TheVariants.{None, Some}
use Rattle.std.specs.declared.result.Result.{Result}
use Rattle.std.specs.declared.result.Result.TheVariants.{Err, Ok}

-- WHAT READERS ANSWER, as the crate's types of these names say it: a byte and the next cursor; a cursor, or the place of the refusal; with the place up to
-- which something longer stays viable; with the place where a span ends
abbrev pub Step : Type 0
Step = Option (ℕ × Cursor)

abbrev pub Ans : Type 0
Ans = Result Cursor ℕ

abbrev pub Far : Type 0
Far = Result (Cursor × ℕ) ℕ

abbrev pub Block : Type 0
Block = Result (Cursor × ℕ × ℕ) ℕ

-- what the numbers of one document, or of stored bytes, are below: places, rows, counts, and a sum of a few of them
abbrev pub ample : ℕ
ample = 32 * limit

-- the last column where anything of a document stands, also with one container more than may stand inside another
abbrev pub columns : ℕ
columns = 2 * (deepest + 1)

-- the cursor i bytes on
abbrev pub onward : Cursor → ℕ → Cursor
onward c i = record { at = c.at + i; row = c.row; text = c.text }

-- a byte was there, and the next cursor stands behind it; or the document is at its end
unfoldable pub Stepped : List ℕ → Cursor → Step → Type 0
Stepped doc c (Some (b, n)) = (c.at < length doc) × (b ≡ peek doc c.at) × (n ≡ onward c 1)
Stepped doc c None = (length doc ≤ c.at) × (peek doc c.at ≡ 256)

-- the byte b was there, and the next cursor stands behind it; or another was
unfoldable pub Takes : List ℕ → Cursor → ℕ → Ans → Type 0
Takes doc c b (Ok n) = (n ≡ onward c 1) × (b ≡ peek doc c.at)
Takes doc c b (Err p) = (p ≡ c.at) × (peek doc c.at ≡ b → ⊥)

-- ASKED of a cursor: it stands in a document within the limit, and neither its row nor its text nor the escapes so far are ahead of it
pub record Ready (doc : List ℕ) (c : Cursor) : Type 0 where
  pub small : length doc ≤ limit
  pub inside : c.at ≤ length doc
  pub few_rows : c.row ≤ c.at
  pub few_text : spot c.text ≤ c.at
  pub few_escapes : tally c.text ≤ c.at

-- PROMISED of a tree read from the cursor c up to n: where n stands,
pub record Span (doc : List ℕ) (c n : Cursor) (t : Tree) : Type 0 where
  pub ahead : c.at < n.at
  pub inside : n.at ≤ length doc
  pub row : n.row ≡ c.row + size t
  pub text : spot n.text ≡ spot c.text + length (text_of t)
  pub escapes : tally n.text ≡ tally c.text + escapes_of t
  pub few_rows : c.at + size t ≤ n.at
  pub few_text : c.at + length (text_of t) ≤ n.at
  pub few_escapes : c.at + escapes_of t ≤ n.at

-- and what the rooms hold, as far as they reach,
pub record Filled (c : Cursor) (parent : ℕ) (t : Tree) (rows rows' text text' : List ℕ) : Type 0 where
  pub table : rows' ≡ sets rows (width * c.row) (rows_of unlined c.row parent (spot c.text) t)
  pub room : text' ≡ sets text (spot c.text) (text_of t)

-- where the reader's answer o is that tree, and what is left from n on; what is longer stays viable up to far, 0 for nowhere
pub record Taken (doc : List ℕ) (c : Cursor) (parent : ℕ) (o : Out Tree) (n : Cursor) (far : ℕ) (rows rows' text text' : List ℕ) : Type 0 where
  pub tree : Tree
  pub is : o ≡ reached far tree n.at (drop n.at doc)
  pub span : Span doc c n tree
  pub filled : Filled c parent tree rows rows' text text'

-- THE CONTRACT of a reader in code: it answers what o says, and has written o's tree
unfoldable pub Answers : List ℕ → Cursor → ℕ → Out Tree → Ans → List ℕ → List ℕ → List ℕ → List ℕ → Type 0
Answers doc c parent o (Ok n) rows rows' text text' = Taken doc c parent o n 0 rows rows' text text'
Answers doc c parent o (Err p) rows rows' text text' = o ≡ bad p

-- .. and of one that may be soft
unfoldable pub Reaches : List ℕ → Cursor → ℕ → Out Tree → Far → List ℕ → List ℕ → List ℕ → List ℕ → Type 0
Reaches doc c parent o (Ok (n, far)) rows rows' text text' = Taken doc c parent o n far rows rows' text text'
Reaches doc c parent o (Err p) rows rows' text text' = o ≡ bad p

-- .. and of one whose tree ends at e, before the line's end
pub record Blocked (doc : List ℕ) (c : Cursor) (parent : ℕ) (o : Out Tree) (n : Cursor) (far e : ℕ) (rows rows' text text' : List ℕ) : Type 0 where
  pub taken : Taken doc c parent o n far rows rows' text text'
  pub ends : after taken.tree ≡ e
  pub inner : e ≤ n.at

unfoldable pub Blocks : List ℕ → Cursor → ℕ → Out Tree → Block → List ℕ → List ℕ → List ℕ → List ℕ → Type 0
Blocks doc c parent o (Ok (n, far, e)) rows rows' text text' = Blocked doc c parent o n far e rows rows' text text'
Blocks doc c parent o (Err p) rows rows' text text' = o ≡ bad p

-- the numbers of a row fit
pub record Small (first after from to next : ℕ) : Type 0 where
  pub first_fits : first < ample
  pub after_fits : after < ample
  pub from_fits : from < ample
  pub to_fits : to < ample
  pub next_fits : next < ample
