-- What the functions that read the lines of a block promise. Assumes nothing.
use Rattle.std.specs.Prelude.{◌≡◌, List, [], ◌∷◌, true, false, ℕ, suc, ◌+◌, ◌-◌, ◌≤◌, ◌<◌, length, drop}
use Rattle.std.proofs.Math.Seq.{slice}
use Rattle.std.proofs.lemmas.List.Edits.{sets}
use Rattle.exact.specs.Class.{only}
use Rattle.exact.specs.Out.{Out, ok, soft, bad}
use Rattle.exact.specs.Block.{lead}
use Rattle.exact.specs.Place.{peek, run_end}
use Rattle.language.specs.BlockText.{Line, blank, lower, unlines, body_end}
use Rattle.language.specs.Answered.{limit}
use Rattle.characters.specs.Reads.{Skip}
use Rattle.std.specs.declared.result.Result.TheVariants.{Err, Ok}
use Rattle.rooms.specs.declared.Cursor.{Cursor}
use Rattle.rooms.specs.Told.{spot, tally}
use Rattle.rooms.specs.Contract.{columns, Ready}
use Rattle.blocktext.specs.declared.body.Seen.{Seen}
use Rattle.blocktext.specs.declared.body.Seen.TheVariants.{Empty, Written, Over}
use Rattle.blocktext.specs.declared.body.Extent.{Extent}
use Rattle.std.specs.declared.result.Result.{Result}
use Rattle.blocktext.specs.Pieces.{solid_r}
use Rattle.blocktext.specs.TextLines.{goes_on, body_line_r, body_r}
use Rattle.blocktext.specs.Placed.{Blank, Text, line_at, Placed}

-- ASKED of a cursor at a block: its first byte, and a column that no document within its limits goes beyond
pub record Asked (doc : List ℕ) (c : Cursor) (b col : ℕ) : Type 0 where
  pub ready : Ready doc c
  pub first : peek doc c.at ≡ b
  pub low : col ≤ columns

-- the spaces at `at` end at s
pub record Spaced (doc : List ℕ) (at s : ℕ) : Type 0 where
  pub is : s ≡ run_end (only 32) doc at
  pub from : at ≤ s
  pub inside : s ≤ length doc

-- a text stands at `at`, and behind it, at e, an LF
pub record Texted (doc : List ℕ) (at e : ℕ) : Type 0 where
  pub is : solid_r at (drop at doc) ≡ ok (slice at e doc) e (drop e doc)
  pub ahead : at < e
  pub inside : e < length doc
  pub feed : peek doc e ≡ 10
  pub dry : (j : ℕ) → at ≤ j → j < e → peek doc j ≡ 10 → ⊥

-- .. or one is refused at p, or no LF stands behind it
pub data Untexted (doc : List ℕ) (at p : ℕ) : Type 0 where
  no_text : solid_r at (drop at doc) ≡ bad p → Untexted doc at p
  no_feed : (v : List ℕ) → solid_r at (drop at doc) ≡ ok v p (drop p doc) → (peek doc p ≡ 10 → ⊥) → Untexted doc at p

unfoldable pub TextAt : List ℕ → ℕ → Skip → Type 0
TextAt doc at (Ok e) = Texted doc at e
TextAt doc at (Err p) = Untexted doc at p

-- A LINE OF A BODY that begins at a: blank, up to n, with a text from s to e, none (and how far one would begin), or refused
pub record SeenBlank (doc : List ℕ) (col a n : ℕ) : Type 0 where
  pub next : n ≡ a + 1
  pub look : goes_on col (drop a doc) ≡ true
  pub is : body_line_r col a (drop a doc) ≡ ok blank (a + 1) (drop (a + 1) doc)
  pub blank : Blank doc a

pub record SeenText (doc : List ℕ) (col a s e : ℕ) : Type 0 where
  pub look : goes_on col (drop a doc) ≡ true
  pub is : body_line_r col a (drop a doc) ≡ ok (line_at doc col a s e) (e + 1) (drop (e + 1) doc)
  pub text : Text doc col a s e

pub record SeenNone (doc : List ℕ) (col a far : ℕ) : Type 0 where
  pub look : goes_on col (drop a doc) ≡ false
  pub reach : far ≡ a + lead col (drop a doc)

pub record SeenBad (doc : List ℕ) (col a p : ℕ) : Type 0 where
  pub look : goes_on col (drop a doc) ≡ true
  pub is : body_line_r col a (drop a doc) ≡ bad p
  pub inside : a < length doc

unfoldable pub Sees : List ℕ → ℕ → ℕ → Result Seen ℕ → Type 0
Sees doc col a (Ok (Empty n)) = SeenBlank doc col a n
Sees doc col a (Ok (Written s e)) = SeenText doc col a s e
Sees doc col a (Ok (Over far)) = SeenNone doc col a far
Sees doc col a (Err p) = SeenBad doc col a p

-- THE BODY below the LF at e: its lines, the place behind them, how far a further one would begin, where the last text ends, and the least indentation
pub record Bodied (doc : List ℕ) (e col at far last least : ℕ) : Type 0 where
  pub lines : List Line
  pub is : body_r col (e + 1) (drop (e + 1) doc) ≡ soft far lines at (drop at doc)
  pub placed : Placed doc col (e + 1) lines at
  pub ends : last ≡ body_end e lines
  pub lowest : least ≡ lower (length doc) lines
  pub inside : at ≤ length doc
  pub ahead : at ≤ far

unfoldable pub BodyAt : List ℕ → ℕ → ℕ → Result Extent ℕ → Type 0
BodyAt doc e col (Ok w) = Bodied doc e col w.at w.far w.last w.least
BodyAt doc e col (Err p) = body_r col (e + 1) (drop (e + 1) doc) ≡ bad p

-- ITS TEXT, written from x on
abbrev pub lines_of : Out (List Line) → List Line
lines_of (ok ls a t) = ls
lines_of (soft p ls a t) = ls
lines_of (bad p) = []

unfoldable pub body_lines : List ℕ → ℕ → ℕ → List Line
body_lines doc e col = lines_of (body_r col (e + 1) (drop (e + 1) doc))

pub record Known (doc : List ℕ) (e col last least x : ℕ) : Type 0 where
  pub at : ℕ
  pub far : ℕ
  pub body : Bodied doc e col at far last least
  pub inside : e < length doc
  pub small : length doc ≤ limit
  pub few : spot x ≤ e
  pub scant : tally x ≤ e
  pub low : col ≤ columns

pub record Stored (x y : ℕ) (s text text' : List ℕ) : Type 0 where
  pub end : y ≡ x + length s
  pub room : text' ≡ sets text (spot x) s

-- the same, where no escapes stand in the word
pub record Laid (x y : ℕ) (s text text' : List ℕ) : Type 0 where
  pub end : y ≡ x + length s
  pub room : text' ≡ sets text x s

-- one line of it, where the least indentation is m past the first column
pub data One (doc : List ℕ) (col m a : ℕ) : Line → ℕ → Type 0 where
  one_blank : Blank doc a → One doc col m a blank (a + 1)
  one_text : {s e : ℕ} → Text doc col a s e → m ≤ s - (a + suc col) → One doc col m a (line_at doc col a s e) (e + 1)

pub record Lined (doc : List ℕ) (col m : ℕ) (n : Cursor) : Type 0 where
  pub line : Line
  pub end : ℕ
  pub one : One doc col m n.at line end
  pub inside : n.at < length doc
  pub bound : m ≤ length doc
  pub small : length doc ≤ limit
  pub few : n.text ≤ n.at
  pub low : col ≤ columns

pub record LinePut (doc : List ℕ) (col m : ℕ) (n n' : Cursor) (text text' : List ℕ) : Type 0 where
  pub at : (l : Line) (z : ℕ) → One doc col m n.at l z → n'.at ≡ z
  pub stored : (l : Line) (z : ℕ) → One doc col m n.at l z → Laid n.text n'.text (unlines m (l ∷ [])) text text'

-- ASKED of a cursor at an open block string whose leader has a space, and its text from a on
pub record Led (doc : List ℕ) (c : Cursor) (col a : ℕ) : Type 0 where
  pub asked : Asked doc c 96 col
  pub spaced : peek doc (c.at + 1) ≡ 32
  pub inside : c.at + 1 < length doc
  pub from : a ≡ c.at + 1 + 1
