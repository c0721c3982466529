-- Inside a string: what the functions that read one promise, over the quote that it stands in.
use Rattle.std.specs.Prelude.{◌≡◌, List, false, ℕ, ◌+◌, ◌-◌, ◌*◌, ◌≤◌, ◌<◌, length, drop, eqb}
use Rattle.std.proofs.lemmas.List.Edits.{sets}
use Rattle.std.proofs.Math.Seq.{slice}
use Rattle.exact.specs.Class.{pick, Class, is}
use Rattle.exact.specs.Out.{Reader, ok, bad, fmap}
use Rattle.exact.specs.Place.{peek}
use Rattle.language.specs.Characters.{utf8}
use Rattle.language.specs.Tree.{unlined, Decoded, unescaped, ◌then◌, width, row_list}
use Rattle.utf8.specs.Utf8.{char_r}
use Rattle.characters.specs.Reads.{Read}
use Rattle.std.specs.declared.result.Result.TheVariants.{Err, Ok}
use Rattle.characters.specs.Plains.{plain_of}
use Rattle.rooms.specs.Told.{spot, told}
use Rattle.rooms.specs.declared.Cursor.{Cursor}
use Rattle.rooms.specs.Contract.{ample, Ready}
use Rattle.strings.specs.Quoted.{escape_r, single_escape_r, piece_r, between_r}
use Rattle.strings.specs.Rest.{rest_r}

-- the escapes of either quote
abbrev pub escapes_r : ℕ → Reader Decoded
escapes_r q = pick (eqb q 34) escape_r single_escape_r

-- a string, what is left of one, and a piece
abbrev pub text_r : ℕ → Reader Decoded
text_r q = between_r q (escapes_r q) (plain_of q)

abbrev pub left_r : ℕ → Reader Decoded
left_r q = rest_r q (escapes_r q) (plain_of q)

abbrev pub special_r : ℕ → Reader Decoded
special_r q = piece_r (escapes_r q) (plain_of q)

-- a character v of the class stands from `at` up to n; or none does, and p is the place of the first byte that none has there
pub record Char (c : Class) (doc : List ℕ) (at v n : ℕ) : Type 0 where
  pub is : char_r c at (drop at doc) ≡ ok (utf8 v) n (drop n doc)
  pub bytes : slice at n doc ≡ utf8 v
  pub ahead : at < n
  pub inside : n ≤ length doc

unfoldable pub CharAt : Class → List ℕ → ℕ → Read → Type 0
CharAt c doc at (Ok (v, n)) = Char c doc at v n.at
CharAt c doc at (Err p) = char_r c at (drop at doc) ≡ bad p

-- what is left of a string from `at` on is the bytes up to e, and what is left from e on
pub record CleanUpto (q : ℕ) (doc : List ℕ) (at e : ℕ) : Type 0 where
  pub reads : left_r q at (drop at doc) ≡ fmap (unescaped (slice at e doc) then◌) (left_r q e (drop e doc))
  pub from : at ≤ e
  pub inside : e ≤ length doc

-- .. where no plain byte stands
pub record CleanTo (q : ℕ) (doc : List ℕ) (at e : ℕ) : Type 0 where
  pub reads : left_r q at (drop at doc) ≡ fmap (unescaped (slice at e doc) then◌) (left_r q e (drop e doc))
  pub from : at ≤ e
  pub inside : e ≤ length doc
  pub dark : is (plain_of q) (peek doc e) ≡ false

-- the bytes of a run are copied, and n stands behind them
pub record Copied (Run : List ℕ → ℕ → ℕ → Type 0) (doc : List ℕ) (c n : Cursor) (text text' : List ℕ) : Type 0 where
  pub run : Run doc c.at n.at
  pub row : n.row ≡ c.row
  pub end : n.text ≡ c.text + (n.at - c.at)
  pub room : text' ≡ sets text (spot c.text) (slice c.at n.at doc)

-- neither a plain byte nor the quote stands at a place
pub record Special (q : ℕ) (doc : List ℕ) (at : ℕ) : Type 0 where
  pub dark : is (plain_of q) (peek doc at) ≡ false
  pub other : peek doc at ≡ q → ⊥

-- of what r reads from s on, what stands before n is read and stored; values stand in front of one another
pub record Within {X : Type 0} (reads : X → Decoded) (front : X → X → X) (r : Reader X) (doc : List ℕ) (s n : Cursor) (text text' : List ℕ) : Type 0 where
  pub done : X
  pub is : r s.at (drop s.at doc) ≡ fmap (front done) (r n.at (drop n.at doc))
  pub start : Ready doc s
  pub ready : Ready doc n
  pub row : n.row ≡ s.row
  pub end : n.text ≡ s.text + told (reads done)
  pub few : s.at + length (reads done).bytes ≤ n.at
  pub scant : s.at + (reads done).escapes ≤ n.at
  pub room : text' ≡ sets text (spot s.text) (reads done).bytes

-- two cursors within the limits of a row
pub record Close (c n : Cursor) : Type 0 where
  pub from : c.at + 1 < ample
  pub to_at : n.at + 1 < ample
  pub row : c.row + 1 < ample
  pub text : spot c.text + 1 < ample
  pub to_text : spot n.text + 1 < ample

-- the row of a text that was read from c up to n, and the cursor behind it
pub record Leafed (c n : Cursor) (parent kind : ℕ) (r : Cursor) (rows rows' : List ℕ) : Type 0 where
  pub cursor : r ≡ record { at = n.at; row = c.row + 1; text = n.text }
  pub table : rows' ≡ sets rows (width * c.row) (row_list unlined kind c.at n.at (spot c.text) (spot n.text) parent (c.row + 1))
