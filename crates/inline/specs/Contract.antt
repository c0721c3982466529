-- What the readers of inline values promise in code, besides the contract of every reader: of two bytes, of what follows a member, and of a member with what follows it.
use Rattle.std.specs.Prelude.{◌≡◌, List, [], ◌∷◌, Bool, ℕ, ◌+◌, ◌*◌, ◌<◌, drop}
use Rattle.std.proofs.lemmas.List.Edits.{sets}
use Rattle.exact.specs.Out.{Reader, ok, bad}
use Rattle.exact.specs.Place.{peek}
use Rattle.rooms.specs.declared.Cursor.{Cursor}
use Rattle.rooms.specs.Contract.{Ans}
use Rattle.std.specs.declared.result.Result.TheVariants.{Err, Ok}
use Rattle.language.specs.Tree.{unlined, width, row_list}
use Rattle.rooms.specs.Contract.{ample, onward}
use Rattle.inline.specs.declared.Sep.{Sep}
use Rattle.inline.specs.declared.Sep.TheVariants.{More, Last}
use Rattle.inline.specs.Brackets.{Member, children}
use Rattle.inline.specs.Written.{Written}
use Rattle.std.specs.declared.result.Result.{Result}

-- what follows an element or a pair, or the place where nothing does
abbrev pub After : Type 0
After = Result Sep ℕ

-- the numbers of a container's row fit
pub record Enclosed (c n : Cursor) (count : ℕ) : Type 0 where
  pub first_fits : c.at < ample
  pub after_fits : n.at < ample
  pub count_fits : count < ample
  pub row_fits : c.row < ample
  pub next_fits : n.row < ample

-- the row of a container of that kind from c up to n is stored, and n is answered
pub record Closed (c n : Cursor) (parent count kind : ℕ) (r : Ans) (R R' : List ℕ) : Type 0 where
  pub answer : r ≡ Ok n
  pub table : R' ≡ sets R (width * c.row) (row_list unlined kind c.at n.at 0 count parent n.row)

-- BEHIND THE BRACKET b of a container at c, where its first child's row comes next; or another byte stands there
abbrev pub within : Cursor → Cursor
within c = record { at = c.at + 1; row = c.row + 1; text = c.text }

unfoldable pub Opened : List ℕ → Cursor → ℕ → Ans → Type 0
Opened doc c b (Ok n) = (n ≡ within c) × (b ≡ peek doc c.at)
Opened doc c b (Err p) = (p ≡ c.at) × (peek doc c.at ≡ b → ⊥)

-- TWO BYTES: where they fail, and what a pass over them says
pub data Fails (doc : List ℕ) (at first second : ℕ) : ℕ → Type 0 where
  no_first : (peek doc at ≡ first → ⊥) → Fails doc at first second at
  no_second : first ≡ peek doc at → (peek doc (at + 1) ≡ second → ⊥) → Fails doc at first second (at + 1)

unfoldable pub Passed : List ℕ → Cursor → ℕ → ℕ → Ans → Type 0
Passed doc c first second (Ok n) = (n ≡ onward c 2) × (first ≡ peek doc c.at) × (second ≡ peek doc (c.at + 1))
Passed doc c first second (Err p) = Fails doc c.at first second p

-- WHAT FOLLOWS a member that ends at m: a comma and a space, the closing byte, or neither
unfoldable pub Parted : List ℕ → ℕ → Cursor → After → Type 0
Parted doc close m (Ok (More n)) = (n ≡ onward m 2) × (44 ≡ peek doc m.at) × (32 ≡ peek doc (m.at + 1))
Parted doc close m (Ok (Last n)) = (n ≡ onward m 1) × (close ≡ peek doc m.at)
Parted doc close m (Err p) = (peek doc m.at ≡ close → ⊥) × Fails doc m.at 44 32 p

-- A MEMBER at c, which ends at `after`; it is written, and n stands behind what follows it
pub record Read (o : Bool) (doc : List ℕ) (c : Cursor) (parent : ℕ) (r : Reader (Member o)) (n : Cursor) (R R' T T' : List ℕ) : Type 0 where
  pub member : Member o
  pub after : ℕ
  pub is : r c.at (drop c.at doc) ≡ ok member after (drop after doc)
  pub ahead : c.at < after
  pub written : Written doc c n parent (children o (member ∷ [])) R R' T T'

pub record Goes (o : Bool) (doc : List ℕ) (c : Cursor) (parent : ℕ) (r : Reader (Member o)) (n : Cursor) (R R' T T' : List ℕ) : Type 0 where
  pub read : Read o doc c parent r n R R' T T'
  pub to : n.at ≡ read.after + 2
  pub comma : 44 ≡ peek doc read.after
  pub space : 32 ≡ peek doc (read.after + 1)

pub record Ends (o : Bool) (close : ℕ) (doc : List ℕ) (c : Cursor) (parent : ℕ) (r : Reader (Member o)) (n : Cursor) (R R' T T' : List ℕ) : Type 0 where
  pub read : Read o doc c parent r n R R' T T'
  pub to : n.at ≡ read.after + 1
  pub closed : close ≡ peek doc read.after

pub data Stops (o : Bool) (close : ℕ) (doc : List ℕ) (at : ℕ) (r : Reader (Member o)) (p : ℕ) : Type 0 where
  no_member : r at (drop at doc) ≡ bad p → Stops o close doc at r p
  no_part : (m : Member o) (a : ℕ) → r at (drop at doc) ≡ ok m a (drop a doc) → at < a → (peek doc a ≡ close → ⊥) → Fails doc a 44 32 p → Stops o close doc at r p

unfoldable pub Turned : (o : Bool) → ℕ → List ℕ → Cursor → ℕ → Reader (Member o) → After → List ℕ → List ℕ → List ℕ → List ℕ → Type 0
Turned o close doc c parent r (Ok (More n)) R R' T T' = Goes o doc c parent r n R R' T T'
Turned o close doc c parent r (Ok (Last n)) R R' T T' = Ends o close doc c parent r n R R' T T'
Turned o close doc c parent r (Err p) R R' T T' = Stops o close doc c.at r p
