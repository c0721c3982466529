-- What a function that reads a text promises of the reader that it runs: where the cursor stands afterwards, and what the text room holds.
use Rattle.std.specs.Prelude.{◌≡◌, List, [], ◌++◌, true, false, ℕ, zero, suc, ◌+◌, ◌-◌, ◌*◌, ◌≤◌, ◌<◌, length, drop}
use Rattle.std.proofs.lemmas.List.Edits.{sets}
use Rattle.std.proofs.Math.Seq.{slice}
use Rattle.exact.specs.Class.{pick, Class, is}
use Rattle.exact.specs.Out.{Out, ok, bad, fmap}
use Rattle.exact.specs.Run.{run_r}
use Rattle.exact.specs.Place.{peek}
use Rattle.exact.specs.Lines.{reached}
use Rattle.language.specs.Characters.{utf8}
use Rattle.language.specs.Tree.{Decoded}
use Rattle.language.specs.Strings.{hexval, hex_number, lettered, stands_for}
use Rattle.rooms.specs.Told.{spot, told}
use Rattle.rooms.specs.declared.Cursor.{Cursor}
use Rattle.rooms.specs.Contract.{Ans}
use Rattle.characters.specs.declared.Reading.{Reading}
use Rattle.characters.specs.Reads.{Read}
use Rattle.std.specs.declared.option.Option.{Option}
use Rattle.std.specs.declared.option.Option.TheVariants.{None, Some}
use Rattle.std.specs.declared.result.Result.TheVariants.{Err, Ok}
use Rattle.strings.specs.Joining.{itself}
use Rattle.strings.specs.Code.{Num, empty, num, grow, named, begins, code_r}

-- PROMISED of a text v read from the cursor c up to n: it stands in the room from c's text on, as far as that reaches, and its escapes are added to c's
pub record Spelt (doc : List ℕ) (c n : Cursor) (v : Decoded) (text text' : List ℕ) : Type 0 where
  pub ahead : c.at < n.at
  pub inside : n.at ≤ length doc
  pub row : n.row ≡ c.row
  pub end : n.text ≡ c.text + told v
  pub few : c.at + length v.bytes ≤ n.at
  pub scant : c.at + v.escapes ≤ n.at
  pub room : text' ≡ sets text (spot c.text) v.bytes

-- where the reader's answer o is a value of that text, and what is left from n on
pub record Texted {X : Type 0} (reads : X → Decoded) (doc : List ℕ) (c : Cursor) (o : Out X) (n : Cursor) (far : ℕ) (text text' : List ℕ) : Type 0 where
  pub value : X
  pub is : o ≡ reached far value n.at (drop n.at doc)
  pub spelt : Spelt doc c n (reads value) text text'

-- THE CONTRACT: the answer is o's
unfoldable pub Texts : List ℕ → Cursor → Out Decoded → Ans → List ℕ → List ℕ → Type 0
Texts doc c o (Ok n) text text' = Texted itself doc c o n 0 text text'
Texts doc c o (Err p) text text' = o ≡ bad p

-- THE DIGITS of a hex number: the value of a digit of the class, none for another byte
unfoldable pub digit_of : Class → ℕ → Option ℕ
digit_of c b = pick (is c b) (Some (hexval b)) None

-- a digit's value and the place behind it, or none
abbrev pub Digit : Type 0
Digit = Option (ℕ × Reading)

-- the digit d of the class stands at a place, and n behind it; or none does
pub record Digited (c : Class) (doc : List ℕ) (at d n : ℕ) : Type 0 where
  pub digit : is c (peek doc at) ≡ true
  pub value : d ≡ hexval (peek doc at)
  pub small : d < 16
  pub next : n ≡ at + 1

unfoldable pub DigitRead : Class → List ℕ → ℕ → Digit → Type 0
DigitRead c doc at (Some (d, n)) = Digited c doc at d n.at
DigitRead c doc at None = is c (peek doc at) ≡ false

-- what a letter behind a backslash stands for, if it stands for something
unfoldable pub Letter : ℕ → Option ℕ → Type 0
Letter b (Some v) = (is lettered b ≡ true) × (v ≡ stands_for b)
Letter b None = is lettered b ≡ false

module _ (b : ℕ) (r : Option ℕ) (l : Letter b r) where
  pub letter_some : (v : ℕ) → r ≡ Some v → (is lettered b ≡ true) × (v ≡ stands_for b)
  unfolding Letter
  letter_some v e = rw e at l

  pub letter_none : r ≡ None → is lettered b ≡ false
  unfolding Letter
  letter_none e = rw e at l

-- the state of the machine behind n digits that make v, which is below the bound of n digits
unfoldable pub state : ℕ → ℕ → Num
state zero v = empty
state (suc n) v = num (suc n) v

unfoldable pub bound : ℕ → ℕ
bound zero = 1
bound (suc n) = 16 * bound n

-- digits stand from `at` to e, at most five, and make v
pub record Digits (doc : List ℕ) (at e v : ℕ) : Type 0 where
  pub from : at ≤ e
  pub inside : e ≤ length doc
  pub five : e ≤ at + 5
  pub low : v < bound (e - at)
  pub top : v < 1048576
  pub number : hex_number 0 (slice at e doc) ≡ v
  pub is : code_r at (drop at doc) ≡ fmap (slice at e doc ++◌) (run_r grow named begins (state (e - at) v) e (drop e doc))

-- .. and no further one is read
unfoldable pub Halts : List ℕ → ℕ → ℕ → ℕ → Type 0
Halts doc at e v = run_r grow named begins (state (e - at) v) e (drop e doc) ≡ pick (named (state (e - at) v)) (ok [] e (drop e doc)) (bad e)

-- the digits at `at` name v, and end at e
pub record Naming (doc : List ℕ) (at v e : ℕ) : Type 0 where
  pub digits : List ℕ
  pub is : code_r at (drop at doc) ≡ ok digits e (drop e doc)
  pub number : hex_number 0 digits ≡ v
  pub top : v < 0x110000
  pub ahead : at < e
  pub inside : e ≤ length doc
  pub few : at + length (utf8 v) ≤ e

unfoldable pub CodeAt : List ℕ → ℕ → Read → Type 0
CodeAt doc at (Ok (v, e)) = Naming doc at v e.at
CodeAt doc at (Err p) = code_r at (drop at doc) ≡ bad p

-- the bytes of a scalar value v stand in the room from x to r, as far as it reaches
pub record Stored (text text' : List ℕ) (x v r : ℕ) : Type 0 where
  pub end : r ≡ x + length (utf8 v)
  pub room : text' ≡ sets text x (utf8 v)
