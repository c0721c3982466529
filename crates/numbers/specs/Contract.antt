-- What the functions promise of what they find and write. Assumes nothing.
use Rattle.std.specs.Prelude.{◌≡◌, List, ◌++◌, Bool, true, false, ℕ, ◌+◌, ◌-◌, ◌*◌, ◌≤◌, ◌<◌, length, drop, get_or}
use Rattle.std.proofs.Math.Seq.{slice}
use Rattle.std.proofs.lemmas.List.Edits.{sets}
use Rattle.exact.specs.Out.{Out, bad}
use Rattle.exact.specs.Lines.{reached}
use Rattle.exact.specs.Place.{peek, run_end}
use Rattle.language.specs.Kind.{INTEGER, FLOAT}
use Rattle.language.specs.Tree.{unlined, width, row_list}
use Rattle.rooms.specs.Told.{spot, tally}
use Rattle.rooms.specs.declared.Cursor.{Cursor}
use Rattle.rooms.specs.Contract.{ample}
use Rattle.characters.specs.Reads.{Skip}
use Rattle.std.specs.declared.result.Result.{Result}
use Rattle.std.specs.declared.result.Result.TheVariants.{Err, Ok}
use Rattle.characters.specs.Plains.{RunTo}
use Rattle.language.specs.Scalars.{digit, plain, signed}
use Rattle.language.specs.Answered.{limit}
use Rattle.numbers.specs.declared.digits.Stretch.{Stretch}
use Rattle.numbers.specs.declared.scanning.Numeral.{Numeral}
use Rattle.numbers.specs.Same.{Found, found}
use Rattle.numbers.specs.Plain.{unsigned_r}
use Rattle.numbers.specs.Places.{group_end, gap_at, squeezed, far_at}
use Rattle.numbers.specs.Numbers.{after_sign, exponent_at}

-- WHAT IS FOUND where a number may stand, as the crate's type of this name says it: the number, or the place of the refusal
abbrev pub Scanned : Type 0
Scanned = Result Numeral ℕ

-- the place behind a space and digits at a place; refused, where no such stand
pub data PastGap (doc : List ℕ) (at : ℕ) : Skip → Type 0 where
  no_gap : gap_at doc at ≡ false → PastGap doc at (Err at)
  some_gap : (n : ℕ) → gap_at doc at ≡ true → RunTo digit doc (at + 1) n → PastGap doc at (Ok n)

-- digits, spaced or not
pub record Grouped (spaced : Bool) (doc : List ℕ) (at : ℕ) (g : Stretch) : Type 0 where
  pub end : g.end.at ≡ group_end spaced doc at
  pub ahead : at ≤ g.end.at
  pub inside : g.end.at ≤ length doc
  pub dense : g.dense ≡ true → g.end.at ≡ run_end digit doc at
  pub solid : (g.end.at ≡ at → ⊥) → peek doc (g.end.at - 1) ≡ 32 → ⊥

-- the byte b stands at a place
pub record Stands (doc : List ℕ) (at b : ℕ) : Type 0 where
  pub byte : b ≡ peek doc at
  pub inside : at < length doc

-- another than b stands there, or none
pub record Other (doc : List ℕ) (at b : ℕ) : Type 0 where
  pub not : peek doc at ≡ b → ⊥

-- the byte b was taken at a place, and n is the place behind it
pub record Passed (doc : List ℕ) (at b n : ℕ) : Type 0 where
  pub stands : Stands doc at b
  pub next : n ≡ at + 1

-- the place after the sign of an exponent
pub record PastSign (doc : List ℕ) (at d : ℕ) : Type 0 where
  pub end : d ≡ after_sign doc at
  pub ahead : at ≤ d
  pub inside : d ≤ length doc

-- no space stands between the places a and e
abbrev pub Tight : List ℕ → ℕ → ℕ → Type 0
Tight doc a e = squeezed (slice a e doc) ≡ slice a e doc

-- WHAT IS FOUND: an integer whose digits end at e, a float that ends there, and its last digits at l
abbrev pub an_integer : ℕ → Bool → Scanned
an_integer e b = Ok (record { kind = record { 0 = INTEGER }; end = e; last = e; dense = b })

abbrev pub a_float : ℕ → ℕ → Bool → Scanned
a_float e l b = Ok (record { kind = record { 0 = FLOAT }; end = e; last = l; dense = b })

-- AN EXPONENT from `at` on: refused behind that place, or a float whose text goes on with the bytes up to e
pub data Powered (spaced : Bool) (doc : List ℕ) (at : ℕ) (dense : Bool) : Scanned → Type 0 where
  no_power : (p : ℕ) → at < p → p ≤ length doc → ((m w : List ℕ) → exponent_at spaced doc at m w ≡ bad p)
      → Powered spaced doc at dense (Err p)
  power : (e : ℕ) (b : Bool) → at < e → e ≤ length doc
      → ((m w : List ℕ) → exponent_at spaced doc at m w ≡ reached (far_at spaced doc e) (found FLOAT (m ++ (w ++ squeezed (slice at e doc)))) e (drop e doc))
      → (b ≡ true → (dense ≡ true) × Tight doc at e) → Powered spaced doc at dense (a_float e e b)

-- THE REST OF A FLOAT from `at` on, as r reads it
pub data Ends (spaced : Bool) (doc : List ℕ) (at : ℕ) (dense : Bool) (r : List ℕ → List ℕ → Out Found) : Scanned → Type 0 where
  stops : (p : ℕ) → at ≤ p → p ≤ length doc → ((m w : List ℕ) → r m w ≡ bad p) → Ends spaced doc at dense r (Err p)
  goes : (e l : ℕ) (b : Bool) → at ≤ e → e ≤ length doc
      → ((m w : List ℕ) → r m w ≡ reached (far_at spaced doc l) (found FLOAT (m ++ (w ++ squeezed (slice at e doc)))) e (drop e doc))
      → (b ≡ true → (dense ≡ true) × Tight doc at e) → Ends spaced doc at dense r (a_float e l b)

-- A NUMBER without its sign, from d on
pub data Scans (spaced : Bool) (doc : List ℕ) (d : ℕ) : Scanned → Type 0 where
  refused : (p : ℕ) → p ≤ length doc → ((m : List ℕ) → unsigned_r spaced m d (drop d doc) ≡ bad p) → Scans spaced doc d (Err p)
  integer : (e : ℕ) (b : Bool) → d < e → e ≤ length doc
      → ((m : List ℕ) → unsigned_r spaced m d (drop d doc) ≡ reached (far_at spaced doc e) (found INTEGER (signed m (squeezed (slice d e doc)))) e (drop e doc))
      → (b ≡ true → Tight doc d e) → (peek doc (e - 1) ≡ 32 → ⊥) → Scans spaced doc d (an_integer e b)
  floated : (e l : ℕ) (b : Bool) → d < e → e ≤ length doc
      → ((m : List ℕ) → unsigned_r spaced m d (drop d doc) ≡ reached (far_at spaced doc l) (found FLOAT (m ++ squeezed (slice d e doc))) e (drop e doc))
      → (b ≡ true → Tight doc d e) → Scans spaced doc d (a_float e l b)

-- WHAT IS STORED. The bytes from a to e may be stored from x on
pub record Storing (doc : List ℕ) (a e x : ℕ) : Type 0 where
  pub ahead : a ≤ e
  pub inside : e ≤ length doc
  pub small : x + e < 3 * limit

-- where `dense` holds, no space is among them
pub record Dense (doc : List ℕ) (a e : ℕ) (dense : Bool) : Type 0 where
  pub tight : dense ≡ true → Tight doc a e

-- the text s is stored from x up to r
pub record Stored (text text' : List ℕ) (x r : ℕ) (s : List ℕ) : Type 0 where
  pub end : r ≡ x + length s
  pub room : text' ≡ sets text x s

-- digits from d to e, of which the last is no space
pub record Whole (doc : List ℕ) (d e : ℕ) : Type 0 where
  pub some : d < e
  pub inside : e ≤ length doc
  pub last : peek doc (e - 1) ≡ 32 → ⊥

-- their plain form begins at z
pub record Nonzero (doc : List ℕ) (d e z : ℕ) : Type 0 where
  pub ahead : d ≤ z
  pub inside : z < e
  pub plainly : plain (squeezed (slice d e doc)) ≡ squeezed (slice z e doc)
  pub solid : get_or doc z 0 ≡ 32 → ⊥

-- a sign stands at `at`, or none, and behind it d
pub data Sign (doc : List ℕ) (at : ℕ) : ℕ → Bool → Type 0 where
  negative : Stands doc at 45 → Sign doc at (at + 1) true
  positive : Sign doc at at false

-- a number that was scanned is to be written
pub record Writing (doc : List ℕ) (s : Numeral) (at d : ℕ) (neg : Bool) (x : ℕ) : Type 0 where
  pub sign : Sign doc at d neg
  pub some : d < s.end
  pub inside : s.end ≤ length doc
  pub last : s.kind.0 ≡ INTEGER → peek doc (s.end - 1) ≡ 32 → ⊥
  pub small : x + length doc ≤ 2 * limit
  pub dense : s.dense ≡ true → Tight doc d s.end

-- A NUMBER AT A PLACE: behind a `-` that no `i` follows, or where no keyword begins and no `-` stands
pub data Leads (doc : List ℕ) (at : ℕ) : ℕ → Bool → Type 0 where
  minus_leads : Stands doc at 45 → (peek doc (at + 1) ≡ 105 → ⊥) → Leads doc at (at + 1) true
  digits_lead : (peek doc at ≡ 110 → ⊥) → (peek doc at ≡ 116 → ⊥) → (peek doc at ≡ 102 → ⊥) → (peek doc at ≡ 105 → ⊥) → (peek doc at ≡ 45 → ⊥) → Leads doc at at false

-- .. and the number s was found there
pub record NumberAt (doc : List ℕ) (at d : ℕ) (neg spaced : Bool) (s : Numeral) : Type 0 where
  pub leads : Leads doc at d neg
  pub scanned : Scans spaced doc d (Ok s)

-- the text may get longer, up to `to`: what comes next begins no later, and the escapes so far are few
pub record Longer (c : Cursor) (to : ℕ) : Type 0 where
  pub ahead : spot c.text ≤ to
  pub few : tally c.text < ample

-- the row of a leaf with a text is written, and the cursor n stands behind it
pub record Put (rows rows' : List ℕ) (c : Cursor) (parent kind e to : ℕ) (n : Cursor) : Type 0 where
  pub next : n ≡ record { at = e; row = c.row + 1; text = c.text + (to - spot c.text) }
  pub table : rows' ≡ sets rows (width * c.row) (row_list unlined kind c.at e (spot c.text) to parent (c.row + 1))
