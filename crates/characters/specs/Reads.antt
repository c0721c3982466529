-- What the readers in code promise of the readers that they run, and how a caller takes it apart. Assumes nothing.
use Rattle.std.specs.Prelude.{◌≡◌, List, true, ℕ, ◌+◌, ◌≤◌, ◌<◌, length, drop}
use Rattle.std.proofs.Math.Seq.{slice}
use Rattle.exact.specs.Class.{Class, pick}
use Rattle.exact.specs.Out.{Out, ok, bad}
use Rattle.exact.specs.Place.{peek}
use Rattle.language.specs.Characters.{character, utf8, wide}
use Rattle.utf8.specs.Utf8.{char_r}
use Rattle.characters.specs.declared.Reading.{Reading}
use Rattle.std.specs.declared.option.Option.{Option}
use Rattle.std.specs.declared.option.Option.TheVariants.{None, Some}
use Rattle.std.specs.declared.result.Result.{Result}
use Rattle.std.specs.declared.result.Result.TheVariants.{Err, Ok}

-- WHAT READERS ANSWER, as the crate's types of these names say it: a byte and the place behind it; a scalar value and the place behind it, or the place of the
-- refusal; the place behind a part of a line, or that of the refusal
abbrev pub Took : Type 0
Took = Option (ℕ × Reading)

abbrev pub Read : Type 0
Read = Result (ℕ × Reading) ℕ

abbrev pub Skip : Type 0
Skip = Result ℕ ℕ

-- A BYTE, and the place behind it; or the document's end
unfoldable pub ByteRead : List ℕ → ℕ → Took → Type 0
ByteRead doc at (Some (b, n)) = (at < length doc) × (b ≡ peek doc at) × (n.at ≡ at + 1)
ByteRead doc at None = (length doc ≤ at) × (peek doc at ≡ 256)

-- allowed, if it is 128 or more
abbrev pub Permitted : ℕ → Type 0
Permitted v = 127 < v → wide v ≡ true

-- THE SCALAR VALUE v stands from `at` up to n: it is the character read wherever its class has it
pub record Stands (doc : List ℕ) (at v n : ℕ) : Type 0 where
  pub ahead : at < n
  pub inside : n ≤ length doc
  pub bytes : slice at n doc ≡ utf8 v
  pub allowed : Permitted v
  pub taken : (plain : Class) → char_r plain at (drop at doc) ≡ pick (character plain v) (ok (utf8 v) n (drop n doc)) (bad at)

unfoldable pub ReadAt : List ℕ → ℕ → Read → Type 0
ReadAt doc at (Ok (v, n)) = Stands doc at v n.at
ReadAt doc at (Err p) = (plain : Class) → char_r plain at (drop at doc) ≡ bad p

-- A CHARACTER of 128 or more ends at n
pub record Wide (doc : List ℕ) (at n : ℕ) : Type 0 where
  pub value : ℕ
  pub high : 127 < value
  pub stands : Stands doc at value n

unfoldable pub WideAt : List ℕ → ℕ → Skip → Type 0
WideAt doc at (Ok n) = Wide doc at n
WideAt doc at (Err p) = (plain : Class) → char_r plain at (drop at doc) ≡ bad p

-- A READER whose value is not asked for: where it ends, or where it is refused
pub record Ends {X : Type 0} (doc : List ℕ) (at : ℕ) (o : Out X) (n : ℕ) : Type 0 where
  pub value : X
  pub is : o ≡ ok value n (drop n doc)
  pub behind : at ≤ n
  pub inside : n ≤ length doc

unfoldable pub Skips : {X : Type 0} → List ℕ → ℕ → Out X → Skip → Type 0
Skips doc at o (Ok n) = Ends doc at o n
Skips doc at o (Err p) = o ≡ bad p

-- ---- contracts, made and taken apart

module _ {X : Type 0} (doc : List ℕ) (at : ℕ) (o : Out X) where
  pub skips_end : (n : ℕ) → Ends doc at o n → Skips doc at o (Ok n)
  unfolding Skips
  skips_end n h = h

  pub skips_bad : (p : ℕ) → o ≡ bad p → Skips doc at o (Err p)
  unfolding Skips
  skips_bad p h = h

  pub ends_of : (r : Skip) (n : ℕ) → r ≡ Ok n → Skips doc at o r → Ends doc at o n
  unfolding Skips
  ends_of r n e h = rw e at h

  pub bad_of : (r : Skip) (p : ℕ) → r ≡ Err p → Skips doc at o r → o ≡ bad p
  unfolding Skips
  bad_of r p e h = rw e at h

module _ (doc : List ℕ) (at : ℕ) (r : Read) (h : ReadAt doc at r) where
  pub read_stands : (v : ℕ) (n : Reading) → r ≡ Ok (v, n) → Stands doc at v n.at
  unfolding ReadAt
  read_stands v n e = rw e at h

  pub read_permits : (v : ℕ) (n : Reading) → r ≡ Ok (v, n) → Permitted v
  read_permits v n e = (read_stands v n e).allowed

  pub read_refused : (p : ℕ) → r ≡ Err p → (plain : Class) → char_r plain at (drop at doc) ≡ bad p
  unfolding ReadAt
  read_refused p e plain = (rw e at h) plain

module _ (doc : List ℕ) (at : ℕ) (r : Took) (h : ByteRead doc at r) where
  pub byte_inside : (b : ℕ) (n : Reading) → r ≡ Some (b, n) → at < length doc
  unfolding ByteRead
  byte_inside b n e = (rw e at h).0

  pub byte_there : (b : ℕ) (n : Reading) → r ≡ Some (b, n) → b ≡ peek doc at
  unfolding ByteRead
  byte_there b n e = (rw e at h).1

  pub byte_next : (b : ℕ) (n : Reading) → r ≡ Some (b, n) → n.at ≡ at + 1
  unfolding ByteRead
  byte_next b n e = (rw e at h).2

  pub byte_over : r ≡ None → peek doc at ≡ 256
  unfolding ByteRead
  byte_over e = (rw e at h).1

  pub byte_past : r ≡ None → length doc ≤ at
  unfolding ByteRead
  byte_past e = (rw e at h).0
