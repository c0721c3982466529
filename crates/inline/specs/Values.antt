-- The readers of scalars and of inline values, by their first bytes, and that they are exact: inside brackets, and on a line, where digits may have spaces between.
use Rattle.std.specs.Prelude.{◌≡◌, refl, List, [], ◌++◌, Bool, true, false, ℕ, zero, suc}
use Rattle.std.proofs.Common.{arith}
use Rattle.notation.specs.Lang.{Alt, one, two}
use Rattle.language.specs.Tree.{Tree}
use Rattle.language.specs.Strings.{String, InlineBytes}
use Rattle.language.specs.Inline.{InlineArray, InlineObject, Scalar, Value, LineValue}
use Rattle.exact.specs.Class.{Starts, Class, is, only, apart, starts_left, starts_right, starts_none, nothing}
use Rattle.exact.specs.Out.{Reader}
use Rattle.exact.specs.Lang.{Lang, Follow, bar, Exact, within_bar, weaken}
use Rattle.exact.specs.Comb.{alt_r, alt_exact}
use Rattle.exact.specs.Ll.{Shape, Ll, alt_ll, relax, begun_starts}
use Rattle.numbers.specs.Plain.{plain_first, plain_s, plain_r, NumberOn, plain_exact, plain_begun, plain_ll}
use Rattle.strings.specs.Bytes.{inline_bytes_s, inline_bytes_r, inline_bytes_ll}
use Rattle.strings.specs.Quoted.{string_s, string_r}
use Rattle.strings.proofs.QuotedLaws.{string_ll}
use Rattle.strings.specs.Spans.{solid}
use Rattle.inline.specs.Lists.{scalar_first, openings, value_first, value_s, inline_array_r, inline_object_r, inline_array_ll, inline_object_ll}

-- READERS
unfoldable pub quotes_r : Reader Tree
quotes_r = alt_r (is string_s.first) string_r inline_bytes_r

unfoldable pub scalar_r : Bool → Reader Tree
scalar_r spaced = alt_r (is plain_first) (plain_r spaced) quotes_r

unfoldable pub container_r : Reader Tree → Reader Tree
container_r r = alt_r (is (only 91)) (inline_array_r r) (inline_object_r r)

unfoldable pub value_r : Bool → ℕ → Reader Tree
value_r spaced zero = scalar_r spaced
value_r spaced (suc k) = alt_r (is scalar_first) (scalar_r spaced) (container_r (value_r false k))

-- EXACT inside brackets
abbrev pub quotes_s : Shape
quotes_s = solid (string_s.first ++ inline_bytes_s.first) []

pub quotes_ll : Ll quotes_s (Alt String InlineBytes) quotes_r
unfolding quotes_r
quotes_ll = relax quotes_s refl refl refl (alt_ll refl refl string_ll inline_bytes_ll)

abbrev pub scalar_s : Shape
scalar_s = solid scalar_first plain_s.follow

pub scalar_ll : Ll scalar_s (Scalar false) (scalar_r false)
unfolding scalar_r
scalar_ll = relax scalar_s refl refl refl (alt_ll refl refl plain_ll quotes_ll)

abbrev pub container_s : Shape
container_s = solid openings []

pub container_ll : {A : Lang Tree} {r : Reader Tree} → Ll value_s A r → Ll container_s (Alt (InlineArray A) (InlineObject A)) (container_r r)
unfolding container_r
container_ll l = relax container_s refl refl refl (alt_ll refl refl (inline_array_ll l) (inline_object_ll l))

pub value_ll : (k : ℕ) → Ll value_s (Value false k) (value_r false k)
unfolding value_r
value_ll zero = relax value_s refl refl refl scalar_ll
value_ll (suc k) = relax value_s refl refl refl (alt_ll refl refl scalar_ll (container_ll (value_ll k)))

-- what a value begins with that is no keyword and no number
abbrev pub marks : Class
marks = quotes_s.first ++ openings

-- EXACT on a line
-- a language that begins with a byte of c, or one that begins with none of them and may be followed by anything
module _ (c d : Class) {A B : Lang Tree} {q : Reader Tree} (e : apart d c ≡ true) (lb : Ll (solid d []) B q)
    (starts : (at : ℕ) (s : List ℕ) (v : Tree) (at' : ℕ) (t : List ℕ) → A at s v at' t → Starts (is c) s) where
  other_starts : (at : ℕ) (s : List ℕ) (v : Tree) (at' : ℕ) (t : List ℕ) → B at s v at' t → Starts (is d) s
  other_starts at s v at' t x = begun_starts (solid d []) refl (lb.begun at s v at' t x)

  either_exact : {F : Follow} {r : Reader Tree} → Exact 1 A F r → Exact 1 (Alt A B) F (alt_r (is c) r q)
  either_exact {F} ea =
      alt_exact
      (is c)
      starts
      (λ at s v at' t x g y. starts_none d c s e (other_starts at s v at' t x) y)
      ea
      (weaken 1 F (omega arith) (within_bar _ F (λ t x. absurd (nothing t x))) lb.exact)

  either_begun : (at : ℕ) (s : List ℕ) (v : Tree) (at' : ℕ) (t : List ℕ) → Alt A B at s v at' t → Starts (is (c ++ d)) s
  either_begun at s v at' t (one x) = starts_left c d s (starts at s v at' t x)
  either_begun at s v at' t (two x) = starts_right c d s (other_starts at s v at' t x)

pub scalar_begun : (spaced : Bool) (at : ℕ) (s : List ℕ) (v : Tree) (at' : ℕ) (t : List ℕ) → Scalar spaced at s v at' t → Starts (is scalar_first) s
scalar_begun spaced = either_begun plain_first quotes_s.first refl quotes_ll (plain_begun spaced)

pub scalar_exact : (spaced : Bool) → Exact 1 (Scalar spaced) (bar (NumberOn spaced)) (scalar_r spaced)
unfolding scalar_r
scalar_exact spaced = either_exact plain_first quotes_s.first refl quotes_ll (plain_begun spaced) (plain_exact spaced)

pub value_begun : (spaced : Bool) (k at : ℕ) (s : List ℕ) (v : Tree) (at' : ℕ) (t : List ℕ) → Value spaced k at s v at' t → Starts (is value_first) s
value_begun spaced zero at s v at' t x = starts_left scalar_first openings s (scalar_begun spaced at s v at' t x)
value_begun spaced (suc k) at s v at' t x = either_begun scalar_first openings refl (container_ll (value_ll k)) (scalar_begun spaced) at s v at' t x

pub value_exact : (spaced : Bool) (k : ℕ) → Exact 1 (Value spaced k) (bar (NumberOn spaced)) (value_r spaced k)
unfolding value_r
value_exact spaced zero = scalar_exact spaced
value_exact spaced (suc k) = either_exact scalar_first openings refl (container_ll (value_ll k)) (scalar_begun spaced) (scalar_exact spaced)

pub line_value_begun : (k at : ℕ) (s : List ℕ) (v : Tree) (at' : ℕ) (t : List ℕ) → LineValue k at s v at' t → Starts (is value_first) s
line_value_begun = value_begun true

pub line_value_exact : (k : ℕ) → Exact 1 (LineValue k) (bar (NumberOn true)) (value_r true k)
line_value_exact = value_exact true
