-- Where trees that are read begin and end: a line value ends where its reader stops, and a key begins where its reader starts. Assumes nothing.
use mathlib.Core.Path.{◌≡◌, refl, ap}
use mathlib.Core.List.{List}
use mathlib.Core.Bool.{Bool, false}
use Prim.Native.Nat.{ℕ, zero, suc}
use Rattle.language.specs.Kind.{KEY}
use Rattle.language.specs.Tree.{Tree, leaf, first, after, Decoded}
use Rattle.exact.specs.Class.{is, only}
use Rattle.exact.specs.Out.{Reader, ok}
use Rattle.exact.specs.Lang.{byte_r}
use Rattle.exact.specs.Lines.{reached}
use Rattle.numbers.specs.Same.{Found, found, leaf_of}
use Rattle.numbers.specs.Plain.{body_r, plain_r}
use Rattle.strings.specs.Spans.{spanned_r}
use Rattle.strings.specs.Quoted.{string_r}
use Rattle.strings.specs.Bytes.{inline_bytes_r}
use Rattle.strings.specs.Keys.{name_r, key_r}
use Rattle.inline.specs.Lists.{listed_r, inline_array_r, inline_pair_r, inline_object_r}
use Rattle.inline.specs.Values.{quotes_r, scalar_r, container_r, value_r}
use Rattle.notes.specs.Bare.{Every, every_ok, every_alt, every_bind, every_reached}

abbrev Ends : Tree → ℕ → Type 0
Ends v a = after v ≡ a

leaf_ends : (at a : ℕ) (f : Found) → after (leaf_of at a f) ≡ a
leaf_ends at a (found k s) = refl

spanned_ends : (kind : ℕ) (r : Reader Decoded) (at : ℕ) (s : List ℕ) → Every Ends (spanned_r kind r at s)
unfolding spanned_r
spanned_ends kind r at s = every_bind (r at s) _ (λ v a t. every_ok refl)

container_ends : (r : Reader Tree) (at : ℕ) (s : List ℕ) → Every Ends (container_r r at s)
unfolding container_r inline_array_r inline_object_r
container_ends r at s =
    every_alt (is (only 91)) (inline_array_r r) (inline_object_r r) at s
    (λ at s. every_bind (byte_r (is (only 91)) at s) _ (λ v a t. every_bind (listed_r 93 r a t) _ (λ vs a t. every_ok refl)))
    (λ at s. every_bind (byte_r (is (only 123)) at s) _ (λ v a t. every_bind (listed_r 125 (inline_pair_r r) a t) _ (λ fs a t. every_ok refl)))

scalar_ends : (spaced : Bool) (at : ℕ) (s : List ℕ) → Every Ends (scalar_r spaced at s)
unfolding scalar_r quotes_r plain_r string_r inline_bytes_r
scalar_ends spaced at s =
    every_alt _ (plain_r spaced) quotes_r at s (λ at s. every_bind (body_r spaced at s) _ (λ f a t. every_ok (leaf_ends at a f)))
    (λ at s. every_alt _ string_r inline_bytes_r at s (λ at s. spanned_ends _ _ at s) (λ at s. spanned_ends _ _ at s))

value_every : (spaced : Bool) (k at : ℕ) (s : List ℕ) → Every Ends (value_r spaced k at s)
unfolding value_r
value_every spaced zero at s = scalar_ends spaced at s
value_every spaced (suc k) at s = every_alt _ (scalar_r spaced) (container_r (value_r false k)) at s (scalar_ends spaced) (container_ends (value_r false k))

-- A VALUE ends where its reader stops
pub value_ends : (spaced : Bool) (k at : ℕ) (s : List ℕ) (far : ℕ) (v : Tree) (a : ℕ) (t : List ℕ) → value_r spaced k at s ≡ reached far v a t → after v ≡ a
value_ends spaced k at s far v a t e = every_reached (value_every spaced k at s) far v a t e

-- A KEY is a leaf that begins where its reader starts
abbrev IsKey : ℕ → Tree → ℕ → Type 0
IsKey at v a = (s : Decoded) × (v ≡ leaf KEY at a s)

pub key_leaf : (at : ℕ) (s : List ℕ) (v : Tree) (a : ℕ) (t : List ℕ) → key_r at s ≡ ok v a t → (s : Decoded) × (v ≡ leaf KEY at a s)
unfolding key_r spanned_r
key_leaf at s v a t e = every_reached {P = IsKey at} (every_bind (name_r at s) _ (λ v a t. every_ok (v, refl))) 0 v a t e

pub key_begins : (at : ℕ) (s : List ℕ) (v : Tree) (a : ℕ) (t : List ℕ) → key_r at s ≡ ok v a t → first v ≡ at
key_begins at s v a t e = ap first (key_leaf at s v a t e).1
