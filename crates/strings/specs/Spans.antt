-- A text with its span: the reader of it is exact, with the shape of the text.
use Rattle.std.specs.Prelude.{◌≡◌, refl, [], ◌∷◌, ◌++◌, true, false, ℕ}
use Rattle.std.proofs.Common.{append-nil, append_assoc, arith}
use Rattle.language.specs.Tree.{Decoded, Tree, leaf}
use Rattle.language.specs.Strings.{Spanned}
use Rattle.exact.specs.Class.{Class, Range, ◌to◌, in₁, in₂, sub, apart_nil, leb_yes, and_true, or_left, or_right}
use Rattle.exact.specs.Out.{Reader}
use Rattle.exact.specs.Lang.{Lang, ret_r}
use Rattle.exact.specs.Comb.{seq_r}
use Rattle.exact.specs.Ll.{Shape, Ll, ret_ll, seq_ll, relax, here_r, here_ll}

-- a class is inside itself
range_self : (r : Range) → in₁ r r ≡ true
range_self (l to h) = and_true (leb_yes l l (omega arith)) (leb_yes h h (omega arith))

range_in : (p : Class) (r : Range) (c : Class) → in₂ r (p ++ r ∷ c) ≡ true
range_in [] r c = or_left (in₂ r c) (range_self r)
range_in (q ∷ p) r c = or_right (in₁ r q) (range_in p r c)

sub_behind : (c p : Class) → sub c (p ++ c) ≡ true
sub_behind [] p = refl
sub_behind (r ∷ c) p = and_true (range_in p r c) (rw (append_assoc p (r ∷ []) c) at (sub_behind c (p ++ r ∷ [])))

pub sub_self : (c : Class) → sub (c ++ []) c ≡ true
sub_self c = rw append-nil (sub_behind c [])

unfoldable pub spanned_r : ℕ → Reader Decoded → Reader Tree
spanned_r kind r = seq_r here_r λ a. seq_r r λ s. seq_r here_r λ e. ret_r (leaf kind a e s)

-- a shape that is never empty
abbrev pub solid : Class → Class → Shape
solid first follow = record { null = false; first = first; follow = follow }

pub spanned_ll : (kind : ℕ) (first follow : Class) {A : Lang Decoded} {r : Reader Decoded} → Ll (solid first follow) A r → Ll (solid first follow) (Spanned kind A) (spanned_r kind r)
unfolding spanned_r
spanned_ll kind first follow l =
    relax
    (solid first follow)
    refl
    (sub_self first)
    (sub_self follow)
    (seq_ll (apart_nil (first ++ [])) here_ll λ a. seq_ll refl l λ s. seq_ll refl here_ll λ e. ret_ll (leaf kind a e s))
