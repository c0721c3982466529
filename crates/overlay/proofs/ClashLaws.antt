-- WHERE TWO TREES CLASH (`Clash`), as a relation: at their roots, or at the values of a key that is in both; `clashes` tells it (`clashes_tells`). Assumes nothing.
use Rattle.std.specs.Prelude.{◌≡◌, Bool, ℕ, zero, suc}
use Rattle.std.proofs.Math.Path.{refl}
use Rattle.std.proofs.Common.{sym, ap, subst, ◌∙◌}
use mathlib.Core.List.{List, [], ◌∷◌}
use Rattle.std.proofs.Math.Bool.{true, false}
use Rattle.notation.specs.Class.{pick, or}
use Rattle.language.specs.Kind.{KEY}
use Rattle.language.specs.Tree.{Tree, leaf, node, Forest, none, more, Field, field, text_of}
use Rattle.exact.specs.Class as bools
use Rattle.exact.specs.Tells.{Tells, tells_map}
use Rattle.sound.specs.Members.{Sane}
use Rattle.overlay.specs.Overlay.{is_object, pairs_of, pair_of, pairs, same, Value, value, absent, at, value_of, laid, clash}
use Rattle.overlay.specs.Over.{clashes, clash_in, clash_of, over, clash_or_over}
use Rattle.overlay.specs.Lists.{same_tells, no_value, value_here, value_later}
use Rattle.overlay.specs.Result.{over_given, clash_given}
use Rattle.overlay.specs.Objects.{Props, props_none, props_more, same_value, props_value}
use Rattle.overlay.proofs.ObjectsLaws.{sane_props, sane_other}
use Rattle.overlay.specs.Clash.{Clash, Meet, below, clash_pairs, clashing, clashing_tells, lower_object, no_clash, upper_object}

pub clashes_objects : (t u : Tree) → is_object t ≡ true → is_object u ≡ true → clashes t u ≡ clashing (pairs t) (pairs u)
unfolding clashes
clashes_objects (leaf k a e s) u p q = absurd (bools.clash p refl)
clashes_objects (node k a e c ts) u p q = rw (p, q) (clash_pairs ts (pairs u))

pub clashes_one : (t u : Tree) → is_object t ≡ true → is_object u ≡ false → clashes t u ≡ true
unfolding clashes
clashes_one (leaf k a e s) u p q = absurd (bools.clash p refl)
clashes_one (node k a e c ts) u p q = rw (p, q)

pub clashes_other : (t u : Tree) → is_object t ≡ false → clashes t u ≡ is_object u
unfolding clashes
clashes_other (leaf k a e s) u p = refl
clashes_other (node k a e c ts) u p = rw p

module _ (k : ℕ) (deeper : (t u : Tree) → Sane k t → Sane k u → Tells (Clash t u) (clashes t u)) where
  both_tell : (t u : Tree) → Sane (suc k) t → Sane (suc k) u → is_object t ≡ true → is_object u ≡ true → Tells (Clash t u) (clashes t u)
  both_tell t u x y p q = rw (clashes_objects t u p q) (tells_map up down (clashing (pairs t) (pairs u)) ((clashing_tells k deeper) (sane_props x p) (sane_props y q)))
    where
      up : Meet (pairs t) (pairs u) → Clash t u
      up m = below m.key p q m.lower_is m.upper_is m.clash

      down : Clash t u → Meet (pairs t) (pairs u)
      down (lower_object i j) = absurd (bools.clash q j)
      down (upper_object i j) = absurd (bools.clash p i)
      down (below {v = v} {w = w} s i j a b c) = record { key = s; lower = v; upper = w; lower_is = a; upper_is = b; clash = c }

-- .. another value below
other_tells : (t u : Tree) → is_object t ≡ false → Tells (Clash t u) (clashes t u)
other_tells t u p = rw (clashes_other t u p) (by (is_object u) refl)
  where
    by : (x : Bool) → is_object u ≡ x → Tells (Clash t u) x
    by true q = upper_object p q
    by false q = no_clash p q

pub clashes_tells : (k : ℕ) (t u : Tree) → Sane k t → Sane k u → Tells (Clash t u) (clashes t u)
clashes_tells zero t u x y = other_tells t u (sane_other x)
clashes_tells (suc k) t u x y = by (is_object t) (is_object u) refl refl (λ v w i j. clashes_tells k v w i j)
  where
    by : (a b : Bool) → is_object t ≡ a → is_object u ≡ b → ((v w : Tree) → Sane k v → Sane k w → Tells (Clash v w) (clashes v w)) → Tells (Clash t u) (clashes t u)
    by true true p q f = both_tell k f t u x y p q
    by true false p q f = rw (clashes_one t u p q) (lower_object p q)
    by false b p q f = other_tells t u p

-- so laying gives a clash, or the one over the other
module _ (k : ℕ) (t u : Tree) (x : Sane k t) (y : Sane k u) where
  pub clash_told : Clash t u → clash_or_over t u ≡ clash
  clash_told c = clash_given t u (by (clashes t u) (clashes_tells k t u x y))
    where
      by : (r : Bool) → Tells (Clash t u) r → r ≡ true
      by true e = refl
      by false n = absurd (n c)

  pub over_told : (Clash t u → ⊥) → clash_or_over t u ≡ laid (over t u)
  over_told n = over_given t u (by (clashes t u) (clashes_tells k t u x y))
    where
      by : (r : Bool) → Tells (Clash t u) r → r ≡ false
      by true c = absurd (n c)
      by false e = refl
