-- WHERE TWO TREES CLASH (`Clash`), as a relation: at their roots, or at the values of a key that is in both; `clashes` tells it (`clashes_tells`). Assumes nothing.
use Rattle.std.specs.Prelude.{◌≡◌, Bool, ℕ, zero, suc}
use Rattle.std.proofs.Math.Path.{refl}
use Rattle.std.proofs.Common.{sym, ap, subst, ◌∙◌}
use mathlib.Core.List.{List, [], ◌∷◌}
use Rattle.std.proofs.Math.Bool.{true, false}
use Rattle.notation.specs.Class.{pick, or}
use Rattle.language.specs.Kind.{KEY}
use Rattle.language.specs.Tree.{Tree, leaf, node, Forest, none, more, Field, field, text_of}
use Rattle.exact.specs.Class as bools
use Rattle.exact.specs.Tells.{Tells, tells_map}
use Rattle.sound.specs.Members.{Sane}
use Rattle.overlay.specs.Overlay.{is_object, pairs_of, pair_of, pairs, same, Value, value, absent, at, value_of, laid, clash}
use Rattle.overlay.specs.Over.{clashes, clash_in, clash_of, over, clash_or_over}
use Rattle.overlay.specs.Lists.{same_tells, no_value, value_here, value_later}
use Rattle.overlay.specs.Result.{over_given, clash_given}
use Rattle.overlay.specs.Objects.{Props, props_none, props_more, same_value, props_value}

pub data Clash : Tree → Tree → Type 0 where
  lower_object : {t u : Tree} → is_object t ≡ true → is_object u ≡ false → Clash t u
  upper_object : {t u : Tree} → is_object t ≡ false → is_object u ≡ true → Clash t u
  below : {t u v w : Tree} (s : List ℕ) → is_object t ≡ true → is_object u ≡ true → value_of s (pairs t) ≡ value v → value_of s (pairs u) ≡ value w → Clash v w → Clash t u

pub clash_sym : {t u : Tree} → Clash t u → Clash u t
clash_sym (lower_object p q) = upper_object q p
clash_sym (upper_object p q) = lower_object q p
clash_sym (below s p q i j c) = below s q p j i (clash_sym c)

-- two others do not clash
pub no_clash : {t u : Tree} → is_object t ≡ false → is_object u ≡ false → Clash t u → ⊥
no_clash p q (lower_object i j) = bools.clash i p
no_clash p q (upper_object i j) = bools.clash j q
no_clash p q (below s i j x y c) = bools.clash i p

-- TWO LISTS OF PAIRS: a key in both, whose values clash
pub record Meet (fs gs : List Field) : Type 0 where
  pub key : List ℕ
  pub lower : Tree
  pub upper : Tree
  pub lower_is : value_of key fs ≡ value lower
  pub upper_is : value_of key gs ≡ value upper
  pub clash : Clash lower upper

unfoldable pub clashing : List Field → List Field → Bool
clashing [] gs = false
clashing (field k v ∷ fs) gs = or (at (λ w. clashes v w) false (value_of (text_of k) gs)) (clashing fs gs)

mutual
  unfolding pairs_of clashes clashing

  pub clash_pairs : (ts : Forest) (gs : List Field) → clash_in ts gs ≡ clashing (pairs_of ts) gs
  clash_pairs none gs = refl
  clash_pairs (more k ts) gs = clash_pair ts k gs

  clash_pair : (ts : Forest) (k : Tree) (gs : List Field) → clash_of ts k gs ≡ clashing (pair_of ts k) gs
  clash_pair none k gs = refl
  clash_pair (more v ts) k gs = ap (or (at (λ w. clashes v w) false (value_of (text_of k) gs))) (clash_pairs ts gs)

-- one pair more
module _ (d v : Tree) (fs gs : List Field) (apart : value_of (text_of d) fs ≡ absent) where
  meet_later : Meet fs gs → Meet (field d v ∷ fs) gs
  meet_later m =
      record { key = m.key; lower = m.lower; upper = m.upper; lower_is = value_later m.key d v fs apart m.lower_is; upper_is = m.upper_is; clash = m.clash }

  -- a meeting is that of this key, or a later one
  meet_first : Meet (field d v ∷ fs) gs → ((w : Tree) → value_of (text_of d) gs ≡ value w → Clash v w → ⊥) → Meet fs gs
  unfolding value_of
  meet_first m n = by (same m.key (text_of d)) (same_tells m.key (text_of d)) m.lower_is
    where
      by : (x : Bool) → Tells (m.key ≡ text_of d) x → pick x (value v) (value_of m.key fs) ≡ value m.lower → Meet fs gs
      by true p e =
          absurd (n m.upper (ap (λ (l : List ℕ). value_of l gs) (sym p) ∙ m.upper_is) (subst (λ (z : Tree). Clash z m.upper) (sym (same_value e)) m.clash))
      by false p e = record { key = m.key; lower = m.lower; upper = m.upper; lower_is = e; upper_is = m.upper_is; clash = m.clash }

  meet_tells : (z : Value) → value_of (text_of d) gs ≡ z → ((w : Tree) → z ≡ value w → Tells (Clash v w) (clashes v w)) → (r : Bool) → Tells (Meet fs gs) r
      → Tells (Meet (field d v ∷ fs) gs) (or (at (λ w. clashes v w) false z) r)
  meet_tells absent e f r g = tells_map meet_later (λ m. meet_first m (λ w p c. no_value p e)) r g
  meet_tells (value w) e f r g = by (clashes v w) (f w refl)
    where
      by : (x : Bool) → Tells (Clash v w) x → Tells (Meet (field d v ∷ fs) gs) (or x r)
      by true c = record { key = text_of d; lower = v; upper = w; lower_is = value_here (text_of d) d v fs refl; upper_is = e; clash = c }
      by false n = tells_map meet_later (λ m. meet_first m (λ y p c. n (subst (Clash v) (same_value (sym p ∙ e)) c))) r g

module _ (k : ℕ) (deeper : (t u : Tree) → Sane k t → Sane k u → Tells (Clash t u) (clashes t u)) where
  pub clashing_tells : {fs gs : List Field} → Props k fs → Props k gs → Tells (Meet fs gs) (clashing fs gs)
  unfolding clashing value_of text_of
  clashing_tells props_none qs = λ m. no_value m.lower_is refl
  clashing_tells {gs = gs} (props_more {a = a} {e = e} {d = d} {v = v} {fs = fs} x y n ps) qs =
      let key = leaf KEY a e d in
      meet_tells key v fs gs n (value_of d.bytes gs) refl (λ w p. deeper v w y (props_value d.bytes qs p)) (clashing fs gs) (clashing_tells ps qs)
