-- PAIRS LAID OVER PAIRS (`laid_pairs`), as lists: what they have for a key (`laid_value`), and which are new. Assumes nothing.
use Rattle.std.specs.Prelude.{◌≡◌, Bool, ℕ, eqb}
use Rattle.std.proofs.Math.Path.{refl, ap}
use Rattle.std.proofs.Common.{sym, ap₂, subst, ◌∙◌}
use mathlib.Core.List.{List, [], ◌∷◌, ◌++◌, cons-ne-nil}
use Rattle.std.proofs.Math.Bool.{true, false}
use Rattle.notation.specs.Class.{pick, and}
use Rattle.language.specs.Kind.{OBJECT}
use Rattle.language.specs.Tree.{Tree, leaf, node, Forest, none, more, Field, field, object_tree, text_of}
use Rattle.exact.specs.Class.{clash}
use Rattle.exact.specs.Tells.{Tells, tells_eqb}
use Rattle.overlay.specs.Overlay.{is_object, pairs_of, pair_of, pairs, same, Value, value, absent, at, value_of, new_ones}
use Rattle.overlay.specs.Over.{over, pairs_over, pair_over}

-- equal bytes
pub same_tells : (s t : List ℕ) → Tells (s ≡ t) (same s t)
unfolding same
same_tells [] [] = refl
same_tells [] (c ∷ t) = λ e. cons-ne-nil c t (sym e)
same_tells (b ∷ s) [] = λ e. cons-ne-nil b s e
same_tells (b ∷ s) (c ∷ t) = by (eqb b c) (same s t) (tells_eqb b c) (same_tells s t)
  where
    by : (x y : Bool) → Tells (b ≡ c) x → Tells (s ≡ t) y → Tells (b ∷ s ≡ c ∷ t) (and x y)
    by true true p q = ap₂ ◌∷◌ p q
    by true false p q = λ e. q (cc)
    by false y p q = λ e. p (cc)

pub same_yes : (s t : List ℕ) → s ≡ t → same s t ≡ true
same_yes s t e = by (same s t) (same_tells s t)
  where
    by : (x : Bool) → Tells (s ≡ t) x → x ≡ true
    by true p = refl
    by false p = absurd (p e)

-- THE VALUE OF A KEY: one, or none
Some : Value → Type 0
Some (value v) = Unit {0}
Some absent = ⊥

pub no_value : {x : Value} {v : Tree} → x ≡ value v → x ≡ absent → ⊥
unfolding Some
no_value p q = subst Some (sym p ∙ q) tt

module _ (s : List ℕ) (k v : Tree) (fs : List Field) where
  pub value_here : s ≡ text_of k → value_of s (field k v ∷ fs) ≡ value v
  unfolding value_of
  value_here e = rw (same_yes s (text_of k) e)

  pub value_there : (s ≡ text_of k → ⊥) → value_of s (field k v ∷ fs) ≡ value_of s fs
  unfolding value_of
  value_there n = by (same s (text_of k)) (same_tells s (text_of k))
    where
      by : (x : Bool) → Tells (s ≡ text_of k) x → pick x (value v) (value_of s fs) ≡ value_of s fs
      by true p = absurd (n p)
      by false p = refl

  -- of two keys apart, the later is found behind the earlier
  pub value_later : {w : Tree} → value_of (text_of k) fs ≡ absent → value_of s fs ≡ value w → value_of s (field k v ∷ fs) ≡ value w
  value_later a e = value_there (λ p. no_value e (ap (λ (l : List ℕ). value_of l fs) p ∙ a)) ∙ e

pub append_value : (s : List ℕ) (fs gs : List Field) → value_of s (fs ++ gs) ≡ at value (value_of s gs) (value_of s fs)
unfolding value_of
append_value s [] gs = refl
append_value s (field k v ∷ fs) gs = by (same s (text_of k)) (append_value s fs gs)
  where
    by : (x : Bool) → value_of s (fs ++ gs) ≡ at value (value_of s gs) (value_of s fs)
        → pick x (value v) (value_of s (fs ++ gs)) ≡ at value (value_of s gs) (pick x (value v) (value_of s fs))
    by true e = refl
    by false e = e

-- THE NEW ONES, one by one
module _ (fs : List Field) (k w : Tree) (gs : List Field) where
  pub new_kept : value_of (text_of k) fs ≡ absent → new_ones fs (field k w ∷ gs) ≡ field k w ∷ new_ones fs gs
  unfolding new_ones
  new_kept e = rw e

  pub new_left : {v : Tree} → value_of (text_of k) fs ≡ value v → new_ones fs (field k w ∷ gs) ≡ new_ones fs gs
  unfolding new_ones
  new_left e = rw e

pub new_value : (s : List ℕ) (fs gs : List Field) → value_of s fs ≡ absent → value_of s (new_ones fs gs) ≡ value_of s gs
unfolding new_ones
new_value s fs [] a = refl
new_value s fs (field k w ∷ gs) a = by (value_of (text_of k) fs) refl (new_value s fs gs a)
  where
    by : (x : Value) → value_of (text_of k) fs ≡ x → value_of s (new_ones fs gs) ≡ value_of s gs → value_of s (new_ones fs (field k w ∷ gs)) ≡ value_of s (field k w ∷ gs)
    by (value v) p e = ap (value_of s) (new_left fs k w gs p) ∙ (e ∙ sym (value_there s k w gs (λ q. no_value (ap (λ (l : List ℕ). value_of l fs) q ∙ p) a)))
    by absent p e = ap (value_of s) (new_kept fs k w gs p) ∙ unfold value_of in ap (pick (same s (text_of k)) (value w)) e

-- a key of the lower is none of them; a key that the upper has not, neither
pub new_known : (s : List ℕ) (fs gs : List Field) {v : Tree} → value_of s fs ≡ value v → value_of s (new_ones fs gs) ≡ absent
unfolding new_ones value_of
new_known s fs [] h = refl
new_known s fs (field k w ∷ gs) h = by (value_of (text_of k) fs) refl (new_known s fs gs h)
  where
    by : (x : Value) → value_of (text_of k) fs ≡ x → value_of s (new_ones fs gs) ≡ absent → value_of s (new_ones fs (field k w ∷ gs)) ≡ absent
    by (value u) p e = ap (value_of s) (new_left fs k w gs p) ∙ e
    by absent p e =
        ap (value_of s) (new_kept fs k w gs p) ∙ (value_there s k w (new_ones fs gs) (λ q. no_value h (ap (λ (l : List ℕ). value_of l fs) q ∙ p)) ∙ e)

pub new_absent : (s : List ℕ) (fs gs : List Field) → value_of s gs ≡ absent → value_of s (new_ones fs gs) ≡ absent
new_absent s fs gs h = by (value_of s fs) refl
  where
    by : (x : Value) → value_of s fs ≡ x → value_of s (new_ones fs gs) ≡ absent
    by (value v) p = new_known s fs gs p
    by absent p = new_value s fs gs p ∙ h

-- pairs behind pairs
pub new_append : (fs gs hs : List Field) → new_ones fs (gs ++ hs) ≡ new_ones fs gs ++ new_ones fs hs
unfolding new_ones
new_append fs [] hs = refl
new_append fs (field k w ∷ gs) hs = rw (new_append fs gs hs) (by (value_of (text_of k) fs))
  where
    by : (x : Value) → at (λ v. new_ones fs gs ++ new_ones fs hs) (field k w ∷ (new_ones fs gs ++ new_ones fs hs)) x
        ≡ at (λ v. new_ones fs gs) (field k w ∷ new_ones fs gs) x ++ new_ones fs hs
    by (value v) = refl
    by absent = refl

-- THE LOWER'S PAIRS, each with the upper's value laid over its own
abbrev pub topped : Tree → Value → Tree
topped v x = at (λ w. over v w) v x

unfoldable pub mended : List Field → List Field → List Field
mended [] gs = []
mended (field k v ∷ fs) gs = field k (topped v (value_of (text_of k) gs)) ∷ mended fs gs

pub mended_value : (s : List ℕ) (fs gs : List Field) → value_of s (mended fs gs) ≡ at (λ v. value (topped v (value_of s gs))) absent (value_of s fs)
unfolding mended value_of
mended_value s [] gs = refl
mended_value s (field k v ∷ fs) gs = by (same s (text_of k)) (same_tells s (text_of k)) (mended_value s fs gs)
  where
    by : (x : Bool) → Tells (s ≡ text_of k) x → value_of s (mended fs gs) ≡ at (λ u. value (topped u (value_of s gs))) absent (value_of s fs)
        → pick x (value (topped v (value_of (text_of k) gs))) (value_of s (mended fs gs)) ≡ at (λ u. value (topped u (value_of s gs))) absent (pick x (value v) (value_of s fs))
    by true p e = ap (λ (l : List ℕ). value (topped v (value_of l gs))) (sym p)
    by false p e = e

-- PAIRS OVER PAIRS
unfoldable pub laid_pairs : List Field → List Field → List Field
laid_pairs fs gs = mended fs gs ++ new_ones fs gs

-- what a key has in both: "A key in one only is kept"
abbrev pub merged : Value → Value → Value
merged (value v) y = value (topped v y)
merged absent y = y

pub laid_value : (s : List ℕ) (fs gs : List Field) → value_of s (laid_pairs fs gs) ≡ merged (value_of s fs) (value_of s gs)
unfolding laid_pairs
laid_value s fs gs = append_value s (mended fs gs) (new_ones fs gs) ∙ (ap (at value (value_of s (new_ones fs gs))) (mended_value s fs gs) ∙ by (value_of s fs) refl)
  where
    by : (x : Value) → value_of s fs ≡ x → at value (value_of s (new_ones fs gs)) (at (λ v. value (topped v (value_of s gs))) absent x) ≡ merged x (value_of s gs)
    by (value v) p = refl
    by absent p = new_value s fs gs p

-- THE SAME AS THE TREE'S: the pairs of an object and the object of pairs
pub pairs_object : (a e : ℕ) (fs : List Field) → pairs (object_tree a e fs) ≡ fs
unfolding pairs_of
pairs_object a e [] = refl
pairs_object a e (field k v ∷ fs) = ap (λ (l : List Field). field k v ∷ l) (pairs_object a e fs)

mutual
  unfolding pairs_of pairs_over mended

  pub over_mended : (ts : Forest) (gs : List Field) → pairs_over ts gs ≡ mended (pairs_of ts) gs
  over_mended none gs = refl
  over_mended (more k ts) gs = over_mended_of ts k gs

  over_mended_of : (ts : Forest) (k : Tree) (gs : List Field) → pair_over ts k gs ≡ mended (pair_of ts k) gs
  over_mended_of none k gs = refl
  over_mended_of (more v ts) k gs = ap (λ (l : List Field). field k (topped v (value_of (text_of k) gs)) ∷ l) (over_mended ts gs)

pub over_others : (t u : Tree) → is_object u ≡ false → over t u ≡ u
unfolding over
over_others (leaf k a e s) u p = refl
over_others (node k a e c ts) u p = by (eqb k OBJECT)
  where
    by : (x : Bool) → pick (and x (is_object u)) (object_tree 0 0 (pairs_over ts (pairs u) ++ new_ones (pairs_of ts) (pairs u))) u ≡ u
    by true = rw p
    by false = refl
