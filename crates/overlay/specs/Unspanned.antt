-- OVERLAYS AND SPANS: to lay trees without spans over each other is to lay the trees over each other and forget their spans (`over_unspan`). Assumes nothing.
use Rattle.std.specs.Prelude.{◌≡◌, refl, List, [], ◌∷◌, ◌++◌, Bool, true, false, ℕ, suc, eqb}
use Rattle.std.proofs.Common.{sym, ap, ap₂, subst, ◌∙◌}
use Rattle.notation.specs.Class.{pick, and}
use Rattle.language.specs.Kind.{OBJECT}
use Rattle.language.specs.Tree.{Tree, leaf, node, Forest, none, more, Field, field, fields, forest, count, object_tree, text_of}
use Rattle.language.specs.Alike.{unspan, unspans, Alike}
use Rattle.shaped.specs.Shaped.{Shaped, shaped_leaf, shaped_array, shaped_object, Elements, elements_none, elements_more, Pairs, pairs_none, pairs_more}
use Rattle.shaped.specs.Bare.{alike_text}
use Rattle.shaped.specs.Once.{alike_once}
use Rattle.sound.specs.Members.{Sane}
use Rattle.overlay.specs.Overlay.{is_object, pairs_of, pair_of, pairs, same, Value, value, absent, at, value_of, new_ones}
use Rattle.overlay.specs.Over.{over, pairs_over, pair_over}
use Rattle.overlay.specs.Lists.{topped}

mutual
  unfolding unspan

  pub unspan_twice : (t : Tree) → unspan (unspan t) ≡ unspan t
  unspan_twice (leaf k a e s) = refl
  unspan_twice (node k a e c ts) = ap (node k 0 0 c) (unspans_twice ts)

  unspans_twice : (ts : Forest) → unspans (unspans ts) ≡ unspans ts
  unspans_twice none = refl
  unspans_twice (more t ts) = ap₂ more (unspan_twice t) (unspans_twice ts)

-- a tree as documents have it stays one
mutual
  unfolding unspan

  shaped_unspan : {k : ℕ} {t : Tree} → Shaped k t → Shaped k (unspan t)
  shaped_unspan (shaped_leaf x) = shaped_leaf x
  shaped_unspan (shaped_array x) = shaped_array (elements_unspan x)
  shaped_unspan (shaped_object x) = shaped_object (pairs_unspan x)

  elements_unspan : {k n : ℕ} {ts : Forest} → Elements k n ts → Elements k n (unspans ts)
  elements_unspan elements_none = elements_none
  elements_unspan (elements_more x y) = elements_more (shaped_unspan x) (elements_unspan y)

  pairs_unspan : {k n : ℕ} {ts : Forest} → Pairs k n ts → Pairs k n (unspans ts)
  pairs_unspan pairs_none = pairs_none
  pairs_unspan (pairs_more x y z) = pairs_more x (shaped_unspan y) (pairs_unspan z)

pub sane_unspan : {k : ℕ} (t : Tree) → Sane k t → Sane k (unspan t)
sane_unspan t x = record { shaped = shaped_unspan x.shaped; once = alike_once t (unspan t) (sym (unspan_twice t)) x.once }

-- .. and was one
mutual
  unfolding unspan

  spanned : {k : ℕ} (t : Tree) → Shaped k (unspan t) → Shaped k t
  spanned (leaf k a e s) (shaped_leaf x) = shaped_leaf x
  spanned (node k a e c ts) (shaped_array x) = shaped_array (elements_spanned ts x)
  spanned (node k a e c ts) (shaped_object x) = shaped_object (pairs_spanned ts x)

  elements_spanned : {k n : ℕ} (ts : Forest) → Elements k n (unspans ts) → Elements k n ts
  elements_spanned none elements_none = elements_none
  elements_spanned (more t ts) (elements_more x y) = elements_more (spanned t x) (elements_spanned ts y)

  pairs_spanned : {k n : ℕ} (ts : Forest) → Pairs k n (unspans ts) → Pairs k n ts
  pairs_spanned none pairs_none = pairs_none
  pairs_spanned (more t ts) x = pair_spanned ts t x

  pair_spanned : {k n : ℕ} (ts : Forest) (t : Tree) → Pairs k n (more (unspan t) (unspans ts)) → Pairs k n (more t ts)
  pair_spanned none (leaf k a e s) x = elim x [ ]
  pair_spanned none (node k a e c us) x = elim x [ ]
  pair_spanned (more v ts) (leaf k a e s) (pairs_more x y z) = pairs_more x (spanned v y) (pairs_spanned ts z)
  pair_spanned (more v ts) (node k a e c us) x = elim x [ ]

pub sane_alike : {k : ℕ} (t u : Tree) → Alike t u → Sane k t → Sane k u
sane_alike {k} t u e x = record { shaped = spanned u (subst (Shaped k) e (shaped_unspan x.shaped)); once = alike_once t u e x.once }

-- PAIRS WITHOUT SPANS
unfoldable pub bare : List Field → List Field
bare [] = []
bare (field k v ∷ fs) = field (unspan k) (unspan v) ∷ bare fs

abbrev pub bare_value : Value → Value
bare_value (value v) = value (unspan v)
bare_value absent = absent

pub unspan_text : (t : Tree) → text_of (unspan t) ≡ text_of t
unspan_text t = alike_text (unspan t) t (unspan_twice t)

pub unspan_object : (t : Tree) → is_object (unspan t) ≡ is_object t
unfolding unspan
unspan_object (leaf k a e s) = refl
unspan_object (node k a e c ts) = refl

mutual
  unfolding unspan pairs_of bare

  pub bare_pairs_of : (ts : Forest) → pairs_of (unspans ts) ≡ bare (pairs_of ts)
  bare_pairs_of none = refl
  bare_pairs_of (more k ts) = bare_pair_of ts k

  bare_pair_of : (ts : Forest) (k : Tree) → pair_of (unspans ts) (unspan k) ≡ bare (pair_of ts k)
  bare_pair_of none k = refl
  bare_pair_of (more v ts) k = ap (λ (l : List Field). field (unspan k) (unspan v) ∷ l) (bare_pairs_of ts)

pub bare_pairs_lem : (t : Tree) → pairs (unspan t) ≡ bare (pairs t)
unfolding unspan bare
bare_pairs_lem (leaf k a e s) = refl
bare_pairs_lem (node k a e c ts) = bare_pairs_of ts

pub bare_value_lem : (s : List ℕ) (fs : List Field) → value_of s (bare fs) ≡ bare_value (value_of s fs)
unfolding value_of bare
bare_value_lem s [] = refl
bare_value_lem s (field k v ∷ fs) = rw (unspan_text k) (by (same s (text_of k)) (bare_value_lem s fs))
  where
    by : (x : Bool) → value_of s (bare fs) ≡ bare_value (value_of s fs) → pick x (value (unspan v)) (value_of s (bare fs)) ≡ bare_value (pick x (value v) (value_of s fs))
    by true e = refl
    by false e = e

pub plain_value : (s : List ℕ) (t : Tree) → value_of s (pairs (unspan t)) ≡ bare_value (value_of s (pairs t))
plain_value s t = ap (value_of s) (bare_pairs_lem t) ∙ bare_value_lem s (pairs t)

pub bare_append : (fs gs : List Field) → bare (fs ++ gs) ≡ bare fs ++ bare gs
unfolding bare
bare_append [] gs = refl
bare_append (field k v ∷ fs) gs = ap (λ (l : List Field). field (unspan k) (unspan v) ∷ l) (bare_append fs gs)

pub bare_new : (fs gs : List Field) → new_ones (bare fs) (bare gs) ≡ bare (new_ones fs gs)
unfolding new_ones bare
bare_new fs [] = refl
bare_new fs (field k w ∷ gs) = rw (unspan_text k, bare_value_lem (text_of k) fs, bare_new fs gs) (by (value_of (text_of k) fs))
  where
    by : (x : Value) → at (λ v. bare (new_ones fs gs)) (field (unspan k) (unspan w) ∷ bare (new_ones fs gs)) (bare_value x)
        ≡ bare (at (λ v. new_ones fs gs) (field k w ∷ new_ones fs gs) x)
    by (value v) = refl
    by absent = refl

pub bare_count : (fs : List Field) → count (bare fs) ≡ count fs
unfolding bare
bare_count [] = refl
bare_count (field k v ∷ fs) = ap suc (bare_count fs)

pub bare_forest : (fs : List Field) → forest (fields (bare fs)) ≡ unspans (forest (fields fs))
unfolding bare unspan
bare_forest [] = refl
bare_forest (field k v ∷ fs) = ap (λ (f : Forest). more (unspan k) (more (unspan v) f)) (bare_forest fs)

pub bare_object : (fs : List Field) → object_tree 0 0 (bare fs) ≡ unspan (object_tree 0 0 fs)
unfolding unspan
bare_object fs = ap₂ (node OBJECT 0 0) (bare_count fs) (bare_forest fs)

pub unspan_pick : (x : Bool) (t u : Tree) → pick x (unspan t) (unspan u) ≡ unspan (pick x t u)
unspan_pick true t u = refl
unspan_pick false t u = refl

pub over_value : (k v : Tree) (gs : List Field) → ((w : Tree) → over (unspan v) (unspan w) ≡ unspan (over v w))
    → topped (unspan v) (value_of (text_of (unspan k)) (bare gs)) ≡ unspan (topped v (value_of (text_of k) gs))
over_value k v gs f = rw (unspan_text k, bare_value_lem (text_of k) gs) (by (value_of (text_of k) gs))
  where
    by : (x : Value) → topped (unspan v) (bare_value x) ≡ unspan (topped v x)
    by (value w) = f w
    by absent = refl
