-- THE KEYS OF THE RESULT in their order (`overlay_keys`): the lower's, then the upper's new ones. Assumes nothing.
use Rattle.std.specs.Prelude.{◌≡◌, refl, List, [], ◌∷◌, ◌++◌, Bool, true, false, ℕ}
use Rattle.std.proofs.Common.{ap, ap₂, ◌∙◌}
use Rattle.notation.specs.Class.{pick, or}
use Rattle.language.specs.Tree.{Tree, Field, field, text_of}
use Rattle.language.specs.Alike.{unspan}
use Rattle.overlay.specs.Overlay.{is_object, pairs, same, Value, value, absent, at, value_of, new_ones, laid, overlay}
use Rattle.overlay.specs.Lists.{mended, laid_pairs}
use Rattle.overlay.specs.Unspanned.{unspan_text, unspan_object, bare, bare_pairs_lem}

-- the decoded bytes of the keys, in order
unfoldable pub keys_in : List Field → List (List ℕ)
keys_in [] = []
keys_in (field k v ∷ fs) = text_of k ∷ keys_in fs

abbrev pub keys : Tree → List (List ℕ)
keys t = keys_in (pairs t)

-- s is one of them
unfoldable pub among : List ℕ → List (List ℕ) → Bool
among s [] = false
among s (t ∷ ts) = or (same s t) (among s ts)

-- those of the second that are none of the first
unfoldable pub new_keys : List (List ℕ) → List (List ℕ) → List (List ℕ)
new_keys ts [] = []
new_keys ts (s ∷ ss) = pick (among s ts) (new_keys ts ss) (s ∷ new_keys ts ss)

pub keys_append : (fs gs : List Field) → keys_in (fs ++ gs) ≡ keys_in fs ++ keys_in gs
unfolding keys_in
keys_append [] gs = refl
keys_append (field k v ∷ fs) gs = ap (λ (l : List (List ℕ)). text_of k ∷ l) (keys_append fs gs)

pub keys_mended : (fs gs : List Field) → keys_in (mended fs gs) ≡ keys_in fs
unfolding keys_in mended
keys_mended [] gs = refl
keys_mended (field k v ∷ fs) gs = ap (λ (l : List (List ℕ)). text_of k ∷ l) (keys_mended fs gs)

pub keys_bare : (fs : List Field) → keys_in (bare fs) ≡ keys_in fs
unfolding keys_in bare
keys_bare [] = refl
keys_bare (field k v ∷ fs) = ap₂ (λ (s : List ℕ) (l : List (List ℕ)). s ∷ l) (unspan_text k) (keys_bare fs)

among_value : (s : List ℕ) (fs : List Field) → among s (keys_in fs) ≡ at (λ v. true) false (value_of s fs)
unfolding among keys_in value_of
among_value s [] = refl
among_value s (field k v ∷ fs) = by (same s (text_of k)) (among_value s fs)
  where
    by : (x : Bool) → among s (keys_in fs) ≡ at (λ w. true) false (value_of s fs) → or x (among s (keys_in fs)) ≡ at (λ w. true) false (pick x (value v) (value_of s fs))
    by true e = refl
    by false e = e

pub keys_new : (fs gs : List Field) → keys_in (new_ones fs gs) ≡ new_keys (keys_in fs) (keys_in gs)
unfolding keys_in new_ones new_keys
keys_new fs [] = refl
keys_new fs (field k w ∷ gs) = rw (among_value (text_of k) fs, ← (keys_new fs gs)) (by (value_of (text_of k) fs))
  where
    by : (x : Value) → keys_in (at (λ v. new_ones fs gs) (field k w ∷ new_ones fs gs) x) ≡ pick (at (λ v. true) false x) (keys_in (new_ones fs gs)) (text_of k ∷ keys_in (new_ones fs gs))
    by (value v) = refl
    by absent = refl

pub keys_laid : (fs gs : List Field) → keys_in (laid_pairs fs gs) ≡ keys_in fs ++ new_keys (keys_in fs) (keys_in gs)
unfolding laid_pairs
keys_laid fs gs = keys_append (mended fs gs) (new_ones fs gs) ∙ ap₂ ◌++◌ (keys_mended fs gs) (keys_new fs gs)

pub keys_unspan : (t : Tree) → keys (unspan t) ≡ keys t
keys_unspan t = ap keys_in (bare_pairs_lem t) ∙ keys_bare (pairs t)
