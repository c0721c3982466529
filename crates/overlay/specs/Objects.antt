-- OBJECTS AS DOCUMENTS WITHOUT REPEATED KEYS HAVE THEM, pair by pair (`Props`): from such a tree, and back. Assumes nothing.
use Rattle.std.specs.Prelude.{◌≡◌, Bool}
use Rattle.std.proofs.Math.Path.{refl, ap, subst}
use Rattle.std.proofs.Common.{sym, arith}
use mathlib.Core.List.{List, [], ◌∷◌}
use Rattle.std.proofs.Math.Bool.{true, false}
use Prim.Native.Nat.{ℕ, suc}
use Rattle.notation.specs.Class.{pick}
use Rattle.language.specs.Kind.{KEY}
use Rattle.language.specs.Tree.{Decoded, Tree, leaf, Forest, more, Field, field, fields, forest, count, object_tree, text_of, Has, has_here, has_later, Once}
use Rattle.exact.specs.Class.{clash}
use Rattle.exact.specs.Tells.{Tells}
use Rattle.shaped.specs.Shaped.{Scripted, Shaped, shaped_leaf, shaped_array, shaped_object, Pairs, pairs_none, pairs_more}
use Rattle.sound.specs.Distinct.{again_here, again_later, Distinct, Onces, onces_none, onces_more, node_once, once_distinct, once_onces, leaf_once}
use Rattle.sound.specs.Members.{Sane, no_scalar_key}
use Rattle.overlay.specs.Overlay.{is_object, pairs_of, pairs, same, Value, value, absent, at, value_of}
use Rattle.overlay.specs.Lists.{same_tells, no_value, value_here}

-- pairs of a key and a value as such documents have them, with at most k containers one inside another in each value, no key equal to a later one
pub data Props (k : ℕ) : List Field → Type 0 where
  props_none : Props k []
  props_more : {a e : ℕ} {d : Decoded} {v : Tree} {fs : List Field} → Scripted d.bytes → Sane k v → value_of d.bytes fs ≡ absent → Props k fs
      → Props k (field (leaf KEY a e d) v ∷ fs)

-- a value of them
pub same_value : {v w : Tree} → value v ≡ value w → v ≡ w
same_value {v} e = ap (at (λ u. u) v) e

pub props_value : {k : ℕ} {fs : List Field} {v : Tree} (s : List ℕ) → Props k fs → value_of s fs ≡ value v → Sane k v
unfolding value_of text_of
props_value s props_none e = absurd (no_value e refl)
props_value {k} {v = v} s (props_more {d = d} {v = w} {fs = fs} x y n ps) e = by (same s d.bytes) e (λ h. props_value s ps h)
  where
    by : (c : Bool) → pick c (value w) (value_of s fs) ≡ value v → (value_of s fs ≡ value v → Sane k v) → Sane k v
    by true h f = subst (Sane k) (same_value h) y
    by false h f = f h

-- FROM A TREE: the children of an object are such pairs
module _ {k : ℕ} where
  has_value : {n : ℕ} {ts : Forest} {v : Tree} (s : List ℕ) → Pairs k n ts → value_of s (pairs_of ts) ≡ value v → (p : ℕ) × Has s p ts
  unfolding value_of text_of pairs_of
  has_value s pairs_none e = absurd (no_value e refl)
  has_value {v = v} s (pairs_more {a = a} {e = z} {s = d} {v = w} {ts = ts} x y ps) e = by (same s d.bytes) (same_tells s d.bytes) e (λ h. has_value s ps h)
    where
      by : (c : Bool) → Tells (s ≡ d.bytes) c → pick c (value w) (value_of s (pairs_of ts)) ≡ value v → (value_of s (pairs_of ts) ≡ value v → (p : ℕ) × Has s p ts)
          → (p : ℕ) × Has s p (more (leaf KEY a z d) (more w ts))
      by true q h f = (a, subst (λ (l : List ℕ). Has l a (more (leaf KEY a z d) (more w ts))) (sym q) has_here)
      by false q h f = let r = f h in (r.0, has_later (has_later r.1))

  pub pairs_props : {n : ℕ} {ts : Forest} → Pairs k n ts → Onces ts → Distinct ts → Props k (pairs_of ts)
  unfolding pairs_of
  pairs_props pairs_none o d = props_none
  pairs_props (pairs_more {s = s} {v = v} {ts = ts} x y ps) (onces_more p (onces_more q o)) d =
      props_more x (record { shaped = y; once = q }) (by (value_of s.bytes (pairs_of ts)) refl) (pairs_props ps o (λ i z. d i (again_later (again_later z))))
    where
      by : (r : Value) → value_of s.bytes (pairs_of ts) ≡ r → r ≡ absent
      by (value w) e = let h = has_value s.bytes ps e in absurd (d h.0 (again_here (has_later h.1)))
      by absent e = refl

  -- .. which make that object again
  pub pairs_forest : {n : ℕ} {ts : Forest} → Pairs k n ts → forest (fields (pairs_of ts)) ≡ ts
  unfolding pairs_of
  pairs_forest pairs_none = refl
  pairs_forest (pairs_more {a = a} {e = e} {s = s} {v = v} x y ps) = ap (λ (f : Forest). more (leaf KEY a e s) (more v f)) (pairs_forest ps)

  pub pairs_count : {n : ℕ} {ts : Forest} → Pairs k n ts → count (pairs_of ts) ≡ n
  unfolding pairs_of
  pairs_count pairs_none = refl
  pairs_count (pairs_more x y ps) = ap suc (pairs_count ps)

-- AND BACK
module _ {k : ℕ} where
  props_pairs : {fs : List Field} → Props k fs → Pairs k (count fs) (forest (fields fs))
  props_pairs props_none = pairs_none
  props_pairs (props_more x y n ps) = pairs_more x y.shaped (props_pairs ps)

  props_onces : {fs : List Field} → Props k fs → Onces (forest (fields fs))
  props_onces props_none = onces_none
  props_onces (props_more x y n ps) = onces_more leaf_once (onces_more y.once (props_onces ps))

  behind_value : {s : List ℕ} {p : ℕ} {v : Tree} {ts : Forest} → Shaped k v → Has s p (more v ts) → Has s p ts
  behind_value x has_here = absurd (no_scalar_key x)
  behind_value x (has_later h) = h

  value_has : {fs : List Field} {s : List ℕ} {p : ℕ} → Props k fs → Has s p (forest (fields fs)) → value_of s fs ≡ absent → ⊥
  unfolding value_of text_of
  value_has props_none h e = elim h [ ]
  value_has (props_more {a = a} {e = z} {d = d} {v = v} {fs = fs} x y n ps) has_here e = no_value (value_here d.bytes (leaf KEY a z d) v fs refl) e
  value_has {s = s} (props_more {d = d} {v = v} {fs = fs} x y n ps) (has_later h) e = value_has ps (behind_value y.shaped h) (by (same s d.bytes) e)
    where
      by : (c : Bool) → pick c (value v) (value_of s fs) ≡ absent → value_of s fs ≡ absent
      by true q = absurd (no_value refl q)
      by false q = q

  props_distinct : {fs : List Field} → Props k fs → Distinct (forest (fields fs))
  props_distinct props_none p x = elim x [ ]
  props_distinct (props_more x y n ps) p (again_here h) = value_has ps (behind_value y.shaped h) n
  props_distinct (props_more x y n ps) p (again_later (again_here h)) = no_scalar_key y.shaped
  props_distinct (props_more x y n ps) p (again_later (again_later z)) = props_distinct ps p z

  pub props_sane : (a e : ℕ) {fs : List Field} → Props k fs → Sane (suc k) (object_tree a e fs)
  props_sane a e ps = record { shaped = shaped_object (props_pairs ps); once = node_once (props_distinct ps) (props_onces ps) }
