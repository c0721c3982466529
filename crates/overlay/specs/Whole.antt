-- WHAT IS LAID OVER IS A TREE AS DOCUMENTS WITHOUT REPEATED KEYS HAVE IT, if both trees are (`over_sane`): no more containers one inside another than in one of the two. Assumes nothing.
use Rattle.std.specs.Prelude.{◌≡◌, refl, Bool, true, false, ℕ, zero, suc}
use Rattle.std.proofs.Common.{sym, subst, ◌∙◌}
use Rattle.std.proofs.Math.Path.{ap}
use mathlib.Core.List.{List, ◌∷◌, ◌++◌}
use Rattle.language.specs.Kind.{KEY}
use Rattle.language.specs.Tree.{Tree, leaf, Field, field, text_of}
use Rattle.sound.specs.Members.{Sane}
use Rattle.overlay.specs.Overlay.{is_object, Value, value, absent, at, value_of, new_ones}
use Rattle.overlay.specs.Over.{over}
use Rattle.overlay.specs.Lists.{no_value, value_here, value_later, append_value, new_kept, new_left, new_known, new_absent, topped, mended, mended_value, laid_pairs, over_others}
use Rattle.overlay.specs.Objects.{Props, props_none, props_more, props_value, props_sane}

-- pairs behind others, no key of which is equal to one of those
pub props_behind : {k : ℕ} {fs gs : List Field} → Props k fs → Props k gs → ((s : List ℕ) (v : Tree) → value_of s fs ≡ value v → value_of s gs ≡ absent) → Props k (fs ++ gs)
unfolding text_of
props_behind props_none qs f = qs
props_behind {gs = gs} (props_more {a = a} {e = e} {d = d} {v = v} {fs = fs} x y n ps) qs f =
    let key = leaf KEY a e d in
    let g = f d.bytes v (value_here d.bytes key v fs refl) in
    props_more x y (append_value d.bytes fs gs ∙ (ap (at value (value_of d.bytes gs)) n ∙ g)) (props_behind ps qs (λ s w h. f s w (value_later s key v fs n h)))

pub props_new : {k : ℕ} {gs : List Field} (fs : List Field) → Props k gs → Props k (new_ones fs gs)
unfolding new_ones text_of
props_new fs props_none = props_none
props_new {k} fs (props_more {a = a} {e = e} {d = d} {v = w} {fs = gs} x y n qs) = by (value_of d.bytes fs) refl (props_new fs qs)
  where
    by : (z : Value) → value_of d.bytes fs ≡ z → Props k (new_ones fs gs) → Props k (new_ones fs (field (leaf KEY a e d) w ∷ gs))
    by (value v) p r = subst (Props k) (sym (new_left fs (leaf KEY a e d) w gs p)) r
    by absent p r = subst (Props k) (sym (new_kept fs (leaf KEY a e d) w gs p)) (props_more x y (new_absent d.bytes fs gs n) r)

module _ (k : ℕ) (deeper : (t u : Tree) → Sane k t → Sane k u → Sane k (over t u)) where
  topped_sane : {gs : List Field} (s : List ℕ) {v : Tree} → Sane k v → Props k gs → Sane k (topped v (value_of s gs))
  topped_sane {gs} s {v} x qs = by (value_of s gs) refl
    where
      by : (z : Value) → value_of s gs ≡ z → Sane k (topped v z)
      by (value w) p = deeper v w x (props_value s qs p)
      by absent p = x

  pub props_mended : {fs gs : List Field} → Props k fs → Props k gs → Props k (mended fs gs)
  unfolding mended text_of
  props_mended props_none qs = props_none
  props_mended {gs = gs} (props_more {d = d} {v = v} {fs = fs} x y n ps) qs =
      props_more
      x
      (topped_sane d.bytes y qs)
      (mended_value d.bytes fs gs ∙ ap (at (λ u. value (topped u (value_of d.bytes gs))) absent) n)
      (props_mended ps qs)

  pub props_laid : {fs gs : List Field} → Props k fs → Props k gs → Props k (laid_pairs fs gs)
  unfolding laid_pairs
  props_laid {fs} {gs} ps qs = props_behind (props_mended ps qs) (props_new fs qs) (λ s v h. by s v h (value_of s fs) refl)
    where
      by : (s : List ℕ) (v : Tree) → value_of s (mended fs gs) ≡ value v → (z : Value) → value_of s fs ≡ z → value_of s (new_ones fs gs) ≡ absent
      by s v h (value w) p = new_known s fs gs p
      by s v h absent p = absurd (no_value h (mended_value s fs gs ∙ ap (at (λ u. value (topped u (value_of s gs))) absent) p))
