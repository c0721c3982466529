-- THREE TREES NO TWO OF WHICH CLASH give the same in both groupings (`over_grouped`). Assumes nothing.
use Rattle.std.specs.Prelude.{◌≡◌, refl, List, [], ◌∷◌, ◌++◌, Bool, true, false, ℕ, zero, suc}
use Rattle.std.proofs.Common.{sym, ap, ap₂, ◌∙◌, append_assoc}
use Rattle.language.specs.Kind.{KEY}
use Rattle.language.specs.Tree.{Tree, leaf, Field, field, object_tree, text_of}
use Rattle.sound.specs.Members.{Sane}
use Rattle.overlay.specs.Overlay.{is_object, pairs, Value, value, absent, at, value_of, new_ones}
use Rattle.overlay.specs.Over.{over}
use Rattle.overlay.specs.Lists.{value_here, value_later, new_kept, new_left, new_append, topped, mended, merged, laid_pairs, laid_value, over_others}
use Rattle.overlay.proofs.ListsLaws.{over_objects, over_pairs}
use Rattle.overlay.specs.Objects.{Props, props_none, props_more, props_value}
use Rattle.overlay.proofs.ObjectsLaws.{sane_props, sane_other}
use Rattle.overlay.specs.Clash.{Clash, upper_object, below}
use Rattle.overlay.proofs.ClashingLaws.{over_root}
use Rattle.overlay.specs.Grouped.{Agree, Groups, agree_below, laid_grouped, top_other}

objects_grouped : {k : ℕ} (t u z : Tree) → is_object t ≡ true → is_object u ≡ true → is_object z ≡ true → Props k (pairs t) → Groups (pairs t) (pairs u) (pairs z)
    → over (over t u) z ≡ over t (over u z)
objects_grouped t u z p q r ps f =
    let e =
    ap (λ (l : List Field). laid_pairs l (pairs z)) (over_pairs t u p q)
    ∙ (laid_grouped (pairs t) (pairs u) (pairs z) ps f ∙ ap (laid_pairs (pairs t)) (sym (over_pairs u z q r))) in
    over_objects (over t u) z (over_root t u ∙ q) r ∙ (ap (object_tree 0 0) e ∙ sym (over_objects t (over u z) p (over_root u z ∙ r)))

pub over_grouped : (k : ℕ) (t u z : Tree) → Sane k t → Sane k u → Sane k z → Agree t u z → over (over t u) z ≡ over t (over u z)
unfolding Groups
over_grouped zero t u z x y i g = top_other t u z (sane_other i)
over_grouped (suc k) t u z x y i g = by (is_object t) (is_object u) (is_object z) refl refl refl (λ a b c. over_grouped k a b c)
  where
    by : (a b c : Bool) → is_object t ≡ a → is_object u ≡ b → is_object z ≡ c
        → ((a b c : Tree) → Sane k a → Sane k b → Sane k c → Agree a b c → over (over a b) c ≡ over a (over b c)) → over (over t u) z ≡ over t (over u z)
    by a b false p q r f = top_other t u z r
    by a false true p q r f = absurd (g.upper_top (upper_object q r))
    by false true true p q r f = absurd (g.lower_top (upper_object p r))
    by true true true p q r f =
        objects_grouped t u z p q r (sane_props x p)
        (λ s a b c l m n. f a b c (props_value s (sane_props x p) l) (props_value s (sane_props y q) m) (props_value s (sane_props i r) n) (agree_below t u z p q r g s a b c l m n))
