-- A TREE CLASHES WITH TWO LAID OVER EACH OTHER exactly if it clashes with one of them (`clash_down`, `clash_up`). Assumes nothing.
use Rattle.std.specs.Prelude.{◌≡◌, refl, List, ◌⊎◌, Bool, true, false, ℕ, zero, suc}
use Rattle.std.proofs.Common.{sym, ap, ap₂, subst, ◌∙◌, inl, inr}
use Rattle.language.specs.Tree.{Tree}
use Rattle.exact.specs.Class.{clash}
use Rattle.sound.specs.Members.{Sane}
use Rattle.overlay.specs.Overlay.{is_object, pairs, Value, value, absent, value_of}
use Rattle.overlay.specs.Over.{over}
use Rattle.overlay.specs.Lists.{no_value, merged, over_others}
use Rattle.overlay.proofs.ListsLaws.{over_objects, over_other, over_value}
use Rattle.overlay.specs.Objects.{same_value, props_value}
use Rattle.overlay.proofs.ObjectsLaws.{sane_props, sane_other}
use Rattle.overlay.specs.Clash.{Clash, lower_object, upper_object, below}

-- the result's root is an object exactly if the upper's is
pub over_root : (t u : Tree) → is_object (over t u) ≡ is_object u
over_root t u = by (is_object t) (is_object u) refl refl
  where
    by : (a b : Bool) → is_object t ≡ a → is_object u ≡ b → is_object (over t u) ≡ is_object u
    by true true p q = ap is_object (over_objects t u p q) ∙ sym q
    by true false p q = ap is_object (over_others t u q)
    by false b p q = ap is_object (over_other t u p)

-- TWO OBJECTS t and u, a third tree z, and a law for the values
module _ (t u : Tree) (p : is_object t ≡ true) (q : is_object u ≡ true) where
  -- what the result has for a key, by what the two have
  values : (s : List ℕ) {a b : Value} → value_of s (pairs t) ≡ a → value_of s (pairs u) ≡ b → value_of s (pairs (over t u)) ≡ merged a b
  values s x y = over_value s t u p q ∙ ap₂ merged x y

  root : is_object (over t u) ≡ true
  root = over_root t u ∙ q

  module _ (z : Tree) where
    down_values : (s : List ℕ) {m w : Tree} → is_object z ≡ true → value_of s (pairs (over t u)) ≡ value m → value_of s (pairs z) ≡ value w → Clash m w
        → ((a b : Tree) → value_of s (pairs t) ≡ value a → value_of s (pairs u) ≡ value b → Clash (over a b) w → Clash a w ⊎ Clash b w)
        → Clash t z ⊎ Clash u z
    down_values s {m} {w} o i j c f = by (value_of s (pairs t)) (value_of s (pairs u)) refl refl
      where
        moved : {n : Tree} {x : Value} → value_of s (pairs (over t u)) ≡ x → x ≡ value n → Clash n w
        moved e h = subst (λ (y : Tree). Clash y w) (same_value (sym i ∙ (e ∙ h))) c

        either : {a b : Tree} → value_of s (pairs t) ≡ value a → value_of s (pairs u) ≡ value b → Clash a w ⊎ Clash b w → Clash t z ⊎ Clash u z
        either x y (inl k) = inl (below s p o x j k)
        either x y (inr k) = inr (below s q o y j k)

        by : (a b : Value) → value_of s (pairs t) ≡ a → value_of s (pairs u) ≡ b → Clash t z ⊎ Clash u z
        by (value a) (value b) x y = either x y (f a b x y (moved (values s x y) refl))
        by (value a) absent x y = inl (below s p o x j (moved (values s x y) refl))
        by absent (value b) x y = inr (below s q o y j (moved (values s x y) refl))
        by absent absent x y = absurd (no_value i (values s x y))

    up_lower : (s : List ℕ) {a w : Tree} → is_object z ≡ true → value_of s (pairs t) ≡ value a → value_of s (pairs z) ≡ value w → Clash a w
        → ((b : Tree) → value_of s (pairs u) ≡ value b → Clash (over a b) w) → Clash (over t u) z
    up_lower s {a} {w} o i j c f = by (value_of s (pairs u)) refl
      where
        by : (b : Value) → value_of s (pairs u) ≡ b → Clash (over t u) z
        by (value b) y = below s root o (values s i y) j (f b y)
        by absent y = below s root o (values s i y) j c

    up_upper : (s : List ℕ) {b w : Tree} → is_object z ≡ true → value_of s (pairs u) ≡ value b → value_of s (pairs z) ≡ value w → Clash b w
        → ((a : Tree) → value_of s (pairs t) ≡ value a → Clash (over a b) w) → Clash (over t u) z
    up_upper s {b} {w} o i j c f = by (value_of s (pairs t)) refl
      where
        by : (a : Value) → value_of s (pairs t) ≡ a → Clash (over t u) z
        by (value a) x = below s root o (values s x i) j (f a x)
        by absent x = below s root o (values s x i) j c

-- DOWN
pub clash_down : (k : ℕ) (t u z : Tree) → Sane k t → Sane k u → Sane k z → Clash (over t u) z → Clash t z ⊎ Clash u z
clash_down zero t u z x y i c = inr (subst (λ (r : Tree). Clash r z) (over_other t u (sane_other x)) c)
clash_down (suc k) t u z x y i c = by (is_object t) (is_object u) refl refl c (λ a b w. clash_down k a b w)
  where
    by : (a b : Bool) → is_object t ≡ a → is_object u ≡ b → Clash (over t u) z
        → ((a b w : Tree) → Sane k a → Sane k b → Sane k w → Clash (over a b) w → Clash a w ⊎ Clash b w) → Clash t z ⊎ Clash u z
    by false b p q c f = inr (subst (λ (r : Tree). Clash r z) (over_other t u p) c)
    by true false p q c f = inr (subst (λ (r : Tree). Clash r z) (over_others t u q) c)
    by true true p q (lower_object m n) f = inl (lower_object p n)
    by true true p q (upper_object m n) f = absurd (clash (root t u p q) m)
    by true true p q (below s m n g h c) f =
        down_values t u p q z s n g h c (λ a b e l d. f a b _ (props_value s (sane_props x p) e) (props_value s (sane_props y q) l) (props_value s (sane_props i n) h) d)

-- UP, where the two do not clash with each other
up_other : (t u z : Tree) → is_object t ≡ false → (Clash t u → ⊥) → Clash t z ⊎ Clash u z → Clash (over t u) z
up_other t u z p n c = subst (λ (r : Tree). Clash r z) (sym (over_other t u p)) (by (is_object u) refl c)
  where
    by : (b : Bool) → is_object u ≡ b → Clash t z ⊎ Clash u z → Clash u z
    by b q (inr d) = d
    by b q (inl (lower_object h g)) = absurd (clash h p)
    by b q (inl (below s h g e l d)) = absurd (clash h p)
    by true q (inl (upper_object h g)) = absurd (n (upper_object p q))
    by false q (inl (upper_object h g)) = upper_object q g

pub clash_up : (k : ℕ) (t u z : Tree) → Sane k t → Sane k u → Sane k z → (Clash t u → ⊥) → Clash t z ⊎ Clash u z → Clash (over t u) z
clash_up zero t u z x y i n c = up_other t u z (sane_other x) n c
clash_up (suc k) t u z x y i n c = by (is_object t) (is_object u) refl refl c (λ a b w. clash_up k a b w)
  where
    by : (a b : Bool) → is_object t ≡ a → is_object u ≡ b → Clash t z ⊎ Clash u z
        → ((a b w : Tree) → Sane k a → Sane k b → Sane k w → (Clash a b → ⊥) → Clash a w ⊎ Clash b w → Clash (over a b) w) → Clash (over t u) z
    by false b p q c f = up_other t u z p n c
    by true false p q c f = absurd (n (lower_object p q))
    by true true p q (inl (lower_object h g)) f = lower_object (root t u p q) g
    by true true p q (inl (upper_object h g)) f = absurd (clash p h)
    by true true p q (inl (below s h g e l d)) f =
        up_lower t u p q z s g e l d (λ b m. f _ b _ (props_value s (sane_props x p) e) (props_value s (sane_props y q) m) (props_value s (sane_props i g) l) (λ v. n (below s p q e m v)) (inl d))
    by true true p q (inr (lower_object h g)) f = lower_object (root t u p q) g
    by true true p q (inr (upper_object h g)) f = absurd (clash q h)
    by true true p q (inr (below s h g e l d)) f =
        up_upper t u p q z s g e l d (λ a m. f a _ _ (props_value s (sane_props x p) m) (props_value s (sane_props y q) e) (props_value s (sane_props i g) l) (λ v. n (below s p q m e v)) (inr d))
