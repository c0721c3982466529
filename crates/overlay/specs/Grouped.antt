-- THREE TREES NO TWO OF WHICH CLASH give the same in both groupings (`over_grouped`). Assumes nothing.
use Rattle.std.specs.Prelude.{◌≡◌, refl, List, [], ◌∷◌, ◌++◌, Bool, true, false, ℕ, zero, suc}
use Rattle.std.proofs.Common.{sym, ap, ap₂, ◌∙◌, append_assoc}
use Rattle.language.specs.Kind.{KEY}
use Rattle.language.specs.Tree.{Tree, leaf, Field, field, object_tree, text_of}
use Rattle.sound.specs.Members.{Sane}
use Rattle.overlay.specs.Overlay.{is_object, pairs, Value, value, absent, at, value_of, new_ones}
use Rattle.overlay.specs.Over.{over}
use Rattle.overlay.specs.Lists.{value_here, value_later, new_kept, new_left, new_append, topped, mended, merged, laid_pairs, laid_value, over_others}
use Rattle.overlay.specs.Objects.{Props, props_none, props_more, props_value}
use Rattle.overlay.specs.Clash.{Clash, upper_object, below}

-- PAIRS BEHIND PAIRS
mended_append : (fs gs hs : List Field) → mended (fs ++ gs) hs ≡ mended fs hs ++ mended gs hs
unfolding mended
mended_append [] gs hs = refl
mended_append (field k v ∷ fs) gs hs = ap (λ (l : List Field). field k (topped v (value_of (text_of k) hs)) ∷ l) (mended_append fs gs hs)

-- the new ones, with the uppermost's values over theirs
new_mended : (fs gs hs : List Field) → new_ones fs (mended gs hs) ≡ mended (new_ones fs gs) hs
unfolding new_ones mended
new_mended fs [] hs = refl
new_mended fs (field k w ∷ gs) hs = rw (new_mended fs gs hs) (by (value_of (text_of k) fs))
  where
    by : (x : Value) → at (λ v. mended (new_ones fs gs) hs) (field k (topped w (value_of (text_of k) hs)) ∷ mended (new_ones fs gs) hs) x
        ≡ mended (at (λ v. new_ones fs gs) (field k w ∷ new_ones fs gs) x) hs
    by (value v) = refl
    by absent = refl

-- new to both is new to the two laid over each other
new_new : (fs gs hs : List Field) → new_ones fs (new_ones gs hs) ≡ new_ones (laid_pairs fs gs) hs
unfolding new_ones
new_new fs gs [] = refl
new_new fs gs (field k w ∷ hs) = rw (laid_value (text_of k) fs gs, ← (new_new fs gs hs)) (by (value_of (text_of k) gs) (value_of (text_of k) fs) refl)
  where
    by : (x y : Value) → value_of (text_of k) fs ≡ y → new_ones fs (at (λ v. new_ones gs hs) (field k w ∷ new_ones gs hs) x)
        ≡ at (λ v. new_ones fs (new_ones gs hs)) (field k w ∷ new_ones fs (new_ones gs hs)) (merged y x)
    by (value v) (value u) e = refl
    by (value v) absent e = refl
    by absent (value u) e = new_left fs k w (new_ones gs hs) e
    by absent absent e = new_kept fs k w (new_ones gs hs) e

-- the lowest's pairs, with two values over theirs, where those of each key may be grouped
unfoldable pub Groups : List Field → List Field → List Field → Type 0
Groups fs gs hs = (s : List ℕ) (a b c : Tree) → value_of s fs ≡ value a → value_of s gs ≡ value b → value_of s hs ≡ value c → over (over a b) c ≡ over a (over b c)

topped_topped : (v : Tree) (x y : Value) → ((b c : Tree) → x ≡ value b → y ≡ value c → over (over v b) c ≡ over v (over b c)) → topped (topped v x) y ≡ topped v (merged x y)
topped_topped v (value b) (value c) f = f b c refl refl
topped_topped v (value b) absent f = refl
topped_topped v absent y f = refl

mended_mended : {k : ℕ} {fs : List Field} (gs hs : List Field) → Props k fs → Groups fs gs hs → mended (mended fs gs) hs ≡ mended fs (laid_pairs gs hs)
unfolding mended text_of Groups
mended_mended gs hs props_none f = refl
mended_mended gs hs (props_more {a = a} {e = e} {d = d} {v = v} {fs = fs} x y n ps) f =
    let key = leaf KEY a e d in
    let s = d.bytes in
    let p = topped_topped v (value_of s gs) (value_of s hs) (λ b c i j. f s v b c (value_here s key v fs refl) i j) in
    ap₂
    (λ (w : Tree) (l : List Field). field key w ∷ l)
    (p ∙ ap (topped v) (sym (laid_value s gs hs)))
    (mended_mended gs hs ps (λ r u b c i j l. f r u b c (value_later r key v fs n i) j l))

pub laid_grouped : {k : ℕ} (fs gs hs : List Field) → Props k fs → Groups fs gs hs → laid_pairs (laid_pairs fs gs) hs ≡ laid_pairs fs (laid_pairs gs hs)
unfolding laid_pairs
laid_grouped fs gs hs ps f =
    let a = mended fs (laid_pairs gs hs) in
    let b = new_ones fs (mended gs hs) in
    let c = new_ones fs (new_ones gs hs) in
    let p : mended (laid_pairs fs gs) hs ≡ a ++ b =
    mended_append (mended fs gs) (new_ones fs gs) hs ∙ ap₂ ◌++◌ (mended_mended gs hs ps f) (sym (new_mended fs gs hs)) in
    let q : new_ones (laid_pairs fs gs) hs ≡ c = sym (new_new fs gs hs) in
    ap₂ ◌++◌ p q ∙ (append_assoc a b c ∙ ap (λ (l : List Field). a ++ l) (sym (new_append fs (mended gs hs) (new_ones gs hs))))

-- THREE TREES, no two of which clash
pub record Agree (t u z : Tree) : Type 0 where
  pub lower_upper : Clash t u → ⊥
  pub lower_top : Clash t z → ⊥
  pub upper_top : Clash u z → ⊥

-- the values of a key that is in all three
pub agree_below : (t u z : Tree) → is_object t ≡ true → is_object u ≡ true → is_object z ≡ true → Agree t u z → (s : List ℕ) (a b c : Tree) → value_of s (pairs t) ≡ value a
    → value_of s (pairs u) ≡ value b → value_of s (pairs z) ≡ value c → Agree a b c
agree_below t u z p q r g s a b c x y i =
    record {
      lower_upper = λ d. g.lower_upper (below s p q x y d);
      lower_top = λ d. g.lower_top (below s p r x i d);
      upper_top = λ d. g.upper_top (below s q r y i d);
    }

-- another value on top answers
pub top_other : (t u z : Tree) → is_object z ≡ false → over (over t u) z ≡ over t (over u z)
top_other t u z r = over_others (over t u) z r ∙ (sym (over_others t z r) ∙ ap (over t) (sym (over_others u z r)))
