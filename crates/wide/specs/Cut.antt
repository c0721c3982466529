-- A FIELD IN PARTS, OR CUT: what `extent` tells of it, and of the content in the view inside, makes a key, a scalar or a container of it, or shows that no tree stands there. Assumes nothing.
use Rattle.std.specs.Prelude.{◌≡◌, Bool, true, false, ℕ, suc, ◌+◌, ◌≤◌, take}
use Rattle.std.proofs.Math.Path.{refl, sym, ap, ap₂}
use Rattle.std.proofs.Common.{subst, ◌∙◌, arith, take_at}
use mathlib.Core.List.{List}
use Rattle.std.proofs.Math.ListN.{length}
use Rattle.language.specs.Tree.{unescaped, Tree, leaf, node, Forest, size, text_of, Once}
use Rattle.shaped.specs.Shaped.{Scripted, Scalar, Shaped, shaped_leaf, shaped_array, shaped_object}
use Rattle.shaped.specs.Once.{alike_once}
use Rattle.stored.specs.Form.{PART, tag, cut, content, forms, form}
use Rattle.stored.specs.Parts.{Fields}
use Rattle.stored.proofs.PartsLaws.{cut_apart}
use Rattle.stored.specs.Lengths.{scalar_content}
use Rattle.stored.proofs.ApartLaws.{form_apart}
use Rattle.stored.specs.Bytes.{At, at_as}
use Rattle.sound.specs.Distinct.{Distinct, once_distinct, leaf_once}
use Rattle.sound.specs.Members.{Sane, One, IsKey, is_a_key, Member, container_kind, Many, many_pairs, contained, array_many, object_many, array_distinct}
use Rattle.fields.specs.Rows.{scalar_low}
use Rattle.views.specs.Joined.{within, within_content}
use Rattle.views.specs.Extents.{Whole, Told}
use Rattle.std.specs.declared.option.Option.TheVariants.{None}
use Rattle.wide.specs.Tests.{Good, Tests, alone, none_alone}
use Rattle.wide.specs.Walk.{Passed, Went}

-- a tree's tag is no part's
scalar_true : {k : ℕ} {s : List ℕ} → Scalar k s → k ≡ PART → ⊥
scalar_true x e = let l = scalar_low x in omega arith

pub sane_true : {k : ℕ} {t : Tree} → Shaped k t → tag t ≡ PART → ⊥
sane_true (shaped_leaf x) e = scalar_true x e
sane_true (shaped_array x) e = omega arith
sane_true (shaped_object x) e = omega arith

pub key_true : {t : Tree} → IsKey t → tag t ≡ PART → ⊥
key_true (is_a_key x) e = omega arith

module _ (v : List ℕ) where
  -- no field stands there
  module _ {a stop : ℕ} (f : Told v a stop None) where
    pub nothing_key : Tests v (One IsKey) a stop None
    nothing_key = none_alone v (λ t q h l. f (tag t) (content t) (key_true q) h l)

    pub nothing_value : {k : ℕ} → Tests v (One (Sane k)) a stop None
    nothing_value = none_alone v (λ t q h l. f (tag t) (content t) (sane_true q.shaped) h l)

  module _ {a stop kind n end : ℕ} (w : Whole v a stop kind n end) where
    abbrev inner : List ℕ
    inner = within v a

    -- the content stands at the beginning of the view inside
    pub content_at : At inner 0 w.content
    content_at = within_content kind w.content w.here

    pub content_is : take n inner ≡ w.content
    content_is = let x = content_at in ap (take n) x.is ∙ take_at w.content x.behind n w.count

    -- bytes that stand there and are as many are the content
    same_content : (s : List ℕ) → At inner 0 s → length s ≡ n → s ≡ w.content
    same_content s x e = sym (ap (take n) x.is ∙ take_at s x.behind n e) ∙ content_is

    -- whatever tree stands there has this tag and this content
    one_tree : (t : Tree) → (tag t ≡ PART → ⊥) → At v a (form t) → (tag t ≡ kind) × (content t ≡ w.content)
    one_tree t f h =
        let q : Fields (tag t) kind (content t) w.content h.behind w.here.behind = cut_apart (content t) w.content f w.true_tag (sym h.is ∙ w.here.is) in
        (q.kind, q.content)

    -- ---- a key, and a scalar

    leaf_stands : {P : Tree → Type 0} → P (leaf kind 0 0 (unescaped w.content)) → content (leaf kind 0 0 (unescaped w.content)) ≡ w.content → Tests v (One P) a stop (Good end 1 n)
    unfolding size text_of
    leaf_stands p c =
        let t = leaf kind 0 0 (unescaped w.content) in
        let h : At v a (form t) = at_as (ap (cut kind) (sym c)) w.here in
        alone v t p h end 1 n (w.ends ∙ ap (λ (s : List ℕ). a + length (cut kind s)) (sym c)) refl (sym w.count) w.below

    pub key_stands : kind ≡ 10 → Scripted (take n inner) → Tests v (One IsKey) a stop (Good end 1 n)
    unfolding content
    key_stands e s = leaf_stands (subst (λ (k : ℕ). IsKey (leaf k 0 0 (unescaped w.content))) (sym e) (is_a_key (subst Scripted content_is s))) (subst (λ (k : ℕ). content (leaf k 0 0 (unescaped w.content)) ≡ w.content) (sym e) refl)

    pub key_other : (kind ≡ 10 → ⊥) → Tests v (One IsKey) a stop None
    key_other f = none_alone v (λ t q h l. f (sym (one_tree t (key_true q) h).0 ∙ by q))
      where
        by : {t : Tree} → IsKey t → tag t ≡ 10
        by (is_a_key s) = refl

    pub key_none : (Scripted (take n inner) → ⊥) → Tests v (One IsKey) a stop None
    unfolding content
    key_none f = none_alone v (λ t q h l. by t q h)
      where
        by : (t : Tree) → IsKey t → At v a (form t) → ⊥
        by (node _ _ _ _ _) x7 h = elim x7 [ ]
        by (leaf k i j s) (is_a_key x) h = f (subst Scripted ((one_tree (leaf k i j s) (λ e. omega arith) h).1 ∙ sym content_is) x)

    pub scalar_stands : {k : ℕ} → Scalar kind (take n inner) → Tests v (One (Sane k)) a stop (Good end 1 n)
    scalar_stands s =
        let x = subst (Scalar kind) content_is s in
        leaf_stands (record { shaped = shaped_leaf x; once = leaf_once }) (scalar_content kind 0 0 (unescaped w.content) x)

    pub scalar_none : {k : ℕ} → (kind ≡ 8 → ⊥) → (kind ≡ 9 → ⊥) → (Scalar kind (take n inner) → ⊥) → Tests v (One (Sane k)) a stop None
    scalar_none {k} f g x = none_alone v (λ t q h l. by t q.shaped h)
      where
        by : {l : ℕ} (t : Tree) → Shaped l t → At v a (form t) → ⊥
        by (leaf i j m s) (shaped_leaf y) h =
            let o = one_tree (leaf i j m s) (scalar_true y) h in
            x (subst (λ (b : List ℕ). Scalar kind b) (sym (scalar_content i j m s y) ∙ (o.1 ∙ sym content_is)) (subst (λ (b : ℕ). Scalar b s.bytes) o.0 y))
        by (node i j m d ts) (shaped_array y) h = f (sym (one_tree (node i j m d ts) (λ e. omega arith) h).0)
        by (node i j m d ts) (shaped_object y) h = g (sym (one_tree (node i j m d ts) (λ e. omega arith) h).0)

    -- ---- a container

    kind_low : (o : Bool) → 8 ≤ container_kind o
    kind_low true = omega arith
    kind_low false = omega arith

    -- what a tree has whose field has a container's tag
    record Container (o : Bool) (k : ℕ) : Type 0 where
      allow : ℕ
      one_less : k ≡ suc allow
      count : ℕ
      children : Forest
      many : Many (Member o allow) count children
      here : At inner 0 (forms children)
      total : length (forms children) ≡ n

    container_has : {k : ℕ} (o : Bool) (t : Tree) → kind ≡ container_kind o → Sane k t → At v a (form t) → Container o k
    unfolding content
    container_has {k} o t g s h = by o t s.shaped s.once ((one_tree t (sane_true s.shaped) h).0 ∙ g) (one_tree t (sane_true s.shaped) h).1
      where
        here_is : (u : List ℕ) → u ≡ w.content → At inner 0 u
        here_is u e = at_as (sym e) content_at

        total_is : (u : List ℕ) → u ≡ w.content → length u ≡ n
        total_is u e = ap length e ∙ w.count

        by : (o : Bool) {k : ℕ} (t : Tree) → Shaped k t → Once t → tag t ≡ container_kind o → content t ≡ w.content → Container o k
        by o (leaf i j m s) (shaped_leaf x) u c d = absurd (let l = scalar_low x in let q = kind_low o in omega arith)
        by false (node i j m b ts) (shaped_array {k = l} x) u c d = record { allow = l; one_less = refl; count = b; children = ts; many = array_many x u; here = here_is (forms ts) d; total = total_is (forms ts) d }
        by true (node i j m b ts) (shaped_array x) u c d = absurd (omega arith)
        by true (node i j m b ts) (shaped_object {k = l} x) u c d = record { allow = l; one_less = refl; count = b; children = ts; many = object_many x u; here = here_is (forms ts) d; total = total_is (forms ts) d }
        by false (node i j m b ts) (shaped_object x) u c d = absurd (omega arith)

    -- none is allowed; no members stand there
    pub container_deep : (o : Bool) → kind ≡ container_kind o → Tests v (One (Sane 0)) a stop None
    container_deep o g = none_alone v (λ t q h l. let c = container_has o t g q h in omega (arith, c.one_less))

    pub container_bad : {k : ℕ} (o : Bool) → kind ≡ container_kind o → Went inner o k 0 n None → Tests v (One (Sane (suc k))) a stop None
    container_bad {k} o g f =
        none_alone v
        (λ t q h l.
        let c = container_has o t g q h in
        let e : c.allow ≡ k = omega (arith, c.one_less) in
        f c.count c.children (subst (λ (i : ℕ). Many (Member o i) c.count c.children) e c.many) c.here (omega (arith, c.total)))

    module _ {k : ℕ} {o : Bool} {m rows bytes : ℕ} (g : kind ≡ container_kind o) (p : Passed inner o k 0 n n m rows bytes) where
      abbrev made : Tree
      made = node (container_kind o) 0 0 m p.front

      front_is : forms p.front ≡ w.content
      front_is = same_content (forms p.front) p.here (omega (arith, p.place))

      made_here : At v a (form made)
      unfolding content
      made_here = at_as (ap₂ (λ (i : ℕ) (s : List ℕ). cut i s) g (sym front_is)) w.here

      made_ends : end ≡ a + length (form made)
      unfolding content
      made_ends = w.ends ∙ ap₂ (λ (i : ℕ) (s : List ℕ). a + length (cut i s)) g (sym front_is)

      pub closed_good : Distinct p.front → Tests v (One (Sane (suc k))) a stop (Good end (rows + 1) bytes)
      unfolding size text_of
      closed_good d = alone v made (contained o p.many d) made_here end (rows + 1) bytes made_ends (omega (arith, p.count)) p.text w.below

      -- an object's keys are not distinct, so no tree without repeated keys stands here
      pub closed_bad : o ≡ true → (Distinct p.front → ⊥) → Tests v (One (Sane (suc k))) a stop None
      closed_bad e d =
          none_alone v
          (λ u s h l.
          let q = form_apart {r = h.behind} {w = made_here.behind} s.shaped (made_shaped e) (sym h.is ∙ made_here.is) in
          d (once_distinct (alike_once u made q.alike s.once)))
        where
          made_shaped : o ≡ true → Shaped (suc k) made
          made_shaped e =
              subst (λ (b : Bool). Shaped (suc k) (node (container_kind b) 0 0 m p.front)) (sym e)
              (shaped_object (many_pairs (subst (λ (b : Bool). Many (Member b k) m p.front) e p.many)))

      pub closed_array : o ≡ false → Tests v (One (Sane (suc k))) a stop (Good end (rows + 1) bytes)
      closed_array e = closed_good (array_distinct (subst (λ (b : Bool). Many (Member b k) m p.front) e p.many))
