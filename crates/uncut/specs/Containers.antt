-- A CONTAINER IN STORED BYTES: the members between its head and its end, and what they make of it. Assumes nothing.
use Rattle.std.specs.Prelude.{◌≡◌, refl, List, Bool, ℕ, suc, ◌+◌, ◌≤◌, get_or}
use Rattle.std.proofs.Common.{sym, subst, ◌∙◌, arith}
use Rattle.std.proofs.Math.Path.{ap}
use Rattle.std.proofs.Math.Bool.{true, false}
use Rattle.std.proofs.Math.ListN.{length}
use Rattle.std.proofs.Math.Seq.{slice}
use Rattle.language.specs.Tree.{Tree, leaf, node, Forest, size, Once}
use Rattle.shaped.specs.Shaped.{Shaped, shaped_leaf, shaped_array, shaped_object}
use Rattle.shaped.specs.Once.{alike_once}
use Rattle.stored.specs.Form.{tagged, head, tag}
use Rattle.stored.specs.Old.{content, forms, form}
use Rattle.stored.specs.Bytes.{At}
use Rattle.stored.proofs.OldApartLaws.{form_apart}
use Rattle.sound.specs.Distinct.{Distinct, once_distinct}
use Rattle.sound.specs.Members.{Sane, One, Member, container_kind, Many, many_pairs, contained, array_many, object_many, array_distinct}
use Rattle.fields.specs.Rows.{scalar_low}
use Rattle.std.specs.declared.option.Option.TheVariants.{None}
use Rattle.uncut.specs.Heads.{end_at, Field, at_as, at_slice, field_tag, field_end, field_content, field_at}
use Rattle.uncut.specs.Tested.{Good, Tests, alone, none_alone}
use Rattle.uncut.specs.Walk.{Passed}

kind_low : (o : Bool) → 8 ≤ container_kind o
kind_low true = omega arith
kind_low false = omega arith

module _ (stored : List ℕ) where
  -- the field at a is a container's, whose n members are passed, with so many rows
  pub record Closing (a e k : ℕ) (o : Bool) (n rows : ℕ) : Type 0 where
    pub field : Field stored a e
    pub kind : get_or stored a 0 ≡ container_kind o
    pub passed : Passed stored o k (a + head) e e n rows

  -- what a tree has whose field has a container's tag
  pub record Container (a e : ℕ) (o : Bool) (k : ℕ) : Type 0 where
    pub allow : ℕ
    pub one_less : k ≡ suc allow
    pub count : ℕ
    pub children : Forest
    pub many : Many (Member o allow) count children
    pub here : At stored (a + head) (forms children)
    pub total : a + head + length (forms children) ≡ e

  pub container_has : {a e k : ℕ} (o : Bool) (t : Tree) → Field stored a e → get_or stored a 0 ≡ container_kind o → Sane k t → At stored a (form t) → Container a e o k
  unfolding content
  container_has {a} {e} {k} o t f g s h = by o t s.shaped s.once (sym (field_tag t h) ∙ g) (field_content t h) (field_end t h)
    where
      by : (o : Bool) {k : ℕ} (t : Tree) → Shaped k t → Once t → tag t ≡ container_kind o → At stored (a + head) (content t) → end_at stored a ≡ a + length (form t) → Container a e o k
      by o (leaf i j m s) (shaped_leaf x) u c d z = absurd (let l = scalar_low x in let q = kind_low o in omega arith)
      by false (node i j m n ts) (shaped_array {k = l} x) u c d z = record { allow = l; one_less = refl; count = n; children = ts; many = array_many x u; here = d; total = omega (arith, f.is) }
      by true (node i j m n ts) (shaped_array x) u c d z = absurd (omega arith)
      by true (node i j m n ts) (shaped_object {k = l} x) u c d z = record { allow = l; one_less = refl; count = n; children = ts; many = object_many x u; here = d; total = omega (arith, f.is) }
      by false (node i j m n ts) (shaped_object x) u c d z = absurd (omega arith)

  module _ {a e k : ℕ} {o : Bool} {n rows : ℕ} (w : Closing a e k o n rows) where
    abbrev made : Tree
    made = node (container_kind o) 0 0 n w.passed.front

    made_here : At stored a (form made)
    unfolding content
    made_here =
        let f = w.field in
        let c : slice (a + head) e stored ≡ forms w.passed.front = at_slice (forms w.passed.front) w.passed.here w.passed.place f.inside in
        at_as (ap (λ (i : ℕ). tagged i (slice (a + head) e stored)) w.kind ∙ ap (tagged (container_kind o)) c) (field_at f)

    pub closed_good : Distinct w.passed.front → Tests stored (One (Sane (suc k))) a e (Good e (rows + 1))
    unfolding size
    closed_good d =
        alone stored made (contained o w.passed.many d) made_here e (rows + 1) (w.field.is ∙ field_end made made_here) (omega (arith, w.passed.count)) (omega arith)

    -- an object's keys are not distinct, so no tree without repeated keys stands here
    pub closed_bad : o ≡ true → (Distinct w.passed.front → ⊥) → Tests stored (One (Sane (suc k))) a e None
    closed_bad g d =
        none_alone stored
        (λ u s h l.
        let q = form_apart {r = h.behind} {w = made_here.behind} s.shaped (made_shaped g) (sym h.is ∙ made_here.is) in
        d (once_distinct (alike_once u made q.alike s.once)))
      where
        made_shaped : o ≡ true → Shaped (suc k) made
        made_shaped g =
            subst (λ (b : Bool). Shaped (suc k) (node (container_kind b) 0 0 n w.passed.front)) (sym g)
            (shaped_object (many_pairs (subst (λ (b : Bool). Many (Member b k) n w.passed.front) g w.passed.many)))

    pub closed_array : o ≡ false → Tests stored (One (Sane (suc k))) a e (Good e (rows + 1))
    closed_array g = closed_good (array_distinct (subst (λ (b : Bool). Many (Member b k) n w.passed.front) g w.passed.many))
