-- WHAT TESTING STORED BYTES TELLS (`Tests`): the members whose fields stand from a place on, with the place behind them and the count of their rows, or that none stand there. Assumes nothing.
use Rattle.std.specs.Prelude.{◌≡◌, List, ◌++◌, true, false, ℕ, ◌+◌, ◌*◌, ◌≤◌, get_or}
use Rattle.std.proofs.Math.Path.{refl, sym, ap}
use Rattle.std.proofs.Common.{subst, ◌∙◌, append-nil, arith}
use Rattle.std.proofs.Math.ListN.{length, length-append}
use Rattle.std.proofs.Math.Seq.{slice}
use Rattle.language.specs.Kind.{KEY}
use Rattle.language.specs.Tree.{unescaped, Tree, leaf, node, Forest, none, more, size, sizes}
use Rattle.shaped.specs.Shaped.{Scripted, Scalar, Shaped, shaped_leaf, shaped_array, shaped_object}
use Rattle.stored.specs.Form.{tagged, head, tag}
use Rattle.stored.specs.Old.{content, forms, form}
use Rattle.stored.specs.OldLengths.{scalar_content}
use Rattle.stored.specs.Bytes.{At, at_left, at_right}
use Rattle.sound.specs.Distinct.{leaf_once}
use Rattle.sound.specs.Members.{Sane, One, one, IsKey, is_a_key, Member, pair, element}
use Rattle.std.specs.declared.option.Option.{Option}
use Rattle.std.specs.declared.option.Option.TheVariants.{Some, None}
use Rattle.uncut.specs.declared.tested.Tested.{Tested}
use Rattle.uncut.specs.Heads.{end_at, Behind, Lies, Whole, Field, end_after, at_join, at_as, at_place, field_tag, field_end, field_slice, field_at}

-- the field at a place is no container's
pub record NoContainer (stored : List ℕ) (a : ℕ) : Type 0 where
  pub no_array : get_or stored a 0 ≡ 8 → ⊥
  pub no_object : get_or stored a 0 ≡ 9 → ⊥

-- the fields of one tree, and of more
pub one_form : (t : Tree) → forms (more t none) ≡ form t
unfolding content
one_form t = append-nil (form t)

pub two_forms : (t v : Tree) → forms (more t (more v none)) ≡ form t ++ form v
unfolding content
two_forms t v = ap (λ (l : List ℕ). form t ++ l) (one_form v)

pub one_rows : (t : Tree) → sizes (more t none) ≡ size t
unfolding sizes
one_rows t = omega arith

pub two_rows : (t v : Tree) → sizes (more t (more v none)) ≡ size t + size v
unfolding sizes
two_rows t v = omega arith

-- a row has a head, so rows are few
mutual
  unfolding content size

  pub few_rows : (t : Tree) → head * size t ≤ length (form t)
  few_rows (leaf k a e s) = omega arith
  few_rows (node k a e c ts) = let h = few_forms ts in omega arith

  pub few_forms : (ts : Forest) → head * sizes ts ≤ length (forms ts)
  few_forms none = omega arith
  few_forms (more t ts) = let h = few_rows t in let i = few_forms ts in omega (arith, length-append (form t) (forms ts))

-- the place behind what was tested, and so many rows
abbrev pub Good : ℕ → ℕ → Option Tested
Good e n = Some (record { to = e; rows = n })

module _ (stored : List ℕ) where
  -- members stand from a up to e, before `stop`, and have n rows
  pub record Stand (Q : Forest → Type 0) (a stop e n : ℕ) : Type 0 where
    pub members : Forest
    pub good : Q members
    pub here : At stored a (forms members)
    pub end : e ≡ a + length (forms members)
    pub rows : n ≡ sizes members
    pub below : e ≤ stop

  abbrev pub Tests : (Forest → Type 0) → ℕ → ℕ → Option Tested → Type 0
  Tests Q a stop (Some t) = Stand Q a stop t.to t.rows
  Tests Q a stop None = (ts : Forest) → Q ts → At stored a (forms ts) → a + length (forms ts) ≤ stop → ⊥

  -- a tree out of its forest
  pub record Lone (P : Tree → Type 0) (a stop e n : ℕ) : Type 0 where
    pub tree : Tree
    pub good : P tree
    pub here : At stored a (form tree)
    pub end : e ≡ a + length (form tree)
    pub rows : n ≡ size tree
    pub below : e ≤ stop

  -- ONE TREE alone
  module _ {P : Tree → Type 0} {a stop : ℕ} where
    pub alone : (t : Tree) → P t → At stored a (form t) → (e n : ℕ) → e ≡ a + length (form t) → n ≡ size t → e ≤ stop → Stand (One P) a stop e n
    alone t q h e n f g l =
        record {
          members = more t none;
          good = one q;
          here = at_as (sym (one_form t)) h;
          end = omega (arith, ap length (one_form t));
          rows = omega (arith, one_rows t);
          below = l;
        }

    pub none_alone : ((t : Tree) → P t → At stored a (form t) → a + length (form t) ≤ stop → ⊥) → Tests (One P) a stop None
    none_alone f ts (one {t = t} q) h l = f t q (at_as (one_form t) h) (omega (arith, ap length (one_form t)))

    pub lone : {e n : ℕ} → Stand (One P) a stop e n → Lone P a stop e n
    lone {e} {n} s = by s.members s.good s.here s.end s.rows
      where
        by : (ts : Forest) → One P ts → At stored a (forms ts) → e ≡ a + length (forms ts) → n ≡ sizes ts → Lone P a stop e n
        by _ (one {t = t} g) h f r =
            record { tree = t; good = g; here = at_as (one_form t) h; end = omega (arith, ap length (one_form t)); rows = omega (arith, one_rows t); below = s.below }

  -- ---- a whole field before `stop`

  -- what a whole field leads to; where there is none, no tree stands
  module _ {a stop : ℕ} (w : Lies stored a stop) where
    pub whole_field : {e : ℕ} → Whole stored a stop → Behind stored a e → Field stored a e
    whole_field h f =
        record { is = f.is; low = f.low; begins = omega (arith, f.is, end_after stored a); inside = omega (arith, h.ends, f.is, w.inside); few = omega (arith, h.ends, f.is, w.few) }

    pub no_field : {P : Tree → Type 0} → (Whole stored a stop → ⊥) → Tests (One P) a stop None
    no_field f = none_alone (λ t q h l. f (record { begins = omega (arith, end_after stored a, field_end t h); ends = omega (arith, field_end t h) }))

  -- it is the same to ask up to where the field ends
  pub field_tests : (P : Tree → Type 0) (a e stop : ℕ) → e ≡ end_at stored a → e ≤ stop → (q : Option Tested) → Tests (One P) a e q → Tests (One P) a stop q
  field_tests P a e stop f l (Some t) s = record { members = s.members; good = s.good; here = s.here; end = s.end; rows = s.rows; below = omega (arith, s.below) }
  field_tests P a e stop f l None z = none_alone (λ t q h m. z (more t none) (one q) (at_as (sym (one_form t)) h) (omega (arith, field_end t h, ap length (one_form t))))

  -- ---- a key, and a scalar

  module _ {a e : ℕ} (f : Field stored a e) where
    abbrev text : List ℕ
    text = slice (a + head) e stored

    text_is : text ≡ slice (a + head) (end_at stored a) stored
    text_is = ap (λ (i : ℕ). slice (a + head) i stored) f.is

    leaf_here : (k : ℕ) → get_or stored a 0 ≡ k → content (leaf k 0 0 (unescaped text)) ≡ text → At stored a (form (leaf k 0 0 (unescaped text)))
    leaf_here k g c = at_as (ap (λ (i : ℕ). tagged i text) g ∙ ap (tagged k) (sym c)) (field_at f)

    leaf_stands : {P : Tree → Type 0} (k : ℕ) → P (leaf k 0 0 (unescaped text)) → get_or stored a 0 ≡ k → content (leaf k 0 0 (unescaped text)) ≡ text → Tests (One P) a e (Good e 1)
    unfolding size
    leaf_stands k p g c =
        let h = leaf_here k g c in
        alone (leaf k 0 0 (unescaped text)) p h e 1 (f.is ∙ field_end (leaf k 0 0 (unescaped text)) h) refl (omega arith)

    pub key_stands : get_or stored a 0 ≡ 10 → Scripted text → Tests (One IsKey) a e (Good e 1)
    unfolding content
    key_stands g s = leaf_stands KEY (is_a_key s) g refl

    pub key_other : (get_or stored a 0 ≡ 10 → ⊥) → Tests (One IsKey) a e None
    key_other n = none_alone (λ t q h l. n (field_tag t h ∙ by q))
      where
        by : {t : Tree} → IsKey t → tag t ≡ 10
        by (is_a_key s) = refl

    pub key_none : (Scripted text → ⊥) → Tests (One IsKey) a e None
    unfolding content
    key_none n = none_alone (λ t q h l. by t q h)
      where
        by : (t : Tree) → IsKey t → At stored a (form t) → ⊥
        by (node _ _ _ _ _) x7 h = elim x7 [ ]
        by (leaf k i j s) (is_a_key x) h = n (subst Scripted (sym (text_is ∙ field_slice (leaf k i j s) h (omega (arith, f.is, f.inside)))) x)

    pub scalar_stands : {k : ℕ} → Scalar (get_or stored a 0) text → Tests (One (Sane k)) a e (Good e 1)
    scalar_stands s = leaf_stands (get_or stored a 0) (record { shaped = shaped_leaf s; once = leaf_once }) refl (scalar_content (get_or stored a 0) 0 0 (unescaped text) s)

    pub scalar_none : {k : ℕ} → NoContainer stored a → (Scalar (get_or stored a 0) text → ⊥) → Tests (One (Sane k)) a e None
    scalar_none {k} c n = none_alone (λ t q h l. by t q.shaped h)
      where
        by : {l : ℕ} (t : Tree) → Shaped l t → At stored a (form t) → ⊥
        by (leaf i j m s) (shaped_leaf x) h =
            let z : text ≡ s.bytes = text_is ∙ (field_slice (leaf i j m s) h (omega (arith, f.is, f.inside)) ∙ scalar_content i j m s x) in
            n (subst (λ (u : List ℕ). Scalar (get_or stored a 0) u) (sym z) (subst (λ (d : ℕ). Scalar d s.bytes) (sym (field_tag (leaf i j m s) h)) x))
        by (node i j m d ts) (shaped_array x) h = c.no_array (field_tag (node i j m d ts) h)
        by (node i j m d ts) (shaped_object x) h = c.no_object (field_tag (node i j m d ts) h)

  -- ---- a member of a container: a value alone, or a key and a value behind it

  -- of a pair: what stands first, and what behind it
  record Two (a : ℕ) (t v : Tree) : Type 0 where
    first : At stored a (form t)
    second : At stored (end_at stored a) (form v)
    total : end_at stored a + length (form v) ≡ a + length (forms (more t (more v none)))

  two : {a : ℕ} (t v : Tree) → At stored a (forms (more t (more v none))) → Two a t v
  two t v h =
      let g = at_as (two_forms t v) h in
      let f = at_left stored (form t) (form v) g in
      let e = field_end t f in
      record {
        first = f;
        second = at_place (sym e) (at_right stored (form t) (form v) refl g);
        total = omega (arith, ap length (two_forms t v), length-append (form t) (form v));
      }

  module _ (k a stop : ℕ) where
    pub element_tests : (q : Option Tested) → Tests (One (Sane k)) a stop q → Tests (Member false k) a stop q
    element_tests (Some t) z = record { members = z.members; good = go z.good; here = z.here; end = z.end; rows = z.rows; below = z.below }
      where
        go : {ts : Forest} → One (Sane k) ts → Member false k ts
        go (one s) = element s
    element_tests None z = λ ts m h l. z ts (back m) h l
      where
        back : {ts : Forest} → Member false k ts → One (Sane k) ts
        back (element s) = one s

    pub keyless_tests : Tests (One IsKey) a stop None → Tests (Member true k) a stop None
    keyless_tests z ts m h l = by m h l
      where
        by : {ts : Forest} → Member true k ts → At stored a (forms ts) → a + length (forms ts) ≤ stop → ⊥
        by (pair {t = t} {v = v} s d) h l =
            let w = two t v h in
            z (more t none) (one s) (at_as (sym (one_form t)) w.first) (omega (arith, w.total, field_end t w.first, ap length (one_form t)))

    module _ {e n : ℕ} (s : Stand (One IsKey) a stop e n) where
      f : Lone IsKey a stop e n
      f = lone s

      key_ends : end_at stored a ≡ e
      unfolding f
      key_ends = field_end f.tree f.here ∙ sym f.end

      pub pair_good : (i m : ℕ) → Stand (One (Sane k)) e stop i m → Stand (Member true k) a stop i (m + 1)
      unfolding f size
      pair_good i m w =
          let g = lone w in
          record {
            members = more f.tree (more g.tree none);
            good = pair f.good g.good;
            here = at_as (sym (two_forms f.tree g.tree)) (at_join (form f.tree) (form g.tree) f.here g.here f.end);
            end = omega (arith, f.end, g.end, ap length (two_forms f.tree g.tree), length-append (form f.tree) (form g.tree));
            rows = omega (arith, g.rows, two_rows f.tree g.tree, key_row f.good);
            below = g.below;
          }
        where
          key_row : {t : Tree} → IsKey t → size t ≡ 1
          key_row (is_a_key x) = refl

      pub pair_bad : Tests (One (Sane k)) e stop None → Tests (Member true k) a stop None
      pair_bad z ts m h l = by m h l
        where
          by : {ts : Forest} → Member true k ts → At stored a (forms ts) → a + length (forms ts) ≤ stop → ⊥
          by (pair {t = t} {v = v} x d) h l =
              let w = two t v h in
              z (more v none) (one d) (at_as (sym (one_form v)) (at_place key_ends w.second)) (omega (arith, w.total, key_ends, ap length (one_form v)))
