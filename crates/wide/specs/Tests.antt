-- WHAT TESTING A CONTENT TELLS (`Tests`): the members whose fields stand from a place on, with the place behind them and the count of their rows and text bytes, or that none stand there. Assumes nothing.
use Rattle.std.specs.Prelude.{◌≡◌, List, ◌++◌, false, ℕ, ◌+◌, ◌≤◌}
use Rattle.std.proofs.Math.Path.{refl, ap}
use Rattle.std.proofs.Common.{sym, ◌∙◌, append-nil, arith}
use Rattle.std.proofs.Math.Bool.{true}
use Rattle.std.proofs.Math.ListN.{length, length-append}
use Rattle.language.specs.Kind.{KEY}
use Rattle.language.specs.Tree.{Tree, leaf, Forest, none, more, size, sizes, text_of, texts_of}
use Rattle.stored.specs.Form.{PART, cut, content, forms, form}
use Rattle.stored.specs.Parts.{Fields}
use Rattle.stored.proofs.PartsLaws.{cut_apart}
use Rattle.stored.specs.Bytes.{At, at_left, at_right, at_join, at_as, at_place}
use Rattle.sound.specs.Members.{Sane, One, one, IsKey, is_a_key, Member, pair, element}
use Rattle.std.specs.declared.option.Option.{Option}
use Rattle.std.specs.declared.option.Option.TheVariants.{Some, None}
use Rattle.wide.specs.declared.Walked.{Walked}

-- fields up to a place, with so many rows and text bytes
abbrev pub Good : ℕ → ℕ → ℕ → Option Walked
Good e n b = Some (record { to = e; rows = n; bytes = b })

-- the fields of one tree, and of two; their rows and their texts
pub one_form : (t : Tree) → forms (more t none) ≡ form t
unfolding content
one_form t = append-nil (form t)

pub two_forms : (t v : Tree) → forms (more t (more v none)) ≡ form t ++ form v
unfolding content
two_forms t v = ap (λ (l : List ℕ). form t ++ l) (one_form v)

pub one_rows : (t : Tree) → sizes (more t none) ≡ size t
unfolding sizes
one_rows t = omega arith

pub two_rows : (t v : Tree) → sizes (more t (more v none)) ≡ size t + size v
unfolding sizes
two_rows t v = omega arith

pub one_text : (t : Tree) → length (texts_of (more t none)) ≡ length (text_of t)
unfolding texts_of
one_text t = omega (arith, ap length (append-nil (text_of t)))

pub two_text : (t v : Tree) → length (texts_of (more t (more v none))) ≡ length (text_of t) + length (text_of v)
unfolding texts_of
two_text t v = omega (arith, length-append (text_of t) (text_of v ++ texts_of none), one_text v)

module _ (v : List ℕ) where
  -- members stand from a up to e, before `stop`, and have n rows and b text bytes
  pub record Stand (Q : Forest → Type 0) (a stop e n b : ℕ) : Type 0 where
    pub members : Forest
    pub good : Q members
    pub here : At v a (forms members)
    pub end : e ≡ a + length (forms members)
    pub rows : n ≡ sizes members
    pub text : b ≡ length (texts_of members)
    pub below : e ≤ stop

  abbrev pub Tests : (Forest → Type 0) → ℕ → ℕ → Option Walked → Type 0
  Tests Q a stop (Some w) = Stand Q a stop w.to w.rows w.bytes
  Tests Q a stop None = (ts : Forest) → Q ts → At v a (forms ts) → a + length (forms ts) ≤ stop → ⊥

  -- a tree out of its forest
  pub record Lone (P : Tree → Type 0) (a stop e n b : ℕ) : Type 0 where
    pub tree : Tree
    pub good : P tree
    pub here : At v a (form tree)
    pub end : e ≡ a + length (form tree)
    pub rows : n ≡ size tree
    pub text : b ≡ length (text_of tree)
    pub below : e ≤ stop

  -- ONE TREE alone
  module _ {P : Tree → Type 0} {a stop : ℕ} where
    pub alone : (t : Tree) → P t → At v a (form t) → (e n b : ℕ) → e ≡ a + length (form t) → n ≡ size t → b ≡ length (text_of t) → e ≤ stop → Stand (One P) a stop e n b
    alone t q h e n b f g i l =
        record {
          members = more t none;
          good = one q;
          here = at_as (sym (one_form t)) h;
          end = omega (arith, ap length (one_form t));
          rows = omega (arith, one_rows t);
          text = omega (arith, one_text t);
          below = l;
        }

    pub none_alone : ((t : Tree) → P t → At v a (form t) → a + length (form t) ≤ stop → ⊥) → Tests (One P) a stop None
    none_alone f ts (one {t = t} q) h l = f t q (at_as (one_form t) h) (omega (arith, ap length (one_form t)))

    pub lone : {e n b : ℕ} → Stand (One P) a stop e n b → Lone P a stop e n b
    lone {e} {n} {b} s = by s.members s.good s.here s.end s.rows s.text
      where
        by : (ts : Forest) → One P ts → At v a (forms ts) → e ≡ a + length (forms ts) → n ≡ sizes ts → b ≡ length (texts_of ts) → Lone P a stop e n b
        by _ (one {t = t} g) h f r x =
            record {
              tree = t;
              good = g;
              here = at_as (one_form t) h;
              end = omega (arith, ap length (one_form t));
              rows = omega (arith, one_rows t);
              text = omega (arith, one_text t);
              below = s.below;
            }

  -- ---- two keys at one place are one

  key_true : KEY ≡ PART → ⊥
  key_true e = omega arith

  pub key_same : {a : ℕ} {t u : Tree} → IsKey t → IsKey u → At v a (form t) → At v a (form u) → form t ≡ form u
  key_same {a} (is_a_key {a = b} {e = e} {s = s} x) (is_a_key {a = c} {e = f} {s = z} y) h g =
      let q : Fields KEY KEY (content (leaf KEY b e s)) (content (leaf KEY c f z)) h.behind g.behind =
      cut_apart (content (leaf KEY b e s)) (content (leaf KEY c f z)) key_true key_true (sym h.is ∙ g.is) in
      ap (λ (l : List ℕ). cut KEY l) q.content

  -- ---- a key and a value

  record Two (a : ℕ) (t u : Tree) : Type 0 where
    first : At v a (form t)
    second : At v (a + length (form t)) (form u)
    total : length (forms (more t (more u none))) ≡ length (form t) + length (form u)

  two : {a : ℕ} (t u : Tree) → At v a (forms (more t (more u none))) → Two a t u
  two t u h =
      let g = at_as (two_forms t u) h in
      record {
        first = at_left v (form t) (form u) g;
        second = at_right v (form t) (form u) refl g;
        total = omega (arith, ap length (two_forms t u), length-append (form t) (form u));
      }

  module _ (k a stop : ℕ) where
    pub element_tests : (q : Option Walked) → Tests (One (Sane k)) a stop q → Tests (Member false k) a stop q
    element_tests (Some w) z = record { members = z.members; good = go z.good; here = z.here; end = z.end; rows = z.rows; text = z.text; below = z.below }
      where
        go : {ts : Forest} → One (Sane k) ts → Member false k ts
        go (one s) = element s
    element_tests None z = λ ts m h l. z ts (back m) h l
      where
        back : {ts : Forest} → Member false k ts → One (Sane k) ts
        back (element s) = one s

    pub keyless_tests : Tests (One IsKey) a stop None → Tests (Member true k) a stop None
    keyless_tests z ts m h l = by m h l
      where
        by : {ts : Forest} → Member true k ts → At v a (forms ts) → a + length (forms ts) ≤ stop → ⊥
        by (pair {t = t} {v = u} s d) h l =
            let w = two t u h in
            z (more t none) (one s) (at_as (sym (one_form t)) w.first) (omega (arith, w.total, ap length (one_form t)))

    module _ {e n b : ℕ} (s : Stand (One IsKey) a stop e n b) where
      f : Lone IsKey a stop e n b
      f = lone s

      pub pair_good : (i m x : ℕ) → Stand (One (Sane k)) e stop i m x → Stand (Member true k) a stop i (m + 1) (b + x)
      unfolding f size
      pair_good i m x w =
          let g = lone w in
          record {
            members = more f.tree (more g.tree none);
            good = pair f.good g.good;
            here = at_as (sym (two_forms f.tree g.tree)) (at_join (form f.tree) (form g.tree) f.here g.here f.end);
            end = omega (arith, f.end, g.end, ap length (two_forms f.tree g.tree), length-append (form f.tree) (form g.tree));
            rows = omega (arith, g.rows, two_rows f.tree g.tree, key_row f.good);
            text = omega (arith, f.text, g.text, two_text f.tree g.tree);
            below = g.below;
          }
        where
          key_row : {t : Tree} → IsKey t → size t ≡ 1
          key_row (is_a_key x) = refl

      pub pair_bad : Tests (One (Sane k)) e stop None → Tests (Member true k) a stop None
      unfolding f
      pair_bad z ts m h l = by m h l
        where
          by : {ts : Forest} → Member true k ts → At v a (forms ts) → a + length (forms ts) ≤ stop → ⊥
          by (pair {t = t} {v = u} x d) h l =
              let w = two t u h in
              let q = ap length (key_same x f.good w.first f.here) in
              z (more u none) (one d) (at_as (sym (one_form u)) (at_place (let y : a + length (form t) ≡ e = omega (arith, f.end) in y) w.second)) (omega (arith, w.total, f.end, ap length (one_form u)))
