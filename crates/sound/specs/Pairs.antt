-- A KEY AND A VALUE BEHIND IT are a member of an object; without the one or the other there is none. A value alone is a member of an array. Assumes nothing.
use mathlib.Core.Path.{◌≡◌, refl, sym, subst}
use Rattle.std.specs.Prelude.{List, true, false, ℕ, ◌+◌, ◌≤◌, length}
use Rattle.std.proofs.Common.{arith, length-append}
use Rattle.language.specs.Tree.{Tree, Forest, none, more, size, sizes, text_of, texts_of}
use Rattle.shaped.specs.RowsAt.{RowsAt, ForestAt, none_at, more_at, first_at, rest_at}
use Rattle.std.specs.declared.option.Option.{Option}
use Rattle.std.specs.declared.option.Option.TheVariants.{Some, None}
use Rattle.sound.specs.declared.Tested.{Tested}
use Rattle.sound.specs.Members.{Sane, One, one, IsKey, Member, pair, element}
use Rattle.sound.specs.Tested.{Stand, Tests}
use Rattle.sound.specs.Walk.{key_level, moved}

-- one tree, and two
pub one_rows : (t : Tree) → sizes (more t none) ≡ size t
unfolding sizes
one_rows t = omega arith

one_bytes : (t : Tree) → length (texts_of (more t none)) ≡ length (text_of t)
unfolding texts_of
one_bytes t = simp length-append (omega arith)

two_rows : (t v : Tree) → sizes (more t (more v none)) ≡ size t + size v
unfolding sizes
two_rows t v = omega arith

two_bytes : (t v : Tree) → length (texts_of (more t (more v none))) ≡ length (text_of t) + length (text_of v)
unfolding texts_of
two_bytes t v = simp length-append (omega arith)

module _ (table text : List ℕ) where
  -- a tree that stands alone, out of its forest
  pub record Lone (P : Tree → Type 0) (stop r p x n y : ℕ) : Type 0 where
    pub tree : Tree
    pub good : P tree
    pub at : RowsAt table text r p x tree
    pub next : n ≡ r + size tree
    pub end : y ≡ x + length (text_of tree)
    pub below : n ≤ stop

  pub lone : {P : Tree → Type 0} {stop r p x n y : ℕ} → Stand table text (One P) stop r p x n y → Lone P stop r p x n y
  lone {P} {stop} {r} {p} {x} {n} {y} s = by s.members s.good s.at s.next s.end
    where
      by : (ts : Forest) → One P ts → ForestAt table text r p x ts → n ≡ r + sizes ts → y ≡ x + length (texts_of ts) → Lone P stop r p x n y
      by _ (one {t = t} g) h e f =
          record { tree = t; good = g; at = first_at table text h; next = omega (arith, one_rows t); end = omega (arith, one_bytes t); below = s.below }

  pub alone_at : {r p x : ℕ} (t : Tree) → RowsAt table text r p x t → ForestAt table text r p x (more t none)
  alone_at t h = more_at table text h (none_at table text h.text_is.fits)

  module _ (k stop r p x : ℕ) where
    pub element_tests : (q : Option Tested) → Tests table text (One (Sane k)) stop r p x q → Tests table text (Member false k) stop r p x q
    element_tests (Some t) z = record { members = z.members; good = go z.good; at = z.at; next = z.next; end = z.end; below = z.below }
      where
        go : {ts : Forest} → One (Sane k) ts → Member false k ts
        go (one s) = element s
    element_tests None z = λ ts m h l. z ts (back m) h l
      where
        back : {ts : Forest} → Member false k ts → One (Sane k) ts
        back (element s) = one s

    pub keyless_tests : Tests table text (One IsKey) stop r p x None → Tests table text (Member true k) stop r p x None
    keyless_tests z ts m h l = by m h l
      where
        by : {ts : Forest} → Member true k ts → ForestAt table text r p x ts → r + sizes ts ≤ stop → ⊥
        by (pair {t = t} {v = v} s d) h l = z (more t none) (one s) (alone_at t (first_at table text h)) (omega (arith, one_rows t, two_rows t v))

    pub pair_tests : (n y : ℕ) → Stand table text (One IsKey) stop r p x n y → (q : Option Tested) → Tests table text (One (Sane k)) stop n p y q → Tests table text (Member true k) stop r p x q
    pair_tests n y s q w = by q w
      where
        f : Lone IsKey stop r p x n y
        f = lone s

        good : (m i : ℕ) → Lone (Sane k) stop n p y m i → Stand table text (Member true k) stop r p x m i
        good m i g =
            record {
              members = more f.tree (more g.tree none);
              good = pair f.good g.good;
              at = more_at table text f.at (alone_at g.tree (mathlib.Core.Path.subst₂ (λ (a b : ℕ). RowsAt table text a p b g.tree) f.next f.end g.at));
              next = omega (arith, two_rows f.tree g.tree, f.next, g.next);
              end = omega (arith, two_bytes f.tree g.tree, f.end, g.end);
              below = g.below;
            }

        bad : Tests table text (One (Sane k)) stop n p y None → {ts : Forest} → Member true k ts → ForestAt table text r p x ts → r + sizes ts ≤ stop → ⊥
        bad w (pair {t = t} {v = v} a d) h l =
            let e = key_level table text a f.good (first_at table text h) f.at in
            w (more v none) (one d) (moved table text (omega (arith, e.rows, f.next)) (omega (arith, e.bytes, f.end)) (rest_at table text h)) (omega (arith, one_rows v, two_rows t v, e.rows, f.next))

        by : (q : Option Tested) → Tests table text (One (Sane k)) stop n p y q → Tests table text (Member true k) stop r p x q
        by (Some t) z = good t.row t.text (lone z)
        by None z = λ ts m h l. bad z m h l
