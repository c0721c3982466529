-- ROWS IN ROWS: the rows of a part of a tree are rows of the tree, and each number of a row is that of one part. Assumes nothing.
use Rattle.std.specs.Prelude.{◌≡◌, refl, List, ◌∷◌, ℕ, suc, ◌+◌, ◌≤◌, ◌<◌}
use Rattle.std.proofs.Common.{sym, ap, subst, arith}
use Rattle.std.proofs.Math.Decide.{dec_le, ℕ_discrete}
use Rattle.language.specs.Tree.{Tree, leaf, node, Forest, none, more, size, sizes}
use Rattle.found.specs.Objects.{RowOf, own, within, RowAmong, in_first, in_further, Pair, pair, Pairs, no_pair, one_pair, ObjectAt, object_at, Holds, held, held_later}
use Rattle.found.specs.Rows.{size_some}

-- a row of a part is a row of the whole
mutual
  pub row_in : {i r b : ℕ} {v u t : Tree} → RowOf i v r u → RowOf r u b t → RowOf i v b t
  row_in x own = x
  row_in x (within y) = within (among_in x y)

  pub among_in : {i r b : ℕ} {v u : Tree} {ts : Forest} → RowOf i v r u → RowAmong r u b ts → RowAmong i v b ts
  among_in x (in_first y) = in_first (row_in x y)
  among_in x (in_further y) = in_further (among_in x y)

-- where the numbers of the rows lie
pub record Below (b n r : ℕ) : Type 0 where
  pub least : b ≤ r
  pub most : r < b + n

-- A PART for each row
pub record Part (r b : ℕ) (t : Tree) : Type 0 where
  pub tree : Tree
  pub row : RowOf r tree b t

pub record PartAmong (r b : ℕ) (ts : Forest) : Type 0 where
  pub tree : Tree
  pub row : RowAmong r tree b ts

pub either : {A C : Type 0} → Dec A → (A → C) → ((A → ⊥) → C) → C
either (yes x) f g = f x
either (no n) f g = g n

pub its_own : (r b : ℕ) (t : Tree) → r ≡ b → Part r b t
its_own r b t e = subst (λ (x : ℕ). Part x b t) (sym e) (record { tree = t; row = own })

-- ---- objects

-- ONE LIST OF PAIRS for an object's row
pub one_pairs : {r : ℕ} {ts : Forest} {fs gs : List Pair} → Pairs r ts fs → Pairs r ts gs → fs ≡ gs
one_pairs no_pair no_pair = refl
one_pairs (one_pair {r = r} {s = s} {v = v} x) (one_pair y) = ap (λ (l : List Pair). pair s.bytes (r + 1) v ∷ l) (one_pairs x y)
