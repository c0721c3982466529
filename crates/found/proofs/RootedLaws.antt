-- ROWS IN ROWS: the rows of a part of a tree are rows of the tree, and each number of a row is that of one part. Assumes nothing.
use Rattle.std.specs.Prelude.{◌≡◌, refl, List, ◌∷◌, ℕ, suc, ◌+◌, ◌≤◌, ◌<◌}
use Rattle.std.proofs.Common.{sym, ap, subst, arith}
use Rattle.std.proofs.Math.Decide.{dec_le, ℕ_discrete}
use Rattle.language.specs.Tree.{Tree, leaf, node, Forest, none, more, size, sizes}
use Rattle.found.specs.Objects.{RowOf, own, within, RowAmong, in_first, in_further, Pair, pair, Pairs, no_pair, one_pair, ObjectAt, object_at, Holds, held, held_later}
use Rattle.found.specs.Rows.{size_some}
use Rattle.found.specs.Rooted.{Below, Part, PartAmong, either, its_own, one_pairs, row_in}

mutual
  unfolding size

  pub row_below : {r b : ℕ} {u t : Tree} → RowOf r u b t → Below b (size t) r
  row_below {u = u} own = let h = size_some u in record { least = omega arith; most = omega arith }
  row_below (within {ts = ts} x) = let h = among_below x in record { least = omega arith; most = omega arith }

  pub among_below : {r b : ℕ} {u : Tree} {ts : Forest} → RowAmong r u b ts → Below b (sizes ts) r
  among_below (in_first x) = let h = row_below x in record { least = omega arith; most = omega arith }
  among_below (in_further x) = let h = among_below x in record { least = omega arith; most = omega arith }

-- ONE PART for a row
mutual
  pub one_row : {r q b : ℕ} {u v t : Tree} → RowOf r u b t → RowOf q v b t → r ≡ q → u ≡ v
  one_row own own e = refl
  one_row own (within y) e = let h = among_below y in absurd (omega arith)
  one_row (within x) own e = let h = among_below x in absurd (omega arith)
  one_row (within x) (within y) e = one_among x y e

  pub one_among : {r q b : ℕ} {u v : Tree} {ts : Forest} → RowAmong r u b ts → RowAmong q v b ts → r ≡ q → u ≡ v
  one_among (in_first x) (in_first y) e = one_row x y e
  one_among (in_first x) (in_further y) e = let h = row_below x in let k = among_below y in absurd (omega arith)
  one_among (in_further x) (in_first y) e = let h = among_below x in let k = row_below y in absurd (omega arith)
  one_among (in_further x) (in_further y) e = one_among x y e

mutual
  unfolding size

  pub part_of : (r b : ℕ) (t : Tree) → Below b (size t) r → Part r b t
  part_of r b (leaf k a e s) h = its_own r b (leaf k a e s) (omega (arith, h.least, h.most))
  part_of r b (node k a e c ts) h =
      either
      (ℕ_discrete r b)
      (λ q. its_own r b (node k a e c ts) q)
      (λ q. let z = part_among r (b + 1) ts (record { least = omega (arith, h.least); most = omega (arith, h.most) }) in record { tree = z.tree; row = within z.row })

  pub part_among : (r b : ℕ) (ts : Forest) → Below b (sizes ts) r → PartAmong r b ts
  part_among r b none h = absurd (omega (arith, h.least, h.most))
  part_among r b (more t ts) h =
      either
      (dec_le (suc r) (b + size t))
      (λ q. let z = part_of r b t (record { least = h.least; most = q }) in record { tree = z.tree; row = in_first z.row })
      (λ q. let z = part_among r (b + size t) ts (record { least = omega arith; most = omega (arith, h.most) }) in record { tree = z.tree; row = in_further z.row })

-- the row that a pair names is that of its value
pub value_among : {r i : ℕ} {s : List ℕ} {v : Tree} {ts : Forest} {fs : List Pair} → Pairs r ts fs → Holds s i v fs → RowAmong i v r ts
unfolding size
value_among {i = i} {s = s} {v = v} (no_pair {r = r}) x5 = elim x5 [ ]
value_among (one_pair x) held = in_further (in_first own)
value_among (one_pair x) (held_later h) = in_further (in_further (value_among x h))

pub value_row : {t : Tree} {r i : ℕ} {s : List ℕ} {v : Tree} {fs : List Pair} → ObjectAt t r fs → Holds s i v fs → RowOf i v 0 t
value_row (object_at x y) h = row_in (within (value_among y h)) x

pub one_object : {t : Tree} {r : ℕ} {fs gs : List Pair} → ObjectAt t r fs → ObjectAt t r gs → fs ≡ gs
one_object {r = r} {gs = gs} (object_at {ts = ts} x y) (object_at {ts = us} z w) =
    let e = one_row z x refl in
    one_pairs y (subst (λ (l : Forest). Pairs (r + 1) l gs) (cc) w)
