-- EQUAL KEYS, spans aside: of trees that are alike, the one has two equal keys in an object if the other has (`alike_once`). Assumes nothing.
use Rattle.std.proofs.Common.{sym, subst}
use Rattle.std.specs.Prelude.{List, ℕ}
use Rattle.language.specs.Tree.{Tree, leaf, node, Forest, none, more, Has, has_here, has_later, Repeats, inside, Repeated, again, below, beside}
use Rattle.language.specs.Alike.{unspan, unspans, Alike}

has_unspan : {s : List ℕ} {a : ℕ} {ts : Forest} → Has s a ts → Has s 0 (unspans ts)
unfolding unspan
has_unspan has_here = has_here
has_unspan (has_later x) = has_later (has_unspan x)

mutual
  unfolding unspan

  repeats_unspan : (p : ℕ) (t : Tree) → Repeats p t → Repeats 0 (unspan t)
  repeats_unspan p (leaf _ _ _ _) x6 = elim x6 [ ]
  repeats_unspan p (node k a e c ts) (inside x) = inside (repeated_unspan p ts x)

  repeated_unspan : (p : ℕ) (ts : Forest) → Repeated p ts → Repeated 0 (unspans ts)
  repeated_unspan p none x'' = elim x'' [ ]
  repeated_unspan p (more t ts) (again x) = again (has_unspan x)
  repeated_unspan p (more t ts) (below x) = below (repeats_unspan p t x)
  repeated_unspan p (more t ts) (beside x) = beside (repeated_unspan p ts x)

unspan_has : (ts : Forest) (s : List ℕ) (a : ℕ) → Has s a (unspans ts) → (b : ℕ) × Has s b ts
unfolding unspan
unspan_has none s b x' = elim x' [ ]
unspan_has (more (leaf k a e d) ts) s b has_here = (a, has_here)
unspan_has (more (leaf k a e d) ts) s b (has_later x) = let y = unspan_has ts s b x in (y.0, has_later y.1)
unspan_has (more (node k a e c us) ts) s b (has_later x) = let y = unspan_has ts s b x in (y.0, has_later y.1)

-- a tree and others
first_repeated : (p : ℕ) (t : Tree) (ts : Forest) → Repeated p (unspans (more t ts)) → (Repeats p (unspan t) → (q : ℕ) × Repeats q t) → (Repeated p (unspans ts) → (q : ℕ) × Repeated q ts)
    → (q : ℕ) × Repeated q (more t ts)
unfolding unspan
first_repeated p (leaf k a e d) ts (again x) f g = let y = unspan_has ts d.bytes p x in (y.0, again y.1)
first_repeated p (leaf k a e d) ts (below x) f g = let y = f x in (y.0, below y.1)
first_repeated p (leaf k a e d) ts (beside x) f g = let y = g x in (y.0, beside y.1)
first_repeated p (node k a e c us) ts (below x) f g = let y = f x in (y.0, below y.1)
first_repeated p (node k a e c us) ts (beside x) f g = let y = g x in (y.0, beside y.1)

mutual
  unfolding unspan

  unspan_repeats : (p : ℕ) (t : Tree) → Repeats p (unspan t) → (q : ℕ) × Repeats q t
  unspan_repeats p (leaf _ _ _ _) x6 = elim x6 [ ]
  unspan_repeats p (node k a e c ts) (inside x) = let y = unspan_repeated p ts x in (y.0, inside y.1)

  unspan_repeated : (p : ℕ) (ts : Forest) → Repeated p (unspans ts) → (q : ℕ) × Repeated q ts
  unspan_repeated p none x = elim x [ ]
  unspan_repeated p (more t ts) x = first_repeated p t ts x (λ y. unspan_repeats p t y) (λ y. unspan_repeated p ts y)

-- no object of the one has two equal keys, so none of the other has
pub alike_once : (t u : Tree) → Alike t u → ((p : ℕ) → Repeats p t → ⊥) → (p : ℕ) → Repeats p u → ⊥
alike_once t u h once p x = let y = unspan_repeats 0 t (subst (Repeats 0) (sym h) (repeats_unspan p u x)) in once y.0 y.1
