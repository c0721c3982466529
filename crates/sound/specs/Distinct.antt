-- KEYS ONE BY ONE: no key of a forest equals an earlier one (`Distinct`), and no tree in it has two equal keys (`Onces`); so no object has (`Once`), and back. Assumes nothing.
use Rattle.std.specs.Prelude.{List, ℕ}
use Rattle.language.specs.Kind.{KEY}
use Rattle.language.specs.Tree.{Tree, leaf, node, Forest, none, more, Has, Repeats, inside, Repeated, again, below, beside, Once}

-- the key that starts at p equals an earlier one of the forest
pub data Again (p : ℕ) : Forest → Type 0 where
  again_here : {a e n : ℕ} {s : List ℕ} {ts : Forest} → Has s p ts → Again p (more (leaf KEY a e (record { bytes = s; escapes = n })) ts)
  again_later : {t : Tree} {ts : Forest} → Again p ts → Again p (more t ts)

abbrev pub Distinct : Forest → Type 0
Distinct ts = (p : ℕ) → Again p ts → ⊥

pub data Onces : Forest → Type 0 where
  onces_none : Onces none
  onces_more : {t : Tree} {ts : Forest} → Once t → Onces ts → Onces (more t ts)

distinct_none : {p : ℕ} (ts : Forest) → Distinct ts → Onces ts → Repeated p ts → ⊥
distinct_none none d o x = elim x [ ]
distinct_none {p} (more t ts) d (onces_more u o) (again x) = d p (again_here x)
distinct_none {p} (more t ts) d (onces_more u o) (below x) = u p x
distinct_none (more t ts) d (onces_more u o) (beside x) = distinct_none ts (λ q y. d q (again_later y)) o x

again_repeated : {p : ℕ} {ts : Forest} → Again p ts → Repeated p ts
again_repeated (again_here x) = again x
again_repeated (again_later x) = beside (again_repeated x)

none_onces : (ts : Forest) → ((p : ℕ) → Repeated p ts → ⊥) → Onces ts
none_onces none f = onces_none
none_onces (more t ts) f = onces_more (λ p x. f p (below x)) (none_onces ts (λ p x. f p (beside x)))

module _ {k a e c : ℕ} {ts : Forest} where
  pub node_once : Distinct ts → Onces ts → Once (node k a e c ts)
  node_once d o p (inside x) = distinct_none ts d o x

  pub once_distinct : Once (node k a e c ts) → Distinct ts
  once_distinct f p x = f p (inside (again_repeated x))

  pub once_onces : Once (node k a e c ts) → Onces ts
  once_onces f = none_onces ts (λ p x. f p (inside x))

pub leaf_once : {k a e : ℕ} {s : Rattle.language.specs.Tree.Decoded} → Once (leaf k a e s)
leaf_once p x = elim x [ ]
