-- FINDING ON THE TABLE OF A TREE without repeated keys: `find` answers the value of the key in the object, exactly if the object has the key (01, Questions). Assumes nothing.
use Rattle.std.specs.Prelude.{◌≡◌, ◌↔◌, List, ℕ, ◌*◌, ◌≤◌, length}
use Rattle.std.proofs.Common.{ap, subst, arith}
use Rattle.language.specs.Tree.{Positions, Tree, width, size, text_of, rows_of, Repeats}
use Rattle.rooms.specs.Forest.{length_rows}
use Rattle.language.specs.Lent.{words_in, bytes_in}
use Rattle.questions.specs.Number.{NONE, BADROW}
use Rattle.questions.specs.Walk.{Reply, answer, refusal, found_reply, Finds}
use Rattle.questions.specs.Unique.{one_find, one_found}
use Rattle.found.specs.Objects.{Pair, ValueAt, NoKey, ObjectAt, object_at}
use Rattle.found.specs.Stands.{Stands, stands_fits}
use Rattle.found.specs.Rows.{Placed}
use Rattle.found.proofs.RowsLaws.{row_placed}
use Rattle.found.specs.Looks.{Looks, Comes, comes_at, comes_none, looked}
use Rattle.found.specs.Once.{Once, once}
use Rattle.found.specs.Walks.{finds}
use Rattle.found.specs.Find.{Exact, Filled, enough, exact, placed}

module _ {t : Tree} {n : ℕ} {table room : List ℕ} (h : Filled t n table room) where
  -- FINDING is looking for the key in the pairs
  pub find_looks : {r : ℕ} {s : List ℕ} {fs : List Pair} {reply : Reply} → ObjectAt t r fs → Looks s fs reply → Finds table n room s r reply
  find_looks (object_at x y) q = finds table room n (enough h) y (row_placed table room n x (placed h)) q

-- THE THEOREM, of any table and room that hold a tree without repeated keys
pub find_value : {t : Tree} {n r : ℕ} {table room : List ℕ} {fs : List Pair} → Filled t n table room → ((p : ℕ) → Repeats p t → ⊥) → ObjectAt t r fs
    → (s : List ℕ) → Exact table n room r fs s
find_value h o x s = exact (once o x) (λ reply l. find_looks h x l)
