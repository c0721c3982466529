-- FINDING ON THE TABLE OF A TREE without repeated keys: `find` answers the value of the key in the object, exactly if the object has the key (01, Questions). Assumes nothing.
use Rattle.std.specs.Prelude.{◌≡◌, ◌↔◌, List, ℕ, ◌*◌, ◌≤◌, length, Some, None, Ok}
use Rattle.std.proofs.Common.{ap, subst, arith}
use Rattle.language.specs.Tree.{Positions, Tree, width, size, text_of, rows_of, Repeats}
use Rattle.rooms.specs.Forest.{length_rows}
use Rattle.language.specs.Lent.{words_in, bytes_in}
use Rattle.questions.specs.Number.{NONE, BADROW}
use Rattle.questions.specs.Walk.{Reply, answer, refusal, found_reply, Finds, Found, bad_row}
use Rattle.questions.specs.Unique.{one_find, one_found}
use Rattle.found.specs.Objects.{Pair, ValueAt, NoKey, ObjectAt, object_at}
use Rattle.found.specs.Stands.{Stands, stands_fits}
use Rattle.found.specs.Rows.{Placed}
use Rattle.found.specs.Looks.{Looks, Comes, comes_at, comes_none, looked}
use Rattle.found.specs.Once.{Once, once}
use Rattle.found.specs.Walks.{finds}

-- the table holds the n rows of the tree t, and the room its text, in what they count for
pub record Filled (t : Tree) (n : ℕ) (table room : List ℕ) : Type 0 where
  pub count : n ≡ size t
  pub lines : Positions
  pub rows : Stands table 0 (rows_of lines 0 0 0 t)
  pub text : Stands room 0 (text_of t)
  pub few : width * n ≤ words_in table
  pub few_text : length (text_of t) ≤ bytes_in room

module _ {t : Tree} {n : ℕ} {table room : List ℕ} (h : Filled t n table room) where
  pub enough : width * n ≤ words_in table
  enough = h.few

  pub placed : Placed table room n 0 t
  placed = record { parent = 0; from = 0; lines = h.lines; rows = h.rows; text = h.text; counts = omega (arith, h.few_text); last = omega (arith, h.count) }

-- WHAT FINDING ANSWERS in row r, of an object with the pairs fs, for each key s: its value exactly if the object has the key, NONE exactly if not, never BADROW
pub record Exact (table : List ℕ) (R : ℕ) (room : List ℕ) (r : ℕ) (fs : List Pair) (s : List ℕ) : Type 0 where
  pub value : {i : ℕ} → ValueAt fs s i ↔ Finds table R room s r (answer i)
  pub missing : NoKey fs s ↔ Finds table R room s r (refusal NONE)
  pub sure : Finds table R room s r (refusal BADROW) → ⊥

number_apart : {p q : Reply} → p ≡ q → (p.number ≡ q.number → ⊥) → ⊥
number_apart e n = n (ap (λ (x : Reply). x.number) e)

module _ {table room s : List ℕ} {R r : ℕ} {fs : List Pair} (unique : Once fs) (f : (reply : Reply) → Looks s fs reply → Finds table R room s r reply) where
  pub exact : Exact table R room r fs s
  exact = by (looked s fs)
    where
      by : Comes fs s → Exact table R room r fs s
      by (comes_at j x l) =
          record {
            value = λ {i}. (
              λ y. subst (λ (k : ℕ). Finds table R room s r (answer k)) (unique.row x.holds y.holds) (f _ l),
              λ g. subst (ValueAt fs s) (ap (λ (p : Reply). p.value) (one_find (f _ l) g)) x,
            );
            missing = (λ z. absurd (z j x), λ g. absurd (number_apart (one_find (f _ l) g) (λ e. omega arith)));
            sure = λ g. number_apart (one_find (f _ l) g) (λ e. omega arith);
          }
      by (comes_none z l) =
          record {
            value = λ {i}. (λ y. absurd (z i y), λ g. absurd (number_apart (one_find (f _ l) g) (λ e. omega arith)));
            missing = (λ y. f _ l, λ g. z);
            sure = λ g. number_apart (one_find (f _ l) g) (λ e. omega arith);
          }

-- .. of the code's answer
pub record Answers (f : Found) (fs : List Pair) (s : List ℕ) : Type 0 where
  pub at : {i : ℕ} → (f ≡ Ok (Some (record { 0 = i }))) ↔ ValueAt fs s i
  pub missing : (f ≡ Ok None) ↔ NoKey fs s
  pub sure : f ≡ bad_row → ⊥

pub answers : {table room s : List ℕ} {R r : ℕ} {fs : List Pair} (f : Found) → Finds table R room s r (found_reply f) → Exact table R room r fs s → Answers f fs s
answers {table} {room} {s} {R} {r} {fs} f g x =
    record {
      at = λ {i}. (λ e. x.value.1 (so e), λ y. one_found table R room s r f (Ok (Some (record { 0 = i }))) g (x.value.0 y));
      missing = (λ e. x.missing.1 (so e), λ z. one_found table R room s r f (Ok None) g (x.missing.0 z));
      sure = λ e. x.sure (so e);
    }
  where
    so : {h : Found} → f ≡ h → Finds table R room s r (found_reply h)
    so e = subst (λ (z : Found). Finds table R room s r (found_reply z)) e g
