-- A language inside another: with more allowance there are only more words. The combinators keep this. Assumes nothing.
use Rattle.std.specs.Prelude.{◌≡◌, refl, List, [], ◌∷◌, ◌++◌, Bool, true, false, ℕ, zero, suc}
use Rattle.exact.specs.Verdict.{Tail, Begins}
use Rattle.exact.specs.Class.{sub}
use Rattle.exact.specs.Lang.{Lang, Then}
use Rattle.exact.specs.Comb.{Seq, Alt, Star, one, two, nil, cons}
use Rattle.exact.specs.Block.{Indented}

pub record Sub {X : Type 0} (A B : Lang X) : Type 0 where
  pub sub : {at : ℕ} {s : List ℕ} {v : X} {at' : ℕ} {t : List ℕ} → A at s v at' t → B at s v at' t

pub sub_refl : {X : Type 0} (A : Lang X) → Sub A A
sub_refl A = record { sub = λ x. x }

pub sub_one : {X : Type 0} {A A' : Lang X} (B : Lang X) → Sub A A' → Sub A (Alt A' B)
sub_one B e = record { sub = λ x. one (e.sub x) }

pub sub_two : {X : Type 0} {B B' : Lang X} (A : Lang X) → Sub B B' → Sub B (Alt A B')
sub_two A e = record { sub = λ x. two (e.sub x) }

pub seq_sub : {X Y : Type 0} {A A' : Lang X} {B B' : X → Lang Y} → Sub A A' → ((x : X) → Sub (B x) (B' x)) → Sub (Seq A B) (Seq A' B')
seq_sub e g = record { sub = λ x. record { value = x.value; middle = x.middle; rest = x.rest; first = e.sub x.first; second = (g x.value).sub x.second } }

pub alt_sub : {X : Type 0} {A A' B B' : Lang X} → Sub A A' → Sub B B' → Sub (Alt A B) (Alt A' B')
alt_sub {X} {A} {A'} {B} {B'} e g = record { sub = go }
  where
    go : {at : ℕ} {s : List ℕ} {v : X} {at' : ℕ} {t : List ℕ} → Alt A B at s v at' t → Alt A' B' at s v at' t
    go (one x) = one (e.sub x)
    go (two x) = two (g.sub x)

pub star_sub : {X : Type 0} {A A' : Lang X} → Sub A A' → Sub (Star A) (Star A')
star_sub {X} {A} {A'} e = record { sub = go }
  where
    go : {at : ℕ} {s : List ℕ} {v : List X} {at' : ℕ} {t : List ℕ} → Star A at s v at' t → Star A' at s v at' t
    go nil = nil
    go (cons x y) = cons (e.sub x) (go y)

pub indented_sub : {X : Type 0} (n : ℕ) {A A' : Lang X} → Sub A A' → Sub (Indented n A) (Indented n A')
indented_sub zero e = e
indented_sub (suc n) e = seq_sub (sub_refl _) λ _. indented_sub n e

-- so what begins a document begins one with more allowance
pub sub_begins : {X W : Type 0} {A B : Lang X} (K : X → ℕ → Tail W) (at : ℕ) (u : List ℕ) → Sub A B → Begins (Then A K at) u → Begins (Then B K at) u
sub_begins K at u e b =
    let x = b.word in
    record {
      more = b.more;
      value = b.value;
      word = record { value = x.value; next = x.next; rest = x.rest; first = e.sub x.first; others = x.others };
    }
