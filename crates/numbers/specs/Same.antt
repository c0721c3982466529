-- Two languages of the same words, and how a choice and a span pass through one another. Assumes nothing.
use Rattle.std.specs.Prelude.{List, ℕ}
use Rattle.notation.specs.Lang.{Lang, Ret, ret, Here, Seq, ◌>>=◌, Alt, one, two}
use Rattle.language.specs.Tree.{unescaped, Tree, leaf}

pub record Same {X : Type 0} (A B : Lang X) : Type 0 where
  pub to : {at : ℕ} {s : List ℕ} {v : X} {at' : ℕ} {t : List ℕ} → A at s v at' t → B at s v at' t
  pub from : {at : ℕ} {s : List ℕ} {v : X} {at' : ℕ} {t : List ℕ} → B at s v at' t → A at s v at' t

-- one after the other
pub seq : {X Y : Type 0} {A : Lang X} {B : X → Lang Y} {at : ℕ} {s : List ℕ} (v : X) (at₁ : ℕ) (s₁ : List ℕ) {y : Y} {at' : ℕ} {t : List ℕ}
    → A at s v at₁ s₁ → B v at₁ s₁ y at' t → Seq A B at s y at' t
seq v at₁ s₁ x y = record { value = v; middle = at₁; rest = s₁; first = x; second = y }

-- after a value that is only given
pub given : {X Y : Type 0} (B : X → Lang Y) {v : X} {at : ℕ} {s : List ℕ} {v' : X} {at₁ : ℕ} {s₁ : List ℕ} {y : Y} {at' : ℕ} {t : List ℕ}
    → Ret v at s v' at₁ s₁ → B v' at₁ s₁ y at' t → B v at s y at' t
given B ret x = x

pub same_trans : {X : Type 0} {A B C : Lang X} → Same A B → Same B C → Same A C
same_trans e g = record { to = λ x. g.to (e.to x); from = λ x. e.from (g.from x) }

pub alt_same : {X : Type 0} {A A' B B' : Lang X} → Same A A' → Same B B' → Same (Alt A B) (Alt A' B')
alt_same {X} {A} {A'} {B} {B'} e g = record { to = there; from = back }
  where
    there : {at : ℕ} {s : List ℕ} {v : X} {at' : ℕ} {t : List ℕ} → Alt A B at s v at' t → Alt A' B' at s v at' t
    there (one x) = one (e.to x)
    there (two x) = two (g.to x)

    back : {at : ℕ} {s : List ℕ} {v : X} {at' : ℕ} {t : List ℕ} → Alt A' B' at s v at' t → Alt A B at s v at' t
    back (one x) = one (e.from x)
    back (two x) = two (g.from x)

-- A SPAN: the kind and the text of what stands between two places
pub data Found : Type 0 where
  found : ℕ → List ℕ → Found

abbrev pub leaf_of : ℕ → ℕ → Found → Tree
leaf_of a e (found kind text) = leaf kind a e (unescaped text)

abbrev pub Close : ℕ → Found → Lang Tree
Close a f = do
  e ← Here
  Ret (leaf_of a e f)

abbrev pub Spanned : Lang Found → Lang Tree
Spanned F = do
  a ← Here
  f ← F
  Close a f

pub spanned_same : {F G : Lang Found} → Same F G → Same (Spanned F) (Spanned G)
spanned_same e =
    record {
      to = λ x. seq _ _ _ x.first (seq _ _ _ (e.to x.second.first) x.second.second);
      from = λ x. seq _ _ _ x.first (seq _ _ _ (e.from x.second.first) x.second.second);
    }

pub spanned_alt : (F G : Lang Found) → Same (Alt (Spanned F) (Spanned G)) (Spanned (Alt F G))
spanned_alt F G = record { to = there; from = λ x. back x.first x.second.first x.second.second }
  where
    there : {at : ℕ} {s : List ℕ} {v : Tree} {at' : ℕ} {t : List ℕ} → Alt (Spanned F) (Spanned G) at s v at' t → Spanned (Alt F G) at s v at' t
    there (one x) = seq _ _ _ x.first (seq _ _ _ (one x.second.first) x.second.second)
    there (two x) = seq _ _ _ x.first (seq _ _ _ (two x.second.first) x.second.second)

    back : {at : ℕ} {s : List ℕ} {a at₁ : ℕ} {s₁ : List ℕ} {f : Found} {at₂ : ℕ} {s₂ : List ℕ} {v : Tree} {at' : ℕ} {t : List ℕ}
        → Here at s a at₁ s₁ → Alt F G at₁ s₁ f at₂ s₂ → Close a f at₂ s₂ v at' t → Alt (Spanned F) (Spanned G) at s v at' t
    back h (one x) y = one (seq _ _ _ h (seq _ _ _ x y))
    back h (two x) y = two (seq _ _ _ h (seq _ _ _ x y))
