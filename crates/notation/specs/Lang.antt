-- THE NOTATION of the grammar: languages with values and places, and what it is to begin a word. Assumes nothing.
use Rattle.std.specs.Prelude.{◌≡◌, List, [], ◌∷◌, ◌++◌, Bool, true, ℕ, zero, suc}
use Rattle.notation.specs.Class.{is, only}

infixr 45 ◌>>◌
-- A at s v at' t: what is left of the document at the byte `at` is s; it begins with an A of value v; at the byte at' after that, t is left
abbrev pub Lang : Type 0 → Type 1
Lang X = ℕ → List ℕ → X → ℕ → List ℕ → Type 0

-- nothing is read: a value
pub data Ret {X : Type 0} (v : X) (at : ℕ) (s : List ℕ) : X → ℕ → List ℕ → Type 0 where
  ret : Ret v at s v at s

-- nothing is read: the value is the place
pub data Here (at : ℕ) (s : List ℕ) : ℕ → ℕ → List ℕ → Type 0 where
  here : Here at s at at s

-- a byte of a class
pub data Byte (f : ℕ → Bool) : ℕ → List ℕ → ℕ → ℕ → List ℕ → Type 0 where
  byte : {at b : ℕ} {s : List ℕ} → f b ≡ true → Byte f at (b ∷ s) b (suc at) s

-- an A, and then a B, which may go by the value of the A
pub record Seq {X Y : Type 0} (A : Lang X) (B : X → Lang Y) (at : ℕ) (s : List ℕ) (y : Y) (at' : ℕ) (t : List ℕ) : Type 0 where
  pub value : X
  pub middle : ℕ
  pub rest : List ℕ
  pub first : A at s value middle rest
  pub second : B value middle rest y at' t

abbrev pub ◌>>=◌ : {X Y : Type 0} → Lang X → (X → Lang Y) → Lang Y
◌>>=◌ A B = Seq A B

abbrev pub ◌>>◌ : {X Y : Type 0} → Lang X → Lang Y → Lang Y
◌>>◌ A B = Seq A (λ x. B)

-- an A whose value is changed
abbrev pub Map : {X Y : Type 0} → (X → Y) → Lang X → Lang Y
Map g A = Seq A (λ x. Ret (g x))

-- an A or a B
pub data Alt {X : Type 0} (A B : Lang X) (at : ℕ) (s : List ℕ) (x : X) (at' : ℕ) (t : List ℕ) : Type 0 where
  one : A at s x at' t → Alt A B at s x at' t
  two : B at s x at' t → Alt A B at s x at' t

-- any number of As
pub data Star {X : Type 0} (A : Lang X) : ℕ → List ℕ → List X → ℕ → List ℕ → Type 0 where
  nil : {at : ℕ} {s : List ℕ} → Star A at s [] at s
  cons : {at : ℕ} {s : List ℕ} {v : X} {at₁ : ℕ} {s₁ : List ℕ} {vs : List X} {at₂ : ℕ} {s₂ : List ℕ}
      → A at s v at₁ s₁ → Star A at₁ s₁ vs at₂ s₂ → Star A at s (v ∷ vs) at₂ s₂

-- one A or more
abbrev pub Plus : {X : Type 0} → Lang X → Lang (List X)
Plus A = do
  v ← A
  vs ← Star A
  Ret (v ∷ vs)

-- an A whose value passes a test
pub record Such {X : Type 0} (f : X → Bool) (A : Lang X) (at : ℕ) (s : List ℕ) (v : X) (at' : ℕ) (t : List ℕ) : Type 0 where
  pub word : A at s v at' t
  pub passes : f v ≡ true

-- these bytes
abbrev pub Word : List ℕ → Lang ℕ
Word [] = Ret 0
Word (b ∷ bs) = Seq (Byte (is (only b))) (λ x. Word bs)

-- n spaces, and then an A
abbrev pub Indented : {X : Type 0} → ℕ → Lang X → Lang X
Indented zero A = A
Indented (suc n) A = Seq (Byte (is (only 32))) (λ _. Indented n A)

-- pieces put together
abbrev pub cat : List (List ℕ) → List ℕ
cat [] = []
cat (w ∷ ws) = w ++ cat ws

-- A LANGUAGE OF WHOLE TEXTS, with values
abbrev pub Tail : Type 0 → Type 1
Tail W = List ℕ → W → Type 0

-- an A, and then what K lets follow it
pub record Then {X W : Type 0} (A : Lang X) (K : X → ℕ → Tail W) (at : ℕ) (s : List ℕ) (w : W) : Type 0 where
  pub value : X
  pub next : ℕ
  pub rest : List ℕ
  pub first : A at s value next rest
  pub others : K value next rest w

-- nothing is left
pub data End {X : Type 0} (v : X) (at : ℕ) : List ℕ → X → Type 0 where
  end : End v at [] v

-- BEGINS: some more bytes after u make a word of P
pub record Begins {W : Type 0} (P : Tail W) (u : List ℕ) : Type 0 where
  pub more : List ℕ
  pub value : W
  pub word : P (u ++ more) value
