-- EVERY WORD of a language, with the text that it is read from and the text behind it: what holds of all these. Assumes nothing.
use Rattle.std.specs.Prelude.{List, Bool, ℕ, zero, suc}
use Rattle.std.proofs.Common.{arith}
use Rattle.notation.specs.Lang.{Lang, Ret, ret, Byte, Seq, Alt, one, two, Word, Indented}
use Rattle.spans.specs.Onward.{Onward, onward_then}
use Rattle.spans.specs.Every.{Every, InFront, Extends, byte_every, word_every}

-- P holds of each word of A: of place and text before it, of its value, of place and text behind it
pub record Words {X : Type 0} (A P : Lang X) : Type 0 where
  pub has : {at : ℕ} {s : List ℕ} {v : X} {at' : ℕ} {t : List ℕ} → A at s v at' t → P at s v at' t

pub alt_words : {X : Type 0} {A B P : Lang X} → Words A P → Words B P → Words (Alt A B) P
alt_words {X} {A} {B} {P} f g = record { has = go }
  where
    go : {at : ℕ} {s : List ℕ} {v : X} {at' : ℕ} {t : List ℕ} → Alt A B at s v at' t → P at s v at' t
    go (one z) = f.has z
    go (two z) = g.has z

-- R holds of every value
abbrev pub Values : {X : Type 0} → Lang X → (X → Type 0) → Type 0
Values A R = Words A (λ at s v at' t. R v)

pub ret_values : {X : Type 0} {v : X} {R : X → Type 0} → R v → Values (Ret v) R
ret_values {X} {v} {R} h = record { has = go }
  where
    go : {at : ℕ} {s : List ℕ} {x : X} {at' : ℕ} {t : List ℕ} → Ret v at s x at' t → R x
    go ret = h

-- .. whatever the A before is
pub skip : {X Y : Type 0} {A : Lang X} {B : X → Lang Y} {R : Y → Type 0} → ((v : X) → Values (B v) R) → Values (Seq A B) R
skip g = record { has = λ z. (g z.value).has z.second }

-- what is left behind it is what is left further on
abbrev pub Moves : {X : Type 0} → Lang X → Type 0
Moves A = Words A (λ at s v at' t. Onward at s at' t)

pub moves_by : {X : Type 0} {A : Lang X} {R : ℕ → X → ℕ → Type 0} → ((at : ℕ) → Every A at (R at)) → Moves A
moves_by g = record { has = λ z. (g _).moves z }

pub extends_moves : {X : Type 0} {A : Lang X} {I : ℕ → List X → ℕ → Type 0} → Extends I A → Moves A
extends_moves {I = I} g = moves_by {R = λ at. InFront I (I at)} (λ at. g at at (omega arith))

pub seq_moves : {X Y : Type 0} {A : Lang X} {B : X → Lang Y} → Moves A → ((v : X) → Moves (B v)) → Moves (Seq A B)
seq_moves f g = record { has = λ z. onward_then (f.has z.first) ((g z.value).has z.second) }

pub byte_moves : {f : ℕ → Bool} → Moves (Byte f)
byte_moves = moves_by {R = λ at v m. Unit {0}} (λ at. byte_every (λ b. tt))

pub word_moves : (bs : List ℕ) → Moves (Word bs)
word_moves bs = moves_by {R = λ at v m. Unit {0}} (λ at. word_every bs at (λ m h. tt))

pub indented_moves : {X : Type 0} {A : Lang X} (n : ℕ) → Moves A → Moves (Indented n A)
indented_moves zero m = m
indented_moves (suc n) m = seq_moves byte_moves (λ b. indented_moves n m)
