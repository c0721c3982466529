-- EVERY WORD of a language that begins at a place: what holds of its value and of the place after it. One law for each combinator. Assumes nothing.
use Rattle.std.specs.Prelude.{◌≡◌, refl, List, [], ◌∷◌, Bool, ℕ, zero, suc, ◌+◌, ◌≤◌, length}
use Rattle.std.proofs.Common.{arith}
use Rattle.notation.specs.Lang.{Lang, Ret, ret, Here, here, Byte, byte, Seq, Map, Alt, one, two, Star, nil, cons, Plus, Such, Word, Indented}
use Rattle.spans.specs.Onward.{Onward, onward_none, onward_then}

-- Every A from `at` on has R of its value and its end, and what is left behind it is what is left further on, at its end.
pub record Every {X : Type 0} (A : Lang X) (at : ℕ) (R : X → ℕ → Type 0) : Type 0 where
  pub has : {s : List ℕ} {v : X} {at' : ℕ} {t : List ℕ} → A at s v at' t → R v at'
  pub moves : {s : List ℕ} {v : X} {at' : ℕ} {t : List ℕ} → A at s v at' t → Onward at s at' t

pub ret_every : {X : Type 0} {v : X} {at : ℕ} {R : X → ℕ → Type 0} → R v at → Every (Ret v) at R
ret_every {X} {v} {at} {R} h = record { has = go; moves = on }
  where
    go : {s : List ℕ} {x : X} {at' : ℕ} {t : List ℕ} → Ret v at s x at' t → R x at'
    go ret = h

    on : {s : List ℕ} {x : X} {at' : ℕ} {t : List ℕ} → Ret v at s x at' t → Onward at s at' t
    on ret = onward_none _ _

pub here_every : {at : ℕ} {R : ℕ → ℕ → Type 0} → R at at → Every Here at R
here_every {at} {R} h = record { has = go; moves = on }
  where
    go : {s : List ℕ} {x at' : ℕ} {t : List ℕ} → Here at s x at' t → R x at'
    go here = h

    on : {s : List ℕ} {x at' : ℕ} {t : List ℕ} → Here at s x at' t → Onward at s at' t
    on here = onward_none _ _

pub byte_every : {f : ℕ → Bool} {at : ℕ} {R : ℕ → ℕ → Type 0} → ((b : ℕ) → R b (suc at)) → Every (Byte f) at R
byte_every {f} {at} {R} h = record { has = go; moves = on }
  where
    go : {s : List ℕ} {x at' : ℕ} {t : List ℕ} → Byte f at s x at' t → R x at'
    go (byte {b = b} e) = h b

    on : {s : List ℕ} {x at' : ℕ} {t : List ℕ} → Byte f at s x at' t → Onward at s at' t
    on (byte {b = b} e) = record { passed = b ∷ []; text = refl; place = omega arith }

-- an A, and then a B: from what holds of every A, what holds of every B that follows it
pub bind_every : {X Y : Type 0} {A : Lang X} {B : X → Lang Y} {at : ℕ} {P : X → ℕ → Type 0} {R : Y → ℕ → Type 0}
    → Every A at P → ((v : X) (m : ℕ) → P v m → Every (B v) m R) → Every (Seq A B) at R
bind_every g k =
    record {
      has = λ z. (k z.value z.middle (g.has z.first)).has z.second;
      moves = λ z. onward_then (g.moves z.first) ((k z.value z.middle (g.has z.first)).moves z.second);
    }

-- what holds of every A may be said more weakly
pub via : {X : Type 0} {A : Lang X} {at : ℕ} {P R : X → ℕ → Type 0} → Every A at P → ((v : X) (m : ℕ) → P v m → R v m) → Every A at R
via g k = record { has = λ z. k _ _ (g.has z); moves = λ z. g.moves z }

module _ {Y : Type 0} {at : ℕ} {R : Y → ℕ → Type 0} where
  pub seq_every : {X : Type 0} {A : Lang X} {B : X → Lang Y} → Every A at (λ v m. Every (B v) m R) → Every (Seq A B) at R
  seq_every g = bind_every g (λ v m h. h)

  pub here_then : {B : ℕ → Lang Y} → Every (B at) at R → Every (Seq Here B) at R
  here_then k = seq_every (here_every k)

  pub byte_then : {f : ℕ → Bool} {B : ℕ → Lang Y} → ((b : ℕ) → Every (B b) (suc at) R) → Every (Seq (Byte f) B) at R
  byte_then k = seq_every (byte_every k)

  pub map_every : {X : Type 0} {A : Lang X} (g : X → Y) → Every A at (λ v m. R (g v) m) → Every (Map g A) at R
  map_every g e = bind_every e (λ v m h. ret_every h)

pub alt_every : {X : Type 0} {A B : Lang X} {at : ℕ} {R : X → ℕ → Type 0} → Every A at R → Every B at R → Every (Alt A B) at R
alt_every {X} {A} {B} {at} {R} f g = record { has = go; moves = on }
  where
    go : {s : List ℕ} {x : X} {at' : ℕ} {t : List ℕ} → Alt A B at s x at' t → R x at'
    go (one z) = f.has z
    go (two z) = g.has z

    on : {s : List ℕ} {x : X} {at' : ℕ} {t : List ℕ} → Alt A B at s x at' t → Onward at s at' t
    on (one z) = f.moves z
    on (two z) = g.moves z

-- one A more in front
abbrev pub InFront : {X : Type 0} → (ℕ → List X → ℕ → Type 0) → (List X → ℕ → Type 0) → X → ℕ → Type 0
InFront {X} I R v m = (vs : List X) (at' : ℕ) → I m vs at' → R (v ∷ vs) at'

pub star_every : {X : Type 0} {A : Lang X} (I : ℕ → List X → ℕ → Type 0) → ((at : ℕ) → I at [] at) → ((at : ℕ) → Every A at (InFront I (I at)))
    → (at : ℕ) → Every (Star A) at (I at)
star_every {X} {A} I none more at = record { has = go; moves = on }
  where
    go : {at : ℕ} {s : List ℕ} {x : List X} {at' : ℕ} {t : List ℕ} → Star A at s x at' t → I at x at'
    go (nil {at = a}) = none a
    go (cons {at = a} x y) = (more a).has x _ _ (go y)

    on : {at : ℕ} {s : List ℕ} {x : List X} {at' : ℕ} {t : List ℕ} → Star A at s x at' t → Onward at s at' t
    on nil = onward_none _ _
    on (cons {at = a} x y) = onward_then ((more a).moves x) (on y)

pub plus_every : {X : Type 0} {A : Lang X} (I : ℕ → List X → ℕ → Type 0) {at : ℕ} {R : List X → ℕ → Type 0}
    → ((m : ℕ) → Every (Star A) m (I m)) → Every A at (InFront I R) → Every (Plus A) at R
plus_every I star first = bind_every first (λ v m f. bind_every (star m) (λ vs at' h. ret_every (f vs at' h)))

pub such_every : {X : Type 0} {f : X → Bool} {A : Lang X} {at : ℕ} {R : X → ℕ → Type 0} → Every A at R → Every (Such f A) at R
such_every g = record { has = λ z. g.has z.word; moves = λ z. g.moves z.word }

pub word_every : (bs : List ℕ) (at : ℕ) {R : ℕ → ℕ → Type 0} → ((m : ℕ) → m ≡ at + length bs → R 0 m) → Every (Word bs) at R
word_every [] at k = ret_every (k at (omega arith))
word_every (b ∷ bs) at k = byte_then λ x. word_every bs (suc at) (λ m h. k m (omega arith))

pub word_then : {Y : Type 0} (bs : List ℕ) {B : ℕ → Lang Y} {at : ℕ} {R : Y → ℕ → Type 0}
    → ((m : ℕ) → m ≡ at + length bs → Every (B 0) m R) → Every (Seq (Word bs) B) at R
word_then bs {at = at} k = seq_every (word_every bs at k)

pub indented_every : {X : Type 0} {A : Lang X} (n : ℕ) {at : ℕ} {R : X → ℕ → Type 0} → ((m : ℕ) → at ≤ m → Every A m R) → Every (Indented n A) at R
indented_every zero k = k _ (omega arith)
indented_every (suc n) k = byte_then λ b. indented_every n (λ m h. k m (omega arith))

-- one A more in front, which may begin later than `at`
abbrev pub Extends : {X : Type 0} → (ℕ → List X → ℕ → Type 0) → Lang X → Type 0
Extends I A = (at b : ℕ) → at ≤ b → Every A b (InFront I (I at))
