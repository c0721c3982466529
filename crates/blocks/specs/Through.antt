-- THE BYTES OF WORDS: a language all of whose words are bytes of a class. The combinators keep this. Assumes nothing.
use Rattle.std.specs.Prelude.{◌≡◌, List, [], ◌∷◌, Bool, true, ℕ}
use Rattle.exact.specs.Class.{Class, and, is, and_of, sub, inside, only}
use Rattle.exact.specs.Lang.{Lang, Ret, Byte, ret, byte}
use Rattle.exact.specs.Comb.{Seq, Alt, Star, one, two, nil, cons}
use Rattle.exact.specs.Ll.{Here, Word, here}

-- from s on there are only bytes of the class, up to t
pub data Through (c : Class) : List ℕ → List ℕ → Type 0 where
  stay : {s : List ℕ} → Through c s s
  on : {b : ℕ} {s t : List ℕ} → is c b ≡ true → Through c s t → Through c (b ∷ s) t

pub through_trans : {c : Class} {s t u : List ℕ} → Through c s t → Through c t u → Through c s u
through_trans stay y = y
through_trans (on e x) y = on e (through_trans x y)

pub record Bytes {X : Type 0} (c : Class) (A : Lang X) : Type 0 where
  pub bytes : {at : ℕ} {s : List ℕ} {v : X} {at' : ℕ} {t : List ℕ} → A at s v at' t → Through c s t

-- each of the bytes is one of the class
abbrev pub all : Class → List ℕ → Bool
all c [] = true
all c (b ∷ bs) = and (sub (only b) c) (all c bs)

module _ {c : Class} where
  pub ret_bytes : {X : Type 0} (v : X) → Bytes c (Ret v)
  ret_bytes {X} v = record { bytes = go }
    where
      go : {at : ℕ} {s : List ℕ} {x : X} {at' : ℕ} {t : List ℕ} → Ret v at s x at' t → Through c s t
      go ret = stay

  pub here_bytes : Bytes c Here
  here_bytes = record { bytes = go }
    where
      go : {at : ℕ} {s : List ℕ} {x : ℕ} {at' : ℕ} {t : List ℕ} → Here at s x at' t → Through c s t
      go here = stay

  pub byte_bytes : (d : Class) → sub d c ≡ true → Bytes c (Byte (is d))
  byte_bytes d h = record { bytes = go }
    where
      go : {at : ℕ} {s : List ℕ} {x : ℕ} {at' : ℕ} {t : List ℕ} → Byte (is d) at s x at' t → Through c s t
      go (byte e) = on (inside d c _ h e) stay

  pub seq_bytes : {X Y : Type 0} {A : Lang X} {B : X → Lang Y} → Bytes c A → ((x : X) → Bytes c (B x)) → Bytes c (Seq A B)
  seq_bytes x y = record { bytes = λ z. through_trans (x.bytes z.first) ((y z.value).bytes z.second) }

  pub alt_bytes : {X : Type 0} {A B : Lang X} → Bytes c A → Bytes c B → Bytes c (Alt A B)
  alt_bytes {X} {A} {B} x y = record { bytes = go }
    where
      go : {at : ℕ} {s : List ℕ} {v : X} {at' : ℕ} {t : List ℕ} → Alt A B at s v at' t → Through c s t
      go (one z) = x.bytes z
      go (two z) = y.bytes z

  pub star_bytes : {X : Type 0} {A : Lang X} → Bytes c A → Bytes c (Star A)
  star_bytes {X} {A} x = record { bytes = go }
    where
      go : {at : ℕ} {s : List ℕ} {v : List X} {at' : ℕ} {t : List ℕ} → Star A at s v at' t → Through c s t
      go nil = stay
      go (cons z w) = through_trans (x.bytes z) (go w)

  pub word_bytes : (bs : List ℕ) → all c bs ≡ true → Bytes c (Word bs)
  word_bytes [] h = ret_bytes 0
  word_bytes (b ∷ bs) h =
      let u = and_of (sub (only b) c) (all c bs) h in
      seq_bytes (byte_bytes (only b) u.0) λ _. word_bytes bs u.1
