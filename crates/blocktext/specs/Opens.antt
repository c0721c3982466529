-- What a language begins with, told by its first part. Assumes nothing.
use Rattle.std.specs.Prelude.{◌≡◌, List, ◌++◌, false, ℕ}
use Rattle.notation.specs.Lang.{Lang, Here, here, Byte, byte, Seq, Alt, one, two}
use Rattle.exact.specs.Class.{Starts, Class, is, starts_left, starts_right}
use Rattle.exact.specs.Out.{Reader}
use Rattle.exact.specs.Ll.{Shape, Ll, begun_starts}

-- every word begins with a byte of the class
pub record Opens {X : Type 0} (c : Class) (A : Lang X) : Type 0 where
  pub opens : (at : ℕ) (s : List ℕ) (v : X) (at' : ℕ) (t : List ℕ) → A at s v at' t → Starts (is c) s

pub byte_opens : (c : Class) → Opens c (Byte (is c))
byte_opens c = record { opens = go }
  where
    go : (at : ℕ) (s : List ℕ) (v : ℕ) (at' : ℕ) (t : List ℕ) → Byte (is c) at s v at' t → Starts (is c) s
    go at s v at' t (byte e) = e

pub seq_opens : {X Y : Type 0} {c : Class} {A : Lang X} {B : X → Lang Y} → Opens c A → Opens c (Seq A B)
seq_opens h = record { opens = λ at s v at' t x. h.opens at s x.value x.middle x.rest x.first }

pub here_opens : {Y : Type 0} {c : Class} {B : ℕ → Lang Y} → ((a : ℕ) → Opens c (B a)) → Opens c (Seq Here B)
here_opens {Y} {c} {B} h = record { opens = λ at s v at' t x. go at s v at' t x.first x.second }
  where
    go : (at : ℕ) (s : List ℕ) (v : Y) (at' : ℕ) (t : List ℕ) {a m : ℕ} {r : List ℕ} → Here at s a m r → B a m r v at' t → Starts (is c) s
    go at s v at' t here y = (h at).opens at s v at' t y

pub alt_opens : {X : Type 0} {c d : Class} {A B : Lang X} → Opens c A → Opens d B → Opens (c ++ d) (Alt A B)
alt_opens {X} {c} {d} {A} {B} h k = record { opens = go }
  where
    go : (at : ℕ) (s : List ℕ) (v : X) (at' : ℕ) (t : List ℕ) → Alt A B at s v at' t → Starts (is (c ++ d)) s
    go at s v at' t (one x) = starts_left c d s (h.opens at s v at' t x)
    go at s v at' t (two x) = starts_right c d s (k.opens at s v at' t x)

pub ll_opens : {X : Type 0} {σ : Shape} {A : Lang X} {r : Reader X} → σ.null ≡ false → Ll σ A r → Opens σ.first A
ll_opens {σ = σ} n l = record { opens = λ at s v at' t x. begun_starts σ n (l.begun at s v at' t x) }
