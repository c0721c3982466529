-- FIRST BYTES of languages, and readers put together by them: one byte and then a language, a choice by the first byte. Assumes nothing.
use Rattle.std.specs.Prelude.{◌≡◌, refl, List, Bool, true, false, ℕ}
use Rattle.std.proofs.Common.{arith}
use Rattle.exact.specs.Class.{Class, is, apart, sub, starts_none, starts_inside, only, only_is}
use Rattle.exact.specs.Out.{Reader}
use Rattle.exact.specs.Lang.{Lang, Follow, Exact, within_same, weaken, Byte, byte_r, byte_exact}
use Rattle.exact.specs.Comb.{Seq, seq_r, seq_exact, Alt, alt_r, alt_exact, exact_iff, one, two}
use Rattle.exact.specs.Ll.{Shape, Ll, need_false}
pub use Rattle.blocktext.specs.Opens.{Opens, byte_opens, seq_opens, here_opens, alt_opens, ll_opens}

pub opens_inside : {X : Type 0} {c : Class} (d : Class) {A : Lang X} → sub c d ≡ true → Opens c A → Opens d A
opens_inside {c = c} d e o = record { opens = λ at s v at' t x. starts_inside c d s e (o.opens at s v at' t x) }

-- a test that would contradict is false
pub refuted : (x : Bool) → (x ≡ true → ⊥) → x ≡ false
refuted true h = absurd (h refl)
refuted false h = refl

-- one byte, and then a language
pub byte_then : {X : Type 0} {e : ℕ} {B : Lang X} {F : Follow} {q : Reader X} (b : ℕ) → Exact e B F q
    → Exact 1 (Seq (Byte (is (only b))) (λ _. B)) F (seq_r (byte_r (is (only b))) λ _. q)
byte_then {F = F} b x =
    weaken 1 F (omega arith) (within_same F) (seq_exact (byte_exact (is (only b)) b (only_is b)) (λ _. x) (λ x at s y at' t b g z. z))

-- a choice by the first byte
pub first_exact : {X : Type 0} {d : ℕ} {c e : Class} {A B : Lang X} {F : Follow} {r q : Reader X} → apart e c ≡ true → Opens c A → Opens e B
    → Exact d A F r → Exact d B F q → Exact d (Alt A B) F (alt_r (is c) r q)
first_exact {c = c} {e} h o u x y =
    alt_exact (is c) o.opens (λ at s v at' t b g z. starts_none e c s h (u.opens at s v at' t b) z) x y

-- the order of a choice makes no difference
alt_flip : {X : Type 0} {A B : Lang X} {at : ℕ} {s : List ℕ} {v : X} {at' : ℕ} {t : List ℕ} → Alt A B at s v at' t → Alt B A at s v at' t
alt_flip (one x) = two x
alt_flip (two x) = one x

pub alt_swap : {X : Type 0} {d : ℕ} {A B : Lang X} {F : Follow} {r : Reader X} → Exact d (Alt A B) F r → Exact d (Alt B A) F r
alt_swap e = exact_iff (λ at s v at' t x. alt_flip x) (λ at s v at' t x. alt_flip x) e

alt_out : {X : Type 0} {A B C : Lang X} {at : ℕ} {s : List ℕ} {v : X} {at' : ℕ} {t : List ℕ} → Alt (Alt A B) C at s v at' t → Alt A (Alt B C) at s v at' t
alt_out (one (one x)) = one x
alt_out (one (two x)) = two (one x)
alt_out (two x) = two (two x)

alt_in : {X : Type 0} {A B C : Lang X} {at : ℕ} {s : List ℕ} {v : X} {at' : ℕ} {t : List ℕ} → Alt A (Alt B C) at s v at' t → Alt (Alt A B) C at s v at' t
alt_in (one x) = one (one x)
alt_in (two (one x)) = one (two x)
alt_in (two (two x)) = two x

-- and neither does its grouping
pub alt_group : {X : Type 0} {d : ℕ} {A B C : Lang X} {F : Follow} {r : Reader X} → Exact d (Alt A (Alt B C)) F r → Exact d (Alt (Alt A B) C) F r
alt_group e = exact_iff (λ at s v at' t x. alt_in x) (λ at s v at' t x. alt_out x) e
