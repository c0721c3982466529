-- EACH QUESTION HAS ONE ANSWER ONLY (01, What each statement has to settle). Assumes nothing.
use Rattle.std.specs.Prelude.{◌≡◌, refl, List, ℕ, ◌≤◌, ◌<◌, Some, None, Ok, Err}
use Rattle.std.proofs.Common.{sym, ap, ◌∙◌, arith}
use mathlib.Core.Bool.{Bool, true, false}
use Rattle.questions.specs.Text.{text_number, text_of}
use Rattle.questions.specs.Walk.{Reply, Found, found_reply, Walk, ends, breaks, matches, strays, goes, Finds, refused, walked}

clash : {X : Type 0} {b : Bool} → b ≡ true → b ≡ false → X
clash p q = absurd (mathlib.Core.Bool.true≢false (sym p ∙ q))

past : {X : Type 0} {m n : ℕ} → m < n → n ≤ m → X
past p q = absurd (omega arith)

-- ---- a row's text

pub one_number : (table : List ℕ) (R : ℕ) (room : List ℕ) (r m n : ℕ) → m ≡ text_number table R room r → n ≡ text_number table R room r → m ≡ n
one_number table R room r m n p q = p ∙ sym q

pub one_text : (table : List ℕ) (R : ℕ) (room : List ℕ) (r : ℕ) (s t : List ℕ) → s ≡ text_of table R room r → t ≡ text_of table R room r → s ≡ t
one_text table R room r s t p q = p ∙ sym q

-- ---- finding

pub one_walk : {table : List ℕ} {R : ℕ} {room key : List ℕ} {stop at : ℕ} {p q : Reply}
    → Walk table R room key stop at p → Walk table R room key stop at q → p ≡ q
one_walk (ends h) (ends k) = refl
one_walk (ends h) (breaks i x) = past i h
one_walk (ends h) (matches i x e) = past i h
one_walk (ends h) (strays i x n o) = past i h
one_walk (ends h) (goes i x n o w) = past i h
one_walk (breaks i x) (ends k) = past i k
one_walk (breaks i x) (breaks j y) = refl
one_walk (breaks i x) (matches j y e) = clash y x
one_walk (breaks i x) (strays j y n o) = clash y x
one_walk (breaks i x) (goes j y n o w) = clash y x
one_walk (matches i x e) (ends k) = past i k
one_walk (matches i x e) (breaks j y) = clash x y
one_walk (matches i x e) (matches j y f) = refl
one_walk (matches i x e) (strays j y n o) = absurd (n e)
one_walk (matches i x e) (goes j y n o w) = absurd (n e)
one_walk (strays i x n o) (ends k) = past i k
one_walk (strays i x n o) (breaks j y) = clash x y
one_walk (strays i x n o) (matches j y e) = absurd (n e)
one_walk (strays i x n o) (strays j y m p) = refl
one_walk (strays i x n o) (goes j y m p w) = clash p o
one_walk (goes i x n o w) (ends k) = past i k
one_walk (goes i x n o w) (breaks j y) = clash x y
one_walk (goes i x n o w) (matches j y e) = absurd (n e)
one_walk (goes i x n o w) (strays j y m p) = clash o p
one_walk (goes i x n o w) (goes j y m p v) = one_walk w v

pub one_find : {table : List ℕ} {R : ℕ} {room key : List ℕ} {r : ℕ} {p q : Reply}
    → Finds table R room key r p → Finds table R room key r q → p ≡ q
one_find (refused x) (refused y) = refl
one_find (refused x) (walked y w) = clash y x
one_find (walked x w) (refused y) = clash x y
one_find (walked x w) (walked y v) = one_walk w v

-- a number and a value tell the answer
pub reply_tells : (f g : Found) → found_reply f ≡ found_reply g → f ≡ g
reply_tells (Ok (Some r)) (Ok (Some s)) e = ap (λ (x : Reply). Ok (Some (record { 0 = x.value }))) e
reply_tells (Ok (Some r)) (Ok None) e = absurd (omega (arith, ap (λ (x : Reply). x.number) e))
reply_tells (Ok (Some r)) (Err _) e = absurd (omega (arith, ap (λ (x : Reply). x.number) e))
reply_tells (Ok None) (Ok (Some s)) e = absurd (omega (arith, ap (λ (x : Reply). x.number) e))
reply_tells (Ok None) (Ok None) e = refl
reply_tells (Ok None) (Err _) e = absurd (omega (arith, ap (λ (x : Reply). x.number) e))
reply_tells (Err _) (Ok (Some s)) e = absurd (omega (arith, ap (λ (x : Reply). x.number) e))
reply_tells (Err _) (Ok None) e = absurd (omega (arith, ap (λ (x : Reply). x.number) e))
reply_tells (Err _) (Err _) e = refl

pub one_found : (table : List ℕ) (R : ℕ) (room key : List ℕ) (r : ℕ) (f g : Found)
    → Finds table R room key r (found_reply f) → Finds table R room key r (found_reply g) → f ≡ g
one_found table R room key r f g p q = reply_tells f g (one_find p q)
