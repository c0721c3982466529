-- WHAT MAY FOLLOW A BLOCK: no line that would go on in it; blank lines may, and are as well read as the block's. Assumes nothing.
use Rattle.std.specs.Prelude.{◌≡◌, refl, List, [], ◌∷◌, Bool, true, false, ℕ, zero, suc, ◌≤◌}
use Rattle.std.proofs.Common.{sym, subst, arith}
use Rattle.notation.specs.Class.{Class, pick, is, only}
use Rattle.exact.specs.Class.{clash, apart, none, and_of, only_eq}
use Rattle.exact.specs.Block.{Deep, ind, ind_none, ind_less}
use Rattle.exact.specs.Lang.{Follow, bar, Within}
use Rattle.std.proofs.Math.Decide.{dec_le}

-- any byte but LF
abbrev pub feedless : ℕ → Bool
feedless b = pick (is (only 10) b) false true

-- no line of more than n spaces
abbrev pub beyond : ℕ → Follow
beyond n = record { bars = λ t. ind (is (only 32)) n t ≡ true; eats = is (only 10) }

-- no line of n spaces with something behind them
abbrev pub lines : ℕ → Follow
lines n = record { bars = λ t. ind feedless n t ≡ true; eats = is (only 10) }

space_feedless : (b : ℕ) → is (only 32) b ≡ true → feedless b ≡ true
space_feedless b e = subst (λ (x : ℕ). feedless x ≡ true) (sym (only_eq 32 b e)) refl

-- an ind over a wider class
pub ind_wider : (f g : ℕ → Bool) → ((b : ℕ) → f b ≡ true → g b ≡ true) → (n : ℕ) (t : List ℕ) → ind f n t ≡ true → ind g n t ≡ true
ind_wider f g h n [] x = absurd (ind_none f n x)
ind_wider f g h zero (b ∷ t) x = h b x
ind_wider f g h (suc n) (b ∷ t) x =
    let u = and_of (is (only 32) b) (ind f n t) x in
    rw u.0 (ind_wider f g h n t u.1)

-- one space more
ind_suc : (f : ℕ → Bool) (n : ℕ) (t : List ℕ) → ind f (suc n) t ≡ true → ind (is (only 32)) n t ≡ true
ind_suc f n [] x = absurd (clash x refl)
ind_suc f zero (b ∷ t) x = (and_of (is (only 32) b) (ind f zero t) x).0
ind_suc f (suc n) (b ∷ t) x =
    let u = and_of (is (only 32) b) (ind f (suc n) t) x in
    rw u.0 (ind_suc f n t u.1)

-- what may follow lines at n may follow what goes beyond n, and that what is two columns deeper
pub beyond_lines : (n : ℕ) → Within (beyond n) (lines n)
beyond_lines n = record { barred = λ t x. ind_wider (is (only 32)) feedless space_feedless n t x; eaten = λ b x. x }

pub lines_beyond : (n : ℕ) → Within (lines (suc (suc n))) (beyond n)
lines_beyond n = record { barred = λ t x. ind_suc (is (only 32)) n t (ind_wider _ _ (λ b y. y) (suc n) t (ind_suc feedless (suc n) t x)); eaten = λ b x. x }

-- what eats nothing is within what eats something, and bars the same
pub eats_none : (F : Follow) → Within (bar F.bars) F
eats_none F = record { barred = λ t x. x; eaten = λ b e. absurd (clash e refl) }

-- n spaces or more and one more are more than n
pub deep_beyond : (n : ℕ) (t : List ℕ) → Deep (is (only 32)) n t → (beyond n).bars t
deep_beyond n t d = go n d.column t d.least d.there
  where
    go : (n m : ℕ) (t : List ℕ) → n ≤ m → ind (is (only 32)) m t ≡ true → ind (is (only 32)) n t ≡ true
    go n m [] l x = absurd (ind_none (is (only 32)) m x)
    go zero zero (b ∷ t) l x = x
    go zero (suc m) (b ∷ t) l x = (and_of (is (only 32) b) (ind (is (only 32)) m t) x).0
    go (suc n) zero (b ∷ t) l x = absurd (omega arith)
    go (suc n) (suc m) (b ∷ t) l x =
        let u = and_of (is (only 32) b) (ind (is (only 32)) m t) x in
        rw u.0 (go n m t (omega arith) u.1)

apart_feedless : (c : Class) → apart c (only 10) ≡ true → (b : ℕ) → is c b ≡ true → feedless b ≡ true
apart_feedless c h b e = go (is (only 10) b) refl
  where
    go : (x : Bool) → is (only 10) b ≡ x → pick x false true ≡ true
    go true y = absurd (none c (only 10) b h e y)
    go false y = refl

-- n spaces or more and a byte that is no LF are n spaces with something behind them
pub deep_lines : (c : Class) → apart c (only 10) ≡ true → (n : ℕ) (t : List ℕ) → Deep (is c) n t → (lines n).bars t
deep_lines c h n t d = by d.column d.least d.there (dec_le d.column n)
  where
    by : (m : ℕ) → n ≤ m → ind (is c) m t ≡ true → Dec (m ≤ n) → (lines n).bars t
    by m l x (yes k) = let e : m ≡ n = omega arith in ind_wider (is c) feedless (apart_feedless c h) n t (subst (λ (i : ℕ). ind (is c) i t ≡ true) e x)
    by m l x (no k) = ind_wider (is (only 32)) feedless space_feedless n t (ind_less (is c) n m t (omega arith) x)
