-- BITS IN WORDS: the bit c of a run of words that begins at a word's number; one that is set stays set. Assumes nothing.
use Rattle.std.specs.Prelude.{◌≡◌, List, ℕ, ◌+◌, ◌*◌, ◌/◌, ◌%◌, ◌^◌, ◌<◌, max, length, get_or, set, eqb}
use Rattle.std.proofs.Common.{◌∙◌, one-mul, arith, get_or-set_same, pow_pos, shl_exact}
use Rattle.std.proofs.Math.Path.{ap}
use Rattle.std.proofs.Math.Nat.{mod-lt, div_self}
use Rattle.std.proofs.Math.Decide.{ℕ_discrete}
use Rattle.std.proofs.Math.ListN.{length-set}
use Rattle.std.proofs.Math.Seq.{get_or-set_other}
use Rattle.std.specs.Int.Bits.{bit_or, or_step}
use Rattle.std.proofs.lemmas.Nat.{or_shr}
use Rattle.exact.specs.Tells.{Tells, tells_eqb}

-- the bit k of a word
abbrev pub digit : ℕ → ℕ → ℕ
digit w k = w / 2 ^ k % 2

-- `|` sets bits, and clears none
or_digit : (w v k : ℕ) → digit (bit_or w v) k ≡ max (digit w k) (digit v k)
or_digit w v k =
    let a = w / 2 ^ k in
    let b = v / 2 ^ k in
    let e = or_shr w v k in
    let f = or_step a b in
    let l : max (a % 2) (b % 2) < 2 = omega arith in
    rw (e, f) (omega arith)

digit_or : (w v k : ℕ) → digit w k ≡ 1 → digit (bit_or w v) k ≡ 1
digit_or w v k h = let e = or_digit w v k in let l : v / 2 ^ k % 2 < 2 = mod-lt (v / 2 ^ k) (omega arith) in omega arith

-- ---- a run of bits in a list of words

unfoldable pub On : List ℕ → ℕ → ℕ → Type 0
On S base c = digit (get_or S (base + c / 32) 0) (c % 32) ≡ 1

-- what setting a bit does
pub record Sets (S : List ℕ) (base c : ℕ) (S' : List ℕ) : Type 0 where
  pub long : length S' ≡ length S
  pub on : On S' base c
  pub keeps : (b d : ℕ) → On S b d → On S' b d
  pub other : (i : ℕ) → (i ≡ base + c / 32 → ⊥) → get_or S' i 0 ≡ get_or S i 0

shifted : (k : ℕ) → k < 32 → (1 * 2 ^ k) % 4294967296 ≡ 2 ^ k
shifted k l = shl_exact {a = 1} 1 k 32 (omega arith) (omega arith) ∙ one-mul (2 ^ k)

own_digit : (k : ℕ) → digit (2 ^ k) k ≡ 1
own_digit k = ap (λ (x : ℕ). x % 2) (div_self (pow_pos k))

module _ (S : List ℕ) (base c : ℕ) (l : base + c / 32 < length S) where
  abbrev at : ℕ
  at = base + c / 32

  abbrev k : ℕ
  k = c % 32

  abbrev w : ℕ
  w = get_or S at 0

  abbrev v : ℕ
  v = (1 * 2 ^ k) % 4294967296

  here : get_or (set S at (bit_or w v)) at 0 ≡ bit_or w v
  here = get_or-set_same S at (bit_or w v) 0 l

  pub sets_bit : Sets S base c (set S at (bit_or w v))
  unfolding On
  sets_bit =
      record {
        long = length-set S at (bit_or w v);
        on =
            let e = or_digit w v k in
            let f = ap (λ (x : ℕ). digit x k) (shifted k (mod-lt c (omega arith))) ∙ own_digit k in
            let m : w / 2 ^ k % 2 < 2 = mod-lt (w / 2 ^ k) (omega arith) in
            rw here (omega arith);
        keeps = λ b d h. by b d h (ℕ_discrete (b + d / 32) at);
        other = λ i n. get_or-set_other S at i (bit_or w v) 0 n;
      }
    where
      by : (b d : ℕ) → digit (get_or S (b + d / 32) 0) (d % 32) ≡ 1 → Dec (b + d / 32 ≡ at) → digit (get_or (set S at (bit_or w v)) (b + d / 32) 0) (d % 32) ≡ 1
      by b d h (yes e) = rw (e, here) (digit_or w v (d % 32) (rw e at h))
      by b d h (no n) = rw (get_or-set_other S at (b + d / 32) (bit_or w v) 0 n) h

pub bit_told : (S : List ℕ) (base c : ℕ) → Tells (On S base c) (eqb (get_or S (base + c / 32) 0 / 2 ^ (c % 32) % 2) 1)
unfolding On
bit_told S base c = tells_eqb (digit (get_or S (base + c / 32) 0) (c % 32)) 1

pub on_same : (S S' : List ℕ) (base c : ℕ) → get_or S' (base + c / 32) 0 ≡ get_or S (base + c / 32) 0 → On S base c → On S' base c
unfolding On
on_same S S' base c e x = rw e x
