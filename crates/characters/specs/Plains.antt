-- Runs of bytes of a class, passed at once, which are as many steps (`Runs`): the plain bytes of a string, the bytes of a bare key, and digits. Assumes nothing.
use Rattle.std.specs.Prelude.{◌≡◌, refl, List, [], ◌∷◌, false, ℕ, ◌+◌, ◌-◌, ◌≤◌, ◌<◌, length, leb}
use Rattle.std.proofs.Common.{arith, le-leb}
use Rattle.std.proofs.Math.Decide.{dec_le}
use Rattle.std.proofs.lemmas.Bool.{lt-leb}
use Rattle.exact.specs.Class.{Class, ◌to◌, and}
use Rattle.exact.specs.Place.{run_end}

-- the two quotes, and their plain bytes
pub data Quote : ℕ → Type 0 where
  double : Quote 34
  single : Quote 39

abbrev pub plain_of : ℕ → Class
plain_of q = (32 to (q - 1)) ∷ ((q + 1) to 91) ∷ (93 to 126) ∷ []

-- THE BYTES OF A CLASS from `at` on end at e
pub record RunTo (c : Class) (doc : List ℕ) (at e : ℕ) : Type 0 where
  pub is : e ≡ run_end c doc at
  pub from : at ≤ e
  pub inside : e ≤ length doc

-- they go on up to e at least
pub record Passing (c : Class) (doc : List ℕ) (at e : ℕ) : Type 0 where
  pub same : run_end c doc at ≡ run_end c doc e
  pub from : at ≤ e
  pub inside : e ≤ length doc

-- .. and end there, if those are fewer than 8
pub record Near (c : Class) (doc : List ℕ) (at e : ℕ) : Type 0 where
  pub passing : Passing c doc at e
  pub ending : e - at < 8 → RunTo c doc at e

-- a byte outside a range of one
pub other : (a b : ℕ) → (b ≡ a → ⊥) → and (leb a b) (leb b a) ≡ false
other a b n = by (dec_le a b)
  where
    by : Dec (a ≤ b) → and (leb a b) (leb b a) ≡ false
    by (yes h) = rw (le-leb a b h, lt-leb b a (omega (arith, n))) refl
    by (no h) = rw (lt-leb a b (omega arith)) refl
