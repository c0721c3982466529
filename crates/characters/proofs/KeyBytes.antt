-- Laws of the bytes of a bare key, as the tests and the loop over them meet them.
use mathlib.Core.Path.{◌≡◌, refl}
use mathlib.Core.Bool.{Bool, true, false}
use Prim.Native.Nat.{ℕ, ◌≤◌, ◌<◌}
use native.Mathlib.Omega.{arith}
use lib.Dec.{leb, eqb}
use borrow.Author.Rules.{rules}
use borrow.Author.Tests.{eqb-true, eqb-false, le-leb, lt-leb}
use Rattle.exact.specs.Class.{or, is}
use Rattle.language.specs.Strings.{keybyte}
use Rattle.characters.specs.Plains.{other}
use Rattle.characters.proofs.Plains.{passing_first, pass_whole, pass_stop, pass_more}

-- ---- a byte of a bare key

module _ (b : ℕ) where
  dash : b ≡ 45 → true ≡ is keybyte b
  dash e = rw e refl

  under : b ≡ 95 → true ≡ is keybyte b
  under e = rw e refl

  pub key_below : b < 48 → eqb b 45 ≡ is keybyte b
  key_below h = by (eqb b 45) refl
    where
      by : (x : Bool) → eqb b 45 ≡ x → x ≡ is keybyte b
      by true e = dash (eqb-true b 45 e)
      by false e =
          rw (lt-leb 97 b (omega arith), lt-leb 65 b (omega arith), lt-leb 48 b h, lt-leb 95 b (omega arith), other 45 b (eqb-false b 45 e)) refl

  pub key_digit : 48 ≤ b → b ≤ 57 → true ≡ is keybyte b
  key_digit h k = rw (lt-leb 97 b (omega arith), lt-leb 65 b (omega arith), le-leb 48 b h, le-leb b 57 k) refl

  pub key_between : 57 < b → b < 65 → false ≡ is keybyte b
  key_between h k = rw (lt-leb 97 b (omega arith), lt-leb 65 b k, le-leb 48 b (omega arith), lt-leb b 57 h, lt-leb 95 b (omega arith), other 45 b (λ e. omega arith)) refl

  pub key_upper : 65 ≤ b → b ≤ 90 → true ≡ is keybyte b
  key_upper h k = rw (lt-leb 97 b (omega arith), le-leb 65 b h, le-leb b 90 k) refl

  pub key_behind : 90 < b → b < 97 → eqb b 95 ≡ is keybyte b
  key_behind h k = by (eqb b 95) refl
    where
      by : (x : Bool) → eqb b 95 ≡ x → x ≡ is keybyte b
      by true e = under (eqb-true b 95 e)
      by false e =
          rw (lt-leb 97 b k, le-leb 65 b (omega arith), lt-leb b 90 h, le-leb 48 b (omega arith), lt-leb b 57 (omega arith), other 95 b (eqb-false b 95 e), other 45 b (λ z. omega arith)) refl

  pub key_lower : 97 ≤ b → leb b 122 ≡ is keybyte b
  key_lower h =
      rw (le-leb 97 b h, le-leb 65 b (omega arith), lt-leb b 90 (omega arith), le-leb 48 b (omega arith), lt-leb b 57 (omega arith), other 95 b (λ e. omega arith), other 45 b (λ e. omega arith)) (both (leb b 122))
    where
      both : (x : Bool) → x ≡ or x false
      both true = refl
      both false = refl

pub ruleset keybytes = (key_lower, key_below, key_digit, key_between, key_upper, key_behind, rules)

-- ---- a run of them

pub key_ends : is keybyte 256 ≡ false
key_ends = refl

pub ruleset keyruns = (passing_first, pass_whole, pass_stop, pass_more, key_ends, rules)
