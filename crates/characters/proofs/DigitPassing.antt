-- Laws of a run of digits, as the tests of the loop over it say them. Assumes nothing.
use mathlib.Core.Path.{◌≡◌, refl, sym}
use mathlib.Core.List.{List}
use mathlib.Core.Bool.{true, false}
use Prim.Native.Nat.{ℕ, ◌+◌, ◌≤◌, ◌<◌}
use native.Mathlib.Omega.{arith}
use lib.ListN.{length, get_or}
use borrow.Author.Rules.{rules}
use borrow.Author.Tests.{le-leb, lt-leb}
use Rattle.exact.specs.Class.{is}
use Rattle.language.specs.Scalars.{digit}
use Rattle.characters.specs.Plains.{RunTo, Passing}
use Rattle.characters.proofs.Plains.{passing_first, pass_whole, pass_stop, pass_more}

-- THE CLASS
digit_yes : (b : ℕ) → 48 ≤ b → b ≤ 57 → is digit b ≡ true
digit_yes b h k = simp (le-leb 48 b h, le-leb b 57 k)

digit_low : (b : ℕ) → b < 48 → is digit b ≡ false
digit_low b h = simp (lt-leb 48 b h)

digit_high : (b : ℕ) → 57 < b → is digit b ≡ false
digit_high b h = simp (le-leb 48 b (omega arith), lt-leb b 57 h)

-- ONE BYTE: the loop over a run stands at e
module _ (doc : List ℕ) (at e : ℕ) (p : Passing digit doc at e) (l : e < length doc) where
  pub digits_more : 48 ≤ get_or doc e 0 → get_or doc e 0 ≤ 57 → Passing digit doc at (e + 1)
  digits_more h k = pass_more digit doc at e p l true (sym (digit_yes (get_or doc e 0) h k)) refl

  pub digits_low : get_or doc e 0 < 48 → RunTo digit doc at e
  digits_low h = pass_stop digit doc at e p l false (sym (digit_low (get_or doc e 0) h)) refl refl

  pub digits_high : 57 < get_or doc e 0 → RunTo digit doc at e
  digits_high h = pass_stop digit doc at e p l false (sym (digit_high (get_or doc e 0) h)) refl refl

pub ruleset passing = (passing_first, pass_whole, digits_more, digits_low, digits_high, rules)
