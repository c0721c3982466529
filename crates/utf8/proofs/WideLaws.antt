-- The allowed characters from 128 on as a class of numbers; and the machine's table, read as one over numbers, ends a character at these and at no others.
use Rattle.std.specs.Prelude.{◌≡◌, List, [], ◌∷◌, ◌⊎◌, Bool, leb}
use Rattle.std.proofs.Math.Path.{refl}
use Rattle.std.proofs.Common.{◌∙◌, inl, inr, leb-true}
use Rattle.std.proofs.Math.Bool.{true, false}
use Prim.Native.Nat.{ℕ, zero, suc, ◌+◌, ◌*◌, ◌%◌, ◌≤◌, ◌<◌}
use native.Mathlib.Omega.{arith}
use Rattle.std.proofs.Math.Decide.{dec_le}
use Rattle.exact.specs.Class.{Class, ◌to◌, and, or, clash, within, is, and_of, or_of, and_true, or_left, or_right, leb_yes, range_of, sub, inside}
use Rattle.language.specs.Characters.{wide}
use Rattle.utf8.specs.Utf8.{Arrow, leads, follow, full}
use Rattle.utf8.specs.OverNumbers.{iff, within_yes, image, sharp, block, spread, push, sharp_block, sharp_spread, sharp_rows, through, says, says_yes, lacks, lacks_no, agrees, agreed}
use Rattle.utf8.specs.Wide.{after_three}

-- THE TABLE: after two bytes, three, and four. The bytes of v make the number v and what the marks of the bytes make
module _ (plain : Class) where
  -- an overlong form is none
  overlong_three : says lacks (after_three plain) 917504 919551 ≡ true
  unfolding push spread block image through says
  overlong_three = refl

  module _ (v : ℕ) where
    pub three_long : v ≤ 2047 → full (follow (after_three plain) (917504 + v)) ≡ false
    three_long h = lacks_no (follow (after_three plain) (917504 + v)) (says_yes (917504 + v) lacks (after_three plain) 917504 919551 overlong_three (omega arith) (omega arith))
