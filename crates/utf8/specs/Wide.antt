-- The allowed characters from 128 on as a class of numbers; and the machine's table, read as one over numbers, ends a character at these and at no others.
-- Assumes nothing.
use Rattle.std.specs.Prelude.{◌≡◌, List, [], ◌∷◌, ◌⊎◌, Bool, leb}
use Rattle.std.proofs.Math.Path.{refl}
use Rattle.std.proofs.Common.{◌∙◌, inl, inr, leb-true}
use Rattle.std.proofs.Math.Bool.{true, false}
use Prim.Native.Nat.{ℕ, zero, suc, ◌+◌, ◌*◌, ◌%◌, ◌≤◌, ◌<◌}
use native.Mathlib.Omega.{arith}
use Rattle.std.proofs.Math.Decide.{dec_le}
use Rattle.exact.specs.Class.{Class, ◌to◌, and, or, clash, within, is, and_of, or_of, and_true, or_left, or_right, leb_yes, range_of, sub, inside}
use Rattle.language.specs.Characters.{wide}
use Rattle.utf8.specs.Utf8.{Arrow, leads, follow, full}
use Rattle.utf8.specs.OverNumbers.{iff, within_yes, image, sharp, block, spread, push, sharp_block, sharp_spread, sharp_rows, through, says, says_yes, lacks, lacks_no, agrees, agreed}

-- k planes from the plane p on, less each plane's last two
unfoldable pub planes : ℕ → ℕ → Class
planes zero p = []
planes (suc k) p = (65536 * p to 65536 * p + 65533) ∷ planes k (suc p)

unfoldable pub wide_class : Class
wide_class = (0xA0 to 0xD7FF) ∷ (0xE000 to 0xFDCF) ∷ (0xFDF0 to 0xFFFD) ∷ planes 16 1

covered : sub wide_class ((0xA0 to 0x10FFFF) ∷ []) ≡ true
unfolding wide_class planes
covered = refl

module _ (v : ℕ) where
  planes_are : (k p : ℕ) → is (planes k p) v ≡ true → (65536 * p ≤ v) × (v < 65536 * (p + k)) × (v % 65536 ≤ 65533)
  unfolding planes
  planes_are zero p e = absurd (clash e refl)
  planes_are (suc k) p e = by (or_of (within (65536 * p to 65536 * p + 65533) v) (is (planes k (suc p)) v) e) (planes_are k (suc p))
    where
      by : (within (65536 * p to 65536 * p + 65533) v ≡ true) ⊎ (is (planes k (suc p)) v ≡ true)
          → (is (planes k (suc p)) v ≡ true → (65536 * suc p ≤ v) × (v < 65536 * (suc p + k)) × (v % 65536 ≤ 65533))
          → (65536 * p ≤ v) × (v < 65536 * (p + suc k)) × (v % 65536 ≤ 65533)
      by (inl x) ih = let z = range_of (65536 * p) (65536 * p + 65533) v x in (omega arith, omega arith, omega arith)
      by (inr x) ih = let z = ih x in (omega arith, omega arith, z.2)

  in_planes : (k p : ℕ) → 65536 * p ≤ v → v < 65536 * (p + k) → v % 65536 ≤ 65533 → is (planes k p) v ≡ true
  unfolding planes
  in_planes zero p l h m = absurd (omega arith)
  in_planes (suc k) p l h m = by (dec_le v (65536 * p + 65533)) (λ x. in_planes k (suc p) (omega arith) (omega arith) m)
    where
      by : Dec (v ≤ 65536 * p + 65533) → ((v ≤ 65536 * p + 65533 → ⊥) → is (planes k (suc p)) v ≡ true)
          → or (within (65536 * p to 65536 * p + 65533) v) (is (planes k (suc p)) v) ≡ true
      by (yes x) ih = or_left (is (planes k (suc p)) v) (within_yes (65536 * p) (65536 * p + 65533) v l x)
      by (no x) ih = or_right (within (65536 * p to 65536 * p + 65533) v) (ih x)

  planes_wide : is (planes 16 1) v ≡ and (is ((0x10000 to 0x10FFFF) ∷ []) v) (leb (v % 0x10000) 0xFFFD)
  planes_wide = iff there back
    where
      there : is (planes 16 1) v ≡ true → and (is ((0x10000 to 0x10FFFF) ∷ []) v) (leb (v % 0x10000) 0xFFFD) ≡ true
      there e =
          let x = planes_are 16 1 e in
          and_true (or_left false (within_yes 0x10000 0x10FFFF v (omega arith) (omega arith))) (leb_yes (v % 0x10000) 0xFFFD x.2)

      back : and (is ((0x10000 to 0x10FFFF) ∷ []) v) (leb (v % 0x10000) 0xFFFD) ≡ true → is (planes 16 1) v ≡ true
      back e =
          let x = and_of (is ((0x10000 to 0x10FFFF) ∷ []) v) (leb (v % 0x10000) 0xFFFD) e in
          let y = leb-true (v % 0x10000) 0xFFFD x.1 in
          by (or_of (within (0x10000 to 0x10FFFF) v) false x.0) y
        where
          by : (within (0x10000 to 0x10FFFF) v ≡ true) ⊎ (false ≡ true) → v % 0x10000 ≤ 0xFFFD → is (planes 16 1) v ≡ true
          by (inl z) y = let r = range_of 0x10000 0x10FFFF v z in in_planes 16 1 (omega arith) (omega arith) y
          by (inr z) y = absurd (clash z refl)

  -- THE CLASS
  pub wide_is : is wide_class v ≡ wide v
  unfolding wide_class
  wide_is = rw (← planes_wide) (by (within (0xA0 to 0xD7FF) v) (within (0xE000 to 0xFDCF) v) (within (0xFDF0 to 0xFFFD) v) (is (planes 16 1) v))
    where
      by : (a b c d : Bool) → or a (or b (or c d)) ≡ or (or a (or b (or c false))) d
      by true b c d = refl
      by false true c d = refl
      by false false true d = refl
      by false false false d = refl

  pub wide_least : wide v ≡ true → (0xA0 ≤ v) × (v ≤ 0x10FFFF)
  wide_least e = by (or_of (within (0xA0 to 0x10FFFF) v) false (inside wide_class ((0xA0 to 0x10FFFF) ∷ []) v covered (wide_is ∙ e)))
    where
      by : (within (0xA0 to 0x10FFFF) v ≡ true) ⊎ (false ≡ true) → (0xA0 ≤ v) × (v ≤ 0x10FFFF)
      by (inl x) = range_of 0xA0 0x10FFFF v x
      by (inr x) = absurd (clash x refl)

-- THE TABLE: after two bytes, three, and four. The bytes of v make the number v and what the marks of the bytes make
module _ (plain : Class) where
  abbrev pub after_two : List Arrow
  after_two = push plain leads

  abbrev pub after_three : List Arrow
  after_three = push plain after_two

  abbrev pub after_four : List Arrow
  after_four = push plain after_three

  pub sharp_one : sharp_rows plain leads ≡ true
  unfolding sharp_rows sharp_spread sharp_block sharp
  sharp_one = refl

  pub sharp_two : sharp_rows plain after_two ≡ true
  unfolding sharp_rows sharp_spread sharp_block sharp push spread block image
  sharp_two = refl

  pub sharp_three : sharp_rows plain after_three ≡ true
  unfolding sharp_rows sharp_spread sharp_block sharp push spread block image
  sharp_three = refl

  ends_two : agrees after_two 12288 128 wide_class 2047 ≡ true
  unfolding push spread block image through says agrees wide_class planes
  ends_two = refl

  ends_three : agrees after_three 917504 2048 wide_class 65535 ≡ true
  unfolding push spread block image through says agrees wide_class planes
  ends_three = refl

  ends_four : agrees after_four 62914560 65536 wide_class 1310719 ≡ true
  unfolding push spread block image through says agrees wide_class planes
  ends_four = refl

  overlong_four : says lacks after_four 62914560 62980095 ≡ true
  unfolding push spread block image through says
  overlong_four = refl

  module _ (v : ℕ) where
    pub two_wide : 128 ≤ v → v ≤ 2047 → full (follow after_two (12288 + v)) ≡ wide v
    two_wide l h = agreed after_two 12288 2047 v h wide_class 128 ends_two l ∙ wide_is v

    pub three_wide : 2048 ≤ v → v ≤ 65535 → full (follow after_three (917504 + v)) ≡ wide v
    three_wide l h = agreed after_three 917504 65535 v h wide_class 2048 ends_three l ∙ wide_is v

    pub four_wide : 65536 ≤ v → v ≤ 1310719 → full (follow after_four (62914560 + v)) ≡ wide v
    four_wide l h = agreed after_four 62914560 1310719 v h wide_class 65536 ends_four l ∙ wide_is v

    pub four_long : v ≤ 65535 → full (follow after_four (62914560 + v)) ≡ false
    four_long h = lacks_no (follow after_four (62914560 + v)) (says_yes (62914560 + v) lacks after_four 62914560 62980095 overlong_four (omega arith) (omega arith))
