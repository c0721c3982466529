-- A character by its bytes' ranges and its states: laws as `search` takes them. Assumes nothing.
use mathlib.Core.Path.{◌≡◌, refl}
use mathlib.Core.List.{List}
use Prim.Native.Nat.{ℕ, ◌+◌, ◌≤◌, ◌<◌}
use native.Mathlib.Omega.{arith}
use lib.ListN.{get_or}
use borrow.Author.Rules.{rules}
use Rattle.std.specs.declared.option.Option.{Option}
use Rattle.std.specs.declared.option.Option.TheVariants.{Some}
use Rattle.std.specs.declared.result.Result.TheVariants.{Ok}
use Rattle.utf8.specs.Utf8.{start, one_more, two_more, after_c2, after_e0, after_ed, after_ef, after_ef_b7, after_f0, after_f1, after_f4, plane_end, last}
use Rattle.utf8.specs.OverNumbers.{says, through}
use Rattle.characters.specs.Reads.{WideAt}
use Rattle.characters.specs.Rest.{ByteAt, Within, Rest, Planed, within_there, rest_none, rest_whole, rest_here, rest_then, rest_ends, rest_on, rest_by, rest_sides, planed_rest, planes_f0, planes_f1, planes_f4}

module _ (doc : List ℕ) (i : ℕ) (r : Option ℕ) (w : Within doc i 128 191 r) where
  pub one_here : Rest doc i one_more r
  unfolding says through
  one_here = rest_here one_more 128 191 refl refl doc i r w

  pub two_then : (n : ℕ) → r ≡ Some n → (q : Option ℕ) → Rest doc n one_more q → Rest doc i two_more q
  unfolding says through
  two_then n e q z = rest_then two_more one_more 128 191 refl refl refl doc i r w n e q z

pub last_here : (doc : List ℕ) (i : ℕ) (r : Option ℕ) → Within doc i 128 189 r → Rest doc i last r
unfolding says through
last_here doc i r w = rest_here last 128 189 refl refl doc i r w

module _ (doc : List ℕ) (i b : ℕ) (e : ByteAt doc i b) where
  pub b7_low : 128 ≤ b → b < 144 → Rest doc i after_ef_b7 (Some (i + 1))
  unfolding says through
  b7_low = rest_ends after_ef_b7 128 143 refl refl doc i b e

  pub b7_high : 176 ≤ b → b < 192 → Rest doc i after_ef_b7 (Some (i + 1))
  unfolding says through
  b7_high = rest_ends after_ef_b7 176 191 refl refl doc i b e

  module _ (q : Option ℕ) where
    pub ef_b7 : b ≡ 183 → Rest doc (i + 1) after_ef_b7 q → Rest doc i after_ef q
    unfolding says through
    ef_b7 x z = rest_by after_ef after_ef_b7 183 refl refl refl doc i b e q z x

    pub ef_last : b ≡ 191 → Rest doc (i + 1) last q → Rest doc i after_ef q
    unfolding says through
    ef_last x z = rest_by after_ef last 191 refl refl refl doc i b e q z x

    pub end_last : b ≡ 191 → Rest doc (i + 1) last q → Rest doc i plane_end q
    unfolding says through
    end_last x z = rest_by plane_end last 191 refl refl refl doc i b e q z x

    pub ef_one : 128 ≤ b → b < 191 → (b ≡ 183 → ⊥) → Rest doc (i + 1) one_more q → Rest doc i after_ef q
    unfolding says through
    ef_one l h n z = rest_sides after_ef one_more 128 183 190 refl refl refl refl doc i b e q z l h n

    pub end_one : 128 ≤ b → b < 191 → Rest doc (i + 1) one_more q → Rest doc i plane_end q
    unfolding says through
    end_one l h z = rest_on plane_end one_more 128 190 refl refl refl doc i b e q z l h

    -- the first byte of a character
    pub start_one : 194 ≤ b → (b ≡ 194 → ⊥) → b < 224 → Rest doc (i + 1) one_more q → Rest doc i start q
    unfolding says through
    start_one l n h z = rest_on start one_more 195 223 refl refl refl doc i b e q z (omega arith) h

    pub start_two : 224 ≤ b → (b ≡ 224 → ⊥) → b < 237 → Rest doc (i + 1) two_more q → Rest doc i start q
    unfolding says through
    start_two l n h z = rest_on start two_more 225 236 refl refl refl doc i b e q z (omega arith) h

    pub start_ee : b ≡ 238 → Rest doc (i + 1) two_more q → Rest doc i start q
    unfolding says through
    start_ee x z = rest_by start two_more 238 refl refl refl doc i b e q z x

    pub start_c2 : b ≡ 194 → Within doc (i + 1) 160 191 q → Rest doc i start q
    unfolding says through
    start_c2 x w = rest_by start after_c2 194 refl refl refl doc i b e q (rest_here after_c2 160 191 refl refl doc (i + 1) q w) x

    pub start_ef : b ≡ 239 → Rest doc (i + 1) after_ef q → Rest doc i start q
    unfolding says through
    start_ef x z = rest_by start after_ef 239 refl refl refl doc i b e q z x

    pub start_f0 : b ≡ 240 → Planed doc (i + 1) 144 191 q → Rest doc i start q
    unfolding says through
    start_f0 x z = rest_by start after_f0 240 refl refl refl doc i b e q (planed_rest after_f0 144 191 planes_f0 doc (i + 1) q z) x

    pub start_f1 : 240 ≤ b → (b ≡ 240 → ⊥) → b < 244 → Planed doc (i + 1) 128 191 q → Rest doc i start q
    unfolding says through
    start_f1 l n h z = rest_on start after_f1 241 243 refl refl refl doc i b e q (planed_rest after_f1 128 191 planes_f1 doc (i + 1) q z) (omega arith) h

    pub start_f4 : b ≡ 244 → Planed doc (i + 1) 128 143 q → Rest doc i start q
    unfolding says through
    start_f4 x z = rest_by start after_f4 244 refl refl refl doc i b e q (planed_rest after_f4 128 143 planes_f4 doc (i + 1) q z) x

    module _ (r : Option ℕ) (n : ℕ) (s : r ≡ Some n) (z : Rest doc n one_more q) where
      pub start_e0 : b ≡ 224 → Within doc (i + 1) 160 191 r → Rest doc i start q
      unfolding says through
      start_e0 x w = rest_by start after_e0 224 refl refl refl doc i b e q (rest_then after_e0 one_more 160 191 refl refl refl doc (i + 1) r w n s q z) x

      pub start_ed : b ≡ 237 → Within doc (i + 1) 128 159 r → Rest doc i start q
      unfolding says through
      start_ed x w = rest_by start after_ed 237 refl refl refl doc i b e q (rest_then after_ed one_more 128 159 refl refl refl doc (i + 1) r w n s q z) x

pub wide_whole : (doc : List ℕ) (at : ℕ) (r : Option ℕ) (n : ℕ) → r ≡ Some n → Rest doc at start r → 128 ≤ get_or doc at 0 → WideAt doc at (Ok n)
unfolding WideAt
wide_whole doc at r n e q h = rest_whole doc at r n e q h

pub ruleset resting = (within_there, rest_none, rules)
