-- The machine's state after a word of one byte to four is what its table says, read as one over numbers. Assumes nothing.
use Rattle.std.specs.Prelude.{◌≡◌, refl, List, [], ◌∷◌, ◌++◌, ◌⊎◌, Bool, true, false, ℕ, ◌+◌, ◌-◌, ◌*◌, ◌≤◌, min}
use Rattle.std.proofs.Common.{sym, ap, ◌∙◌, inl, inr, arith}
use Rattle.exact.specs.Class.{Class, ◌to◌, pick, clash, within, is, none, or_of, range_of, left, is_neither}
use Rattle.exact.specs.Run.{steps}
use Rattle.utf8.specs.Utf8.{At, Arrow, ◌to-be◌, leads, below, follow, live, full, Classes, next, start, done, dead}
use Rattle.utf8.specs.OverNumbers.{iff, within_yes, push, sharp_rows, pushed}
use Rattle.utf8.specs.Wide.{after_two, after_three, after_four, sharp_one, sharp_two, sharp_three}

-- BELOW 128 a class is what it is; from there on it has nothing
below_is : (c : Class) (b : ℕ) → b ≤ 127 → is (below c) b ≡ is c b
below_is [] b h = refl
below_is ((l to k) ∷ c) b h = rw (same, below_is c b h) refl
  where
    same : within (l to min k 127) b ≡ within (l to k) b
    same =
        iff
        (λ x. let r = range_of l (min k 127) b x in within_yes l k b (omega arith) (omega arith))
        (λ x. let r = range_of l k b x in within_yes l (min k 127) b (omega arith) (omega arith))

below_low : (c : Class) (b : ℕ) → is (below c) b ≡ true → b ≤ 127
below_low [] b e = absurd (clash e refl)
below_low ((l to k) ∷ c) b e = by (or_of (within (l to min k 127) b) (is (below c) b) e) (below_low c b)
  where
    by : (within (l to min k 127) b ≡ true) ⊎ (is (below c) b ≡ true) → (is (below c) b ≡ true → b ≤ 127) → b ≤ 127
    by (inl x) ih = let r = range_of l (min k 127) b x in omega arith
    by (inr x) ih = ih x

is_no : (c : Class) (b : ℕ) → (is c b ≡ true → ⊥) → is c b ≡ false
is_no c b h = by (is c b) refl
  where
    by : (x : Bool) → is c b ≡ x → x ≡ false
    by true e = absurd (h e)
    by false e = refl

-- one row at the end of a table
row_first : (rows : List Arrow) (c : Class) (b : ℕ) → is (Classes rows) b ≡ false → follow (rows ++ (c to-be done) ∷ []) b ≡ pick (is c b) done dead
row_first [] c b e = refl
row_first ((d to-be σ) ∷ rows) c b e =
    let n : is d b ≡ false = is_no d b (λ x. clash (left d (Classes rows) b x) e) in
    rw n (row_first rows c b (is_neither d (Classes rows) b e))

row_last : (rows : List Arrow) (c : Class) (b : ℕ) → is c b ≡ false → follow (rows ++ (c to-be done) ∷ []) b ≡ follow rows b
row_last [] c b e = rw e refl
row_last ((d to-be σ) ∷ rows) c b e = ap (pick (is d b) σ) (row_last rows c b e)

module _ (plain : Class) where
  pub low_byte : (b : ℕ) → b ≤ 127 → next plain start b ≡ pick (is plain b) done dead
  low_byte b h =
      row_first leads (below plain) b (is_no (Classes leads) b (λ x. none (Classes leads) ((0 to 127) ∷ []) b refl x (rw (within_yes 0 127 b (omega arith) h) refl)))
      ∙ ap (λ x. pick x done dead) (below_is plain b h)

  pub lead_byte : (b : ℕ) → 128 ≤ b → next plain start b ≡ follow leads b
  lead_byte b h = row_last leads (below plain) b (is_no (below plain) b (λ x. omega (arith, below_low plain b x)))

  abbrev pub to_state : List ℕ → At
  to_state w = steps (next plain) full live start w

  -- THE STATE after two, three and four bytes
  on_tail : (n b : ℕ) (rows : List Arrow) → sharp_rows plain rows ≡ true → 128 ≤ b → b ≤ 191 → next plain (follow rows n) b ≡ follow (push plain rows) (64 * n + (b - 128))
  on_tail n b rows e l h =
      let f : b ≡ 128 + (b - 128) = omega arith in
      ap (next plain (follow rows n)) f ∙ sym (pushed n (b - 128) (omega arith) plain rows e)

  pub state_two : (a b : ℕ) → 128 ≤ a → 128 ≤ b → b ≤ 191 → to_state (a ∷ b ∷ []) ≡ follow (after_two plain) (64 * a + (b - 128))
  state_two a b h l k = ap (λ σ. next plain σ b) (lead_byte a h) ∙ on_tail a b leads (sharp_one plain) l k

  pub state_three : (a b c : ℕ) → 128 ≤ a → 128 ≤ b → b ≤ 191 → 128 ≤ c → c ≤ 191
      → to_state (a ∷ b ∷ c ∷ []) ≡ follow (after_three plain) (64 * (64 * a + (b - 128)) + (c - 128))
  state_three a b c h l k l' k' = ap (λ σ. next plain σ c) (state_two a b h l k) ∙ on_tail (64 * a + (b - 128)) c (after_two plain) (sharp_two plain) l' k'

  pub state_four : (a b c d : ℕ) → 128 ≤ a → 128 ≤ b → b ≤ 191 → 128 ≤ c → c ≤ 191 → 128 ≤ d → d ≤ 191
      → to_state (a ∷ b ∷ c ∷ d ∷ []) ≡ follow (after_four plain) (64 * (64 * (64 * a + (b - 128)) + (c - 128)) + (d - 128))
  state_four a b c d h l k l' k' l'' k'' =
      ap (λ σ. next plain σ d) (state_three a b c h l k l' k')
      ∙ on_tail (64 * (64 * a + (b - 128)) + (c - 128)) d (after_three plain) (sharp_three plain) l'' k''
