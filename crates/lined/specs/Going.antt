-- THE WALK BESIDE THE ROWS: some are filled, and it stands at the last of them. Assumes nothing.
use Rattle.std.specs.Prelude.{◌≡◌, refl, List, length}
use Rattle.std.proofs.Common.{sym, subst, ◌∙◌, add-zero}
use Rattle.std.proofs.Math.Path.{ap}
use Prim.Native.Nat.{ℕ, zero, suc, ◌+◌, ◌-◌, ◌*◌, ◌≤◌, ◌<◌}
use native.Mathlib.Omega.{arith}
use Rattle.std.proofs.Math.ListN.{get_or, set}
use Rattle.notation.specs.Class.{only}
use Rattle.language.specs.Tree.{width}
use Rattle.language.specs.Answered.{limit}
use Rattle.language.specs.Lines.{tail, lines_of}
use Rattle.lined.specs.declared.Walk.{Walk}
use Rattle.lined.specs.Searching.{Clear, Next}
use Rattle.lined.specs.Walking.{Stands, At, stands_first, stands_on}
use Rattle.lined.specs.Lined.{first_byte, line_row, lined, length_lined, first_lined, Ranked}

-- r rows are filled, which take the first i words
pub record Going (doc T : List ℕ) (n : ℕ) (table : List ℕ) (i : ℕ) (w : Walk) : Type 0 where
  pub r : ℕ
  pub at : i ≡ width * r
  pub few : r ≤ n
  pub filled : table ≡ lined (lines_of doc) r T
  pub place : ℕ
  pub stands : Stands doc (first_byte T (n - 1)) place w
  pub ahead : r < n → place ≤ first_byte T r

-- no row at all
pub lined_none : (doc T : List ℕ) (n : ℕ) → n ≡ 0 → T ≡ lined (lines_of doc) n T
unfolding lined
lined_none doc T n e = ap (λ (i : ℕ). lined (lines_of doc) i T) (sym e)

module _ (doc T : List ℕ) (n : ℕ) (k : Ranked doc T n) where
  -- the last row's first byte comes last
  rise : (d r : ℕ) → r + d < n → first_byte T r ≤ first_byte T (r + d)
  rise zero r h = rw (add-zero r) (omega arith)
  rise (suc d) r h = let z : r + suc d ≡ suc (r + d) = omega arith in omega (arith, rise d r (omega arith), k.rising (r + d) (omega arith), ap (first_byte T) z)

  last_behind : (r : ℕ) → r < n → first_byte T r ≤ first_byte T (n - 1)
  last_behind r l = let z : r + (n - 1 - r) ≡ n - 1 = omega arith in omega (arith, rise (n - 1 - r) r (omega arith), ap (first_byte T) z)

  module _ (l : 0 < n) where
    pub last_room : width * (n - 1) + 1 < length T
    last_room = omega (arith, k.fits)

    pub last_inside : first_byte T (n - 1) ≤ length doc
    last_inside = k.inside (n - 1) (omega arith)

    pub last_small : first_byte T (n - 1) ≤ limit
    last_small = omega (arith, last_inside, k.small)

    pub going_first : (f t : ℕ) → Next (only 10) doc (first_byte T (n - 1)) 0 f → Clear tail doc 0 t → Going doc T n T 0 (record { line = 1; start = 0; feed = f; tail = t })
    unfolding lined
    going_first f t x y =
        record { r = 0; at = omega arith; few = omega arith; filled = refl; place = 0; stands = stands_first doc (first_byte T (n - 1)) f t k.small last_inside x y; ahead = λ _. omega arith }

  module _ (table : List ℕ) (i : ℕ) (w : Walk) (g : Going doc T n table i w) where
    pub going_long : length table ≡ length T
    going_long = ap length g.filled ∙ length_lined (lines_of doc) g.r T

    first_kept : get_or table (i + 1) 0 ≡ first_byte T g.r
    first_kept = ap (λ (j : ℕ). get_or table (j + 1) 0) g.at ∙ (ap (λ (s : List ℕ). first_byte s g.r) g.filled ∙ first_lined (lines_of doc) g.r g.r T)

    module _ (l : i < width * n) where
      left : g.r < n
      left = omega (arith, g.at)

      pub going_room : i + 8 < length table
      going_room = omega (arith, going_long, k.fits, g.at, left)

      pub going_small : get_or table (i + 1) 0 ≤ limit
      going_small = omega (arith, first_kept, k.inside g.r left, k.small)

      -- the walk may go on to the row's place
      pub going_stands : Stands doc (first_byte T (n - 1)) (get_or table (i + 1) 0) w
      going_stands =
          stands_on doc (first_byte T (n - 1)) g.place (get_or table (i + 1) 0) w g.stands (omega (arith, first_kept, g.ahead left)) (omega (arith, first_kept, last_behind g.r left))

      -- the row's words stored
      pub going_more : (v : Walk) → At doc (first_byte T (n - 1)) (get_or table (i + 1) 0) v
          → Going doc T n (set (set table (i + 7) v.line) (i + 8) (get_or table (i + 1) 0 + 1 - v.start)) (i + width) v
      unfolding lined
      going_more v a =
          let p = get_or table (i + 1) 0 in
          let z : line_row g.r v.line (p + 1 - v.start) table ≡ lined (lines_of doc) (suc g.r) T = rw (a.line, a.column, first_kept, g.filled) in
          record {
            r = suc g.r;
            at = omega (arith, g.at);
            few = omega (arith, left);
            filled = ap (λ (j : ℕ). set (set table (j + 7) v.line) (j + 8) (p + 1 - v.start)) g.at ∙ z;
            place = p;
            stands = a.stands;
            ahead = λ h. omega (arith, first_kept, k.rising g.r (omega arith));
          }

  pub going_next : (table : List ℕ) (r : ℕ) (w : Walk) → Going doc T n table (width * r) w → r < n → (v : Walk) → At doc (first_byte T (n - 1)) (get_or table (width * r + 1) 0) v
      → Going doc T n (set (set table (width * r + 7) v.line) (width * r + 8) (get_or table (width * r + 1) 0 + 1 - v.start)) (width * (r + 1)) v
  going_next table r w g l v a =
      let p = get_or table (width * r + 1) 0 in
      let z : width * r + width ≡ width * (r + 1) = omega arith in
      subst (λ (i : ℕ). Going doc T n (set (set table (width * r + 7) v.line) (width * r + 8) (p + 1 - v.start)) i v) z (going_more table (width * r) w g (omega arith) v a)

  pub going_done : (table : List ℕ) (i : ℕ) (w : Walk) → Going doc T n table i w → width * n ≤ i → table ≡ lined (lines_of doc) n T
  going_done table i w g l = g.filled ∙ ap (λ (j : ℕ). lined (lines_of doc) j T) (let z : g.r ≡ n = omega (arith, g.few, g.at) in z)
