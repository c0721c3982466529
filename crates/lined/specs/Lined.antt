-- THE ROWS OF A TABLE WITH THEIR LINES AND COLUMNS (02, Ticket 8), and what is asked of the rows for a walk beside them. Assumes nothing.
use Rattle.std.specs.Prelude.{◌≡◌}
use Rattle.std.proofs.Math.Path.{refl, ap}
use Rattle.std.proofs.Common.{◌∙◌}
use mathlib.Core.List.{List, [], ◌∷◌, ◌++◌}
use Prim.Native.Nat.{ℕ, zero, suc, ◌+◌, ◌*◌, ◌≤◌, ◌<◌}
use native.Mathlib.Omega.{arith}
use Rattle.std.proofs.Math.ListN.{length, get_or, set, length-set, get_or-append}
use Rattle.std.proofs.Math.Seq.{get_or-set_other, get_or-append-add, set-append_left}
use Rattle.language.specs.Tree.{Positions, width}
use Rattle.language.specs.Answered.{limit}

-- the first byte of a row's span
abbrev pub first_byte : List ℕ → ℕ → ℕ
first_byte T r = get_or T (width * r + 1) 0

-- a row's line and column stored
abbrev pub line_row : ℕ → ℕ → ℕ → List ℕ → List ℕ
line_row r l c T = set (set T (width * r + 7) l) (width * r + 8) c

-- so many rows from the first on
unfoldable pub lined : Positions → ℕ → List ℕ → List ℕ
lined L zero T = T
lined L (suc r) T = line_row r (L.line (first_byte T r)) (L.column (first_byte T r)) (lined L r T)

-- n rows of a document within the limit, in the order of their first bytes
pub record Ranked (doc T : List ℕ) (n : ℕ) : Type 0 where
  pub small : length doc ≤ limit
  pub fits : width * n ≤ length T
  pub inside : (r : ℕ) → r < n → first_byte T r ≤ length doc
  pub rising : (r : ℕ) → suc r < n → first_byte T r ≤ first_byte T (suc r)

module _ (L : Positions) where
  pub length_lined : (r : ℕ) (T : List ℕ) → length (lined L r T) ≡ length T
  unfolding lined
  length_lined zero T = refl
  length_lined (suc r) T = simp length-set (length_lined r T)

  -- the first bytes stay
  pub first_lined : (r k : ℕ) (T : List ℕ) → first_byte (lined L r T) k ≡ first_byte T k
  unfolding lined
  first_lined zero k T = refl
  first_lined (suc r) k T =
      let l = L.line (first_byte T r) in
      let c = L.column (first_byte T r) in
      get_or-set_other (set (lined L r T) (width * r + 7) l) (width * r + 8) (width * k + 1) c 0 (λ e. omega arith)
      ∙ (get_or-set_other (lined L r T) (width * r + 7) (width * k + 1) l 0 (λ e. omega arith) ∙ first_lined r k T)

  -- rows behind one another
  set_behind : (A B : List ℕ) (i j v : ℕ) → length A + j ≡ i → set (A ++ B) i v ≡ A ++ set B j v
  set_behind [] B i j v h = ap (λ (k : ℕ). set B k v) (omega arith)
  set_behind (x ∷ A) B zero j v h = absurd (omega arith)
  set_behind (x ∷ A) B (suc i) j v h = ap (λ (s : List ℕ). x ∷ s) (set_behind A B i j v (omega arith))

  lined_front : (A B : List ℕ) (a : ℕ) → width * a ≤ length A → lined L a (A ++ B) ≡ lined L a A ++ B
  unfolding lined
  lined_front A B zero h = refl
  lined_front A B (suc a) h =
      let e = get_or-append A B 0 (width * a + 1) (omega arith) in
      let l = L.line (first_byte A a) in
      let c = L.column (first_byte A a) in
      let n = length_lined a A in
      rw e
      (ap (line_row a l c) (lined_front A B a (omega arith))
      ∙ (ap (λ (s : List ℕ). set s (width * a + 8) c) (set-append_left (lined L a A) B (width * a + 7) l (omega arith))
      ∙ set-append_left (set (lined L a A) (width * a + 7) l) B (width * a + 8) c (simp length-set (omega arith))))

  pub lined_append : (A B : List ℕ) (a b n : ℕ) → length A ≡ width * a → a + b ≡ n → lined L n (A ++ B) ≡ lined L a A ++ lined L b B
  unfolding lined
  lined_append A B a zero n h k = ap (λ (i : ℕ). lined L i (A ++ B)) (let z : n ≡ a = omega arith in z) ∙ lined_front A B a (omega arith)
  lined_append A B a (suc b) zero h k = absurd (omega arith)
  lined_append A B a (suc b) (suc n) h k =
      let e : first_byte (A ++ B) n ≡ first_byte B b =
      ap (λ (i : ℕ). get_or (A ++ B) i 0) (let z : width * n + 1 ≡ length A + (width * b + 1) = omega arith in z) ∙ get_or-append-add A B (width * b + 1) 0 in
      let l = L.line (first_byte B b) in
      let c = L.column (first_byte B b) in
      let m = length_lined a A in
      rw e
      (ap (line_row n l c) (lined_append A B a b n h (omega arith))
      ∙ (ap (λ (s : List ℕ). set s (width * n + 8) c) (set_behind (lined L a A) (lined L b B) (width * n + 7) (width * b + 7) l (omega arith))
      ∙ set_behind (lined L a A) (set (lined L b B) (width * b + 7) l) (width * n + 8) (width * b + 8) c (omega arith)))
