-- THE LINE AND THE COLUMN of a place, from where its line begins. Assumes nothing.
use Rattle.std.specs.Prelude.{◌≡◌, Bool, true, false, length, get_or, take}
use Rattle.std.proofs.Math.Path.{refl, ap}
use Rattle.std.proofs.Common.{sym, ◌∙◌, add-one, take-suc}
use mathlib.Core.List.{List, [], ◌∷◌, ◌++◌, append_assoc, append-nil}
use Prim.Native.Nat.{ℕ, suc, ◌+◌, ◌-◌, ◌≤◌, ◌<◌}
use native.Mathlib.Omega.{arith}
use Rattle.std.proofs.Math.Seq.{slice, length-slice}
use Rattle.notation.specs.Class.{pick, is, only}
use Rattle.language.specs.Lines.{characters, tail, last_line, line_of, column_of}
use Rattle.lined.specs.Counted.{hit, counted, feeds_counted, characters_counted, characters_append}
use Rattle.lined.specs.Between.{between, take_cut}

-- a line begins at b: nothing of one stands before it
pub record Begins (doc : List ℕ) (b : ℕ) : Type 0 where
  pub is : last_line [] (take b doc) ≡ []

last_append : (l s t : List ℕ) → last_line l (s ++ t) ≡ last_line (last_line l s) t
unfolding last_line
last_append l [] t = refl
last_append l (b ∷ s) t = by (is (only 10) b) (last_append [] s t) (last_append (l ++ b ∷ []) s t)
  where
    by : (y : Bool) → last_line [] (s ++ t) ≡ last_line (last_line [] s) t → last_line (l ++ b ∷ []) (s ++ t) ≡ last_line (last_line (l ++ b ∷ []) s) t
        → pick y (last_line [] (s ++ t)) (last_line (l ++ b ∷ []) (s ++ t)) ≡ last_line (pick y (last_line [] s) (last_line (l ++ b ∷ []) s)) t
    by true h k = h
    by false h k = k

-- without an LF all of it stays in the line
last_none : (l s : List ℕ) → counted (only 10) s ≡ 0 → last_line l s ≡ l ++ s
unfolding last_line counted hit
last_none l [] h = sym (append-nil l)
last_none l (b ∷ s) h = by (is (only 10) b) (last_none (l ++ b ∷ []) s) h
  where
    by : (y : Bool) → (counted (only 10) s ≡ 0 → last_line (l ++ b ∷ []) s ≡ (l ++ b ∷ []) ++ s) → pick y 1 0 + counted (only 10) s ≡ 0 → pick y (last_line [] s) (last_line (l ++ b ∷ []) s) ≡ l ++ b ∷ s
    by true f k = absurd (omega arith)
    by false f k = f (omega arith) ∙ append_assoc l (b ∷ []) s

last_feed : (l : List ℕ) (b : ℕ) → hit (only 10) b ≡ 1 → last_line l (b ∷ []) ≡ []
unfolding last_line hit
last_feed l b h = by (is (only 10) b) h
  where
    by : (y : Bool) → ◌≡◌ {A = ℕ} (pick y 1 0) 1 → pick y [] (l ++ b ∷ []) ≡ []
    by true k = refl
    by false k = absurd (omega arith)

module _ (doc : List ℕ) where
  -- the document's begin, and the place behind an LF
  pub begins_first : Begins doc 0
  unfolding last_line
  begins_first = record { is = refl }

  pub begins_behind : (i : ℕ) → i < length doc → hit (only 10) (get_or doc i 0) ≡ 1 → Begins doc (i + 1)
  begins_behind i l h =
      record { is = rw (add-one i) (ap (last_line []) (take-suc doc i 0 l) ∙ (last_append [] (take i doc) (get_or doc i 0 ∷ []) ∙ last_feed (last_line [] (take i doc)) (get_or doc i 0) h)) }

  column_first : (b : ℕ) → Begins doc b → column_of doc b ≡ 1
  unfolding column_of characters
  column_first b g = ap (λ (s : List ℕ). suc (characters s)) g.is

  pub line_at : (p : ℕ) → line_of doc p ≡ 1 + between (only 10) doc 0 p
  unfolding line_of between
  line_at p = let h = feeds_counted (take p doc) in omega arith

  -- on one line the column goes on by the bytes between, but for the tails
  pub column_on : (p q : ℕ) → p ≤ q → q ≤ length doc → between (only 10) doc p q ≡ 0 → column_of doc q + between tail doc p q ≡ column_of doc p + (q - p)
  unfolding column_of between
  column_on p q h l z =
      let s = last_line [] (take p doc) in
      let e : last_line [] (take q doc) ≡ s ++ slice p q doc = ap (last_line []) (take_cut doc p q h) ∙ (last_append [] (take p doc) (slice p q doc) ∙ last_none s (slice p q doc) z) in
      let f : characters (last_line [] (take q doc)) ≡ characters (s ++ slice p q doc) = ap characters e in
      omega (arith, characters_append s (slice p q doc), characters_counted (slice p q doc), length-slice p q doc l)

  -- from where the line begins
  pub column_at : (b p : ℕ) → Begins doc b → b ≤ p → p ≤ length doc → between (only 10) doc b p ≡ 0 → b + column_of doc p + between tail doc b p ≡ p + 1
  column_at b p g h l z = omega (arith, column_on b p h l z, column_first b g)
