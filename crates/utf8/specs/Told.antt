-- The numbers 2 to 5 told apart, in the words of the paper: CHAR after the fact. Assumes nothing.
use Rattle.std.specs.Prelude.{◌≡◌, refl, List, Bool, true, false, ℕ, suc, ◌<◌, length, take}
use Rattle.exact.specs.Verdict.{Tail, Begins}
use Rattle.exact.specs.Class.{pick}
use Rattle.exact.specs.Decide.{Report, Correct, taken, syntax, deep, over, c_taken, c_syntax, c_deep, c_over}
use Rattle.utf8.specs.Allowed.{Allowed, bad_char, char_yes}

pub data Answer (W : Type 0) : Type 0 where
  given : W → Answer W
  refused_char : ℕ → Answer W
  refused_syntax : ℕ → Answer W
  refused_deep : ℕ → Answer W
  refused_end : ℕ → Answer W

-- what the answer says; `Begins Allowed`: begins a sequence of allowed characters
pub data Right {W : Type 0} (Document : ℕ → Tail W) (k : ℕ) (s : List ℕ) : Answer W → Type 0 where
  r_given : (w : W) → Document k s w → ((w' : W) → Document k s w' → w' ≡ w) → Right Document k s (given w)
  r_char : (p : ℕ) → p < length s → Begins (Document k) (take p s) → (Begins Allowed (take (suc p) s) → ⊥) → Right Document k s (refused_char p)
  r_syntax : (p : ℕ) → p < length s → Begins (Document k) (take p s) → ((j : ℕ) → Begins (Document j) (take (suc p) s) → ⊥) → Begins Allowed (take (suc p) s)
      → Right Document k s (refused_syntax p)
  r_deep : (p : ℕ) → p < length s → Begins (Document k) (take p s) → (Begins (Document k) (take (suc p) s) → ⊥) → (j : ℕ) → Begins (Document j) (take (suc p) s)
      → Right Document k s (refused_deep p)
  r_end : Begins (Document k) s → ((w : W) → Document k s w → ⊥) → Right Document k s (refused_end (length s))

abbrev pub tell : {W : Type 0} → List ℕ → Report W → Answer W
tell s (taken w) = given w
tell s (syntax p) = pick (bad_char p s) (refused_char p) (refused_syntax p)
tell s (deep p) = refused_deep p
tell s (over p) = refused_end p
