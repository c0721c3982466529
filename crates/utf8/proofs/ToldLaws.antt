-- The numbers 2 to 5 told apart, in the words of the paper: CHAR after the fact. Assumes nothing.
use Rattle.std.specs.Prelude.{◌≡◌, refl, List, Bool, true, false, ℕ, suc, ◌<◌, length, take}
use Rattle.exact.specs.Verdict.{Tail, Begins}
use Rattle.exact.specs.Class.{pick}
use Rattle.exact.specs.Decide.{Report, Correct, taken, syntax, deep, over, c_taken, c_syntax, c_deep, c_over}
use Rattle.utf8.specs.Allowed.{Allowed, bad_char, char_yes}
use Rattle.utf8.proofs.AllowedLaws.{char_no}
use Rattle.utf8.specs.Told.{Right, r_char, r_deep, r_end, r_given, r_syntax, refused_char, refused_syntax, tell}

-- where every document is a sequence of allowed characters
pub told : {W : Type 0} {Document : ℕ → Tail W} {k : ℕ} {s : List ℕ} {r : Report W} → ((u : List ℕ) → Begins (Document k) u → Begins Allowed u)
    → Correct Document k s r → Right Document k s (tell s r)
told f (c_taken w x u) = r_given w x u
told {Document = Document} {k} {s} f (c_syntax p l a d) = by (bad_char p s) refl
  where
    by : (c : Bool) → bad_char p s ≡ c → Right Document k s (pick c (refused_char p) (refused_syntax p))
    by true e = r_char p l a (char_yes s p l (f (take p s) a) e)
    by false e = r_syntax p l a d (char_no s p l (f (take p s) a) e)
told f (c_deep p l a d j b) = r_deep p l a d j b
told f (c_over a d) = r_end a d
