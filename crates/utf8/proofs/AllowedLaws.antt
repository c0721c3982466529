-- The test for CHAR is right: where a document stops, the byte there and three before it tell whether the bytes through it begin a sequence of allowed
use Rattle.std.specs.Prelude.{◌≡◌, refl, List, [], ◌∷◌, ◌++◌, Bool, true, false, ℕ, suc, ◌-◌, ◌≤◌, ◌<◌, length, take, drop, get_or}
use Rattle.std.proofs.Common.{sym, ap, subst, ◌∙◌, arith, take-append-drop, length-drop, take-suc, length-take-le}
use Rattle.std.proofs.Math.Decide.{dec_le}
use Rattle.exact.specs.Verdict.{Begins}
use Rattle.exact.specs.Class.{pick, clash, and, is}
use Rattle.utf8.specs.Utf8.{At, live, next, start}
use Rattle.utf8.specs.Whole.{left_of, whole_start, whole_of, left_most, step_back, scan_back, scan_append, inside_step, outside_step}
use Rattle.language.specs.Characters.{ascii, Allowed}
use Rattle.utf8.specs.Whole.{step, scan, whole, tail_byte, allowed_whole, begins_live}
use Rattle.utf8.proofs.WholeLaws.{whole_allowed, live_begins}
use Rattle.utf8.specs.Clean.{Clean, ret_clean, here_clean, byte_clean, sub_clean, char_clean, seq_clean, alt_clean, star_clean, plus_clean, map_clean, such_clean, indented_clean, run_clean, word_clean, end_clean}
use Rattle.utf8.proofs.CleanLaws.{clean_begins}
use Rattle.utf8.specs.Allowed.{agree, bad_char, caught, three_before}

module _ (s : List ℕ) (p : ℕ) (l : p < length s) (before : Begins Allowed (take p s)) where
  pub char_no : bad_char p s ≡ false → Begins Allowed (take (suc p) s)
  char_no e = by (live (step (caught start (three_before p s)) (get_or s p 0))) refl e
    where
      by : (x : Bool) → live (step (caught start (three_before p s)) (get_or s p 0)) ≡ x → pick x false true ≡ false → Begins Allowed (take (suc p) s)
      by true x y = live_begins (take (suc p) s) (subst (λ (σ : At). live σ ≡ true) (sym (agree s p l before)) x)
      by false x y = absurd (clash refl y)
