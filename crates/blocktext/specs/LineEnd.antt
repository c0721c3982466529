-- THE END OF A LINE: the place of its LF, and the LF. Its reader is exact. Assumes nothing.
use Rattle.std.specs.Prelude.{refl, [], false, ℕ}
use Rattle.notation.specs.Lang.{Lang, ◌>>=◌, ◌>>◌, Here, Ret}
use Rattle.language.specs.Characters.{Feed}
use Rattle.exact.specs.Class.{is, only}
use Rattle.exact.specs.Out.{Reader}
use Rattle.exact.specs.Lang.{ret_r, byte_r}
use Rattle.exact.specs.Comb.{seq_r}
use Rattle.exact.specs.Ll.{Shape, Ll, ret_ll, seq_ll, relax, here_r, here_ll, byte₁}

abbrev pub LineEnd : {X : Type 0} → (ℕ → X) → Lang X
LineEnd f = do e ← Here; Feed; Ret (f e)

abbrev pub line_end_r : {X : Type 0} → (ℕ → X) → Reader X
line_end_r f = seq_r here_r λ e. seq_r (byte_r (is (only 10))) λ _. ret_r (f e)

abbrev pub line_end_s : Shape
line_end_s = record { null = false; first = only 10; follow = [] }

pub line_end_ll : {X : Type 0} (f : ℕ → X) → Ll line_end_s (LineEnd f) (line_end_r f)
line_end_ll f = relax line_end_s refl refl refl (seq_ll refl here_ll λ e. seq_ll refl (byte₁ 10) λ _. ret_ll (f e))
