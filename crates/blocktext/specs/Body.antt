-- A BLANK LINE MORE at a body's end changes neither its text nor its end. Assumes nothing.
use Rattle.std.specs.Prelude.{◌≡◌, refl, List, [], ◌∷◌, ◌++◌, ℕ}
use Rattle.std.proofs.Common.{ap}
use Rattle.language.specs.BlockText.{Line, blank, line, hold, trim, lowest, unlines, body_text, body_end}

trim_blank : (ls : List Line) → trim (ls ++ blank ∷ []) ≡ trim ls
trim_blank [] = refl
trim_blank (blank ∷ ls) = ap hold (trim_blank ls)
trim_blank (line i t e ∷ ls) = ap (line i t e ∷◌) (trim_blank ls)

pub text_blank : (ls : List Line) → body_text (ls ++ blank ∷ []) ≡ body_text ls
unfolding body_text
text_blank ls = ap (λ (rs : List Line). unlines (lowest rs) rs) (trim_blank ls)

pub end_blank : (e : ℕ) (ls : List Line) → body_end e (ls ++ blank ∷ []) ≡ body_end e ls
unfolding body_end
end_blank e [] = refl
end_blank e (blank ∷ ls) = end_blank e ls
end_blank e (line i t f ∷ ls) = end_blank f ls
