-- How joined strings go by their first quoted string: refused where it is, refused behind it where no LF stands, and else beyond that LF.
use Rattle.std.specs.Prelude.{◌≡◌, List, [], ◌∷◌, true, false, ℕ, ◌≤◌, ◌<◌}
use Rattle.std.proofs.Math.Path.{refl}
use Rattle.std.proofs.Common.{sym, ap, subst, ◌∙◌, arith}
use Rattle.language.specs.BlockText.{Part, part}
use Rattle.exact.specs.Class.{clash, is, only}
use Rattle.exact.specs.Out.{Out, bind, reach, reach_bind, ok, bad}
use Rattle.exact.specs.Block.{ind}
use Rattle.language.specs.Tree.{Decoded}
use Rattle.strings.specs.Quoted.{quoted_r}
use Rattle.blocktext.specs.LineEnd.{line_end_r}
use Rattle.blocktext.specs.Joined.{joined_line_r, joined_more_r, joined_more_exact, joined_r}

-- the quoted string, and its line's end
abbrev line_of : Out Decoded → Out Part
line_of o = bind o (λ s. line_end_r (part s))

module _ (m at : ℕ) (s : List ℕ) where
  joined_is : joined_r m at s ≡ bind (line_of (quoted_r at s)) (joined_more_r m at)
  unfolding joined_r joined_line_r
  joined_is = refl

  pub joined_bad : (p : ℕ) → quoted_r at s ≡ bad p → joined_r m at s ≡ bad p
  joined_bad p e = joined_is ∙ ap (λ o. bind (line_of o) (joined_more_r m at)) e

  pub joined_off : (v : Decoded) (a : ℕ) (t : List ℕ) → quoted_r at s ≡ ok v a t → ind (is (only 10)) 0 t ≡ false → joined_r m at s ≡ bad a
  joined_off v a t e f = joined_is ∙ (ap (λ o. bind (line_of o) (joined_more_r m at)) e ∙ go t f)
    where
      go : (t : List ℕ) → ind (is (only 10)) 0 t ≡ false → bind (line_end_r (part v) a t) (joined_more_r m at) ≡ bad a
      go [] f = refl
      go (b ∷ t) f = rw f refl

  pub joined_on : (v : Decoded) (a : ℕ) (t : List ℕ) → quoted_r at s ≡ ok v a t → ind (is (only 10)) 0 t ≡ true → a < reach (joined_r m at s)
  joined_on v a t e f =
      subst (λ o. a < reach o) (sym (joined_is ∙ ap (λ o. bind (line_of o) (joined_more_r m at)) e)) (go t f)
    where
      go : (t : List ℕ) → ind (is (only 10)) 0 t ≡ true → a < reach (bind (line_end_r (part v) a t) (joined_more_r m at))
      go [] f = absurd (clash f refl)
      go (b ∷ t) f =
          let l : reach (line_end_r (part v) a (b ∷ t)) ≤ reach (bind (line_end_r (part v) a (b ∷ t)) (joined_more_r m at)) =
          reach_bind (line_end_r (part v) a (b ∷ t)) (joined_more_r m at) (λ p. (joined_more_exact m at p).moves) in
          let h : a < reach (line_end_r (part v) a (b ∷ t)) = rw f (omega arith) in
          omega arith
