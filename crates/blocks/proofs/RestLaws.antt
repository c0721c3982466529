-- BEHIND A KEY'S COLON: a space and a value, or an optional line comment, LF and what is nested. The first space is shared, and the next byte decides. Exact. Assumes nothing.
use Rattle.std.specs.Prelude.{◌≡◌, refl, List, [], true, ℕ}
use Rattle.notation.specs.Lang.{◌>>◌}
use Rattle.language.specs.Tree.{Tree}
use Rattle.language.specs.Characters.{Space, Feed, Comment, Option, LineComment}
use Rattle.exact.specs.Class.{Class, is, apart, only}
use Rattle.exact.specs.Out.{Reader}
use Rattle.exact.specs.Lang.{Lang, Follow, Exact, Ret, byte_r, ret}
use Rattle.exact.specs.Comb.{seq_r, Alt, alt_r, exact_iff, one, two}
use Rattle.exact.specs.Ll.{byte₁}
use Rattle.exact.specs.Grow.{Sub, sub_refl, seq_sub, alt_sub}
use Rattle.exact.specs.More.{OneMore, calm, seq_more, alt_more}
use Rattle.characters.specs.Comments.{comment_r, comment_ll}
use Rattle.blocks.specs.First.{Opens, byte_opens, seq_opens, byte_then, first_exact}
use Rattle.blocks.proofs.FirstLaws.{ll_then}
use Rattle.blocks.specs.Rest.{Rest, below_r, from, rest_r, to}

pub rest_exact : {c : Class} {A N : Lang Tree} {F : Follow} {vR nR : Reader Tree} → apart c (only 32) ≡ true → Opens c A → Exact 1 A F vR → Exact 1 N F nR
    → Exact 1 (Rest A N) F (rest_r vR nR)
unfolding rest_r
rest_exact {c} {A} {N} {F} {vR} {nR} h o ev en =
    exact_iff
    (to A N)
    (from A N)
    (first_exact
    refl
    (seq_opens (byte_opens (only 32)))
    (seq_opens (byte_opens (only 10)))
    (byte_then 32 (first_exact h (seq_opens (byte_opens (only 32))) o (byte_then 32 (ll_then (only 10) refl refl comment_ll (λ _. seq_opens (byte_opens (only 10))) (λ _. below))) ev))
    below)
  where
    below : Exact 1 (Feed >> N) F (below_r nR)
    below = byte_then 10 en
