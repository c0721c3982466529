-- A LINE OF ONE VALUE, with an optional line comment or without: its reader is exact, and stands beside arrays and objects that may begin at the same place.
use Rattle.std.specs.Prelude.{◌≡◌, List, [], ◌∷◌, Bool, false, ℕ, suc, ◌<◌}
use Rattle.std.proofs.Math.Path.{refl, ap, subst}
use Rattle.std.proofs.Common.{sym, ◌∙◌, arith}
use Rattle.std.proofs.Math.Bool.{true}
use Rattle.notation.specs.Lang.{◌>>◌}
use Rattle.language.specs.Kind.{STRING}
use Rattle.language.specs.Tree.{Tree, leaf}
use Rattle.language.specs.Characters.{Feed, Option, LineComment}
use Rattle.language.specs.Scalars.{digit}
use Rattle.language.specs.Strings.{keybyte}
use Rattle.language.specs.Inline.{LineValue}
use Rattle.exact.specs.Class.{is, only, nothing, none, is_right}
use Rattle.exact.specs.Out.{Out, Reader, bind, ok, soft, bad}
use Rattle.exact.specs.Lang.{Lang, None, Exact, within_bar, weaken, Ret, ret_r, Byte, byte_r, ret, byte}
use Rattle.exact.specs.Comb.{Seq, seq_r, seq_exact, one, two}
use Rattle.exact.specs.Ll.{Shape, Ll, ret_ll, seq_ll, relax, byte₁}
use Rattle.exact.specs.Grow.{Sub, sub_refl, seq_sub}
use Rattle.exact.specs.More.{OneMore, calm, seq_more, ll_shuts}
use Rattle.characters.specs.Comments.{optional_comment_r, optional_comment_ll}
use Rattle.numbers.specs.Plain.{NumberOn}
use Rattle.numbers.specs.Follows.{number_over, number_over_space}
use Rattle.strings.specs.Quoted.{quoted_r}
use Rattle.inline.specs.Lists.{value_first}
use Rattle.inline.specs.Values.{value_r, line_value_begun, line_value_exact}
use Rattle.inline.specs.Deeper.{value_more, value_sub}
use Rattle.blocks.specs.First.{Opens, ll_opens, seq_opens}
use Rattle.blocktext.specs.Joined.{quotes}
use Rattle.blocks.specs.Look.{Stands}
use Rattle.blocks.specs.KeyLook.{key_first, key_stop, block_look}
use Rattle.blocks.specs.LineLook.{enders, bare_stands, quoted_stands}
use Rattle.blocks.specs.Values.{value_same, value_dash, value_quoted}
use Rattle.blocks.specs.ValueLine.{Ending, bind_ret, line_r, not_dash}

module _ {B : Tree → Lang Tree} {q : Tree → Reader Tree} (e : Ending B q) where
  end_exact : (v : Tree) → Exact 1 (B v) None (q v)
  end_exact v = weaken 1 None (omega arith) (within_bar _ None nothing) (e.ending_ll v).exact

  pub line_exact : (k : ℕ) → Exact 1 (Seq (LineValue k) B) None (line_r q k)
  unfolding line_r
  line_exact k = weaken 1 None (omega arith) (within_bar _ None (λ t x. x)) (seq_exact (line_value_exact k) end_exact (λ v at s w at' t b g z. e.over v at s w at' t b z))

  line_quoted : (at b : ℕ) (s : List ℕ) → is quotes b ≡ true → Stands (block_look at (b ∷ s)) (key_stop at (b ∷ s)) (line_r q 0 at (b ∷ s))
  unfolding line_r
  line_quoted at b s h =
      subst
      (λ (o : Out Tree). Stands (block_look at (b ∷ s)) (key_stop at (b ∷ s)) o)
      (sym (ap (λ o. bind o q) (value_quoted at b s h) ∙ bind_ret (quoted_r at (b ∷ s)) (λ v a. leaf STRING at a v) q))
      (quoted_stands
      (λ v a. q (leaf STRING at a v) a)
      (λ v. record { tame = λ a t. (end_exact (leaf STRING at a v)).moves.tame a t })
      (λ v a t. (ll_shuts refl (e.ending_ll (leaf STRING at a v))).not a 58 t refl)
      at
      b
      s
      h)

  pub line_stands : (at b : ℕ) (s : List ℕ) → is key_first b ≡ true → Stands (block_look at (b ∷ s)) (key_stop at (b ∷ s)) (line_r q 0 at (b ∷ s))
  line_stands at b s h = by (is keybyte b) refl
    where
      by : (x : Bool) → is keybyte b ≡ x → Stands (block_look at (b ∷ s)) (key_stop at (b ∷ s)) (line_r q 0 at (b ∷ s))
      by true x = bare_stands (λ v. ll_opens refl (e.ending_ll v)) end_exact (line_exact 0) (not_dash e) at b s x
      by false x = line_quoted at b s (is_right keybyte quotes b x h)
