-- A LINE OF ONE VALUE, with an optional line comment or without: its reader is exact, and stands beside arrays and objects that may begin at the same place.
use Rattle.std.specs.Prelude.{◌≡◌, List, [], ◌∷◌, Bool, false, ℕ, suc, ◌<◌}
use Rattle.std.proofs.Math.Path.{refl, ap, subst}
use Rattle.std.proofs.Common.{sym, ◌∙◌, arith}
use Rattle.std.proofs.Math.Bool.{true}
use Rattle.notation.specs.Lang.{◌>>◌}
use Rattle.language.specs.Kind.{STRING}
use Rattle.language.specs.Tree.{Tree, leaf}
use Rattle.language.specs.Characters.{Feed, Option, LineComment}
use Rattle.language.specs.Scalars.{digit}
use Rattle.language.specs.Strings.{keybyte}
use Rattle.language.specs.Inline.{LineValue}
use Rattle.exact.specs.Class.{is, only, nothing, none, is_right}
use Rattle.exact.specs.Out.{Out, Reader, bind, ok, soft, bad}
use Rattle.exact.specs.Lang.{Lang, None, Exact, within_bar, weaken, Ret, ret_r, Byte, byte_r, ret, byte}
use Rattle.exact.specs.Comb.{Seq, seq_r, seq_exact, one, two}
use Rattle.exact.specs.Ll.{Shape, Ll, ret_ll, seq_ll, relax, byte₁}
use Rattle.exact.specs.Grow.{Sub, sub_refl, seq_sub}
use Rattle.exact.specs.More.{OneMore, calm, seq_more, ll_shuts}
use Rattle.characters.specs.Comments.{optional_comment_r, optional_comment_ll}
use Rattle.numbers.specs.Plain.{NumberOn}
use Rattle.numbers.specs.Follows.{number_over, number_over_space}
use Rattle.strings.specs.Quoted.{quoted_r}
use Rattle.inline.specs.Lists.{value_first}
use Rattle.inline.specs.Values.{value_r, line_value_begun, line_value_exact}
use Rattle.inline.specs.Deeper.{value_more, value_sub}
use Rattle.blocks.specs.First.{Opens, ll_opens, seq_opens}
use Rattle.blocktext.specs.Joined.{quotes}
use Rattle.blocks.specs.Look.{Stands}
use Rattle.blocks.specs.KeyLook.{key_first, key_stop, block_look}
use Rattle.blocks.specs.LineLook.{enders, bare_stands, quoted_stands}
use Rattle.blocks.specs.Values.{value_same, value_dash, value_quoted}

abbrev pub end_s : Shape
end_s = record { null = false; first = enders; follow = [] }

-- WHAT STANDS BEHIND THE VALUE: it begins with LF or space, and goes on in no number
pub record Ending (B : Tree → Lang Tree) (q : Tree → Reader Tree) : Type 1 where
  pub ending_ll : (v : Tree) → Ll end_s (B v) (q v)
  pub over : (v : Tree) (at : ℕ) (s : List ℕ) (w : Tree) (at' : ℕ) (t : List ℕ) → B v at s w at' t → NumberOn true s → ⊥

-- LF alone
abbrev pub FeedEnd : Tree → Lang Tree
FeedEnd v = Feed >> Ret v

abbrev pub feed_end_r : Tree → Reader Tree
feed_end_r v = seq_r (byte_r (is (only 10))) λ _. ret_r v

feed_over : {at : ℕ} {s : List ℕ} {b at' : ℕ} {t : List ℕ} → Feed at s b at' t → NumberOn true s → ⊥
feed_over {s = s} (byte e) z = number_over true (only 10) s refl refl e z

pub feed_ending : Ending FeedEnd feed_end_r
feed_ending =
    record {
      ending_ll = λ v. relax end_s refl refl refl (seq_ll refl (byte₁ 10) λ _. ret_ll v);
      over = λ v at s w at' t x. feed_over x.first;
    }

-- an optional line comment and LF
abbrev pub CommentEnd : Tree → Lang Tree
CommentEnd v = Option LineComment >> (Feed >> Ret v)

abbrev pub comment_end_r : Tree → Reader Tree
comment_end_r v = seq_r optional_comment_r λ _. seq_r (byte_r (is (only 10))) λ _. ret_r v

two_spaces : {at : ℕ} {s : List ℕ} {b at₁ : ℕ} {s₁ : List ℕ} {c at₂ : ℕ} {s₂ : List ℕ} → Byte (is (only 32)) at s b at₁ s₁ → Byte (is (only 32)) at₁ s₁ c at₂ s₂
    → NumberOn true s → ⊥
two_spaces (byte {b = b} e) (byte {b = c} {s = s} f) z = number_over_space true b c s e (λ d. none (only 32) digit c refl f d) z

pub comment_ending : Ending CommentEnd comment_end_r
comment_ending =
    record {
      ending_ll = λ v. relax end_s refl refl refl (seq_ll refl optional_comment_ll λ _. seq_ll refl (byte₁ 10) λ _. ret_ll v);
      over = λ v at s w at' t x. go x.first x.second;
    }
  where
    go : {v w : Tree} {at : ℕ} {s c : List ℕ} {m : ℕ} {r : List ℕ} {at' : ℕ} {t : List ℕ} → Option LineComment at s c m r → (Feed >> Ret v) m r w at' t → NumberOn true s → ⊥
    go (one l) y = two_spaces l.first.first l.first.second.first
    go (two ret) y = feed_over y.first

-- THE LINE
unfoldable pub line_r : (Tree → Reader Tree) → ℕ → Reader Tree
line_r q k = seq_r (value_r true k) q

pub bind_ret : {X Y Z : Type 0} (o : Out X) (f : X → ℕ → Y) (q : Y → Reader Z) → bind (bind o (λ v a. ret_r (f v a) a)) q ≡ bind o (λ v a. q (f v a) a)
bind_ret (ok v a t) f q = refl
bind_ret (soft p v a t) f q = refl
bind_ret (bad p) f q = refl

module _ {B : Tree → Lang Tree} {q : Tree → Reader Tree} (e : Ending B q) where
  pub line_opens : (k : ℕ) → Opens value_first (Seq (LineValue k) B)
  line_opens k = seq_opens (record { opens = line_value_begun k })

  pub line_more : (k j : ℕ) → k < j → OneMore (line_r q k) (line_r q (suc k)) (line_r q j)
  unfolding line_r
  line_more k j l = seq_more (value_more true k j l) λ v. calm (e.ending_ll v)

  pub not_dash : (at : ℕ) (t : List ℕ) → line_r q 0 at (45 ∷ 32 ∷ t) ≡ bad (suc at)
  unfolding line_r
  not_dash at t = ap (λ o. bind o q) (value_dash at t)

  pub line_alike : (k at b : ℕ) (s : List ℕ) → is key_first b ≡ true → line_r q k at (b ∷ s) ≡ line_r q 0 at (b ∷ s)
  unfolding line_r
  line_alike k at b s h = ap (λ o. bind o q) (value_same k at b s h)

pub line_sub : (B : Tree → Lang Tree) (k : ℕ) → Sub (Seq (LineValue k) B) (Seq (LineValue (suc k)) B)
line_sub B k = seq_sub (value_sub true k) λ v. sub_refl (B v)
