-- PROPERTIES AND OBJECTS: read exactly before what is no further property, decided by a key and its colon; more allowance.
use Rattle.std.proofs.Math.Path.{refl}
use Rattle.std.specs.Prelude.{◌++◌, ℕ, suc, ◌<◌}
use Rattle.std.proofs.Common.{arith}
use Rattle.language.specs.Tree.{Tree, Field, field, block_object}
use Rattle.language.specs.Strings.{Key}
use Rattle.language.specs.BlockText.{PropertyString, PropertyBytes}
use Rattle.language.specs.Blocks.{ValueLine, Property, Object}
use Rattle.exact.specs.Class.{is, only}
use Rattle.exact.specs.Out.{Reader}
use Rattle.exact.specs.Lang.{Lang, Exact, within_none, weaken, byte_r}
use Rattle.exact.specs.Comb.{seq_r, map_r, map_exact, Alt, alt_r}
use Rattle.exact.specs.Ll.{ret_ll, byte₁}
use Rattle.exact.specs.Grow.{Sub, sub_refl, seq_sub, alt_sub}
use Rattle.exact.specs.More.{OneMore, steady, calm, seq_more, alt_more, Shuts, ll_shuts}
use Rattle.numbers.specs.Opening.{seq_shuts}
use Rattle.strings.specs.Keys.{key_s, key_r}
use Rattle.strings.proofs.KeysLaws.{key_ll}
use Rattle.inline.specs.Lists.{value_first}
use Rattle.blocktext.specs.Follow.{beyond, lines, lines_beyond}
use Rattle.blocktext.specs.BlockStrings.{property_string_r, property_string_exact, property_string_opens}
use Rattle.blocktext.specs.BlockBytes.{property_bytes_r, property_bytes_exact, property_bytes_opens}
use Rattle.blocks.specs.First.{Opens, byte_opens, seq_opens, alt_opens, ll_opens, byte_then, first_exact, alt_swap, alt_group}
use Rattle.blocks.proofs.FirstLaws.{ll_then}
use Rattle.blocks.specs.Lines.{lines_r, lines_exact, lines_more, lines_sub}
use Rattle.blocks.proofs.LinesLaws.{further_tame}
use Rattle.blocks.specs.Rest.{Rest, rest_r, rest_more, rest_sub}
use Rattle.blocks.proofs.RestLaws.{rest_exact}
use Rattle.blocks.specs.Look.{Decided, seq_decided}
use Rattle.blocks.specs.KeyLook.{key_look, key_stop, key_decided}
use Rattle.blocks.specs.ValueLine.{comment_end_r, CommentEnd, comment_ending, line_r, line_opens, line_more, line_sub}
use Rattle.blocks.proofs.ValueLineLaws.{line_exact}
use Rattle.blocks.specs.Property.{On, object_r, on_more, on_opens, on_r, property_opens, property_r, property_shuts}

on_exact : (k n : ℕ) → Exact 1 (On k n) (beyond n) (on_r k n)
unfolding on_r
on_exact k n =
    alt_swap
    (alt_group
    (first_exact
    refl
    (property_string_opens n)
    (alt_opens (property_bytes_opens n) (line_opens comment_ending k))
    (property_string_exact n)
    (first_exact
    refl
    (property_bytes_opens n)
    (line_opens comment_ending k)
    (property_bytes_exact n)
    (weaken 1 (beyond n) (omega arith) (within_none (beyond n)) (line_exact comment_ending k)))))

module _ (k n : ℕ) {N : Lang Tree} {r : Reader Tree} (e : Exact 1 N (lines (suc (suc n))) r) where
  behind_exact : Exact 1 (Rest (On k n) N) (beyond n) (rest_r (on_r k n) r)
  behind_exact = rest_exact refl (on_opens k n) (on_exact k n) (weaken 1 (beyond n) (omega arith) (lines_beyond n) e)

  pub property_exact : Exact 1 (Property k n N) (beyond n) (property_r k n r)
  unfolding property_r
  property_exact =
      ll_then (only 58) refl refl key_ll (λ ky. seq_opens (byte_opens (only 58))) (λ ky. byte_then 58 (map_exact (field ky) behind_exact))

  property_decided : Decided key_look key_stop (property_r k n r)
  unfolding property_r
  property_decided = key_decided λ ky. (map_exact (field ky) behind_exact).moves

module _ (k n : ℕ) {N : Lang Tree} {r : Reader Tree} (e : Exact 1 N (lines (suc (suc n))) r) where
  pub object_exact : Exact 1 (Object k n N) (lines n) (object_r k n r)
  unfolding object_r
  object_exact = map_exact block_object (lines_exact key_s.first refl refl (property_opens k n N) (property_shuts k n r) n (property_exact k n e))

  pub object_decided : Decided key_look key_stop (object_r k n r)
  unfolding object_r lines_r
  object_decided =
      seq_decided
      (λ fs. (ret_ll (block_object fs)).exact.moves)
      (seq_decided (λ f. further_tame key_s.first n f (property_exact k n e).moves) (property_decided k n e))

pub object_more : (k j n : ℕ) → k < j → {r₀ r₁ r₂ : Reader Tree} → OneMore r₀ r₁ r₂ → OneMore (object_r k n r₀) (object_r (suc k) n r₁) (object_r j n r₂)
unfolding object_r property_r
object_more k j n l e =
    seq_more
    (lines_more
    key_s.first
    n
    (seq_more (calm key_ll) λ ky. seq_more (calm (byte₁ 58)) λ _. seq_more (rest_more (on_more k j n l) e) λ v. calm (ret_ll (field ky v))))
    λ fs. calm (ret_ll (block_object fs))
