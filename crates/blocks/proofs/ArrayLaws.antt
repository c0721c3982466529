-- ARRAYS: items with their dashes are read exactly before what is no further item, decided by the dash and its space; more allowance.
use Rattle.std.proofs.Math.Path.{refl}
use Rattle.std.specs.Prelude.{[], ◌∷◌, ℕ, suc}
use Rattle.std.proofs.Common.{arith}
use Rattle.notation.specs.Lang.{Map}
use Rattle.language.specs.Tree.{Tree, Entry, entry, block_array}
use Rattle.language.specs.Blocks.{Dashed, Array}
use Rattle.exact.specs.Class.{only}
use Rattle.exact.specs.Out.{Reader}
use Rattle.exact.specs.Lang.{Lang, Follow, Exact, weaken}
use Rattle.exact.specs.Comb.{map_r, map_exact}
use Rattle.exact.specs.Ll.{ret_ll, here_ll, word_r, word_ll}
use Rattle.exact.specs.Grow.{Sub, sub_refl, seq_sub}
use Rattle.exact.specs.More.{OneMore, calm, seq_more, Shuts}
use Rattle.blocktext.specs.Follow.{beyond, lines, lines_beyond, beyond_lines}
use Rattle.blocktext.specs.Led.{led_r, led_exact, led_opens, led_shuts}
use Rattle.blocks.specs.First.{Opens, seq_opens}
use Rattle.blocks.specs.Lines.{lines_r, lines_exact, lines_more, lines_sub}
use Rattle.blocks.proofs.LinesLaws.{further_tame}
use Rattle.blocks.specs.Look.{Decided, seq_decided}
use Rattle.blocks.specs.KeyLook.{dash_look, dash_stop, dash_decided}
use Rattle.blocks.specs.Array.{array_r, bullet_r, dashed_decided, dashed_exact, lone}

module _ (n : ℕ) {I : Lang Tree} {r : Reader Tree} (e : Exact 1 I (lines (suc (suc n))) r) where
  pub array_decided : Decided dash_look dash_stop (array_r n r)
  unfolding array_r lines_r
  array_decided =
      seq_decided
      (λ es. (ret_ll (block_array es)).exact.moves)
      (seq_decided (λ i. further_tame (only 45) n i (dashed_exact e).moves) (dashed_decided e))

module _ (c : ℕ) {I : Lang Tree} {r : Reader Tree} (e : Exact 1 I (lines (suc (suc c))) r) where
  pub bullet_decided : Decided dash_look dash_stop (bullet_r r)
  unfolding bullet_r
  bullet_decided = seq_decided (λ i. (ret_ll (lone i)).exact.moves) (dashed_decided e)
